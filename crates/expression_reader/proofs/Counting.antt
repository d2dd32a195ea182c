-- What a step settles: its roles are settled, and the slots keep up with the nodes.
use Rattle.std.proofs.Common.{◌≡◌, ℕ, ◌+◌, ◌≤◌, Bool, true, false, List, [], ◌∷◌, ◌++◌, length, Option, Some, None, refl, sym, ◌∙◌, ap, subst, arith, append_assoc, length-append}
use Rattle.std.specs.Prelude.{if◌then◌else◌}
use Rattle.std.specs.List.{list_all}
use Rattle.std.proofs.lemmas.Bool.{and_from, and_parts, le-leb}
use Rattle.cfj_model.specs.declared.expr.Expr.{Expr}
use Rattle.cfj_model.specs.declared.expr.Expr.TheVariants as e
use Rattle.cfj_words.specs.Tokens.{Token, Id, NewWord, ThisWord, OpenParen, CloseParen, Comma, Dot, At, Bang, Semicolon}
use Rattle.cfj_model.specs.Roles.{Role, casts, node, opens, other_token, sign, used_name, var_name, mark_name, is_settled, are_settled, Tally, counted, tallied}
use Rattle.expression_reader.specs.declared.frame.Frame.{Frame}
use Rattle.expression_reader.specs.declared.frame.Frame.TheVariants.{InBracket, InCast, InArgs}
use Rattle.expression_reader.specs.declared.mode.Mode.{Mode}
use Rattle.expression_reader.specs.declared.mode.Mode.TheVariants.{Begin, FirstArg, InMarks, AfterAt, Paren, ParenName, ParenClosed, After, AfterDot, AfterMember, AfterNew, AfterClass, Done}
use Rattle.expression_reader.specs.Machine.{State, at, start, step, step_in, uncast, close_in, comma_in, finish_in, depth, emitted, open_frames, pending, pending_in, settled, settles, waiting, waits, waits_in, unless, role, role_in, name_role, Run, then_run, run}
use Rattle.expression_reader.specs.Reading.{owed, is_node, nodes_in, is_role_of_body}
use Rattle.expression_reader.specs.Laws.{IsSlotted}
use Rattle.expression_reader.specs.declared.roles.Settling.{Settling}
use Rattle.expression_reader.specs.declared.roles.Settling.TheVariants.{Stays, Bracket, Cast}
use Rattle.expression_reader.proofs.Law.{waits_on, run_long}

-- ---- settled roles

name_settled : (m : Mode) (w : List ℕ) (rest : List Role) → is_settled (name_role m w) rest ≡ true
name_settled (AfterAt h before colors off) w rest = refl
name_settled (AfterDot x) w rest = refl
name_settled AfterNew w rest = refl
name_settled _ w rest = refl

role_settled : (m : Mode) (d : ℕ) (t : Token) (rest : List Role) → is_settled (role_in m d t) rest ≡ true
role_settled m d (Id w) rest = name_settled m w rest
role_settled m d OpenParen rest = refl
role_settled m d ThisWord rest = refl
role_settled m d NewWord rest = refl
role_settled m d Dot rest = refl
role_settled m d _ rest = refl

-- a token's own role
unless_settled : (w : Bool) (r : Role) (rest : List Role) → is_settled r rest ≡ true → are_settled rest ≡ true → are_settled (unless w r ++ rest) ≡ true
unless_settled true r rest h g = g
unless_settled false r rest h g = and_from _ _ h g

-- roles that a step settles, before settled ones, among which are those of the tokens that wait
emitted_settled : (m : Mode) (frames : List Frame) (n : ℕ) (t : Token) (rest : List Role) → length (waiting (at frames m n) t) ≤ length rest → are_settled rest ≡ true → are_settled (emitted (at frames m n) t ++ rest) ≡ true
emitted_settled Paren frames n (Id w) rest le h = h
emitted_settled Paren frames n OpenParen rest le h = h
emitted_settled Paren frames n ThisWord rest le h = h
emitted_settled Paren frames n NewWord rest le h = h
emitted_settled Paren frames n Dot rest le h = h
emitted_settled Paren frames n _ rest le h = h
emitted_settled (ParenName w) frames n CloseParen rest le h = h
emitted_settled (ParenName w) frames n (Id v) rest le h = h
emitted_settled (ParenName w) frames n OpenParen rest le h = h
emitted_settled (ParenName w) frames n ThisWord rest le h = h
emitted_settled (ParenName w) frames n NewWord rest le h = h
emitted_settled (ParenName w) frames n Dot rest le h = h
emitted_settled (ParenName w) frames n _ rest le h = h
emitted_settled (ParenClosed w) frames n (Id v) rest le h = and_from _ _ (le-leb 3 (length (used_name w ∷ (other_token ∷ (var_name v ∷ rest)))) (omega arith)) h
emitted_settled (ParenClosed w) frames n ThisWord rest le h = and_from _ _ (le-leb 3 (length (used_name w ∷ (other_token ∷ (node ∷ rest)))) (omega arith)) h
emitted_settled (ParenClosed w) frames n NewWord rest le h = and_from _ _ (le-leb 3 (length (used_name w ∷ (other_token ∷ (node ∷ rest)))) (omega arith)) h
emitted_settled (ParenClosed w) frames n OpenParen rest le h = and_from _ _ (le-leb 3 (length (used_name w ∷ (other_token ∷ rest))) (omega (arith, le))) h
emitted_settled (ParenClosed w) frames n Dot rest le h = h
emitted_settled (ParenClosed w) frames n _ rest le h = h
emitted_settled Begin frames n t rest le h = unless_settled (waits_in Begin t) _ rest (role_settled Begin _ t rest) h
emitted_settled (FirstArg x) frames n t rest le h = unless_settled (waits_in (FirstArg x) t) _ rest (role_settled (FirstArg x) _ t rest) h
emitted_settled (InMarks x before colors) frames n t rest le h = unless_settled (waits_in (InMarks x before colors) t) _ rest (role_settled (InMarks x before colors) _ t rest) h
emitted_settled (AfterAt x before colors off) frames n t rest le h = unless_settled false _ rest (role_settled (AfterAt x before colors off) _ t rest) h
emitted_settled (After x) frames n t rest le h = unless_settled false _ rest (role_settled (After x) _ t rest) h
emitted_settled (AfterDot x) frames n t rest le h = unless_settled false _ rest (role_settled (AfterDot x) _ t rest) h
emitted_settled (AfterMember x w) frames n t rest le h = unless_settled false _ rest (role_settled (AfterMember x w) _ t rest) h
emitted_settled AfterNew frames n t rest le h = unless_settled false _ rest (role_settled AfterNew _ t rest) h
emitted_settled (AfterClass c) frames n t rest le h = unless_settled false _ rest (role_settled (AfterClass c) _ t rest) h
emitted_settled (Done x) frames n t rest le h = unless_settled false _ rest (role_settled (Done x) _ t rest) h

pending_settled : (m : Mode) (frames : List Frame) (n : ℕ) → are_settled (pending (at frames m n)) ≡ true
pending_settled Paren frames n = refl
pending_settled (ParenName w) frames n = refl
pending_settled (ParenClosed w) frames n = refl
pending_settled _ frames n = refl

-- The roles that a run settles, and those of the tokens that wait behind it, are settled.
run_settled : (fs : List (List ℕ)) (ts : List Token) (s n : State) → (run fs ts s).0 ≡ Some n → are_settled ((run fs ts s).1 ++ pending n) ≡ true
unfolding run
run_settled fs [] s n h = pending_settled n.mode n.frames n.slot
run_settled fs (t ∷ ts) s n h = by (λ x g. run_settled fs ts x n g) (step fs s t) (λ x g. waits_on fs s x t g) h
  where
    by : ((x : State) → (run fs ts x).0 ≡ Some n → are_settled ((run fs ts x).1 ++ pending n) ≡ true) → (o : Option State) → ((x : State) → o ≡ Some x → pending x ≡ waiting s t) → (then_run (run fs ts) (emitted s t) o).0 ≡ Some n → are_settled ((then_run (run fs ts) (emitted s t) o).1 ++ pending n) ≡ true
    by ih None w h = absurd (let no : ⊥ = cc h in no)
    by ih (Some x) w h =
        let long : length (run fs ts x).1 + length (pending n) ≡ length (pending x) + length ts = run_long fs ts x n h in
        let all : length ((run fs ts x).1 ++ pending n) ≡ length (run fs ts x).1 + length (pending n) = length-append (run fs ts x).1 (pending n) in
        let here : length (pending x) ≡ length (waiting s t) = ap length (w x refl) in
        ap are_settled (append_assoc (emitted s t) (run fs ts x).1 (pending n)) ∙ emitted_settled s.mode s.frames s.slot t ((run fs ts x).1 ++ pending n) (omega (arith, long, all, here)) (ih x h)

pub read_settled : (fs : List (List ℕ)) (front : List Token) (s : State) (rs : List Role) → run fs front start ≡ (Some s, rs) → are_settled (rs ++ pending s) ≡ true
read_settled fs front s rs h = ap (λ (p : Run). are_settled (p.1 ++ pending s)) (sym h) ∙ run_settled fs front start s (ap (λ (p : Run). p.0) h)

-- ---- slots and nodes

-- the slot that is next in a state, and the one that a node still takes, are at most so many
abbrev AtMost : ℕ → Option State → Type 0
AtMost n None = Unit {0}
AtMost n (Some s) = s.slot + owed s.mode ≤ n

at_most : (n m : ℕ) (o : Option State) → n ≤ m → AtMost n o → AtMost m o
at_most n m None le h = tt
at_most n m (Some s) le h = omega (arith, h)

close_slot : (x : Expr) (n : ℕ) (frames : List Frame) → AtMost n (close_in x n frames)
close_slot x n [] = tt
close_slot x n (InBracket ∷ frames) = omega arith
close_slot x n (InCast s c ∷ frames) = tt
close_slot x n (InArgs h before colors ∷ frames) = omega arith

comma_slot : (x : Expr) (n : ℕ) (frames : List Frame) → AtMost n (comma_in x n frames)
comma_slot x n [] = tt
comma_slot x n (InBracket ∷ frames) = tt
comma_slot x n (InCast s c ∷ frames) = tt
comma_slot x n (InArgs h before colors ∷ frames) = omega arith

finish_slot : (x : Expr) (n : ℕ) (frames : List Frame) → AtMost n (finish_in x frames)
finish_slot x n [] = omega arith
finish_slot x n (f ∷ frames) = tt

step_slot : (fs : List (List ℕ)) (m : Mode) (frames : List Frame) (n : ℕ) (t : Token) → AtMost (n + owed m + nodes_in (emitted (at frames m n) t)) (step_in fs m frames n t)
step_slot fs Begin frames n (Id w) = omega arith
step_slot fs Begin frames n ThisWord = omega arith
step_slot fs Begin frames n NewWord = omega arith
step_slot fs Begin frames n OpenParen = omega arith
step_slot fs Begin frames n _ = tt
step_slot fs (FirstArg h) frames n (Id w) = omega arith
step_slot fs (FirstArg h) frames n ThisWord = omega arith
step_slot fs (FirstArg h) frames n NewWord = omega arith
step_slot fs (FirstArg h) frames n OpenParen = omega arith
step_slot fs (FirstArg h) frames n CloseParen = omega arith
step_slot fs (FirstArg h) frames n At = omega arith
step_slot fs (FirstArg h) frames n _ = tt
step_slot fs (InMarks h before colors) frames n (Id w) = omega arith
step_slot fs (InMarks h before colors) frames n ThisWord = omega arith
step_slot fs (InMarks h before colors) frames n NewWord = omega arith
step_slot fs (InMarks h before colors) frames n OpenParen = omega arith
step_slot fs (InMarks h before colors) frames n At = omega arith
step_slot fs (InMarks h before colors) frames n _ = tt
step_slot fs (AfterAt h before colors off) frames n (Id w) = omega arith
step_slot fs (AfterAt h before colors false) frames n Bang = omega arith
step_slot fs (AfterAt h before colors off) frames n _ = tt
step_slot fs Paren frames n (Id w) = omega arith
step_slot fs Paren frames n ThisWord = omega arith
step_slot fs Paren frames n NewWord = omega arith
step_slot fs Paren frames n OpenParen = omega arith
step_slot fs Paren frames n _ = tt
step_slot fs (ParenName w) frames n CloseParen = omega arith
step_slot fs (ParenName w) frames n Dot = omega arith
step_slot fs (ParenName w) frames n _ = tt
step_slot fs (ParenClosed w) frames n (Id v) = omega arith
step_slot fs (ParenClosed w) frames n ThisWord = omega arith
step_slot fs (ParenClosed w) frames n NewWord = omega arith
step_slot fs (ParenClosed w) frames n OpenParen = omega arith
step_slot fs (ParenClosed w) frames n Dot = omega arith
step_slot fs (ParenClosed w) frames n CloseParen = at_most (n + 1) (n + 0 + 1) (close_in (uncast (e.Var n w) frames).0 (n + 1) (uncast (e.Var n w) frames).1) (omega arith) (close_slot (uncast (e.Var n w) frames).0 (n + 1) (uncast (e.Var n w) frames).1)
step_slot fs (ParenClosed w) frames n Comma = at_most (n + 1) (n + 0 + 1) (comma_in (uncast (e.Var n w) frames).0 (n + 1) (uncast (e.Var n w) frames).1) (omega arith) (comma_slot (uncast (e.Var n w) frames).0 (n + 1) (uncast (e.Var n w) frames).1)
step_slot fs (ParenClosed w) frames n Semicolon = at_most (n + 1) (n + 0 + 1) (finish_in (uncast (e.Var n w) frames).0 (uncast (e.Var n w) frames).1) (omega arith) (finish_slot (uncast (e.Var n w) frames).0 (n + 1) (uncast (e.Var n w) frames).1)
step_slot fs (ParenClosed w) frames n t = tt
step_slot fs (After x) frames n Dot = omega arith
step_slot fs (After x) frames n CloseParen = at_most n (n + 0 + 0) (close_in (uncast x frames).0 n (uncast x frames).1) (omega arith) (close_slot (uncast x frames).0 n (uncast x frames).1)
step_slot fs (After x) frames n Comma = at_most n (n + 0 + 0) (comma_in (uncast x frames).0 n (uncast x frames).1) (omega arith) (comma_slot (uncast x frames).0 n (uncast x frames).1)
step_slot fs (After x) frames n Semicolon = at_most n (n + 0 + 0) (finish_in (uncast x frames).0 (uncast x frames).1) (omega arith) (finish_slot (uncast x frames).0 n (uncast x frames).1)
step_slot fs (After x) frames n _ = tt
step_slot fs (AfterDot x) frames n (Id w) = omega arith
step_slot fs (AfterDot x) frames n _ = tt
step_slot fs (AfterMember x w) frames n OpenParen = omega arith
step_slot fs (AfterMember x w) frames n Dot = omega arith
step_slot fs (AfterMember x w) frames n CloseParen = at_most (n + 1) (n + 1 + 0) (close_in (uncast (e.Get n x w) frames).0 (n + 1) (uncast (e.Get n x w) frames).1) (omega arith) (close_slot (uncast (e.Get n x w) frames).0 (n + 1) (uncast (e.Get n x w) frames).1)
step_slot fs (AfterMember x w) frames n Comma = at_most (n + 1) (n + 1 + 0) (comma_in (uncast (e.Get n x w) frames).0 (n + 1) (uncast (e.Get n x w) frames).1) (omega arith) (comma_slot (uncast (e.Get n x w) frames).0 (n + 1) (uncast (e.Get n x w) frames).1)
step_slot fs (AfterMember x w) frames n Semicolon = at_most (n + 1) (n + 1 + 0) (finish_in (uncast (e.Get n x w) frames).0 (uncast (e.Get n x w) frames).1) (omega arith) (finish_slot (uncast (e.Get n x w) frames).0 (n + 1) (uncast (e.Get n x w) frames).1)
step_slot fs (AfterMember x w) frames n t = tt
step_slot fs AfterNew frames n (Id w) = omega arith
step_slot fs AfterNew frames n _ = tt
step_slot fs (AfterClass c) frames n OpenParen = omega arith
step_slot fs (AfterClass c) frames n _ = tt
step_slot fs (Done x) frames n t = tt

-- ---- the tally of the roles that a step settles

name_of_body : (m : Mode) (w : List ℕ) → is_role_of_body (name_role m w) ≡ true
name_of_body (AfterAt h before colors off) w = refl
name_of_body (AfterDot x) w = refl
name_of_body AfterNew w = refl
name_of_body _ w = refl

role_of_body : (m : Mode) (d : ℕ) (t : Token) → is_role_of_body (role_in m d t) ≡ true
role_of_body m d (Id w) = name_of_body m w
role_of_body m d OpenParen = refl
role_of_body m d ThisWord = refl
role_of_body m d NewWord = refl
role_of_body m d Dot = refl
role_of_body m d _ = refl

-- the roles that a step settles are those of an expression's tokens
are_of_body : List Role → Bool
are_of_body = list_all is_role_of_body

unless_of_body : (w : Bool) (r : Role) → is_role_of_body r ≡ true → are_of_body (unless w r) ≡ true
unfolding are_of_body
unless_of_body true r h = refl
unless_of_body false r h = and_from _ _ h refl

joined_of_body : (rs qs : List Role) → are_of_body rs ≡ true → are_of_body qs ≡ true → are_of_body (rs ++ qs) ≡ true
unfolding are_of_body
joined_of_body [] qs h g = g
joined_of_body (r ∷ rs) qs h g = let p = and_parts (is_role_of_body r) (list_all is_role_of_body rs) h in and_from _ _ p.0 (joined_of_body rs qs p.1 g)

settled_of_body : (c : Settling) (m : Mode) (d : ℕ) → are_of_body (settled c (pending_in m d)) ≡ true
unfolding are_of_body
settled_of_body Stays m d = refl
settled_of_body Bracket Paren d = refl
settled_of_body Bracket (ParenName w) d = refl
settled_of_body Bracket (ParenClosed w) d = refl
settled_of_body Bracket _ d = refl
settled_of_body Cast Paren d = refl
settled_of_body Cast (ParenName w) d = refl
settled_of_body Cast (ParenClosed w) d = refl
settled_of_body Cast _ d = refl

emitted_of_body : (s : State) (t : Token) → are_of_body (emitted s t) ≡ true
emitted_of_body s t = joined_of_body _ _ (settled_of_body (settles s t) s.mode (open_frames s.frames)) (unless_of_body (waits s t) (role s t) (role_of_body s.mode (depth s) t))

-- Each role that a step settles is that of an expression's token.
pub roles_of_body : (s : State) (t : Token) → list_all is_role_of_body (emitted s t) ≡ true
unfolding are_of_body
roles_of_body s t = emitted_of_body s t

-- And so is each role that waits.
pub pending_of_body : (s : State) → list_all is_role_of_body (pending s) ≡ true
unfolding are_of_body
pending_of_body s = settled_of_body Bracket s.mode (open_frames s.frames)

-- The tally counts their nodes.
one_counted : (t : Tally) (r : Role) → is_role_of_body r ≡ true → (counted t r).nodes ≡ t.nodes + (if is_node r then 1 else 0)
one_counted t (var_name w) h = refl
one_counted t (used_name w) h = omega arith
one_counted t (mark_name w) h = omega arith
one_counted t (opens d) h = omega arith
one_counted t (casts d) h = refl
one_counted t sign h = omega arith
one_counted t node h = refl
one_counted t other_token h = omega arith
one_counted t _ h = absurd (let no : ⊥ = cc h in no)

nodes_counted : (t : Tally) (rs : List Role) → are_of_body rs ≡ true → (tallied t rs).nodes ≡ t.nodes + nodes_in rs
unfolding are_of_body
nodes_counted t [] h = omega arith
nodes_counted t (r ∷ rs) h =
    let p = and_parts (is_role_of_body r) (list_all is_role_of_body rs) h in
    let rest : (tallied (counted t r) rs).nodes ≡ (counted t r).nodes + nodes_in rs = nodes_counted (counted t r) rs p.1 in
    let one : (counted t r).nodes ≡ t.nodes + (if is_node r then 1 else 0) = one_counted t r p.0 in
    omega (arith, rest, one)

-- Where a step's roles are counted, the slots keep up with the nodes.
pub slots_keep_up : (fs : List (List ℕ)) (s n : State) (token : Token) (t : Tally) → step fs s token ≡ Some n → IsSlotted s t → IsSlotted n (tallied t (emitted s token))
slots_keep_up fs s n token t goes h =
    let step_is : n.slot + owed n.mode ≤ s.slot + owed s.mode + nodes_in (emitted s token) = subst (AtMost (s.slot + owed s.mode + nodes_in (emitted s token))) goes (step_slot fs s.mode s.frames s.slot token) in
    let tally_is : (tallied t (emitted s token)).nodes ≡ t.nodes + nodes_in (emitted s token) = nodes_counted t (emitted s token) (emitted_of_body s token) in
    omega (arith, step_is, tally_is, h)
