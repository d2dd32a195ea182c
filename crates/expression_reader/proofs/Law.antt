-- The laws of the machine: what it has read begins a text, in the one way in which it can; and where it is stuck, no text goes on.
use Rattle.std.proofs.Common.{◌≡◌, ℕ, ◌+◌, Bool, true, false, List, [], ◌∷◌, ◌++◌, length, map, Option, Some, None, refl, sym, ◌∙◌, ap, subst, arith, append_assoc, length-append, ◌⊎◌, inl, inr}
use Rattle.cfj_model.specs.declared.expr.Expr.{Expr}
use Rattle.cfj_model.specs.declared.expr.Expr.TheVariants as e
use Rattle.cfj_words.specs.Tokens.{Token, Id, NewWord, ThisWord, OpenParen, CloseParen, Comma, Dot, At, Bang, Semicolon}
use Rattle.cfj_model.specs.Roles.{Role, other_token, opens, var_name, used_name, is_settled, are_settled}
use Rattle.cfj_model.specs.ExpressionGrammar.{roles_expr, value_expr}
use Rattle.expression_reader.specs.declared.frame.Frame.{Frame}
use Rattle.expression_reader.specs.declared.frame.Frame.TheVariants.{InBracket, InCast, InArgs}
use Rattle.expression_reader.specs.declared.mode.Mode.{Mode}
use Rattle.expression_reader.specs.declared.mode.Mode.TheVariants.{Begin, FirstArg, InMarks, AfterAt, Paren, ParenName, ParenClosed, After, AfterDot, AfterMember, AfterNew, AfterClass, Done}
use Rattle.expression_reader.specs.declared.roles.Settling.{Settling}
use Rattle.expression_reader.specs.declared.roles.Settling.TheVariants.{Stays, Bracket, Cast}
use Rattle.std.proofs.lemmas.List.{length-map}
use Rattle.std.proofs.lemmas.Bool.{and_parts}
use Rattle.expression_reader.specs.Machine.{State, at, start, done, step, step_in, open_frames, emitted, pending, as_cast, Run, with_roles, then_run, run, is_read_whole, is_done, is_done_mode, takes_name, takes_name_in, close_in, comma_in, finish_in, uncast, after, settled, settles, unless, waits, role, waiting, left, where_so}
use Rattle.expression_reader.specs.Reading.{Begins, CanGoOn}
use Rattle.expression_reader.proofs.Complete.{at_close, at_comma, at_semicolon, closed_ends, bracketed, cast_to, text_runs}
use Rattle.expression_reader.proofs.Completing.{are_unmarked, completes}
use Rattle.expression_reader.proofs.Sound.{Accepts, never, text_of}

-- ---- a run in two parts

-- a run over more tokens
abbrev pub on_from : List (List ℕ) → List Token → Run → Run
on_from fs b (None, rs) = (None, rs)
on_from fs b (Some s, rs) = with_roles rs (run fs b s)

-- roles before a run go on with it
roles_on : (fs : List (List ℕ)) (rs : List Role) (b : List Token) (p : Run) → with_roles rs (on_from fs b p) ≡ on_from fs b (with_roles rs p)
roles_on fs rs b (None, qs) = refl
roles_on fs rs b (Some s, qs) = ap (λ (q : List Role). ((run fs b s).0, q)) (sym (append_assoc rs qs (run fs b s).1))

-- the run of two lists of tokens is that of the first, gone on with
pub run_append : (fs : List (List ℕ)) (a b : List Token) (s : State) → run fs (a ++ b) s ≡ on_from fs b (run fs a s)
unfolding run
run_append fs [] b s = refl
run_append fs (t ∷ a) b s = by (λ n. run_append fs a b n) (emitted s t) (step fs s t)
  where
    by : ((n : State) → run fs (a ++ b) n ≡ on_from fs b (run fs a n)) → (rs : List Role) (o : Option State) → then_run (run fs (a ++ b)) rs o ≡ on_from fs b (then_run (run fs a) rs o)
    by ih rs None = refl
    by ih rs (Some n) = ap (with_roles rs) (ih n) ∙ roles_on fs rs b (run fs a n)

-- one more token
pub run_more : (fs : List (List ℕ)) (front : List Token) (t : Token) (s n : State) (rs : List Role) → run fs front start ≡ (Some s, rs) → step fs s t ≡ Some n → run fs (front ++ t ∷ []) start ≡ (Some n, rs ++ emitted s t)
unfolding run
run_more fs front t s n rs h goes =
    run_append fs front (t ∷ []) start ∙ ap (on_from fs (t ∷ [])) h ∙ ap (λ o. with_roles rs (then_run (run fs []) (emitted s t) o)) goes
    ∙ ap (λ (q : List Role). (Some n, rs ++ q)) (append_nil (emitted s t))
  where
    append_nil : (qs : List Role) → qs ++ [] ≡ qs
    append_nil [] = refl
    append_nil (q ∷ qs) = ap (λ w. q ∷ w) (append_nil qs)

-- ---- what waits behind a step

-- the state that is reached has these roles waiting
abbrev Waits : List Role → Option State → Type 0
Waits ws None = Unit {0}
Waits ws (Some n) = pending n ≡ ws

close_waits : (x : Expr) (n : ℕ) (frames : List Frame) → Waits [] (close_in x n frames)
close_waits x n [] = tt
close_waits x n (InBracket ∷ frames) = refl
close_waits x n (InCast s c ∷ frames) = tt
close_waits x n (InArgs h before colors ∷ frames) = refl

comma_waits : (x : Expr) (n : ℕ) (frames : List Frame) → Waits [] (comma_in x n frames)
comma_waits x n [] = tt
comma_waits x n (InBracket ∷ frames) = tt
comma_waits x n (InCast s c ∷ frames) = tt
comma_waits x n (InArgs h before colors ∷ frames) = refl

finish_waits : (x : Expr) (frames : List Frame) → Waits [] (finish_in x frames)
finish_waits x [] = refl
finish_waits x (f ∷ frames) = tt

after_waits : (x : Expr) (frames : List Frame) (n : ℕ) (t : Token) → Waits [] (after x frames n t)
after_waits x frames n Dot = refl
after_waits x frames n CloseParen = close_waits (uncast x frames).0 n (uncast x frames).1
after_waits x frames n Comma = comma_waits (uncast x frames).0 n (uncast x frames).1
after_waits x frames n Semicolon = finish_waits (uncast x frames).0 (uncast x frames).1
after_waits x frames n _ = tt

step_waits : (fs : List (List ℕ)) (m : Mode) (frames : List Frame) (n : ℕ) (t : Token) → Waits (waiting (at frames m n) t) (step_in fs m frames n t)
step_waits fs Begin frames n (Id w) = refl
step_waits fs Begin frames n ThisWord = refl
step_waits fs Begin frames n NewWord = refl
step_waits fs Begin frames n OpenParen = refl
step_waits fs Begin frames n _ = tt
step_waits fs (FirstArg h) frames n (Id w) = refl
step_waits fs (FirstArg h) frames n ThisWord = refl
step_waits fs (FirstArg h) frames n NewWord = refl
step_waits fs (FirstArg h) frames n OpenParen = refl
step_waits fs (FirstArg h) frames n CloseParen = refl
step_waits fs (FirstArg h) frames n At = refl
step_waits fs (FirstArg h) frames n _ = tt
step_waits fs (InMarks h before colors) frames n (Id w) = refl
step_waits fs (InMarks h before colors) frames n ThisWord = refl
step_waits fs (InMarks h before colors) frames n NewWord = refl
step_waits fs (InMarks h before colors) frames n OpenParen = refl
step_waits fs (InMarks h before colors) frames n At = refl
step_waits fs (InMarks h before colors) frames n _ = tt
step_waits fs (AfterAt h before colors off) frames n (Id w) = refl
step_waits fs (AfterAt h before colors false) frames n Bang = refl
step_waits fs (AfterAt h before colors off) frames n _ = tt
step_waits fs Paren frames n (Id w) = refl
step_waits fs Paren frames n ThisWord = refl
step_waits fs Paren frames n NewWord = refl
step_waits fs Paren frames n OpenParen = refl
step_waits fs Paren frames n _ = tt
step_waits fs (ParenName w) frames n CloseParen = refl
step_waits fs (ParenName w) frames n Dot = refl
step_waits fs (ParenName w) frames n _ = tt
step_waits fs (ParenClosed w) frames n (Id v) = refl
step_waits fs (ParenClosed w) frames n ThisWord = refl
step_waits fs (ParenClosed w) frames n NewWord = refl
step_waits fs (ParenClosed w) frames n OpenParen = refl
step_waits fs (ParenClosed w) frames n t = after_waits (e.Var n w) frames (n + 1) t
step_waits fs (After x) frames n t = after_waits x frames n t
step_waits fs (AfterDot x) frames n (Id w) = refl
step_waits fs (AfterDot x) frames n _ = tt
step_waits fs (AfterMember x w) frames n OpenParen = refl
step_waits fs (AfterMember x w) frames n t = after_waits (e.Get n x w) frames (n + 1) t
step_waits fs AfterNew frames n (Id w) = refl
step_waits fs AfterNew frames n _ = tt
step_waits fs (AfterClass c) frames n OpenParen = refl
step_waits fs (AfterClass c) frames n _ = tt
step_waits fs (Done x) frames n t = tt

-- What waits behind a step is what is left of what waited, and the token itself where it waits.
pub waits_on : (fs : List (List ℕ)) (s n : State) (t : Token) → step fs s t ≡ Some n → pending n ≡ waiting s t
waits_on fs s n t goes = subst (Waits (waiting s t)) goes (step_waits fs s.mode s.frames s.slot t)

-- Each token is settled or waits.
each_once : (c : Settling) (ps : List Role) (w : Bool) (r : Role) → length (settled c ps ++ unless w r) + length (left c ps ++ where_so w r) ≡ length ps + 1
each_once Stays ps true r = let l = length-append ps (r ∷ []) in omega (arith, l)
each_once Stays ps false r = let l = length-append ps [] in omega (arith, l)
each_once Bracket ps true r = let l = length-append ps [] in omega (arith, l)
each_once Bracket ps false r = let l = length-append ps (r ∷ []) in omega (arith, l)
each_once Cast ps true r = let l = length-append (map as_cast ps) [] in omega (arith, l, length-map ps as_cast)
each_once Cast ps false r = let l = length-append (map as_cast ps) (r ∷ []) in omega (arith, l, length-map ps as_cast)

-- The tokens that a run has read are those whose roles are settled, and those that wait.
pub run_long : (fs : List (List ℕ)) (ts : List Token) (s n : State) → (run fs ts s).0 ≡ Some n → length (run fs ts s).1 + length (pending n) ≡ length (pending s) + length ts
unfolding run
run_long fs [] s n h = let same : s ≡ n = cc h in let l : length (pending s) ≡ length (pending n) = ap (λ (x : State). length (pending x)) same in omega arith
run_long fs (t ∷ ts) s n h = by (λ x g. run_long fs ts x n g) (step fs s t) (λ x g. waits_on fs s x t g) h
  where
    by : ((x : State) → (run fs ts x).0 ≡ Some n → length (run fs ts x).1 + length (pending n) ≡ length (pending x) + length ts) → (o : Option State) → ((x : State) → o ≡ Some x → pending x ≡ waiting s t) → (then_run (run fs ts) (emitted s t) o).0 ≡ Some n → length (then_run (run fs ts) (emitted s t) o).1 + length (pending n) ≡ length (pending s) + length (t ∷ ts)
    by ih None w h = absurd (let no : ⊥ = cc h in no)
    by ih (Some x) w h =
        let behind : length (run fs ts x).1 + length (pending n) ≡ length (pending x) + length ts = ih x h in
        let all : length (emitted s t ++ (run fs ts x).1) ≡ length (emitted s t) + length (run fs ts x).1 = length-append (emitted s t) (run fs ts x).1 in
        let here : length (pending x) ≡ length (waiting s t) = ap length (w x refl) in
        let once : length (emitted s t) + length (waiting s t) ≡ length (pending s) + 1 = each_once (settles s t) (pending s) (waits s t) (role s t) in
        omega (arith, behind, all, here, once)

-- Each token that was read from the start has a role.
pub read_long : (fs : List (List ℕ)) (front : List Token) (s : State) (rs : List Role) → run fs front start ≡ (Some s, rs) → length rs + length (pending s) ≡ length front
read_long fs front s rs h =
    let long : length (run fs front start).1 + length (pending s) ≡ length (pending start) + length front = run_long fs front start s (ap (λ (p : Run). p.0) h) in
    let l : length (run fs front start).1 ≡ length rs = ap (λ (p : Run). length p.1) h in
    omega arith

-- ---- what is read begins a text

-- What the machine has read begins a text, in the roles that it gave, and those of the tokens that wait; and no more marks need
-- to follow.
pub reads_unmarked : (fs : List (List ℕ)) (front : List Token) (s : State) (rs : List Role) → run fs front start ≡ (Some s, rs) → (b : Begins front (rs ++ pending s)) × (are_unmarked b.more ≡ true)
reads_unmarked fs front s rs h =
    let c = completes fs s.mode s.frames s.slot in
    let all : run fs (front ++ c.more) start ≡ with_roles rs (run fs c.more s) = run_append fs front c.more start ∙ ap (on_from fs c.more) h in
    let t = text_of fs (front ++ c.more) (ap (λ (p : Run). is_read_whole p.0) all ∙ c.goes) in
    let b : Begins front (rs ++ pending s) =
    record {
      tree = t.0;
      more = c.more;
      others = c.others;
      text = sym t.1;
      in_roles = ap (λ (p : Run). p.1) (sym (text_runs fs t.0) ∙ ap (λ w. run fs w start) (sym t.1) ∙ all) ∙ ap (λ (q : List Role). rs ++ q) c.in_roles ∙ sym (append_assoc rs (pending s) c.others);
      each = length-append rs (pending s) ∙ read_long fs front s rs h;
    } in
    (b, c.unmarked)

pub reads_begin : (fs : List (List ℕ)) (front : List Token) (s : State) (rs : List Role) → run fs front start ≡ (Some s, rs) → Begins front (rs ++ pending s)
reads_begin fs front s rs h = (reads_unmarked fs front s rs h).0

-- ---- where the machine is stuck, no text goes on

-- with a token that the machine refuses, no text begins so
pub cannot_go_on : (fs : List (List ℕ)) (front : List Token) (t : Token) (s : State) (rs : List Role) → run fs front start ≡ (Some s, rs) → step fs s t ≡ None → CanGoOn (front ++ t ∷ []) → ⊥
unfolding run
cannot_go_on fs front t s rs h stuck g =
    let b = g.1 in
    let short : run fs (front ++ t ∷ []) start ≡ with_roles rs (then_run (run fs []) (emitted s t) None) = run_append fs front (t ∷ []) start ∙ ap (on_from fs (t ∷ [])) h ∙ ap (λ o. with_roles rs (then_run (run fs []) (emitted s t) o)) stuck in
    let whole : run fs ((front ++ t ∷ []) ++ b.more) start ≡ (None, rs ++ emitted s t) = run_append fs (front ++ t ∷ []) b.more start ∙ ap (on_from fs b.more) short in
    let o : Some (done (value_expr fs 0 b.tree).0) ≡ None = ap (λ (p : Run). p.0) (sym (text_runs fs b.tree) ∙ ap (λ w. run fs w start) b.text ∙ whole) in
    let no : ⊥ = cc o in no

-- ---- a text has its roles in one way

-- Two lists of one length with which one list begins are the same.
same_front : {A : Type 0} (xs ys as_ bs : List A) → length xs ≡ length ys → xs ++ as_ ≡ ys ++ bs → xs ≡ ys
same_front [] [] as_ bs l h = refl
same_front [] (y ∷ ys) as_ bs l h = absurd (omega arith)
same_front (x ∷ xs) [] as_ bs l h = absurd (omega arith)
same_front (x ∷ xs) (y ∷ ys) as_ bs l h =
    let head : x ≡ y = cc h in
    let tail : xs ++ as_ ≡ ys ++ bs = cc h in
    let rest : xs ≡ ys = same_front xs ys as_ bs (omega arith) tail in
    cc (head, rest)

-- what waits is settled as a bracket's, or as a cast's
pub data Shown (ps qs : List Role) : Type 0 where
  a_bracket : (others : List Role) → qs ≡ ps ++ others → Shown ps qs
  a_cast : (others : List Role) → are_settled (map as_cast ps) ≡ false → qs ≡ map as_cast ps ++ others → Shown ps qs

-- Behind `( x )` all that waits is settled at once.
closed_shown : (fs : List (List ℕ)) (ts : List Token) (w : List ℕ) (frames : List Frame) (n : ℕ) → Accepts fs ts (at frames (ParenClosed w) n) →
    (others : List Role) × (((run fs ts (at frames (ParenClosed w) n)).1 ≡ bracketed (open_frames frames) w ++ others) ⊎ ((run fs ts (at frames (ParenClosed w) n)).1 ≡ cast_to (open_frames frames) w ++ others))
unfolding run
closed_shown fs [] w frames n h = never h
closed_shown fs (Id v ∷ ts) w frames n h = (_, inr refl)
closed_shown fs (ThisWord ∷ ts) w frames n h = (_, inr refl)
closed_shown fs (NewWord ∷ ts) w frames n h = (_, inr refl)
closed_shown fs (OpenParen ∷ ts) w frames n h = (_, inr refl)
closed_shown fs (Dot ∷ ts) w frames n h = (_, inl refl)
closed_shown fs (CloseParen ∷ ts) w frames n h = (_, inl (ap (λ (p : Run). p.1) (closed_ends fs (CloseParen ∷ ts) (at_close ts) w frames n)))
closed_shown fs (Comma ∷ ts) w frames n h = (_, inl (ap (λ (p : Run). p.1) (closed_ends fs (Comma ∷ ts) (at_comma ts) w frames n)))
closed_shown fs (Semicolon ∷ ts) w frames n h = (_, inl (ap (λ (p : Run). p.1) (closed_ends fs (Semicolon ∷ ts) (at_semicolon ts) w frames n)))
closed_shown fs (_ ∷ ts) w frames n h = never h

-- what waits in a bracket that has no more than a name yet
paren_name_shown : (fs : List (List ℕ)) (ts : List Token) (w : List ℕ) (frames : List Frame) (n : ℕ) → Accepts fs ts (at frames (ParenName w) n) → Shown (opens (open_frames frames + 1) ∷ (var_name w ∷ [])) (run fs ts (at frames (ParenName w) n)).1
unfolding run
paren_name_shown fs [] w frames n h = never h
paren_name_shown fs (Dot ∷ ts) w frames n h = a_bracket _ refl
paren_name_shown fs (CloseParen ∷ ts) w frames n h = by (closed_shown fs ts w frames n h)
  where
    by : (others : List Role) × (((run fs ts (at frames (ParenClosed w) n)).1 ≡ bracketed (open_frames frames) w ++ others) ⊎ ((run fs ts (at frames (ParenClosed w) n)).1 ≡ cast_to (open_frames frames) w ++ others)) → Shown (opens (open_frames frames + 1) ∷ (var_name w ∷ [])) (run fs ts (at frames (ParenClosed w) n)).1
    by (others, inl e) = a_bracket (other_token ∷ others) e
    by (others, inr e) = a_cast (other_token ∷ others) refl e
paren_name_shown fs (_ ∷ ts) w frames n h = never h

paren_shown : (fs : List (List ℕ)) (ts : List Token) (frames : List Frame) (n : ℕ) → Accepts fs ts (at frames Paren n) → Shown (opens (open_frames frames + 1) ∷ []) (run fs ts (at frames Paren n)).1
unfolding run
paren_shown fs [] frames n h = never h
paren_shown fs (Id w ∷ ts) frames n h = by (paren_name_shown fs ts w frames n h)
  where
    by : Shown (opens (open_frames frames + 1) ∷ (var_name w ∷ [])) (run fs ts (at frames (ParenName w) n)).1 → Shown (opens (open_frames frames + 1) ∷ []) (run fs ts (at frames (ParenName w) n)).1
    by (a_bracket others e) = a_bracket (var_name w ∷ others) e
    by (a_cast others not e) = a_cast (used_name w ∷ others) refl e
paren_shown fs (ThisWord ∷ ts) frames n h = a_bracket _ refl
paren_shown fs (NewWord ∷ ts) frames n h = a_bracket _ refl
paren_shown fs (OpenParen ∷ ts) frames n h = a_bracket _ refl
paren_shown fs (_ ∷ ts) frames n h = never h

pub shown : (fs : List (List ℕ)) (m : Mode) (ts : List Token) (frames : List Frame) (n : ℕ) → Accepts fs ts (at frames m n) → Shown (pending (at frames m n)) (run fs ts (at frames m n)).1
shown fs Paren ts frames n h = paren_shown fs ts frames n h
shown fs (ParenName w) ts frames n h = paren_name_shown fs ts w frames n h
shown fs (ParenClosed w) ts frames n h = by (closed_shown fs ts w frames n h)
  where
    by : (others : List Role) × (((run fs ts (at frames (ParenClosed w) n)).1 ≡ bracketed (open_frames frames) w ++ others) ⊎ ((run fs ts (at frames (ParenClosed w) n)).1 ≡ cast_to (open_frames frames) w ++ others)) → Shown (bracketed (open_frames frames) w) (run fs ts (at frames (ParenClosed w) n)).1
    by (others, inl e) = a_bracket others e
    by (others, inr e) = a_cast others refl e
shown fs _ ts frames n h = a_bracket _ refl

-- what stands behind settled roles is settled
settled_behind : (rs qs : List Role) → are_settled (rs ++ qs) ≡ true → are_settled qs ≡ true
settled_behind [] qs h = h
settled_behind (r ∷ rs) qs h = settled_behind rs qs (and_parts (is_settled r (rs ++ qs)) (are_settled (rs ++ qs)) h).1

-- The settled roles in which a text begins with what was read are those that the machine gave, and those of the tokens that
-- wait.
pub one_way : (fs : List (List ℕ)) (front : List Token) (s : State) (rs qs : List Role) → run fs front start ≡ (Some s, rs) → Begins front qs → are_settled qs ≡ true → qs ≡ rs ++ pending s
one_way fs front s rs qs h b fixed =
    let whole : with_roles rs (run fs b.more s) ≡ (Some (done (value_expr fs 0 b.tree).0), roles_expr 0 b.tree (other_token ∷ [])) = sym (run_append fs front b.more start ∙ ap (on_from fs b.more) h) ∙ ap (λ w. run fs w start) (sym b.text) ∙ text_runs fs b.tree in
    let gets : Accepts fs b.more s = ap (λ (p : Run). is_read_whole p.0) whole in
    let same : rs ++ (run fs b.more s).1 ≡ qs ++ b.others = ap (λ (p : Run). p.1) whole ∙ b.in_roles in
    by (shown fs s.mode b.more s.frames s.slot gets) same
  where
    long : length rs + length (pending s) ≡ length front
    long = read_long fs front s rs h

    by : Shown (pending s) (run fs b.more s).1 → rs ++ (run fs b.more s).1 ≡ qs ++ b.others → qs ≡ rs ++ pending s
    by (a_bracket others e) same =
        let l : length (rs ++ pending s) ≡ length rs + length (pending s) = length-append rs (pending s) in
        let each : length qs ≡ length front = b.each in
        sym (same_front (rs ++ pending s) qs others b.others (omega (arith, l, each, long)) (append_assoc rs (pending s) others ∙ ap (λ (q : List Role). rs ++ q) (sym e) ∙ same))
    by (a_cast others not e) same =
        let l : length (rs ++ map as_cast (pending s)) ≡ length rs + length (map as_cast (pending s)) = length-append rs (map as_cast (pending s)) in
        let m : length (map as_cast (pending s)) ≡ length (pending s) = length-map (pending s) as_cast in
        let each : length qs ≡ length front = b.each in
        let is : rs ++ map as_cast (pending s) ≡ qs = same_front (rs ++ map as_cast (pending s)) qs others b.others (omega (arith, l, m, each, long)) (append_assoc rs (map as_cast (pending s)) others ∙ ap (λ (q : List Role). rs ++ q) (sym e) ∙ same) in
        let no : false ≡ true = sym not ∙ settled_behind rs (map as_cast (pending s)) (ap are_settled is ∙ fixed) in
        never no

-- a text that begins with these tokens is read so far
pub begins_reads : (fs : List (List ℕ)) (front : List Token) (rs : List Role) → Begins front rs → (s : State) × (qs : List Role) × (run fs front start ≡ (Some s, qs))
begins_reads fs front rs b = by (run fs front start) refl (sym (run_append fs front b.more start) ∙ ap (λ w. run fs w start) (sym b.text) ∙ text_runs fs b.tree)
  where
    by : (p : Run) → run fs front start ≡ p → on_from fs b.more p ≡ (Some (done (value_expr fs 0 b.tree).0), roles_expr 0 b.tree (other_token ∷ [])) → (s : State) × (qs : List Role) × (run fs front start ≡ (Some s, qs))
    by (None, qs) e whole = absurd (let o : None ≡ Some (done (value_expr fs 0 b.tree).0) = ap (λ (p : Run). p.0) whole in let no : ⊥ = cc o in no)
    by (Some s, qs) e whole = (s, qs, e)

-- ---- where a name can stand

-- each name can, or none
pub name_goes : (fs : List (List ℕ)) (s : State) (w : List ℕ) → takes_name s ≡ true → (n : State) × (step fs s (Id w) ≡ Some n)
name_goes fs s w e = by s.mode e
  where
    by : (m : Mode) → takes_name_in m ≡ true → (n : State) × (step_in fs m s.frames s.slot (Id w) ≡ Some n)
    by Begin e = (_, refl)
    by (FirstArg h) e = (_, refl)
    by (InMarks h before colors) e = (_, refl)
    by (AfterAt h before colors off) e = (_, refl)
    by Paren e = (_, refl)
    by (ParenClosed v) e = (_, refl)
    by (AfterDot x) e = (_, refl)
    by AfterNew e = (_, refl)
    by _ e = never e

pub name_stops : (fs : List (List ℕ)) (s : State) (w : List ℕ) → takes_name s ≡ false → step fs s (Id w) ≡ None
name_stops fs s w e = by s.mode e
  where
    by : (m : Mode) → takes_name_in m ≡ false → step_in fs m s.frames s.slot (Id w) ≡ None
    by (ParenName v) e = refl
    by (After x) e = refl
    by (AfterMember x v) e = refl
    by (AfterClass c) e = refl
    by (Done x) e = refl
    by _ e = never (sym e)

-- ---- the end

-- no token goes on behind the whole expression
pub ends_once : (fs : List (List ℕ)) (s : State) (t : Token) → is_done s ≡ true → step fs s t ≡ None
ends_once fs s t e = by s.mode e
  where
    by : (m : Mode) → is_done_mode m ≡ true → step_in fs m s.frames s.slot t ≡ None
    by (Done x) e = refl
    by _ e = never e

-- a state that isn't the last
abbrev GoesOn : Option State → Type 0
GoesOn None = Unit {0}
GoesOn (Some n) = is_done n ≡ false

close_goes_on : (x : Expr) (n : ℕ) (frames : List Frame) → GoesOn (close_in x n frames)
close_goes_on x n [] = tt
close_goes_on x n (InBracket ∷ frames) = refl
close_goes_on x n (InCast s c ∷ frames) = tt
close_goes_on x n (InArgs h before colors ∷ frames) = refl

comma_goes_on : (x : Expr) (n : ℕ) (frames : List Frame) → GoesOn (comma_in x n frames)
comma_goes_on x n [] = tt
comma_goes_on x n (InBracket ∷ frames) = tt
comma_goes_on x n (InCast s c ∷ frames) = tt
comma_goes_on x n (InArgs h before colors ∷ frames) = refl

-- only `;` leads to the end
abbrev EndsBy : Token → Option State → Type 0
EndsBy Semicolon o = Unit {0}
EndsBy _ o = GoesOn o

after_ends_by : (x : Expr) (frames : List Frame) (n : ℕ) (t : Token) → EndsBy t (after x frames n t)
after_ends_by x frames n Dot = refl
after_ends_by x frames n CloseParen = close_goes_on (uncast x frames).0 n (uncast x frames).1
after_ends_by x frames n Comma = comma_goes_on (uncast x frames).0 n (uncast x frames).1
after_ends_by x frames n _ = tt

step_ends_by : (fs : List (List ℕ)) (m : Mode) (frames : List Frame) (n : ℕ) (t : Token) → EndsBy t (step_in fs m frames n t)
step_ends_by fs m frames n Semicolon = tt
step_ends_by fs (AfterAt h before colors off) frames n (Id w) = refl
step_ends_by fs (AfterAt h before colors false) frames n Bang = refl
step_ends_by fs (AfterAt h before colors off) frames n _ = tt
step_ends_by fs (AfterDot x) frames n (Id w) = refl
step_ends_by fs (AfterDot x) frames n _ = tt
step_ends_by fs AfterNew frames n (Id w) = refl
step_ends_by fs AfterNew frames n _ = tt
step_ends_by fs (AfterClass c) frames n OpenParen = refl
step_ends_by fs (AfterClass c) frames n _ = tt
step_ends_by fs (ParenName w) frames n CloseParen = refl
step_ends_by fs (ParenName w) frames n Dot = refl
step_ends_by fs (ParenName w) frames n _ = tt
step_ends_by fs (Done x) frames n _ = tt
step_ends_by fs (After x) frames n t = after_ends_by x frames n t
step_ends_by fs (AfterMember x w) frames n OpenParen = refl
step_ends_by fs (AfterMember x w) frames n t = after_ends_by (e.Get n x w) frames (n + 1) t
step_ends_by fs (ParenClosed w) frames n (Id v) = refl
step_ends_by fs (ParenClosed w) frames n ThisWord = refl
step_ends_by fs (ParenClosed w) frames n NewWord = refl
step_ends_by fs (ParenClosed w) frames n OpenParen = refl
step_ends_by fs (ParenClosed w) frames n t = after_ends_by (e.Var n w) frames (n + 1) t
step_ends_by fs Begin frames n (Id v) = refl
step_ends_by fs Begin frames n ThisWord = refl
step_ends_by fs Begin frames n NewWord = refl
step_ends_by fs Begin frames n OpenParen = refl
step_ends_by fs Begin frames n _ = tt
step_ends_by fs (FirstArg h) frames n (Id v) = refl
step_ends_by fs (FirstArg h) frames n ThisWord = refl
step_ends_by fs (FirstArg h) frames n NewWord = refl
step_ends_by fs (FirstArg h) frames n OpenParen = refl
step_ends_by fs (FirstArg h) frames n CloseParen = refl
step_ends_by fs (FirstArg h) frames n At = refl
step_ends_by fs (FirstArg h) frames n _ = tt
step_ends_by fs (InMarks h before colors) frames n (Id v) = refl
step_ends_by fs (InMarks h before colors) frames n ThisWord = refl
step_ends_by fs (InMarks h before colors) frames n NewWord = refl
step_ends_by fs (InMarks h before colors) frames n OpenParen = refl
step_ends_by fs (InMarks h before colors) frames n At = refl
step_ends_by fs (InMarks h before colors) frames n _ = tt
step_ends_by fs Paren frames n (Id v) = refl
step_ends_by fs Paren frames n ThisWord = refl
step_ends_by fs Paren frames n NewWord = refl
step_ends_by fs Paren frames n OpenParen = refl
step_ends_by fs Paren frames n _ = tt

pub ends_at_semicolon : (fs : List (List ℕ)) (s n : State) (t : Token) → step fs s t ≡ Some n → is_done n ≡ true → t ≡ Semicolon
ends_at_semicolon fs s n t goes ended = by t (subst (EndsBy t) goes (step_ends_by fs s.mode s.frames s.slot t))
  where
    by : (t : Token) → EndsBy t (Some n) → t ≡ Semicolon
    by Semicolon h = refl
    by _ h = never (sym h ∙ ended)
