-- The laws of the machine where it reads an expression without marks. The end of the text takes the part of the `;`.
use Rattle.std.proofs.Common.{◌≡◌, ℕ, suc, ◌+◌, Bool, true, false, List, [], ◌∷◌, ◌++◌, length, Option, Some, None, refl, sym, ◌∙◌, ap, subst, append_assoc, ◌⊎◌, inl, inr}
use Rattle.std.proofs.lemmas.Bool.{and_parts, and_from}
use Rattle.std.proofs.lemmas.List.{append-nil, append_cancel_right}
use Rattle.std.proofs.lemmas.Option.{none-some, same_Some}
use Rattle.cfj_model.specs.declared.class.Method.{Method}
use Rattle.cfj_model.specs.declared.expr.Expr.{Expr}
use Rattle.cfj_model.specs.declared.expr.Expr.TheVariants as e
use Rattle.cfj_model.specs.ExpressionGrammar.{ExprTree, spell_expr, roles_expr, value_expr}
use Rattle.cfj_model.specs.Roles.{Role, other_token, are_settled}
use Rattle.cfj_words.specs.Tokens.{Token, Id, Semicolon, At, End}
use Rattle.expression_reader.specs.Machine as expression
use Rattle.expression_reader.specs.Reading as reading
use Rattle.expression_reader.specs.declared.frame.Frame.{Frame}
use Rattle.expression_reader.specs.declared.mode.Mode as expression_mode
use Rattle.expression_reader.specs.declared.mode.Mode.TheVariants as expression_variant
use Rattle.expression_reader.proofs.Complete as expression_complete
use Rattle.expression_reader.proofs.Completing.{are_unmarked}
use Rattle.expression_reader.proofs.Composing.{spell_before, roles_before, roles_settled}
use Rattle.expression_reader.proofs.Counting.{read_settled}
use Rattle.expression_reader.proofs.Finishing.{has_expression, waited_first}
use Rattle.expression_reader.proofs.Law as expression_law
use Rattle.expression_reader.proofs.Sound as expression_sound
use Rattle.fj_parser.specs.Goals.{start_for, step_for, takes_name_for, reader_for}
use Rattle.cfj_model.specs.PartLanguages.{UnmarkedTree, expressions}
use Rattle.cfj_model.specs.declared.feature_model.Format.TheVariants.{One}
use Rattle.fj_parser.specs.Laws.{Settles, alike, Closes, GoesByName, Reads}
use Rattle.fj_machine.specs.Machine.{unnamed, State, method_of, with_method, after_expression, in_expression, step_in, emitted, pending, pending_in}
use Rattle.fj_machine.specs.Readers.{Reader, Run, then_run, run_of}
use Rattle.fj_parser.specs.declared.goal.Goal.TheVariants as goal
use Rattle.fj_machine.specs.declared.mode.Mode.{Mode}
use Rattle.fj_machine.specs.declared.mode.Mode.TheVariants.{InExpression, AfterBody}
use Rattle.fj_parser.proofs.Expressions.{in_body, unread_none}
use Rattle.fj_parser.proofs.Law.{begun_on}
use Rattle.fj_parser.proofs.MethodsSound.{whole_done}
use Rattle.fj_parser.proofs.Naming.{some_name, some_name_is, name_stops}
use Rattle.fj_parser.proofs.Standing.{Stands, whole_waits, each_once}
use Rattle.fj_parser.proofs.Unmarked.{is_inner, are_inner, expr_inner, is_unmarked, inner_unmarked, no_semicolon}

-- the machine, and its start
abbrev machine : Reader
machine = reader_for goal.Expression One [] unnamed

abbrev first : State
first = start_for goal.Expression One [] unnamed

no_case : {A : Type 0} → false ≡ true → A
no_case e = absurd (let no : ⊥ = cc e in no)

-- ---- the end of the text in place of the `;`

-- a whole expression is reached, if a state is
abbrev AreEnds : Option expression.State → Type 0
AreEnds None = Unit {0}
AreEnds (Some n) = expression.is_done n ≡ true

finish_ends : (x : Expr) (frames : List Frame) → AreEnds (expression.finish_in x frames)
finish_ends x [] = refl
finish_ends x (f ∷ frames) = tt

-- behind a `;` the expression is whole
semicolon_ends : (fs : List (List ℕ)) (m : expression_mode.Mode) (frames : List Frame) (n : ℕ) → AreEnds (expression.step_in fs m frames n Semicolon)
semicolon_ends fs (expression_variant.ParenClosed w) frames n = finish_ends (expression.uncast (e.Var n w) frames).0 (expression.uncast (e.Var n w) frames).1
semicolon_ends fs (expression_variant.After x) frames n = finish_ends (expression.uncast x frames).0 (expression.uncast x frames).1
semicolon_ends fs (expression_variant.AfterMember x w) frames n = finish_ends (expression.uncast (e.Get n x w) frames).0 (expression.uncast (e.Get n x w) frames).1
semicolon_ends fs _ frames n = tt

done_by_semicolon : (fs : List (List ℕ)) (s n : expression.State) → expression.step fs s Semicolon ≡ Some n → expression.is_done n ≡ true
done_by_semicolon fs s n goes = subst AreEnds goes (semicolon_ends fs s.mode s.frames s.slot)

-- the end settles what the `;` does
end_emits : (s : expression.State) → expression.emitted s End ≡ expression.emitted s Semicolon
end_emits s = by s.mode
  where
    by : (m : expression_mode.Mode) → expression.settled (expression.settles_in m End) (expression.pending s) ++ expression.unless (expression.waits_in m End) (expression.role_in m (expression.open_in m (expression.open_frames s.frames)) End) ≡ expression.settled (expression.settles_in m Semicolon) (expression.pending s) ++ expression.unless (expression.waits_in m Semicolon) (expression.role_in m (expression.open_in m (expression.open_frames s.frames)) Semicolon)
    by expression_variant.Paren = refl
    by _ = refl

-- the other tokens of an expression without marks are read as in a body
inner_step : (s : State) (t : Token) → is_inner t ≡ true → step_for goal.Expression InExpression s t ≡ step_in InExpression s t
inner_step s At h = no_case h
inner_step s Semicolon h = no_case h
inner_step s End h = no_case h
inner_step s _ h = refl

-- and don't end it
inner_goes : (fs : List (List ℕ)) (s n : expression.State) (t : Token) → is_inner t ≡ true → expression.step fs s t ≡ Some n → expression.is_done n ≡ false
inner_goes fs s n t h goes = by (expression.is_done n) refl
  where
    by : (b : Bool) → expression.is_done n ≡ b → expression.is_done n ≡ false
    by false e = e
    by true e = no_case (sym (ap is_inner (expression_law.ends_at_semicolon fs s n t goes e)) ∙ h)

-- ---- what is read

-- Some of an expression was read, or a whole one and the end of the text.
data Read (s : State) (e : expression.State) : List Token → State → List Role → Type 0 where
  inside : (ts : List Token) (m : expression.State) (rs : List Role) → are_inner ts ≡ true → expression.run s.features ts e ≡ (Some m, rs) → (expression.is_done e ≡ false → expression.is_done m ≡ false) → Read s e ts (in_body s m) rs
  at_end : (us : List Token) (m : expression.State) (x : Expr) (rs : List Role) → are_inner us ≡ true → expression.run s.features (us ++ Semicolon ∷ []) e ≡ (Some m, rs) → expression.expression m ≡ Some x → Read s e (us ++ End ∷ []) (with_method s x) rs

-- the same state in the same roles
as_read : (s : State) (e : expression.State) (ts : List Token) (m n : State) (qs rs : List Role) → ◌≡◌ {A = Run State} (Some m, qs) (Some n, rs) → Read s e ts m qs → Read s e ts n rs
as_read s e ts m n qs rs is h =
    let state : m ≡ n = same_Some m n (ap (λ (p : Run State). p.0) is) in
    let given : qs ≡ rs = ap (λ (p : Run State). p.1) is in
    subst (Read s e ts n) given (subst (λ x. Read s e ts x qs) state h)

-- a machine that is stuck reads nothing
stuck : {A : Type 0} (n : State) (qs rs : List Role) → ◌≡◌ {A = Run State} (None, qs) (Some n, rs) → A
stuck n qs rs h = absurd (none-some n (ap (λ (p : Run State). p.0) h))

-- one more token before those that were read
read_more : (s : State) (e m : expression.State) (t : Token) → is_inner t ≡ true → expression.step s.features e t ≡ Some m → (ts : List Token) (n : State) (rs : List Role) → Read s m ts n rs → Read s e (t ∷ ts) n (expression.emitted e t ++ rs)
unfolding expression.run
read_more s e m t h goes _ _ _ (inside ts k rs inner ran on) =
    inside (t ∷ ts) k (expression.emitted e t ++ rs) (and_from (is_inner t) (are_inner ts) h inner) (ap (expression.then_run (expression.run s.features ts) (expression.emitted e t)) goes ∙ ap (expression.with_roles (expression.emitted e t)) ran) (λ g. on (inner_goes s.features e m t h goes))
read_more s e m t h goes _ _ _ (at_end us k x rs inner ran whole) =
    at_end (t ∷ us) k x (expression.emitted e t ++ rs) (and_from (is_inner t) (are_inner us) h inner) (ap (expression.then_run (expression.run s.features (us ++ Semicolon ∷ [])) (expression.emitted e t)) goes ∙ ap (expression.with_roles (expression.emitted e t)) ran) whole

-- behind the end nothing is read
read_end : (s : State) (e m : expression.State) (ts : List Token) (n : State) (x : Expr) (rs : List Role) → expression.step s.features e Semicolon ≡ Some m → expression.expression m ≡ Some x → then_run (run_of machine ts) (expression.emitted e End) (Some (with_method s x)) ≡ (Some n, rs) → Read s e (End ∷ ts) n rs
unfolding run_of expression.run
read_end s e m [] n x rs goes whole h =
    as_read s e (End ∷ []) (with_method s x) n (expression.emitted e End ++ []) rs h
    (at_end [] m x (expression.emitted e End ++ []) refl (ap (expression.then_run (expression.run s.features []) (expression.emitted e Semicolon)) goes ∙ ap (λ (q : List Role). (Some m, q ++ [])) (sym (end_emits e))) whole)
read_end s e m (t ∷ ts) n x rs goes whole h = stuck n _ rs h

reads : (ts : List Token) (s n : State) (e : expression.State) (rs : List Role) → run_of machine ts (in_body s e) ≡ (Some n, rs) → Read s e ts n rs
unfolding run_of expression.run
reads [] s n e rs h = as_read s e [] (in_body s e) n [] rs h (inside [] e [] refl refl (λ g. g))
reads (t ∷ ts) s n e rs h = go (λ m qs k. reads ts s n m qs k) t h
  where
    inner : ((m : expression.State) (qs : List Role) → run_of machine ts (in_body s m) ≡ (Some n, qs) → Read s m ts n qs) → (t : Token) → is_inner t ≡ true → (o : Option expression.State) → expression.step s.features e t ≡ o → then_run (run_of machine ts) (expression.emitted e t) (in_expression (in_body s e) o) ≡ (Some n, rs) → Read s e (t ∷ ts) n rs
    inner ih t i None goes k = stuck n _ rs k
    inner ih t i (Some m) goes k =
        let rest : List Role = (run_of machine ts (in_body s m)).1 in
        let on : then_run (run_of machine ts) (expression.emitted e t) (Some (in_body s m)) ≡ (Some n, rs) = ap (λ q. then_run (run_of machine ts) (expression.emitted e t) (Some (after_expression (in_body s e) m q))) (sym (unread_none m (inner_goes s.features e m t i goes))) ∙ k in
        subst (Read s e (t ∷ ts) n) (ap (λ (p : Run State). p.1) on) (read_more s e m t i goes ts n rest (ih m rest (ap (λ (p : Run State). (p.0, rest)) on)))

    ends : (o : Option expression.State) → expression.step s.features e Semicolon ≡ o → then_run (run_of machine ts) (expression.emitted e End) (in_expression (in_body s e) o) ≡ (Some n, rs) → Read s e (End ∷ ts) n rs
    ends None goes k = stuck n _ rs k
    ends (Some m) goes k =
        let x = has_expression m (done_by_semicolon s.features e m goes) in
        read_end s e m ts n x.0 rs goes x.1 (ap (λ q. then_run (run_of machine ts) (expression.emitted e End) (Some (after_expression (in_body s e) m q))) (sym x.1) ∙ k)

    go : ((m : expression.State) (qs : List Role) → run_of machine ts (in_body s m) ≡ (Some n, qs) → Read s m ts n qs) → (t : Token) → run_of machine (t ∷ ts) (in_body s e) ≡ (Some n, rs) → Read s e (t ∷ ts) n rs
    go ih At k = stuck n _ rs k
    go ih Semicolon k = stuck n _ rs k
    go ih End k = ends (expression.step s.features e Semicolon) refl k
    go ih t k = inner ih t refl (expression.step s.features e t) refl k

-- what is reached
reached : (ts : List Token) (s : State) (rs : List Role) → run_of machine ts first ≡ (Some s, rs) → Read first expression.start ts s rs
reached ts s rs h = reads ts first s expression.start rs h

-- ---- the text of each tree is read

-- the tokens of an expression, and the end
whole_runs : (us : List Token) (s : State) (e n : expression.State) (x : Expr) (rs : List Role) → are_inner us ≡ true → expression.run s.features (us ++ Semicolon ∷ []) e ≡ (Some n, rs) → expression.expression n ≡ Some x → run_of machine (us ++ End ∷ []) (in_body s e) ≡ (Some (with_method s x), rs)
unfolding run_of expression.run
whole_runs [] s e n x rs i h whole = go (expression.step s.features e Semicolon) h
  where
    go : (o : Option expression.State) → expression.then_run (expression.run s.features []) (expression.emitted e Semicolon) o ≡ (Some n, rs) → then_run (run_of machine []) (expression.emitted e End) (in_expression (in_body s e) o) ≡ (Some (with_method s x), rs)
    go None k = absurd (none-some n (ap (λ (p : expression.Run). p.0) k))
    go (Some m) k =
        let same : m ≡ n = same_Some m n (ap (λ (p : expression.Run). p.0) k) in
        ap (λ q. then_run (run_of machine []) (expression.emitted e End) (Some (after_expression (in_body s e) m q))) (ap expression.expression same ∙ whole)
        ∙ ap (λ (q : List Role). (Some (with_method s x), q)) (ap (λ q. q ++ []) (end_emits e) ∙ ap (λ (p : expression.Run). p.1) k)
whole_runs (t ∷ us) s e n x rs i h whole = go (λ m qs k. whole_runs us s m n x qs (and_parts (is_inner t) (are_inner us) i).1 k whole) (expression.step s.features e t) refl h
  where
    first_inner : is_inner t ≡ true
    first_inner = (and_parts (is_inner t) (are_inner us) i).0

    go : ((m : expression.State) (qs : List Role) → expression.run s.features (us ++ Semicolon ∷ []) m ≡ (Some n, qs) → run_of machine (us ++ End ∷ []) (in_body s m) ≡ (Some (with_method s x), qs))
        → (o : Option expression.State) → expression.step s.features e t ≡ o → expression.then_run (expression.run s.features (us ++ Semicolon ∷ [])) (expression.emitted e t) o ≡ (Some n, rs) → run_of machine (t ∷ us ++ End ∷ []) (in_body s e) ≡ (Some (with_method s x), rs)
    go ih None goes k = absurd (none-some n (ap (λ (p : expression.Run). p.0) k))
    go ih (Some m) goes k =
        let rest : List Role = (expression.run s.features (us ++ Semicolon ∷ []) m).1 in
        ap (then_run (run_of machine (us ++ End ∷ [])) (expression.emitted e t)) (inner_step (in_body s e) t first_inner ∙ ap (in_expression (in_body s e)) goes)
        ∙ ap (λ q. then_run (run_of machine (us ++ End ∷ [])) (expression.emitted e t) (Some (after_expression (in_body s e) m q))) (unread_none m (inner_goes s.features e m t first_inner goes))
        ∙ ap (λ p. then_run (λ _. p) (expression.emitted e t) (Some (in_body s m))) (ih m rest (ap (λ (p : expression.Run). (p.0, rest)) k))
        ∙ ap (λ (q : List Role). (Some (with_method s x), q)) (ap (λ (p : expression.Run). p.1) k)

-- a tree's text, with what ends it
text_with : (x : ExprTree) (t : Token) → spell_expr x (t ∷ []) ≡ spell_expr x [] ++ t ∷ []
text_with x t = sym (spell_before x [] (t ∷ []))

-- the state behind a tree and the end of the text
abbrev ended : UnmarkedTree → State
ended x = with_method first (value_expr [] 0 x.tree).0

complete : (x : UnmarkedTree) → run_of machine (spell_expr x.tree (End ∷ [])) first ≡ (Some (ended x), roles_expr 0 x.tree (other_token ∷ []))
complete x =
    ap (λ us. run_of machine us first) (text_with x.tree End)
    ∙ whole_runs (spell_expr x.tree []) first expression.start (expression.done (value_expr [] 0 x.tree).0) (value_expr [] 0 x.tree).0 (roles_expr 0 x.tree (other_token ∷ [])) (expr_inner x.tree [] x.unmarked) (ap (λ us. expression.run [] us expression.start) (sym (text_with x.tree Semicolon)) ∙ expression_complete.text_runs [] x.tree) refl

-- ---- what is read to the end is a text

-- A list that begins so ends with its last token, unless the front is all of it.
last_split : (us front more : List Token) (t : Token) → us ++ t ∷ [] ≡ front ++ more → (more ≡ []) ⊎ ((own : List Token) × (more ≡ own ++ t ∷ []) × (us ≡ front ++ own))
last_split us [] more t h = inr (us, sym h, refl)
last_split [] (f ∷ front) more t h =
    let rest : [] ≡ front ++ more = cc h in
    inl (none front more rest)
  where
    none : (a b : List Token) → [] ≡ a ++ b → b ≡ []
    none [] b e = sym e
    none (x ∷ a) b e = absurd (let no : ⊥ = cc e in no)
last_split (u ∷ us) (f ∷ front) more t h =
    let same : u ≡ f = cc h in
    let rest : us ++ t ∷ [] ≡ front ++ more = cc h in
    by same (last_split us front more t rest)
  where
    by : u ≡ f → (more ≡ []) ⊎ ((own : List Token) × (more ≡ own ++ t ∷ []) × (us ≡ front ++ own)) → (more ≡ []) ⊎ ((own : List Token) × (more ≡ own ++ t ∷ []) × (u ∷ us ≡ f ∷ (front ++ own)))
    by same (inl e) = inl e
    by same (inr (own, e, k)) = inr (own, e, cc (same, k))

-- tokens without marks that are read to the end are a tree's
whole_tree : (us : List Token) (m : expression.State) (rs : List Role) → are_inner us ≡ true → expression.run [] (us ++ Semicolon ∷ []) expression.start ≡ (Some m, rs) → expression.is_done m ≡ true → (x : UnmarkedTree) × (us ≡ spell_expr x.tree [])
whole_tree us m rs i ran whole =
    let t = expression_sound.text_of [] (us ++ Semicolon ∷ []) (ap (λ (p : expression.Run). expression.is_read_whole p.0) ran ∙ whole) in
    let is : us ≡ spell_expr t.0 [] = append_cancel_right us (spell_expr t.0 []) (Semicolon ∷ []) (t.1 ∙ text_with t.0 Semicolon) in
    let plain_us : are_unmarked us ≡ true = ap are_unmarked (sym (append-nil us)) ∙ inner_unmarked us [] i refl in
    (record { tree = t.0; unmarked = is_unmarked t.0 [] (ap are_unmarked (sym is) ∙ plain_us) }, is)

-- the step by the end
step_end : (m : expression.State) (n : State) → in_expression (in_body first m) (expression.step [] m Semicolon) ≡ Some n → (k : expression.State) × (expression.step [] m Semicolon ≡ Some k)
step_end m n h = go (expression.step [] m Semicolon) refl h
  where
    go : (o : Option expression.State) → expression.step [] m Semicolon ≡ o → in_expression (in_body first m) o ≡ Some n → (k : expression.State) × (expression.step [] m Semicolon ≡ Some k)
    go None e g = absurd (none-some n g)
    go (Some k) e g = (k, e)

sound : (ts : List Token) (s n : State) (rs : List Role) → Read first expression.start ts s rs → machine.step s End ≡ Some n → (x : UnmarkedTree) × (ts ≡ spell_expr x.tree [])
sound _ _ n _ (inside ts m rs i ran on) g =
    let k = step_end m n g in
    whole_tree ts k.0 (rs ++ expression.emitted m Semicolon) i (expression_law.run_more [] ts Semicolon m k.0 rs ran k.1) (done_by_semicolon [] m k.0 k.1)
sound _ _ n _ (at_end us m x rs i ran whole) g = absurd (none-some n g)

-- ---- what is read begins a text

-- what was read inside an expression
inside_closes : (ts : List Token) (m : expression.State) (rs : List Role) → are_inner ts ≡ true → (b : reading.Begins ts (rs ++ expression.pending m)) → are_unmarked b.more ≡ true → Closes expressions ts rs (expression.pending m)
inside_closes ts m rs i b u = by (last_split (spell_expr b.tree []) ts b.more Semicolon (sym (text_with b.tree Semicolon) ∙ b.text))
  where
    unmarked : are_unmarked (spell_expr b.tree (Semicolon ∷ [])) ≡ true
    unmarked = ap are_unmarked b.text ∙ inner_unmarked ts b.more i u

    by : (b.more ≡ []) ⊎ ((own : List Token) × (b.more ≡ own ++ Semicolon ∷ []) × (spell_expr b.tree [] ≡ ts ++ own)) → Closes expressions ts rs (expression.pending m)
    by (inl none) =
        let all : ts ≡ spell_expr b.tree [] ++ Semicolon ∷ [] = sym (append-nil ts) ∙ ap (λ q. ts ++ q) (sym none) ∙ sym b.text ∙ text_with b.tree Semicolon in
        absurd (no_semicolon (spell_expr b.tree []) (ap are_inner (sym all) ∙ i))
    by (inr (own, last, is)) =
        record {
          tree = record { tree = b.tree; unmarked = is_unmarked b.tree (Semicolon ∷ []) unmarked };
          more = own ++ End ∷ [];
          others = b.others;
          text = sym (append_assoc ts own (End ∷ [])) ∙ ap (λ q. q ++ End ∷ []) (sym is) ∙ sym (text_with b.tree End);
          in_roles = b.in_roles ∙ append_assoc rs (expression.pending m) b.others;
        }

-- the roles of a whole text
whole_roles : (x : ExprTree) (us : List Token) (m : expression.State) (rs : List Role) → us ≡ spell_expr x [] → expression.run [] (us ++ Semicolon ∷ []) expression.start ≡ (Some m, rs) → roles_expr 0 x (other_token ∷ []) ≡ rs
whole_roles x us m rs is ran =
    ap (λ (p : expression.Run). p.1) (sym (expression_complete.text_runs [] x) ∙ ap (λ w. expression.run [] w expression.start) (text_with x Semicolon ∙ ap (λ q. q ++ Semicolon ∷ []) (sym is)) ∙ ran)

closes : (ts : List Token) (s : State) (rs : List Role) → Read first expression.start ts s rs → Closes expressions ts rs (pending s)
closes _ _ _ (inside ts m rs i ran on) = let b = expression_law.reads_unmarked [] ts m rs ran in inside_closes ts m rs i b.0 b.1
closes _ _ _ (at_end us m x rs i ran whole) =
    let t = whole_tree us m rs i ran (whole_done m x whole) in
    record {
      tree = t.0;
      more = [];
      others = [];
      text = append-nil (us ++ End ∷ []) ∙ ap (λ q. q ++ End ∷ []) t.1 ∙ sym (text_with t.0.tree End);
      in_roles = whole_roles t.0.tree us m rs t.1 ran ∙ sym (append-nil rs);
    }

-- ---- each role once

-- what is known of a state in the machine for projects
inside_stands : (ts : List Token) (m : expression.State) (rs : List Role) → expression.run [] ts expression.start ≡ (Some m, rs) → expression.is_done m ≡ false → Stands (in_body first m) rs
inside_stands ts m rs ran goes = record { formula_goes = refl; holds = record { before = []; us = ts; own = rs; all = refl; settled = refl; ran = ran; goes = goes } }

each : (ts : List Token) (s n : State) (rs : List Role) (t : Token) → Read first expression.start ts s rs → machine.step s t ≡ Some n → length (emitted s t) + length (pending n) ≡ suc (length (pending s))
each _ _ n _ t (inside ts m rs i ran on) g = by t g
  where
    known : Stands (in_body first m) rs
    known = inside_stands ts m rs ran (on refl)

    by : (t : Token) → machine.step (in_body first m) t ≡ Some n → length (emitted (in_body first m) t) + length (pending n) ≡ suc (length (pending (in_body first m)))
    by At k = absurd (none-some n k)
    by Semicolon k = absurd (none-some n k)
    by End k = ap (λ q. length q + length (pending n)) (end_emits m) ∙ each_once (in_body first m) n Semicolon rs known k
    by t k = each_once (in_body first m) n t rs known k
each _ _ n _ t (at_end us m x rs i ran whole) g = absurd (none-some n g)

-- ---- what waits

ended_settles : (s : State) (e : expression.State) (ts : List Token) (n : State) (rs : List Role) → Read s e ts n rs → n.mode ≡ AfterBody → Settles (expression.pending e) rs
ended_settles s e _ _ _ (inside ts m rs i ran on) outside = absurd (let no : ⊥ = cc outside in no)
ended_settles s e _ _ _ (at_end us m x rs i ran whole) outside = begun_on (expression.pending e) rs [] rs (sym (append-nil rs)) (waited_first s.features (us ++ Semicolon ∷ []) e m rs ran (whole_done m x whole))

settles : (ts : List Token) (s : State) (x : UnmarkedTree) (rs : List Role) → run_of machine ts s ≡ (Some (ended x), rs) → Settles (pending s) rs
settles ts s x rs h = by s.mode refl
  where
    by : (m : Mode) → s.mode ≡ m → Settles (pending_in m s) rs
    by InExpression here =
        let is : s ≡ in_body s s.expression = ap (λ m. record s { mode = m }) here in
        ended_settles s s.expression ts (ended x) rs (reads ts s (ended x) s.expression rs (ap (run_of machine ts) (sym is) ∙ h)) refl
    by _ here = alike rs refl

settled : (ts : List Token) (s : State) (rs : List Role) → Read first expression.start ts s rs → are_settled (rs ++ pending s) ≡ true
settled _ _ _ (inside ts m rs i ran on) = read_settled [] ts m rs ran
settled _ _ _ (at_end us m x rs i ran whole) = ap (λ q. are_settled (rs ++ q)) (sym (whole_waits m x whole)) ∙ read_settled [] (us ++ Semicolon ∷ []) m rs ran

-- ---- names

goes_by_name : (ts : List Token) (s : State) (rs : List Role) → Read first expression.start ts s rs → takes_name_for goal.Expression s.mode s ≡ true → GoesByName machine s
goes_by_name _ _ _ (inside ts m rs i ran on) takes =
    let g = expression_law.name_goes [] m some_name takes in
    record { name = some_name; next = after_expression (in_body first m) g.0 (expression.expression g.0); is = some_name_is; goes = ap (in_expression (in_body first m)) g.1 }
goes_by_name _ _ _ (at_end us m x rs i ran whole) takes = no_case takes

stops : (m : Mode) (s : State) (w : List ℕ) → takes_name_for goal.Expression m s ≡ false → step_for goal.Expression m s (Id w) ≡ None
stops AfterBody s w free = refl
stops m s w free = name_stops m s w free

-- ---- all laws together

-- the body of the one method that is in hand
abbrev pub body_in : List Method → Expr
body_in [] = e.Var 0 unnamed
body_in (m ∷ ms) = m.body

-- the machine reads expressions without marks
pub expression_laws : Reads expressions (reader_for goal.Expression One [] unnamed)
expression_laws =
    record {
      grammar = record { spells = λ x a b. sym (spell_before x.tree a b); gives = λ x a b. sym (roles_before 0 x.tree a b); settled = λ x. roles_settled 0 x.tree [] refl };
      ended = ended;
      stands_for = λ s. body_in s.methods;
      valued = λ x. refl;
      complete = complete;
      sound = λ ts s n rs ran. sound ts s n rs (reached ts s rs ran);
      closes = λ ts s rs ran. closes ts s rs (reached ts s rs ran);
      first = refl;
      last = λ x. refl;
      each = λ ts s n rs t ran. each ts s n rs t (reached ts s rs ran);
      settles = settles;
      settled = λ ts s rs ran. settled ts s rs (reached ts s rs ran);
      named = λ ts s rs ran read. goes_by_name ts s rs (reached ts s rs ran);
      unnamed = λ s w is. stops s.mode s w;
    }

-- Behind the end of the text one method is in hand, and its body is the expression that was read.
one_body : (ts : List Token) (s n : State) (rs : List Role) → Read first expression.start ts s rs → machine.step s End ≡ Some n → (m : Method) × (n.methods ≡ m ∷ []) × (body_in n.methods ≡ m.body)
one_body _ _ n _ (inside ts m rs i ran on) g =
    let k = step_end m n g in
    let x = has_expression k.0 (done_by_semicolon [] m k.0 k.1) in
    let is : with_method (in_body first m) x.0 ≡ n = same_Some (with_method (in_body first m) x.0) n (ap (λ q. Some (after_expression (in_body first m) k.0 q)) (sym x.1) ∙ ap (in_expression (in_body first m)) (sym k.1) ∙ g) in
    (method_of (in_body first m) x.0, ap (λ (y : State). y.methods) (sym is), ap (λ (y : State). body_in y.methods) (sym is))
one_body _ _ n _ (at_end us m x rs i ran whole) g = absurd (none-some n g)

pub expression_stands : (ts : List Token) (s n : State) (rs : List Role) → run_of (reader_for goal.Expression One [] unnamed) ts (start_for goal.Expression One [] unnamed) ≡ (Some s, rs) → step_for goal.Expression s.mode s End ≡ Some n → (m : Method) × (n.methods ≡ m ∷ []) × (expression_laws.stands_for n ≡ m.body)
unfolding expression_laws
expression_stands ts s n rs ran g = one_body ts s n rs (reached ts s rs ran) g
