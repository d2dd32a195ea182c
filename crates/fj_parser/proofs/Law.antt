-- The laws of the machine: it reads the texts of projects and no others, and each state can be completed.
use Rattle.std.proofs.Common.{◌≡◌, ℕ, Bool, true, false, List, [], ◌∷◌, ◌++◌, Option, Some, None, refl, sym, ◌∙◌, ap, subst, append_assoc}
use Rattle.std.proofs.lemmas.Option.{none-some, same_Some}
use Rattle.cfj_model.specs.Languages.{projects}
use Rattle.cfj_model.specs.FormulaGrammar.{IffTree}
use Rattle.cfj_model.specs.Grammar.{ClassTree, Tree, spell}
use Rattle.cfj_model.specs.Roles.{Role}
use Rattle.cfj_words.specs.Tokens.{Token, End}
use Rattle.formula_reader.specs.Machine as formula
use Rattle.formula_reader.specs.declared.mode.Mode as formula_mode
use Rattle.formula_reader.specs.declared.mode.Mode.TheVariants.{Want, After, Done}
use Rattle.expression_reader.specs.Machine as expression
use Rattle.expression_reader.specs.declared.mode.Mode as expression_mode
use Rattle.expression_reader.specs.declared.mode.Mode.TheVariants as expression_variant
use Rattle.expression_reader.proofs.Finishing.{Begun, as_waited, as_a_cast, waited_first}
use Rattle.fj_parser.specs.Laws.{Settles, alike, as_cast, Closes, Reads}
use Rattle.fj_machine.specs.declared.mode.Owner.TheVariants as owner
use Rattle.fj_machine.specs.declared.mode.Node.TheVariants as node
use Rattle.fj_machine.specs.declared.mode.Mode.{Mode}
use Rattle.fj_machine.specs.declared.mode.Mode.TheVariants.{Begin, Start, InConstraint, BetweenClasses, AfterMark, AfterParams, InExpression, AtEnd}
use Rattle.fj_machine.specs.Machine.{State, start, with_method, in_formula, in_expression, step_in, step, pending, pending_in, reader, run, stands_for}
use Rattle.fj_machine.specs.Readers.{Run, with_roles}
use Rattle.fj_parser.proofs.Closing.{Reaches, Ending, ending}
use Rattle.fj_parser.proofs.Complete.{mode_behind, classes_run, ended, text_runs}
use Rattle.fj_parser.proofs.Expressions.{in_body, expression_runs}
use Rattle.fj_parser.proofs.ListsSound.{is_whole_in, is_whole}
use Rattle.fj_parser.proofs.MethodsSound.{ReadExpression, expression_read, read_goes, whole_done}
use Rattle.fj_parser.proofs.Naming.{goes_by_name, name_stops}
use Rattle.fj_parser.proofs.Readers.{on_from, run_append}
use Rattle.fj_parser.proofs.Sound.{Tail, no_end, an_end, text_of}
use Rattle.fj_parser.proofs.Spelled.{grammar_is_plain}
use Rattle.fj_parser.proofs.Standing.{reached, waiting_settled, each_once}

-- ---- what is read to the end is a text

-- a run that reaches a mode in which a text may stop
pub reach_stops : (m : Mode) (o : Option State) → is_whole_in m ≡ true → Reaches m o → is_whole o ≡ true
reach_stops m None e h = absurd h
reach_stops m (Some n) e h = ap is_whole_in h ∙ e

-- behind the classes the end is still to be read
not_at_end : {A : Type 0} (fs : List (List ℕ)) (xs : List IffTree) (ks : List ClassTree) → mode_behind fs xs ks ≡ AtEnd → A
not_at_end [] [] [] e = absurd (let no : ⊥ = cc e in no)
not_at_end (f ∷ fs) xs [] e = absurd (let no : ⊥ = cc e in no)
not_at_end [] (x ∷ xs) [] e = absurd (let no : ⊥ = cc e in no)
not_at_end fs xs (k ∷ ks) e = absurd (let no : ⊥ = cc e in no)

-- tokens that lead to the end
pub closed_text : (ts : List Token) → Reaches AtEnd (run ts start).0 → (x : Tree) × (ts ≡ spell x (End ∷ []))
closed_text ts h = let t = text_of ts (reach_stops AtEnd (run ts start).0 refl h) in go t.tree t.rest t.tail t.spelled
  where
    go : (x : Tree) (rest : List Token) → Tail rest → ts ≡ spell x rest → (x : Tree) × (ts ≡ spell x (End ∷ []))
    go x _ an_end is = (x, is)
    go x _ no_end is =
        let e : mode_behind x.features x.constraints x.classes ≡ AtEnd = subst (λ (p : Run State). Reaches AtEnd p.0) (ap (λ w. run w start) is ∙ classes_run x) h in
        not_at_end x.features x.constraints x.classes e

-- a text that is read so far may end in this mode
abbrev pub may_end : Mode → Bool
may_end Begin = true
may_end Start = true
may_end BetweenClasses = true
may_end _ = false

-- and may stop there
pub end_stops : (m : Mode) → may_end m ≡ true → is_whole_in m ≡ true
end_stops Begin e = refl
end_stops Start e = refl
end_stops BetweenClasses e = refl
end_stops _ e = absurd (let no : ⊥ = cc e in no)

-- tokens that lead to where the end may follow
open_text : (ts : List Token) (m : Mode) → may_end m ≡ true → Reaches m (run ts start).0 → (x : Tree) × (ts ≡ spell x [])
open_text ts m e h = let t = text_of ts (reach_stops m (run ts start).0 (end_stops m e) h) in go t.tree t.rest t.tail t.spelled
  where
    go : (x : Tree) (rest : List Token) → Tail rest → ts ≡ spell x rest → (x : Tree) × (ts ≡ spell x [])
    go x _ no_end is = (x, is)
    go x _ an_end is =
        let at_end : AtEnd ≡ m = subst (λ (p : Run State). Reaches m p.0) (ap (λ w. run w start) is ∙ text_runs x) h in
        let no : false ≡ true = ap may_end at_end ∙ e in
        absurd (let false_is_true : ⊥ = cc no in false_is_true)

-- a formula takes no end
formula_refuses_end : (fs : List (List ℕ)) (f : formula.State) → formula.step fs f End ≡ None
formula_refuses_end fs f = go f.mode
  where
    go : (m : formula_mode.Mode) → formula.step_in fs f.frames m End ≡ None
    go Want = refl
    go (After y) = refl
    go (Done y) = refl

-- and an expression none
expression_refuses_end : (fs : List (List ℕ)) (e : expression.State) → expression.step fs e End ≡ None
expression_refuses_end fs e = go e.mode
  where
    go : (m : expression_mode.Mode) → expression.step_in fs m e.frames e.slot End ≡ None
    go expression_variant.Begin = refl
    go _ = refl

no_end_in_formula : (s n : State) → step_in InConstraint s End ≡ Some n → ⊥
no_end_in_formula s n h = none-some n (ap (in_formula s) (sym (formula_refuses_end s.features s.formula)) ∙ h)

no_end_in_expression : (s n : State) → step_in InExpression s End ≡ Some n → ⊥
no_end_in_expression s n h = none-some n (ap (in_expression s) (sym (expression_refuses_end s.features s.expression)) ∙ h)

-- only there does the machine take the end
pub end_at_open : (m : Mode) (s n : State) → step_in m s End ≡ Some n → may_end m ≡ true
end_at_open Begin s n h = refl
end_at_open Start s n h = refl
end_at_open BetweenClasses s n h = refl
end_at_open InConstraint s n h = absurd (no_end_in_formula s n h)
end_at_open InExpression s n h = absurd (no_end_in_expression s n h)
end_at_open (AfterMark node.Class) s n h = absurd (let no : ⊥ = cc h in no)
end_at_open (AfterParams owner.Constructor) s n h = absurd (let no : ⊥ = cc h in no)
end_at_open (AfterParams owner.Method) s n h = absurd (let no : ⊥ = cc h in no)
end_at_open _ s n h = absurd (let no : ⊥ = cc h in no)

-- and the end behind it is the text's
pub end_ends : (m : Mode) (s n : State) → step_in m s End ≡ Some n → n.mode ≡ AtEnd
end_ends m s n h = by m (end_at_open m s n h) h
  where
    is_end : Some (record s { mode = AtEnd }) ≡ Some n → n.mode ≡ AtEnd
    is_end h = ap (λ (x : State). x.mode) (sym (same_Some (record s { mode = AtEnd }) n h))

    by : (m : Mode) → may_end m ≡ true → step_in m s End ≡ Some n → n.mode ≡ AtEnd
    by Begin e h = is_end h
    by Start e h = is_end h
    by BetweenClasses e h = is_end h
    by _ e h = absurd (let no : ⊥ = cc e in no)

-- where the end may follow, the tokens so far are the text of a tree
sound : (front : List Token) (s n : State) (rs : List Role) → run front start ≡ (Some s, rs) → step s End ≡ Some n → (x : Tree) × (front ≡ spell x [])
sound front s n rs h ends = open_text front s.mode (end_at_open s.mode s n ends) (subst (λ (p : Run State). Reaches s.mode p.0) (sym h) refl)

-- ---- what is read begins a text

-- it can be completed to one, in the roles that were told, and those that wait
closes_front : (front : List Token) (s : State) (rs : List Role) → run front start ≡ (Some s, rs) → Closes projects front rs (pending s)
closes_front front s rs h =
    let k = reached front s rs h in
    let e : Ending s = ending s.mode s rs k.formula_goes k.holds in
    let all : run (front ++ e.more) start ≡ ((run e.more s).0, rs ++ (run e.more s).1) = run_append reader front e.more start ∙ ap (on_from reader e.more) h in
    let t = closed_text (front ++ e.more) (subst (λ (p : Run State). Reaches AtEnd p.0) (sym all) e.reaches) in
    record {
      tree = t.0;
      more = e.more;
      others = e.others;
      text = t.1;
      in_roles = ap (λ (p : Run State). p.1) (sym (text_runs t.0) ∙ ap (λ w. run w start) (sym t.1) ∙ all) ∙ ap (λ (q : List Role). rs ++ q) e.begins;
    }

-- ---- what waits is settled first

-- more roles behind those that begin so
pub begun_on : (waiting own others rs : List Role) → rs ≡ own ++ others → Begun waiting own → Settles waiting rs
begun_on waiting own others rs all (as_waited more e) = alike (more ++ others) (all ∙ ap (λ q. q ++ others) e ∙ append_assoc waiting more others)
begun_on waiting own others rs all (as_a_cast d more e some few) = as_cast d (more ++ others) (all ∙ ap (λ q. q ++ others) e) some few

-- in a method's body
body_settles : (ts : List Token) (s n : State) (rs : List Role) → is_whole_in n.mode ≡ true → run ts (in_body s s.expression) ≡ (Some n, rs) → Settles (expression.pending s.expression) rs
body_settles ts s n rs e h =
    let stops : is_whole (run ts (in_body s s.expression)).0 ≡ true = ap (λ (p : Run State). is_whole p.0) h ∙ e in
    let r : ReadExpression ts s s.expression = expression_read ts s s.expression stops in
    let own : List Role = (expression.run s.features r.us s.expression).1 in
    let ran : expression.run s.features r.us s.expression ≡ (Some r.last, own) = ap (λ (o : Option expression.State). (o, own)) r.ran in
    let whole : run (r.us ++ r.rest) (in_body s s.expression) ≡ with_roles own (run r.rest (with_method s r.value)) = expression_runs s s.expression r.last r.us own r.value (read_goes ts s s.expression stops) ran r.whole r.rest in
    begun_on (expression.pending s.expression) own (run r.rest (with_method s r.value)).1 rs (ap (λ (p : Run State). p.1) (sym h ∙ ap (λ w. run w (in_body s s.expression)) r.split ∙ whole)) (waited_first s.features r.us s.expression r.last own ran (whole_done r.last r.value r.whole))

-- by a run to where a text may stop
pub run_settles : (ts : List Token) (s n : State) (rs : List Role) → is_whole_in n.mode ≡ true → run ts s ≡ (Some n, rs) → Settles (pending s) rs
run_settles ts s n rs e h = by s.mode refl
  where
    by : (m : Mode) → s.mode ≡ m → Settles (pending_in m s) rs
    by InExpression here =
        let same : s ≡ in_body s s.expression = ap (λ m. record s { mode = m }) here in
        body_settles ts s n rs e (ap (run ts) (sym same) ∙ h)
    by _ here = alike rs refl

pub settles : (ts : List Token) (s : State) (x : Tree) (rs : List Role) → run ts s ≡ (Some (ended x), rs) → Settles (pending s) rs
settles ts s x rs h = run_settles ts s (ended x) rs refl h

-- ---- all laws together

-- the machine reads the texts of projects
pub laws : Reads projects reader
laws =
    record {
      grammar = grammar_is_plain;
      ended = ended;
      stands_for = stands_for;
      valued = λ x. refl;
      complete = text_runs;
      sound = sound;
      closes = closes_front;
      first = refl;
      last = λ x. refl;
      each = λ ts s n rs t ran goes. each_once s n t rs (reached ts s rs ran) goes;
      settles = settles;
      settled = λ ts s rs ran. waiting_settled s.mode s rs (reached ts s rs ran).holds;
      named = goes_by_name;
      unnamed = λ s w is free. name_stops s.mode s w free;
    }

pub stands : (s : State) → laws.stands_for s ≡ stands_for s
unfolding laws
stands s = refl
