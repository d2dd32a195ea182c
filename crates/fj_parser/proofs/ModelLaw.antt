-- The laws of the machine where it reads a feature model: a project without classes. Its texts are those of a project in which
-- neither a mark nor a class begins.
use Rattle.std.proofs.Common.{◌≡◌, ℕ, Bool, true, false, ◌&&◌, if◌then◌else◌, List, [], ◌∷◌, ◌++◌, Option, Some, None, refl, sym, ◌∙◌, ap, subst}
use Rattle.std.proofs.lemmas.Bool.{and_parts, and_from}
use Rattle.std.proofs.lemmas.Option.{none-some, same_Some}
use Rattle.std.specs.Str.{bytes_eq}
use Rattle.cfj_logic.specs.declared.formula.Formula.{Formula}
use Rattle.cfj_model.specs.FormulaGrammar.{IffTree, one_implies, iff, ImpliesTree, one_or, implies, OrTree, one_and, or, AndTree, one_unary, and, UnaryTree, negated, named, true_word, false_word, bracketed, spell_iff, spell_implies, spell_or, spell_and, spell_unary}
use Rattle.cfj_model.specs.Grammar.{ClassTree, Tree, constraint_word, features_word, spell_name, spell_format, spell_features, spell_constraint, spell_class, spell}
use Rattle.cfj_model.specs.Marks.{in_order, each_behind, spell_marks}
use Rattle.cfj_model.specs.Roles.{Role, other_token}
use Rattle.cfj_words.specs.Tokens.{Token, Id, ClassWord, CloseParen, Semicolon, Comma, Ampersand, Bar, Arrow, DoubleArrow, At, End}
use Rattle.cfj_model.specs.TreeRoles.{roles}
use Rattle.formula_reader.specs.Machine as formula
use Rattle.formula_reader.specs.declared.mode.Mode as formula_mode
use Rattle.formula_reader.specs.declared.mode.Mode.TheVariants.{Want, After, Done}
use Rattle.formula_reader.proofs.Law.{completes}
use Rattle.formula_reader.proofs.Leads.{Leads, last, more, run_leads}
use Rattle.fj_parser.specs.Goals.{step_for, reader_for}
use Rattle.cfj_model.specs.PartLanguages.{ModelTree, without_classes, models}
use Rattle.cfj_model.specs.declared.feature_model.Format.TheVariants.{One, Two}
use Rattle.cfj_model.specs.declared.feature_model.Format.{Format}
use Rattle.cfj_model.specs.declared.signed.Signed.{Signed}
use Rattle.fj_parser.specs.Laws.{Closes, GoesByName, Reads}
use Rattle.fj_machine.specs.Machine.{unnamed, State, start, after_formula, in_formula, opens_constraint, opens_format, to, step_in, step, emitted, pending, pending_in, run}
use Rattle.fj_machine.specs.Machine as machine
use Rattle.fj_machine.specs.Readers.{Reader, Run, then_run, run_of}
use Rattle.fj_parser.specs.declared.goal.Goal.TheVariants as goal
use Rattle.fj_machine.specs.declared.mode.Mode.{Mode}
use Rattle.fj_machine.specs.declared.mode.Mode.TheVariants.{Begin, AfterFormat, AfterFeatures, AfterFeature, AfterFeatureComma, Start, InConstraint, AtEnd}
use Rattle.fj_parser.proofs.Closing.{Reaches}
use Rattle.fj_parser.proofs.Complete.{ended, text_runs, formula_runs}
use Rattle.fj_parser.proofs.Law.{laws, closed_text, settles}
use Rattle.fj_parser.proofs.Readers.{on_from, run_append}
use Rattle.fj_parser.proofs.Standing.{reached}

-- the machine
abbrev models_only : Reader
models_only = reader_for goal.Model One [] unnamed

no_case : {A : Type 0} → false ≡ true → A
no_case e = absurd (let no : ⊥ = cc e in no)

-- ---- texts without classes

-- a token that begins neither a mark nor a class
abbrev is_classless : Token → Bool
is_classless At = false
is_classless ClassWord = false
is_classless _ = true

abbrev are_classless : List Token → Bool
are_classless [] = true
are_classless (t ∷ ts) = is_classless t && are_classless ts

classless_append : (a b : List Token) → are_classless a ≡ true → are_classless b ≡ true → are_classless (a ++ b) ≡ true
classless_append [] b h k = k
classless_append (t ∷ a) b h k = let p = and_parts (is_classless t) (are_classless a) h in and_from (is_classless t) (are_classless (a ++ b)) p.0 (classless_append a b p.1 k)

-- no formula has such a token
mutual
  iff_classless : (x : IffTree) (rest : List Token) → are_classless (spell_iff x rest) ≡ are_classless rest
  iff_classless (one_implies x) rest = implies_classless x rest
  iff_classless (iff x y) rest = iff_classless x (DoubleArrow ∷ spell_implies y rest) ∙ implies_classless y rest

  implies_classless : (x : ImpliesTree) (rest : List Token) → are_classless (spell_implies x rest) ≡ are_classless rest
  implies_classless (one_or x) rest = or_classless x rest
  implies_classless (implies x y) rest = or_classless x (Arrow ∷ spell_implies y rest) ∙ implies_classless y rest

  or_classless : (x : OrTree) (rest : List Token) → are_classless (spell_or x rest) ≡ are_classless rest
  or_classless (one_and x) rest = and_classless x rest
  or_classless (or x y) rest = or_classless x (Bar ∷ spell_and y rest) ∙ and_classless y rest

  and_classless : (x : AndTree) (rest : List Token) → are_classless (spell_and x rest) ≡ are_classless rest
  and_classless (one_unary x) rest = unary_classless x rest
  and_classless (and x y) rest = and_classless x (Ampersand ∷ spell_unary y rest) ∙ unary_classless y rest

  unary_classless : (x : UnaryTree) (rest : List Token) → are_classless (spell_unary x rest) ≡ are_classless rest
  unary_classless (negated x) rest = unary_classless x rest
  unary_classless (named w) rest = refl
  unary_classless true_word rest = refl
  unary_classless false_word rest = refl
  unary_classless (bracketed x) rest = iff_classless x (CloseParen ∷ rest)

-- nor has a line of the model: that for the format, that for the features, or a constraint
format_classless : (format : Format) (rest : List Token) → are_classless (spell_format format rest) ≡ are_classless rest
format_classless One rest = refl
format_classless Two rest = refl

more_classless : (fs : List (List ℕ)) (rest : List Token) → are_classless (each_behind Comma spell_name fs rest) ≡ are_classless rest
more_classless [] rest = refl
more_classless (f ∷ fs) rest = more_classless fs rest

features_classless : (fs : List (List ℕ)) (rest : List Token) → are_classless (spell_features fs rest) ≡ are_classless rest
features_classless [] rest = refl
features_classless (f ∷ fs) rest = more_classless fs (Semicolon ∷ rest)

constraints_classless : (xs : List IffTree) (rest : List Token) → are_classless (in_order spell_constraint xs rest) ≡ are_classless rest
constraints_classless [] rest = refl
constraints_classless (x ∷ xs) rest = iff_classless x (Semicolon ∷ in_order spell_constraint xs rest) ∙ constraints_classless xs rest

parts_classless : (format : Format) (fs : List (List ℕ)) (xs : List IffTree) (rest : List Token) → are_classless (spell_format format (spell_features fs (in_order spell_constraint xs rest))) ≡ are_classless rest
parts_classless format fs xs rest =
    format_classless format (spell_features fs (in_order spell_constraint xs rest)) ∙ features_classless fs (in_order spell_constraint xs rest) ∙ constraints_classless xs rest

-- but each class has
class_begins : (ms : List Signed) (rest : List Token) → are_classless (spell_marks ms (ClassWord ∷ rest)) ≡ false
class_begins [] rest = refl
class_begins (m ∷ ms) rest = refl

no_classes : (ks : List ClassTree) (rest : List Token) → are_classless (in_order spell_class ks rest) ≡ true → ks ≡ []
no_classes [] rest h = refl
no_classes (k ∷ ks) rest h = no_case (sym (class_begins k.marks _) ∙ h)

-- the text of a project without such a token is a feature model's
model_of : (x : Tree) (rest : List Token) → are_classless (spell x rest) ≡ true → (m : ModelTree) × (spell x rest ≡ spell (without_classes m) rest)
model_of x rest h =
    let none : x.classes ≡ [] = no_classes x.classes rest (sym (parts_classless x.format x.features x.constraints (in_order spell_class x.classes rest)) ∙ h) in
    (record { format = x.format; features = x.features; constraints = x.constraints }, ap (λ ks. spell_format x.format (spell_features x.features (in_order spell_constraint x.constraints (in_order spell_class ks rest)))) none)

-- ---- its runs are runs of the machine for projects

-- it goes on only as that one does
as_project : (m : Mode) (s n : State) (t : Token) → step_for goal.Model m s t ≡ Some n → step_in m s t ≡ Some n
as_project Begin s n At h = absurd (none-some n h)
as_project Begin s n ClassWord h = absurd (none-some n h)
as_project Begin s n _ h = h
as_project Start s n At h = absurd (none-some n h)
as_project Start s n ClassWord h = absurd (none-some n h)
as_project Start s n _ h = h
as_project _ s n t h = h

-- and alike where neither a mark nor a class begins
classless_step : (m : Mode) (s : State) (t : Token) → is_classless t ≡ true → step_for goal.Model m s t ≡ step_in m s t
classless_step Begin s At h = no_case h
classless_step Begin s ClassWord h = no_case h
classless_step Begin s _ h = refl
classless_step Start s At h = no_case h
classless_step Start s ClassWord h = no_case h
classless_step Start s _ h = refl
classless_step _ s t h = refl

project_run : (ts : List Token) (s n : State) (rs : List Role) → run_of models_only ts s ≡ (Some n, rs) → run ts s ≡ (Some n, rs)
unfolding run_of
project_run [] s n rs h = h
project_run (t ∷ ts) s n rs h = go (λ m qs k. project_run ts m n qs k) (step_for goal.Model s.mode s t) refl h
  where
    go : ((m : State) (qs : List Role) → run_of models_only ts m ≡ (Some n, qs) → run ts m ≡ (Some n, qs)) → (o : Option State) → step_for goal.Model s.mode s t ≡ o → then_run (run_of models_only ts) (emitted s t) o ≡ (Some n, rs) → run (t ∷ ts) s ≡ (Some n, rs)
    go ih None e k = absurd (none-some n (ap (λ (p : Run State). p.0) k))
    go ih (Some m) e k =
        let rest : List Role = (run_of models_only ts m).1 in
        ap (then_run (run ts) (emitted s t)) (as_project s.mode s m t e)
        ∙ ap (λ p. then_run (λ _. p) (emitted s t) (Some m)) (ih m rest (ap (λ (p : Run State). (p.0, rest)) k))
        ∙ ap (λ (p : Run State). (Some n, p.1)) k

classless_run : (ts : List Token) (s : State) → are_classless ts ≡ true → run_of models_only ts s ≡ run ts s
unfolding run_of
classless_run [] s h = refl
classless_run (t ∷ ts) s h =
    let p = and_parts (is_classless t) (are_classless ts) h in
    ap (then_run (run_of models_only ts) (emitted s t)) (classless_step s.mode s t p.0) ∙ go (λ m. classless_run ts m p.1) (step s t)
  where
    go : ((m : State) → run_of models_only ts m ≡ run ts m) → (o : Option State) → then_run (run_of models_only ts) (emitted s t) o ≡ then_run (run ts) (emitted s t) o
    go ih None = refl
    go ih (Some m) = ap (λ p. then_run (λ _. p) (emitted s t) (Some m)) (ih m)

-- ---- what is reached

-- the modes in which it stands
abbrev is_of_model : Mode → Bool
is_of_model Begin = true
is_of_model AfterFormat = true
is_of_model AfterFeatures = true
is_of_model AfterFeature = true
is_of_model AfterFeatureComma = true
is_of_model Start = true
is_of_model InConstraint = true
is_of_model AtEnd = true
is_of_model _ = false

-- It goes on to one of them, if at all, and by a token of such a text.
abbrev StaysIn : Token → Option State → Type 0
StaysIn t None = Unit {0}
StaysIn t (Some n) = (is_classless t ≡ true) × (is_of_model n.mode ≡ true)

stays_if : (b : Bool) (t : Token) (n : State) (o : Option State) → StaysIn t (Some n) → StaysIn t o → StaysIn t (if b then Some n else o)
stays_if true t n o h k = h
stays_if false t n o h k = k

-- a formula has no such token
formula_classless : (fs : List (List ℕ)) (f n : formula.State) (t : Token) → formula.step fs f t ≡ Some n → is_classless t ≡ true
formula_classless fs f n t h = by f.mode t h
  where
    by : (m : formula_mode.Mode) (t : Token) → formula.step_in fs f.frames m t ≡ Some n → is_classless t ≡ true
    by Want At h = absurd (none-some n h)
    by (After y) At h = absurd (none-some n h)
    by (Done y) At h = absurd (none-some n h)
    by Want ClassWord h = absurd (none-some n h)
    by (After y) ClassWord h = absurd (none-some n h)
    by (Done y) ClassWord h = absurd (none-some n h)
    by m _ h = refl

formula_stays : (s : State) (t : Token) (o : Option formula.State) → s.mode ≡ InConstraint → formula.step s.features s.formula t ≡ o → StaysIn t (in_formula s o)
formula_stays s t None here e = tt
formula_stays s t (Some f) here e = by (formula.formula_of f)
  where
    by : (q : Option Formula) → StaysIn t (Some (after_formula s f q))
    by None = (formula_classless s.features s.formula f t e, ap is_of_model here)
    by (Some x) = (formula_classless s.features s.formula f t e, refl)

stays : (m : Mode) (s : State) (t : Token) → is_of_model m ≡ true → StaysIn t (step_for goal.Model m (record s { mode = m }) t)
stays Begin s (Id w) h =
    stays_if (opens_format s w) (Id w) (record s { mode = AfterFormat }) (if bytes_eq w features_word then to AfterFeatures s else opens_constraint s w) (refl, refl)
    (stays_if (bytes_eq w features_word) (Id w) (record s { mode = AfterFeatures }) (opens_constraint s w) (refl, refl) (stays_if (bytes_eq w constraint_word) (Id w) (record s { mode = InConstraint }) None (refl, refl) tt))
stays Begin s End h = (refl, refl)
stays Begin s _ h = tt
stays AfterFormat s Semicolon h = (refl, refl)
stays AfterFormat s _ h = tt
stays AfterFeatures s (Id w) h = (refl, refl)
stays AfterFeatures s _ h = tt
stays AfterFeature s Comma h = (refl, refl)
stays AfterFeature s Semicolon h = (refl, refl)
stays AfterFeature s _ h = tt
stays AfterFeatureComma s (Id w) h = (refl, refl)
stays AfterFeatureComma s _ h = tt
stays Start s (Id w) h = stays_if (bytes_eq w constraint_word) (Id w) (record s { mode = InConstraint }) None (refl, refl) tt
stays Start s End h = (refl, refl)
stays Start s _ h = tt
stays InConstraint s t h = formula_stays (record s { mode = InConstraint }) t (formula.step s.features s.formula t) refl refl
stays AtEnd s t h = tt
stays _ s t h = no_case h

-- tokens that were read are those of such a text
read_classless : (ts : List Token) (s n : State) (rs : List Role) → is_of_model s.mode ≡ true → run_of models_only ts s ≡ (Some n, rs) → (are_classless ts ≡ true) × (is_of_model n.mode ≡ true)
unfolding run_of
read_classless [] s n rs h e = (refl, ap (λ (x : State). is_of_model x.mode) (sym (same_Some s n (ap (λ (p : Run State). p.0) e))) ∙ h)
read_classless (t ∷ ts) s n rs h e = go (λ m k g. read_classless ts m n (run_of models_only ts m).1 k g) (step_for goal.Model s.mode s t) (stays s.mode s t h) e
  where
    go : ((m : State) → is_of_model m.mode ≡ true → run_of models_only ts m ≡ (Some n, (run_of models_only ts m).1) → (are_classless ts ≡ true) × (is_of_model n.mode ≡ true))
        → (o : Option State) → StaysIn t o → then_run (run_of models_only ts) (emitted s t) o ≡ (Some n, rs) → (are_classless (t ∷ ts) ≡ true) × (is_of_model n.mode ≡ true)
    go ih None k g = absurd (none-some n (ap (λ (p : Run State). p.0) g))
    go ih (Some m) k g =
        let on = ih m k.1 (ap (λ (p : Run State). (p.0, (run_of models_only ts m).1)) g) in
        (and_from (is_classless t) (are_classless ts) k.0 on.0, on.1)

-- ---- the laws

complete : (x : ModelTree) → run_of models_only (spell (without_classes x) (End ∷ [])) start ≡ (Some (ended (without_classes x)), roles (without_classes x) (other_token ∷ []))
complete x = classless_run (spell (without_classes x) (End ∷ [])) start (parts_classless x.format x.features x.constraints (End ∷ [])) ∙ text_runs (without_classes x)

sound : (ts : List Token) (s n : State) (rs : List Role) → run_of models_only ts start ≡ (Some s, rs) → step_for goal.Model s.mode s End ≡ Some n → (x : ModelTree) × (ts ≡ spell (without_classes x) [])
sound ts s n rs ran ends =
    let t = laws.sound ts s n rs (project_run ts start s rs ran) (as_project s.mode s n End ends) in
    let x = model_of t.0 [] (ap are_classless (sym t.1) ∙ (read_classless ts start s rs refl ran).0) in
    (x.0, t.1 ∙ x.1)

-- tokens of such a text that lead from a state to its end
record Ending (s : State) : Type 0 where
  more : List Token
  classless : are_classless more ≡ true
  reaches : Reaches AtEnd (run more s).0

-- a formula's tokens are such
leads_classless : (fs : List (List ℕ)) (ts : List Token) (f : formula.State) (rs : List Role) (y : Formula) → Leads fs ts f rs y → are_classless ts ≡ true
leads_classless fs _ f _ y (last _ _ e) = refl
leads_classless fs _ f _ y (more t ts _ n rs _ e goes l) = and_from (is_classless t) (are_classless ts) (formula_classless fs f n t e) (leads_classless fs ts n rs y l)

-- a formula that isn't whole is completed
formula_ending : (s : State) → formula.is_done s.formula ≡ false → Ending (record s { mode = InConstraint })
unfolding run_of
formula_ending s undone =
    let c = completes s.features s.formula undone in
    let l = run_leads s.features c.more s.formula c.others c.value undone c.goes in
    record {
      more = c.more ++ End ∷ [];
      classless = classless_append c.more (End ∷ []) (leads_classless s.features c.more s.formula c.others c.value l) refl;
      reaches = subst (λ (p : Run State). Reaches AtEnd p.0) (sym (formula_runs s c.more s.formula c.others c.value l (End ∷ []))) refl;
    }

ending : (m : Mode) (s : State) → is_of_model m ≡ true → formula.is_done s.formula ≡ false → Ending (record s { mode = m })
unfolding run_of
ending Begin s h undone = record { more = End ∷ []; classless = refl; reaches = refl }
ending AfterFormat s h undone = record { more = Semicolon ∷ (End ∷ []); classless = refl; reaches = refl }
ending AfterFeatures s h undone = record { more = Id [] ∷ (Semicolon ∷ (End ∷ [])); classless = refl; reaches = refl }
ending AfterFeature s h undone = record { more = Semicolon ∷ (End ∷ []); classless = refl; reaches = refl }
ending AfterFeatureComma s h undone = record { more = Id [] ∷ (Semicolon ∷ (End ∷ [])); classless = refl; reaches = refl }
ending Start s h undone = record { more = End ∷ []; classless = refl; reaches = refl }
ending InConstraint s h undone = formula_ending s undone
ending AtEnd s h undone = record { more = []; classless = refl; reaches = refl }
ending _ s h undone = no_case h

-- no role waits
none_waits : (m : Mode) (s : State) → is_of_model m ≡ true → pending_in m s ≡ []
none_waits Begin s h = refl
none_waits AfterFormat s h = refl
none_waits AfterFeatures s h = refl
none_waits AfterFeature s h = refl
none_waits AfterFeatureComma s h = refl
none_waits Start s h = refl
none_waits InConstraint s h = refl
none_waits AtEnd s h = refl
none_waits _ s h = no_case h

closes : (ts : List Token) (s : State) (rs : List Role) → run_of models_only ts start ≡ (Some s, rs) → Closes models ts rs (pending s)
closes ts s rs ran =
    let read = read_classless ts start s rs refl ran in
    let e : Ending s = ending s.mode s read.1 (reached ts s rs (project_run ts start s rs ran)).formula_goes in
    let all : run (ts ++ e.more) start ≡ ((run e.more s).0, rs ++ (run e.more s).1) = run_append machine.reader ts e.more start ∙ ap (on_from machine.reader e.more) (project_run ts start s rs ran) in
    let t = closed_text (ts ++ e.more) (subst (λ (p : Run State). Reaches AtEnd p.0) (sym all) e.reaches) in
    let x = model_of t.0 (End ∷ []) (ap are_classless (sym t.1) ∙ classless_append ts e.more read.0 e.classless) in
    record {
      tree = x.0;
      more = e.more;
      others = (run e.more s).1;
      text = t.1 ∙ x.1;
      in_roles = ap (λ (p : Run State). p.1) (sym (text_runs (without_classes x.0)) ∙ ap (λ w. run w start) (sym (t.1 ∙ x.1)) ∙ all) ∙ ap (λ q. rs ++ (q ++ (run e.more s).1)) (sym (none_waits s.mode s read.1));
    }

goes_by_name : (s : State) → GoesByName machine.reader s → GoesByName models_only s
goes_by_name s g = record { name = g.name; next = g.next; is = g.is; goes = classless_step s.mode s (Id g.name) refl ∙ g.goes }

-- the machine reads feature models
pub model_laws : Reads models (reader_for goal.Model One [] unnamed)
model_laws =
    record {
      grammar = record { spells = λ x. laws.grammar.spells (without_classes x); gives = λ x. laws.grammar.gives (without_classes x); settled = λ x. laws.grammar.settled (without_classes x) };
      ended = λ x. ended (without_classes x);
      stands_for = λ s. (machine.stands_for s).model;
      valued = λ x. refl;
      complete = complete;
      sound = sound;
      closes = closes;
      first = refl;
      last = λ x. refl;
      each = λ ts s n rs t ran goes. laws.each ts s n rs t (project_run ts start s rs ran) (as_project s.mode s n t goes);
      settles = λ ts s x rs ran. settles ts s (without_classes x) rs (project_run ts s (ended (without_classes x)) rs ran);
      settled = λ ts s rs ran. laws.settled ts s rs (project_run ts start s rs ran);
      named = λ ts s rs ran read takes. goes_by_name s (laws.named ts s rs (project_run ts start s rs ran) read takes);
      unnamed = λ s w is free. classless_step s.mode s (Id w) refl ∙ laws.unnamed s w is free;
    }

-- the model that was read
pub model_stands : (s : State) → model_laws.stands_for s ≡ record { format = s.format; features = s.features; constraints = s.constraints }
unfolding model_laws
model_stands s = refl
