-- What the machine reads to its end is the text of a tree: one reader for each production, which finds the tree.
use Rattle.std.proofs.Common.{◌≡◌, ℕ, zero, suc, ◌<◌, Bool, true, false, ◌&&◌, if◌then◌else◌, List, [], ◌∷◌, ◌++◌, length, Option, Some, None, refl, sym, ◌∙◌, ap, subst, arith}
use Rattle.std.proofs.lemmas.Option.{same_Some}
use Rattle.std.proofs.lemmas.Slice.Eq.{bytes_eq-Decides}
use Rattle.std.specs.Str.{bytes_eq}
use Rattle.cfj_logic.specs.Sides.{Sides}
use Rattle.cfj_model.specs.Coloring.{no_colors}
use Rattle.cfj_model.specs.declared.class.Class.{Class}
use Rattle.cfj_model.specs.declared.feature_model.Format.{Format}
use Rattle.cfj_model.specs.declared.feature_model.Format.TheVariants.{One, Two}
use Rattle.cfj_model.specs.declared.signed.Signed.{Signed}
use Rattle.cfj_words.specs.Tokens.{Token, Id, ClassWord, ExtendsWord, OpenBrace, Semicolon, Comma, At, Bang, End}
use Rattle.cfj_logic.specs.declared.formula.Formula.{Formula}
use Rattle.cfj_model.specs.FormulaGrammar.{IffTree, spell_iff}
use Rattle.cfj_model.specs.Grammar.{Declared, MethodTree, ClassTree, Tree, constraint_word, features_word, format_word, spell_name, spell_features, spell_field, spell_ctor, spell_constraint, spell_class, spell, value_class}
use Rattle.cfj_model.specs.Marks.{in_order, each_behind, spell_mark, spell_marks, marked, colored, colors_of}
use Rattle.cfj_model.specs.Roles.{Role, format_line, used_name, other_token}
use Rattle.fj_machine.specs.declared.mode.Node.TheVariants as node
use Rattle.fj_machine.specs.declared.mode.Mode.TheVariants.{AfterFormat, AfterFeatures, AfterFeature, Start, InConstraint, AfterMark, AfterClass}
use Rattle.formula_reader.specs.Machine as formula
use Rattle.formula_reader.specs.declared.mode.Mode as formula_mode
use Rattle.formula_reader.specs.declared.mode.Mode.TheVariants.{Want, After, Done}
use Rattle.formula_reader.proofs.Law.{only_semicolon_ends, semicolon_ends}
use Rattle.formula_reader.proofs.Law as formula_law
use Rattle.formula_reader.proofs.Leads.{Leads, last, more, leads_run}
use Rattle.fj_machine.specs.Machine.{State, behind, before_classes, start, after_formula, in_formula, opens_constraint, to, run}
use Rattle.fj_machine.specs.Readers.{Run, then_run, run_of}
use Rattle.fj_parser.proofs.Complete.{formula_text, start_in}
use Rattle.fj_parser.proofs.ListsSound.{sign_longer, Accepts, Stops, never, passed, Read}
use Rattle.fj_parser.proofs.MembersSound.{CtorTree, class_with, members_text, behind_members, ReadMembers, members_read}
use Rattle.fj_parser.proofs.MethodsSound.{methods_text, Methods, methods_read}

-- ---- class

-- what stands in a class behind its first word
record Words : Type 0 where
  name : List ℕ
  parent : List ℕ
  fields : List Declared
  ctor : CtorTree
  methods : List MethodTree

abbrev words_class : Words → ClassTree
words_class w = class_with w.name w.parent w.fields w.ctor w.methods

-- the text of a class behind its first word
abbrev class_words : ClassTree → List Token → List Token
class_words c rest = Id c.name ∷ (ExtendsWord ∷ (Id c.parent ∷ (OpenBrace ∷ in_order spell_field c.fields (spell_ctor c (methods_text c.methods rest)))))

-- what it is read as, with these colours in hand
abbrev ReadWords : List Token → Sides → Format → List (List ℕ) → List Formula → List Class → Type 0
ReadWords ts colors format fs gs cs = Read Words (λ w. class_words (words_class w)) (λ w. behind format fs gs (cs ++ record (value_class fs (words_class w)) { colors = colors } ∷ [])) ts

-- a class behind the brace that opens it
abbrev opened_class : List ℕ → Sides → Format → List (List ℕ) → List Formula → List Class → State
opened_class p colors format fs gs cs = record (behind format fs gs cs) { class_colors = colors; parent = p }

-- a class of its parts
class_parts : (w p : List ℕ) (ts : List Token) (colors : Sides) (format : Format) (fs : List (List ℕ)) (gs : List Formula) (cs : List Class) (m : ReadMembers ts w (opened_class p colors format fs gs cs)) → Methods m.rest (behind_members w (opened_class p colors format fs gs cs) m.part) → ReadWords (Id w ∷ (ExtendsWord ∷ (Id p ∷ (OpenBrace ∷ ts)))) colors format fs gs cs
class_parts w p ts colors format fs gs cs m e =
    record {
      part = record { name = w; parent = p; fields = m.part.fields; ctor = m.part.ctor; methods = e.part };
      rest = e.rest;
      spelled = ap (λ x. Id w ∷ (ExtendsWord ∷ (Id p ∷ (OpenBrace ∷ x)))) (m.spelled ∙ ap (members_text w m.part) e.spelled);
      shorter = omega (arith, m.shorter, e.shorter);
      goes = e.goes;
    }

-- a class behind its first word
class_words_read : (k : ℕ) (ts : List Token) → length ts < k → (colors : Sides) (format : Format) (fs : List (List ℕ)) (gs : List Formula) (cs : List Class) → Accepts ts (record (behind format fs gs cs) { mode = AfterClass; class_colors = colors }) → ReadWords ts colors format fs gs cs
unfolding run_of
class_words_read k (Id w ∷ (ExtendsWord ∷ (Id p ∷ (OpenBrace ∷ ts)))) le colors format fs gs cs h =
    let n : State = opened_class p colors format fs gs cs in
    let m = members_read k ts (omega arith) w n h in
    class_parts w p ts colors format fs gs cs m (methods_read k m.rest (omega (arith, m.shorter)) (behind_members w n m.part) m.goes)
class_words_read k _ le colors format fs gs cs h = never h

-- the text of a class's marks and its first word
abbrev marks_text : List Signed → List Token → List Token
marks_text ms rest = spell_marks ms (ClassWord ∷ rest)

-- what it is read as, behind these colours
abbrev ReadMarks : List Token → Sides → Format → List (List ℕ) → List Formula → List Class → Type 0
ReadMarks ts colors format fs gs cs = Read (List Signed) marks_text (λ ms. record (behind format fs gs cs) { mode = AfterClass; class_colors = colored fs colors ms }) ts

-- one more mark of a class
mark_class : (m : Signed) (ts : List Token) (colors : Sides) (format : Format) (fs : List (List ℕ)) (gs : List Formula) (cs : List Class) → ReadMarks ts (marked fs colors m) format fs gs cs → ReadMarks (spell_mark m ts) colors format fs gs cs
mark_class m ts colors format fs gs cs r = record { part = m ∷ r.part; rest = r.rest; spelled = ap (spell_mark m) r.spelled; shorter = omega (arith, r.shorter, sign_longer m.off m.name ts); goes = r.goes }

-- a class's marks behind others
marked_class_read : (ts : List Token) (colors : Sides) (format : Format) (fs : List (List ℕ)) (gs : List Formula) (cs : List Class) → Accepts ts (record (behind format fs gs cs) { mode = AfterMark node.Class; colors = colors }) → ReadMarks ts colors format fs gs cs
unfolding run_of
marked_class_read (At ∷ (Id word ∷ ts)) colors format fs gs cs h =
    let m : Signed = record { off = false; name = word } in
    mark_class m ts colors format fs gs cs (marked_class_read ts (marked fs colors m) format fs gs cs h)
marked_class_read (At ∷ (Bang ∷ (Id word ∷ ts))) colors format fs gs cs h =
    let m : Signed = record { off = true; name = word } in
    mark_class m ts colors format fs gs cs (marked_class_read ts (marked fs colors m) format fs gs cs h)
marked_class_read (ClassWord ∷ ts) colors format fs gs cs h = record { part = []; rest = ts; spelled = refl; shorter = omega arith; goes = h }
marked_class_read _ colors format fs gs cs h = never h

-- a class's marks behind their first sign
class_marks_read : (ts : List Token) (format : Format) (fs : List (List ℕ)) (gs : List Formula) (cs : List Class) → Accepts (At ∷ ts) (behind format fs gs cs) → ReadMarks (At ∷ ts) no_colors format fs gs cs
unfolding run_of
class_marks_read (Id word ∷ ts) format fs gs cs h =
    let m : Signed = record { off = false; name = word } in
    mark_class m ts no_colors format fs gs cs (marked_class_read ts (marked fs no_colors m) format fs gs cs h)
class_marks_read (Bang ∷ (Id word ∷ ts)) format fs gs cs h =
    let m : Signed = record { off = true; name = word } in
    mark_class m ts no_colors format fs gs cs (marked_class_read ts (marked fs no_colors m) format fs gs cs h)
class_marks_read _ format fs gs cs h = never h

-- what a class is read as
abbrev ReadClass : List Token → Format → List (List ℕ) → List Formula → List Class → Type 0
ReadClass ts format fs gs cs = Read ClassTree spell_class (λ k. behind format fs gs (cs ++ value_class fs k ∷ [])) ts

-- a class of its marks and its words
marked_class : (ts : List Token) (format : Format) (fs : List (List ℕ)) (gs : List Formula) (cs : List Class) (m : ReadMarks ts no_colors format fs gs cs) → ReadWords m.rest (colors_of fs m.part) format fs gs cs → ReadClass ts format fs gs cs
marked_class ts format fs gs cs m c =
    record {
      part = record (words_class c.part) { marks = m.part };
      rest = c.rest;
      spelled = m.spelled ∙ ap (marks_text m.part) c.spelled;
      shorter = omega (arith, m.shorter, c.shorter);
      goes = c.goes;
    }

-- class
class_read : (k : ℕ) (ts : List Token) → length ts < k → (format : Format) (fs : List (List ℕ)) (gs : List Formula) (cs : List Class) → ReadMarks ts no_colors format fs gs cs → ReadClass ts format fs gs cs
class_read k ts le format fs gs cs m = marked_class ts format fs gs cs m (class_words_read k m.rest (omega (arith, m.shorter)) (colors_of fs m.part) format fs gs cs m.goes)

-- ---- {class}

-- what may stand behind the classes
pub data Tail : List Token → Type 0 where
  no_end : Tail []
  an_end : Tail (End ∷ [])

pub record Classes (ts : List Token) : Type 0 where
  pub classes : List ClassTree
  pub rest : List Token
  pub spelled : ts ≡ in_order spell_class classes rest
  pub tail : Tail rest

-- a class and more
class_and : (ts : List Token) (format : Format) (fs : List (List ℕ)) (gs : List Formula) (cs : List Class) (c : ReadClass ts format fs gs cs) → Classes c.rest → Classes ts
class_and ts format fs gs cs c t = record { classes = c.part ∷ t.classes; rest = t.rest; spelled = c.spelled ∙ ap (spell_class c.part) t.spelled; tail = t.tail }

-- {class}, and the end or none
pub classes_read : (k : ℕ) (ts : List Token) → length ts < k → (format : Format) (fs : List (List ℕ)) (gs : List Formula) (cs : List Class) → Accepts ts (behind format fs gs cs) → Classes ts
unfolding run_of
classes_read zero ts le format fs gs cs h = absurd (omega arith)
classes_read (suc k) [] le format fs gs cs h = record { classes = []; rest = []; spelled = refl; tail = no_end }
classes_read (suc k) (End ∷ []) le format fs gs cs h = record { classes = []; rest = End ∷ []; spelled = refl; tail = an_end }
classes_read (suc k) (At ∷ ts) le format fs gs cs h =
    let c = class_read (suc k) (At ∷ ts) le format fs gs cs (class_marks_read ts format fs gs cs h) in
    class_and (At ∷ ts) format fs gs cs c (classes_read k c.rest (omega (arith, c.shorter)) format fs gs (cs ++ value_class fs c.part ∷ []) c.goes)
classes_read (suc k) (ClassWord ∷ ts) le format fs gs cs h =
    let c = class_read (suc k) (ClassWord ∷ ts) le format fs gs cs (record { part = []; rest = ts; spelled = refl; shorter = omega arith; goes = h }) in
    class_and (ClassWord ∷ ts) format fs gs cs c (classes_read k c.rest (omega (arith, c.shorter)) format fs gs (cs ++ value_class fs c.part ∷ []) c.goes)
classes_read (suc k) _ le format fs gs cs h = never h

-- ---- constraints

-- Some of the tokens are a formula's, with its semicolon; what follows is accepted behind it.
record ReadFormula (ts : List Token) (s : State) (f : formula.State) : Type 0 where
  us : List Token
  rest : List Token
  rs : List Role
  value : Formula
  split : ts ≡ us ++ rest
  shorter : length rest < length ts
  leads : Leads s.features us f rs value
  goes : Accepts rest (record s { mode = Start; constraints = s.constraints ++ value ∷ []; formula = formula.start })

-- a formula with no value isn't whole, and one with a value is
pub none_undone : (f : formula.State) → formula.formula_of f ≡ None → formula.is_done f ≡ false
none_undone f e = go f.mode e
  where
    go : (m : formula_mode.Mode) → formula.formula_in m ≡ None → formula.is_done_in m ≡ false
    go Want e = refl
    go (After y) e = refl
    go (Done y) e = absurd (let no : ⊥ = cc e in no)

some_done : (f : formula.State) (x : Formula) → formula.formula_of f ≡ Some x → formula.is_done f ≡ true
some_done f x e = go f.mode e
  where
    go : (m : formula_mode.Mode) → formula.formula_in m ≡ Some x → formula.is_done_in m ≡ true
    go Want e = absurd (let no : ⊥ = cc e in no)
    go (After y) e = absurd (let no : ⊥ = cc e in no)
    go (Done y) e = refl

-- the semicolon of a formula
ends_formula : (t : Token) (ts : List Token) (s : State) (f n : formula.State) (x : Formula) → formula.step s.features f t ≡ Some n → formula.formula_of n ≡ Some x → Accepts ts (record s { mode = Start; constraints = s.constraints ++ x ∷ []; formula = formula.start }) → ReadFormula (t ∷ ts) s f
ends_formula t ts s f n x e whole h =
    let semicolon : t ≡ Semicolon = only_semicolon_ends s.features f n t e (some_done n x whole) in
    let goes : formula.step s.features f Semicolon ≡ Some n = ap (formula.step s.features f) (sym semicolon) ∙ e in
    by goes (semicolon_ends s.features f n goes) semicolon
  where
    by : formula.step s.features f Semicolon ≡ Some n → ((y : Formula) × (n ≡ formula.done y)) → t ≡ Semicolon → ReadFormula (t ∷ ts) s f
    by goes (y, is) semicolon =
        let same : Some y ≡ Some x = ap formula.formula_of (sym is) ∙ whole in
        record {
          us = Semicolon ∷ [];
          rest = ts;
          rs = other_token ∷ [];
          value = y;
          split = ap (λ u. u ∷ ts) semicolon;
          shorter = omega arith;
          leads = last f y (goes ∙ ap Some is);
          goes = subst (λ z. Accepts ts (record s { mode = Start; constraints = s.constraints ++ z ∷ []; formula = formula.start })) (sym (same_Some y x same)) h;
        }

-- one more token of a formula
more_of_formula : (t : Token) (ts : List Token) (s : State) (f n : formula.State) → formula.step s.features f t ≡ Some n → formula.formula_of n ≡ None → ReadFormula ts s n → ReadFormula (t ∷ ts) s f
more_of_formula t ts s f n e undone r =
    record {
      us = t ∷ r.us;
      rest = r.rest;
      rs = formula.role f t ∷ r.rs;
      value = r.value;
      split = ap (λ u. t ∷ u) r.split;
      shorter = omega (arith, r.shorter);
      leads = more t r.us f n r.rs r.value e (none_undone n undone) r.leads;
      goes = r.goes;
    }

-- a formula and its semicolon
formula_read : (ts : List Token) (s : State) (f : formula.State) → Accepts ts (record s { mode = InConstraint; formula = f }) → ReadFormula ts s f
unfolding run_of
formula_read [] s f h = never h
formula_read (t ∷ ts) s f h = go (λ n g. formula_read ts s n g) (formula.step s.features f t) refl h
  where
    go : ((n : formula.State) → Accepts ts (record s { mode = InConstraint; formula = n }) → ReadFormula ts s n) → (o : Option formula.State) → formula.step s.features f t ≡ o → Stops (then_run (run ts) (formula.role f t ∷ []) (in_formula (record s { mode = InConstraint; formula = f }) o)) → ReadFormula (t ∷ ts) s f
    go ih None e h = never h
    go ih (Some n) e h = by (formula.formula_of n) refl h
      where
        by : (q : Option Formula) → formula.formula_of n ≡ q → Accepts ts (after_formula (record s { mode = InConstraint; formula = f }) n q) → ReadFormula (t ∷ ts) s f
        by None undone g = more_of_formula t ts s f n e undone (ih n g)
        by (Some x) whole g = ends_formula t ts s f n x e whole g

-- the tokens are a formula's tree's
record ReadTree (ts : List Token) (format : Format) (fs : List (List ℕ)) (gs : List Formula) : Type 0 where
  tree : IffTree
  rest : List Token
  value : Formula
  spelled : ts ≡ spell_iff tree (Semicolon ∷ rest)
  shorter : length rest < length ts
  goes : Accepts rest (before_classes format fs (gs ++ value ∷ []))

constraint_read : (ts : List Token) (format : Format) (fs : List (List ℕ)) (gs : List Formula) → Accepts ts (record (before_classes format fs gs) { mode = InConstraint }) → ReadTree ts format fs gs
constraint_read ts format fs gs h =
    let r = formula_read ts (before_classes format fs gs) formula.start h in
    let w = formula_law.formula_read fs r.us (formula.done r.value) r.rs (leads_run fs r.us formula.start r.rs r.value r.leads) refl in
    record {
      tree = w.tree;
      rest = r.rest;
      value = r.value;
      spelled = r.split ∙ ap (λ u. u ++ r.rest) w.spelled ∙ sym (formula_text w.tree r.rest);
      shorter = r.shorter;
      goes = r.goes;
    }

-- constraints and classes
record Body (ts : List Token) : Type 0 where
  constraints : List IffTree
  classes : List ClassTree
  rest : List Token
  spelled : ts ≡ in_order spell_constraint constraints (in_order spell_class classes rest)
  tail : Tail rest

no_constraint : (ts : List Token) → Classes ts → Body ts
no_constraint ts t = record { constraints = []; classes = t.classes; rest = t.rest; spelled = t.spelled; tail = t.tail }

constraint_and : (ts : List Token) (format : Format) (fs : List (List ℕ)) (gs : List Formula) (c : ReadTree ts format fs gs) → Body c.rest → Body (Id constraint_word ∷ ts)
constraint_and ts format fs gs c t =
    record {
      constraints = c.tree ∷ t.constraints;
      classes = t.classes;
      rest = t.rest;
      spelled = ap (λ u. Id constraint_word ∷ u) (c.spelled ∙ ap (λ u. spell_iff c.tree (Semicolon ∷ u)) t.spelled);
      tail = t.tail;
    }

-- {constraint} {class}, and the end or none
body_read : (k : ℕ) (ts : List Token) → length ts < k → (format : Format) (fs : List (List ℕ)) (gs : List Formula) → Accepts ts (before_classes format fs gs) → Body ts
unfolding run_of
body_read zero ts le format fs gs h = absurd (omega arith)
body_read (suc k) [] le format fs gs h = no_constraint [] (record { classes = []; rest = []; spelled = refl; tail = no_end })
body_read (suc k) (Id w ∷ ts) le format fs gs h =
    let p = passed (bytes_eq w constraint_word) (run ts) (used_name w ∷ []) (record (before_classes format fs gs) { mode = InConstraint }) h in
    let same : constraint_word ≡ w = sym ((bytes_eq-Decides w constraint_word).0 p.0) in
    let c = constraint_read ts format fs gs p.1 in
    subst (λ x. Body (Id x ∷ ts)) same (constraint_and ts format fs gs c (body_read k c.rest (omega (arith, c.shorter)) format fs (gs ++ c.value ∷ []) c.goes))
body_read (suc k) (At ∷ ts) le format fs gs h = no_constraint (At ∷ ts) (classes_read (suc k) (At ∷ ts) le format fs gs [] h)
body_read (suc k) (ClassWord ∷ ts) le format fs gs h = no_constraint (ClassWord ∷ ts) (classes_read (suc k) (ClassWord ∷ ts) le format fs gs [] h)
body_read (suc k) (End ∷ ts) le format fs gs h = no_constraint (End ∷ ts) (classes_read (suc k) (End ∷ ts) le format fs gs [] h)
body_read (suc k) _ le format fs gs h = never h

-- ---- the feature line

-- The rest of a feature line, behind its first feature; all its features are then read.
record Line (format : Format) (ts : List Token) : Type 0 where
  names : List (List ℕ)
  all : List (List ℕ)
  rest : List Token
  spelled : ts ≡ each_behind Comma spell_name names (Semicolon ∷ rest)
  shorter : length rest < length ts
  goes : Accepts rest (before_classes format all [])

-- a comma, a feature and more
feature_and : (format : Format) (f : List ℕ) (ts : List Token) → Line format ts → Line format (Comma ∷ (Id f ∷ ts))
feature_and format f ts l = record { names = f ∷ l.names; all = l.all; rest = l.rest; spelled = ap (λ w. Comma ∷ (Id f ∷ w)) l.spelled; shorter = omega (arith, l.shorter); goes = l.goes }

-- the features after the first, and the semicolon
names_read : (ts : List Token) (format : Format) (fs : List (List ℕ)) → Accepts ts (record (behind format fs [] []) { mode = AfterFeature }) → Line format ts
unfolding run_of
names_read (Comma ∷ (Id f ∷ ts)) format fs h = feature_and format f ts (names_read ts format (fs ++ f ∷ []) h)
names_read (Semicolon ∷ ts) format fs h = record { names = []; all = fs; rest = ts; spelled = refl; shorter = omega arith; goes = h }
names_read _ format fs h = never h

-- ---- a text

pub record Text (ts : List Token) : Type 0 where
  pub tree : Tree
  pub rest : List Token
  pub spelled : ts ≡ spell tree rest
  pub tail : Tail rest

-- What stands behind the line for format Two, or where there is no such line.
record Lined (ts : List Token) : Type 0 where
  features : List (List ℕ)
  constraints : List IffTree
  classes : List ClassTree
  rest : List Token
  spelled : ts ≡ spell_features features (in_order spell_constraint constraints (in_order spell_class classes rest))
  tail : Tail rest

in_one : (ts : List Token) → Lined ts → Text ts
in_one ts l =
    record {
      tree = record { format = One; features = l.features; constraints = l.constraints; classes = l.classes };
      rest = l.rest;
      spelled = l.spelled;
      tail = l.tail;
    }

in_two : (ts : List Token) → Lined ts → Text (Id format_word ∷ (Semicolon ∷ ts))
in_two ts l =
    record {
      tree = record { format = Two; features = l.features; constraints = l.constraints; classes = l.classes };
      rest = l.rest;
      spelled = ap (λ w. Id format_word ∷ (Semicolon ∷ w)) l.spelled;
      tail = l.tail;
    }

-- constraints and classes with no feature line before them
without_line : (ts : List Token) → Body ts → Lined ts
without_line ts t = record { features = []; constraints = t.constraints; classes = t.classes; rest = t.rest; spelled = t.spelled; tail = t.tail }

-- those behind a feature line
with_line : (format : Format) (f : List ℕ) (ts : List Token) (l : Line format ts) → Body l.rest → Lined (Id features_word ∷ (Id f ∷ ts))
with_line format f ts l t =
    record {
      features = f ∷ l.names;
      constraints = t.constraints;
      classes = t.classes;
      rest = t.rest;
      spelled = ap (λ w. Id features_word ∷ (Id f ∷ w)) (l.spelled ∙ ap (λ w. each_behind Comma spell_name l.names (Semicolon ∷ w)) t.spelled);
      tail = t.tail;
    }

-- a text behind the word that begins a feature line
line_read : (ts : List Token) (format : Format) → Accepts ts (record (start_in format) { mode = AfterFeatures }) → Lined (Id features_word ∷ ts)
unfolding run_of
line_read (Id f ∷ ts) format h =
    let l = names_read ts format (f ∷ []) h in
    with_line format f ts l (body_read (length ts) l.rest l.shorter format l.all [] l.goes)
line_read _ format h = never h

-- where a run stops, its roles play no part
any_roles : (f : State → Run State) (rs qs : List Role) (o : Option State) → Stops (then_run f rs o) → Stops (then_run f qs o)
any_roles f rs qs None h = h
any_roles f rs qs (Some n) h = h

-- a word that begins another line
word_read : (w : List ℕ) (ts : List Token) (format : Format) (rs : List Role) (b : Bool) → bytes_eq w features_word ≡ b
    → Stops (then_run (run ts) rs (if b then to AfterFeatures (start_in format) else opens_constraint (start_in format) w)) → Lined (Id w ∷ ts)
unfolding run_of
word_read w ts format rs true e h =
    let same : features_word ≡ w = sym ((bytes_eq-Decides w features_word).0 e) in
    subst (λ x. Lined (Id x ∷ ts)) same (line_read ts format h)
word_read w ts format rs false e h =
    let goes = any_roles (run ts) rs (used_name w ∷ []) (opens_constraint (start_in format) w) h in
    without_line (Id w ∷ ts) (body_read (suc (suc (length ts))) (Id w ∷ ts) (omega arith) format [] [] goes)

-- no line at all
nothing_read : Lined []
nothing_read = without_line [] (no_constraint [] (record { classes = []; rest = []; spelled = refl; tail = no_end }))

-- classes alone
classes_alone : (ts : List Token) (format : Format) → Accepts ts (behind format [] [] []) → Lined ts
classes_alone ts format h = without_line ts (no_constraint ts (classes_read (suc (length ts)) ts (omega arith) format [] [] [] h))

-- what leads to a stop behind the line for format Two
behind_two : (ts : List Token) → Accepts ts (start_in Two) → Lined ts
unfolding run_of
behind_two [] h = nothing_read
behind_two (Id w ∷ ts) h = by (bytes_eq w format_word) h
  where
    by : (b : Bool) → Stops (then_run (run ts) ((if b then format_line else used_name w) ∷ [])
        (if b && false then to AfterFormat (start_in Two) else if bytes_eq w features_word then to AfterFeatures (start_in Two) else opens_constraint (start_in Two) w)) → Lined (Id w ∷ ts)
    by true h = word_read w ts Two (format_line ∷ []) (bytes_eq w features_word) refl h
    by false h = word_read w ts Two (used_name w ∷ []) (bytes_eq w features_word) refl h
behind_two (At ∷ ts) h = classes_alone (At ∷ ts) Two h
behind_two (ClassWord ∷ ts) h = classes_alone (ClassWord ∷ ts) Two h
behind_two (End ∷ ts) h = classes_alone (End ∷ ts) Two h
behind_two _ h = never h

-- a text behind the word of that line
format_read : (ts : List Token) → Accepts ts (record start { mode = AfterFormat }) → Text (Id format_word ∷ ts)
unfolding run_of
format_read (Semicolon ∷ ts) h = in_two ts (behind_two ts h)
format_read _ h = never h

-- what leads to a stop is a text, with its end or without
pub text_of : (ts : List Token) → Accepts ts start → Text ts
unfolding run_of
text_of [] h = in_one [] nothing_read
text_of (Id w ∷ ts) h = by (bytes_eq w format_word) refl h
  where
    by : (b : Bool) → bytes_eq w format_word ≡ b → Stops (then_run (run ts) ((if b then format_line else used_name w) ∷ [])
        (if b && true then to AfterFormat start else if bytes_eq w features_word then to AfterFeatures start else opens_constraint start w)) → Text (Id w ∷ ts)
    by true e h =
        let same : format_word ≡ w = sym ((bytes_eq-Decides w format_word).0 e) in
        subst (λ x. Text (Id x ∷ ts)) same (format_read ts h)
    by false e h = in_one (Id w ∷ ts) (word_read w ts One (used_name w ∷ []) (bytes_eq w features_word) refl h)
text_of (At ∷ ts) h = in_one (At ∷ ts) (classes_alone (At ∷ ts) One h)
text_of (ClassWord ∷ ts) h = in_one (ClassWord ∷ ts) (classes_alone (ClassWord ∷ ts) One h)
text_of (End ∷ ts) h = in_one (End ∷ ts) (classes_alone (End ∷ ts) One h)
text_of _ h = never h
