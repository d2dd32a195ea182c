-- The tree of each declaration, class and product line: where it is numbered, its tree stands for it.
use Rattle.std.proofs.Common.{◌≡◌, ℕ, ◌+◌, ◌≤◌, Bool, true, not, ◌&&◌, nat_le, List, [], ◌∷◌, length, map, refl, sym, ap, ◌∙◌}
use Rattle.std.specs.List.{list_all}
use Rattle.std.specs.Str.{bytes_eq}
use Rattle.std.proofs.lemmas.Bool.{and_parts, and_from, leb-true}
use Rattle.cfj_model.specs.declared.class.Field.{Field}
use Rattle.cfj_model.specs.declared.class.Param.{Param}
use Rattle.cfj_model.specs.declared.class.Sent.{Sent}
use Rattle.cfj_model.specs.declared.class.Method.{Method}
use Rattle.cfj_model.specs.declared.class.Class.{Class}
use Rattle.cfj_logic.specs.declared.formula.Formula.{Formula}
use Rattle.cfj_model.specs.ExpressionGrammar.{value_expr}
use Rattle.cfj_logic.specs.Sides.{Sides}
use Rattle.cfj_model.specs.Coloring.{Palette, are_known, palette_of}
use Rattle.cfj_model.specs.Expressions.{is_named, node_count, nest, slots}
use Rattle.cfj_model.specs.FormulaGrammar.{value_iff}
use Rattle.cfj_logic.specs.Formulas.{is_over, formula_nest}
use Rattle.cfj_model.specs.Grammar.{Declared, Named, MethodTree, ClassTree, Tree, numbered, value_field, value_param, value_sent, value_ctor, value_method, value_class}
use Rattle.cfj_model.specs.Grammar as grammar
use Rattle.cfj_model.specs.Members.{numbered_fields, numbered_methods, are_fields_numbered, are_methods_numbered, field_alts_rise, method_alts_rise}
use Rattle.cfj_words.specs.Names.{is_short_identifier}
use Rattle.cfj_model.specs.Numbered.{run_from, is_numbered_ctor, is_numbered_method, is_numbered_class, IsNumbered}
use Rattle.cfj_model.specs.ProductLines.{ProductLine, IsProject, are_distinct, rise_from, object, is_field, is_param, is_sent, are_params, are_sents, are_fields, is_ctor, is_body, is_method, are_methods, is_class, is_constraint, most_fields, most_in_ctor, most_params, most_methods, most_nodes, most_nest}
use Rattle.cfj_model.proofs.Members.{numbered_fields_again, numbered_methods_again}
use Rattle.print_law.proofs.Alternatives.{fields_alike, methods_alike}
use Rattle.print_law.proofs.ExprTrees.{tree_of_expr, run_first, expr_again}
use Rattle.print_law.proofs.Features.{marks_of, colors_again}
use Rattle.print_law.proofs.FormulaTrees.{tree_of_formula, formula_again}

abbrev pub tree_of_field : List (List ℕ) → Field → Declared
tree_of_field features f = record { marks = marks_of features f.colors; of = f.of; name = f.name }

abbrev pub tree_of_param : List (List ℕ) → Param → Declared
tree_of_param features p = record { marks = marks_of features p.colors; of = p.of; name = p.name }

abbrev pub tree_of_sent : List (List ℕ) → Sent → Named
tree_of_sent features s = record { marks = marks_of features s.colors; name = s.name }

abbrev pub tree_of_method : List (List ℕ) → Method → MethodTree
tree_of_method features m =
    record {
      marks = marks_of features m.colors;
      result = m.result;
      name = m.name;
      params = map (tree_of_param features) m.params;
      body = tree_of_expr features m.body;
    }

abbrev pub tree_of_class : List (List ℕ) → Class → ClassTree
tree_of_class features k =
    record {
      marks = marks_of features k.colors;
      name = k.name;
      parent = k.parent;
      fields = map (tree_of_field features) k.fields;
      params = map (tree_of_param features) k.ctor.params;
      sends = map (tree_of_sent features) k.ctor.sends;
      assigns = map (tree_of_sent features) k.ctor.assigns;
      methods = map (tree_of_method features) k.methods;
    }

-- the tree of a product line
abbrev pub tree_of : ProductLine → Tree
tree_of line =
    record {
      format = line.model.format;
      features = line.model.features;
      constraints = map (tree_of_formula line.model.features) line.model.constraints;
      classes = map (tree_of_class line.model.features) line.classes;
    }

-- ---- what is kept, part by part

parts_3 : (a b c : Bool) → (a && b && c) ≡ true → (a ≡ true) × (b ≡ true) × (c ≡ true)
parts_3 a b c h = let p = and_parts (a && b) c h in let q = and_parts a b p.0 in (q.0, q.1, p.1)

parts_4 : (a b c d : Bool) → (a && b && c && d) ≡ true → (a ≡ true) × (b ≡ true) × (c ≡ true) × (d ≡ true)
parts_4 a b c d h = let p = and_parts (a && b && c) d h in let q = parts_3 a b c p.0 in (q.0, q.1, q.2, p.1)

-- a field
pub record FieldKept (palette : Palette) (f : Field) : Type 0 where
  pub colors : are_known palette f.colors ≡ true
  pub of : is_short_identifier f.of ≡ true
  pub name : is_short_identifier f.name ≡ true

pub field_kept : (palette : Palette) (f : Field) → is_field palette f ≡ true → FieldKept palette f
field_kept palette f h =
    let p = parts_3 (are_known palette f.colors) (is_short_identifier f.of) (is_short_identifier f.name) h in
    record { colors = p.0; of = p.1; name = p.2 }

-- a parameter
pub record ParamKept (palette : Palette) (p : Param) : Type 0 where
  pub colors : are_known palette p.colors ≡ true
  pub of : is_short_identifier p.of ≡ true
  pub name : is_short_identifier p.name ≡ true

pub param_kept : (palette : Palette) (p : Param) → is_param palette p ≡ true → ParamKept palette p
param_kept palette x h =
    let p = parts_3 (are_known palette x.colors) (is_short_identifier x.of) (is_short_identifier x.name) h in
    record { colors = p.0; of = p.1; name = p.2 }

-- a name that is sent, or assigned
pub record SentKept (palette : Palette) (s : Sent) : Type 0 where
  pub colors : are_known palette s.colors ≡ true
  pub name : is_short_identifier s.name ≡ true

pub sent_kept : (palette : Palette) (s : Sent) → is_sent palette s ≡ true → SentKept palette s
sent_kept palette x h = let p = and_parts (are_known palette x.colors) (is_short_identifier x.name) h in record { colors = p.0; name = p.1 }

-- parameters
pub record ParamsKept (most : ℕ) (palette : Palette) (ps : List Param) : Type 0 where
  pub few : length ps ≤ most
  pub each : list_all (is_param palette) ps ≡ true

pub params_kept : (most : ℕ) (palette : Palette) (ps : List Param) → are_params most palette ps ≡ true → ParamsKept most palette ps
params_kept most palette ps h =
    let p = parts_3 (nat_le (length ps) most) (rise_from 0 (map (λ p. p.slot) ps)) (list_all (is_param palette) ps) h in
    record { few = leb-true (length ps) most p.0; each = p.2 }

-- names that are sent, or assigned
pub record SentsKept (palette : Palette) (ss : List Sent) : Type 0 where
  pub few : length ss ≤ most_in_ctor
  pub each : list_all (is_sent palette) ss ≡ true

pub sents_kept : (palette : Palette) (ss : List Sent) → are_sents palette ss ≡ true → SentsKept palette ss
sents_kept palette ss h = let p = parts_3 (nat_le (length ss) most_in_ctor) (rise_from 0 (map (λ s. s.slot) ss)) (list_all (is_sent palette) ss) h in record { few = leb-true (length ss) most_in_ctor p.0; each = p.2 }

-- a method
pub record MethodKept (palette : Palette) (m : Method) : Type 0 where
  pub colors : are_known palette m.colors ≡ true
  pub result : is_short_identifier m.result ≡ true
  pub name : is_short_identifier m.name ≡ true
  pub params : ParamsKept most_params palette m.params
  pub distinct : are_distinct (map (λ p. p.name) m.params) ≡ true
  pub named : is_named palette m.body ≡ true
  pub nodes : node_count m.body ≤ most_nodes
  pub shallow : nest m.body ≤ most_nest

pub method_kept : (palette : Palette) (m : Method) → is_method palette m ≡ true → MethodKept palette m
unfolding is_method
method_kept palette m h =
    let heading = are_known palette m.colors && is_short_identifier m.result && is_short_identifier m.name in
    let p = parts_4 heading (are_params most_params palette m.params) (are_distinct (map (λ p. p.name) m.params)) (is_body palette m.body) h in
    let q = parts_3 (are_known palette m.colors) (is_short_identifier m.result) (is_short_identifier m.name) p.0 in
    let b = parts_4 (is_named palette m.body) (nat_le (node_count m.body) most_nodes) (nat_le (nest m.body) most_nest) (rise_from 0 (slots m.body)) p.3 in
    record {
      colors = q.0;
      result = q.1;
      name = q.2;
      params = params_kept most_params palette m.params p.1;
      distinct = p.2;
      named = b.0;
      nodes = leb-true (node_count m.body) most_nodes b.1;
      shallow = leb-true (nest m.body) most_nest b.2;
    }

-- a class by itself
pub record ClassKept (palette : Palette) (k : Class) : Type 0 where
  pub name : is_short_identifier k.name ≡ true
  pub no_object : not (bytes_eq k.name object) ≡ true
  pub colors : are_known palette k.colors ≡ true
  pub parent : is_short_identifier k.parent ≡ true
  pub few_fields : length k.fields ≤ most_fields
  pub each_field : list_all (is_field palette) k.fields ≡ true
  pub params : ParamsKept most_in_ctor palette k.ctor.params
  pub sends : SentsKept palette k.ctor.sends
  pub assigns : SentsKept palette k.ctor.assigns
  pub few_methods : length k.methods ≤ most_methods
  pub each_method : list_all (is_method palette) k.methods ≡ true

pub class_kept : (palette : Palette) (k : Class) → is_class palette k ≡ true → ClassKept palette k
unfolding is_class
class_kept palette k h =
    let p = parts_4 (is_short_identifier k.name && not (bytes_eq k.name object) && are_known palette k.colors && is_short_identifier k.parent) (are_fields palette k.fields) (is_ctor palette k.ctor) (are_methods palette k.methods) h in
    let q = parts_4 (is_short_identifier k.name) (not (bytes_eq k.name object)) (are_known palette k.colors) (is_short_identifier k.parent) p.0 in
    let f = parts_3 (nat_le (length k.fields) most_fields) (field_alts_rise k.fields) (list_all (is_field palette) k.fields) p.1 in
    let c = parts_3 (are_params most_in_ctor palette k.ctor.params) (are_sents palette k.ctor.sends) (are_sents palette k.ctor.assigns) p.2 in
    let m = parts_3 (nat_le (length k.methods) most_methods) (method_alts_rise k.methods) (list_all (is_method palette) k.methods) p.3 in
    record {
      name = q.0;
      no_object = q.1;
      colors = q.2;
      parent = q.3;
      few_fields = leb-true (length k.fields) most_fields f.0;
      each_field = f.2;
      params = params_kept most_in_ctor palette k.ctor.params c.0;
      sends = sents_kept palette k.ctor.sends c.1;
      assigns = sents_kept palette k.ctor.assigns c.2;
      few_methods = leb-true (length k.methods) most_methods m.0;
      each_method = m.2;
    }

-- a constraint
pub record ConstraintKept (n : ℕ) (x : Formula) : Type 0 where
  pub over : is_over n x ≡ true
  pub shallow : formula_nest x ≤ most_nest

pub constraint_kept : (n : ℕ) (x : Formula) → is_constraint n x ≡ true → ConstraintKept n x
constraint_kept n x h = let p = and_parts (is_over n x) (nat_le (formula_nest x) most_nest) h in record { over = p.0; shallow = leb-true (formula_nest x) most_nest p.1 }

-- ---- the value

-- items of which each is the value of its tree
each_again : {A B : Type 0} (value : B → A) (tree : A → B) (ok : A → Bool) → ((x : A) → ok x ≡ true → value (tree x) ≡ x) → (xs : List A) → list_all ok xs ≡ true → map value (map tree xs) ≡ xs
each_again value tree ok again [] h = refl
each_again value tree ok again (x ∷ xs) h =
    let p = and_parts (ok x) (list_all ok xs) h in
    ap (λ y. y ∷ map value (map tree xs)) (again x p.0) ∙ ap (λ ys. x ∷ ys) (each_again value tree ok again xs p.1)

-- and with their numbers
numbered_again : {A B : Type 0} (value : ℕ → B → A) (tree : A → B) (slot : A → ℕ) (ok : A → Bool) → ((x : A) → ok x ≡ true → value (slot x) (tree x) ≡ x) → (n : ℕ) (xs : List A) → run_from n (map slot xs) ≡ true → list_all ok xs ≡ true
    → numbered value n (map tree xs) ≡ xs
numbered_again value tree slot ok again n [] r h = refl
numbered_again value tree slot ok again n (x ∷ xs) r h =
    let p = and_parts (ok x) (list_all ok xs) h in
    let s = run_first n (slot x) (map slot xs) r in
    ap (λ i. value i (tree x) ∷ numbered value (n + 1) (map tree xs)) (sym s.0)
    ∙ ap (λ y. y ∷ numbered value (n + 1) (map tree xs)) (again x p.0)
    ∙ ap (λ ys. x ∷ ys) (numbered_again value tree slot ok again (n + 1) xs s.1 p.1)

module _ (palette : Palette) (features : List (List ℕ)) (distinct : are_distinct features ≡ true) (sized : palette.features ≡ length features) where
  -- but for the alt
  field_again : (f : Field) (n : ℕ) → is_field palette f ≡ true → record (value_field features (tree_of_field features f)) { alt = n } ≡ record f { alt = n }
  field_again f n h =
      let at : Sides → Field = λ c. record { alt = n; colors = c; of = f.of; name = f.name } in
      ap at (colors_again features palette f.colors distinct sized (field_kept palette f h).colors)

  -- numbered fields, with their alts
  fields_again : (fs : List Field) → list_all (is_field palette) fs ≡ true → are_fields_numbered fs ≡ true → numbered_fields (map (value_field features) (map (tree_of_field features) fs)) ≡ fs
  fields_again fs h r = fields_alike (value_field features) (tree_of_field features) (is_field palette) (λ f. refl) field_again fs h ∙ numbered_fields_again fs r

  param_again : (p : Param) → is_param palette p ≡ true → value_param features p.slot (tree_of_param features p) ≡ p
  param_again p h =
      let at : Sides → Param = λ c. record { slot = p.slot; colors = c; of = p.of; name = p.name } in
      ap at (colors_again features palette p.colors distinct sized (param_kept palette p h).colors)

  sent_again : (s : Sent) → is_sent palette s ≡ true → value_sent features s.slot (tree_of_sent features s) ≡ s
  sent_again s h =
      let at : Sides → Sent = λ c. record { slot = s.slot; colors = c; name = s.name } in
      ap at (colors_again features palette s.colors distinct sized (sent_kept palette s h).colors)

  params_again : (most : ℕ) (ps : List Param) → run_from 0 (map (λ p. p.slot) ps) ≡ true → ParamsKept most palette ps → numbered (value_param features) 0 (map (tree_of_param features) ps) ≡ ps
  params_again most ps r k = numbered_again (value_param features) (tree_of_param features) (λ p. p.slot) (is_param palette) param_again 0 ps r k.each

  sents_again : (ss : List Sent) → run_from 0 (map (λ s. s.slot) ss) ≡ true → SentsKept palette ss → numbered (value_sent features) 0 (map (tree_of_sent features) ss) ≡ ss
  sents_again ss r k = numbered_again (value_sent features) (tree_of_sent features) (λ s. s.slot) (is_sent palette) sent_again 0 ss r k.each

  -- but for the alt
  method_again : (m : Method) (n : ℕ) → (is_method palette m && is_numbered_method m) ≡ true → record (value_method features (tree_of_method features m)) { alt = n } ≡ record m { alt = n }
  method_again m n h =
      let p = and_parts (is_method palette m) (is_numbered_method m) h in
      let k = method_kept palette m p.0 in
      let r = and_parts (run_from 0 (map (λ p. p.slot) m.params)) (run_from 0 (slots m.body)) p.1 in
      let e = expr_again palette features distinct sized m.body in
      ap (λ c. record (value_method features (tree_of_method features m)) { alt = n; colors = c }) (colors_again features palette m.colors distinct sized k.colors)
      ∙ ap (λ ps. record m { alt = n; params = ps; body = (value_expr features 0 (tree_of_expr features m.body)).0 }) (params_again most_params m.params r.0 k.params)
      ∙ ap (λ b. record m { alt = n; body = b }) (ap (λ v. v.0) (e.again 0 r.1 k.named))

  methods_both : (ms : List Method) → list_all (is_method palette) ms ≡ true → list_all is_numbered_method ms ≡ true → list_all (λ m. is_method palette m && is_numbered_method m) ms ≡ true
  methods_both [] h r = refl
  methods_both (m ∷ ms) h r =
      let p = and_parts (is_method palette m) (list_all (is_method palette) ms) h in
      let q = and_parts (is_numbered_method m) (list_all is_numbered_method ms) r in
      and_from _ _ (and_from _ _ p.0 q.0) (methods_both ms p.1 q.1)

  -- numbered methods, with their alts
  methods_again : (ms : List Method) → list_all (is_method palette) ms ≡ true → list_all is_numbered_method ms ≡ true → are_methods_numbered ms ≡ true → numbered_methods (map (value_method features) (map (tree_of_method features) ms)) ≡ ms
  methods_again ms h n r =
      methods_alike (value_method features) (tree_of_method features) (λ m. is_method palette m && is_numbered_method m) (λ m. refl) method_again ms (methods_both ms h n)
      ∙ numbered_methods_again ms r

  ctor_again : (k : Class) → ClassKept palette k → is_numbered_ctor k.ctor ≡ true → value_ctor features (tree_of_class features k) ≡ k.ctor
  ctor_again k c h =
      let r = parts_3 (run_from 0 (map (λ p. p.slot) k.ctor.params)) (run_from 0 (map (λ s. s.slot) k.ctor.sends)) (run_from 0 (map (λ a. a.slot) k.ctor.assigns)) h in
      ap (λ ps. record (value_ctor features (tree_of_class features k)) { params = ps }) (params_again most_in_ctor k.ctor.params r.0 c.params)
      ∙ ap (λ ss. record k.ctor { sends = ss; assigns = numbered (value_sent features) 0 (map (tree_of_sent features) k.ctor.assigns) }) (sents_again k.ctor.sends r.1 c.sends)
      ∙ ap (λ ss. record k.ctor { assigns = ss }) (sents_again k.ctor.assigns r.2 c.assigns)

  -- the tree of a numbered class stands for it
  pub class_again : (k : Class) → is_class palette k ≡ true → is_numbered_class k ≡ true → value_class features (tree_of_class features k) ≡ k
  class_again k h r =
      let c = class_kept palette k h in
      let q = parts_4 (are_fields_numbered k.fields) (is_numbered_ctor k.ctor) (are_methods_numbered k.methods) (list_all is_numbered_method k.methods) r in
      let methods : List Method = numbered_methods (map (value_method features) (map (tree_of_method features) k.methods)) in
      ap (λ n. record (value_class features (tree_of_class features k)) { colors = n }) (colors_again features palette k.colors distinct sized c.colors)
      ∙ ap (λ fs. record k { fields = fs; ctor = value_ctor features (tree_of_class features k); methods = methods }) (fields_again k.fields c.each_field q.0)
      ∙ ap (λ x. record k { ctor = x; methods = methods }) (ctor_again k c q.1)
      ∙ ap (λ ms. record k { methods = ms }) (methods_again k.methods c.each_method q.3 q.2)

  constraint_again : (x : Formula) → is_constraint (length features) x ≡ true → value_iff features (tree_of_formula features x) ≡ x
  constraint_again x h = formula_again features distinct x (constraint_kept (length features) x h).over

  classes_again : (ks : List Class) → list_all (is_class palette) ks ≡ true → list_all is_numbered_class ks ≡ true → map (value_class features) (map (tree_of_class features) ks) ≡ ks
  classes_again [] h r = refl
  classes_again (k ∷ ks) h r =
      let p = and_parts (is_class palette k) (list_all (is_class palette) ks) h in
      let q = and_parts (is_numbered_class k) (list_all is_numbered_class ks) r in
      ap (λ c. c ∷ map (value_class features) (map (tree_of_class features) ks)) (class_again k p.0 q.0) ∙ ap (λ cs. k ∷ cs) (classes_again ks p.1 q.1)

-- the tree of a numbered project stands for it
pub project_again : (line : ProductLine) → IsProject line → IsNumbered line → grammar.value (tree_of line) ≡ line
project_again line p r =
    let features = line.model.features in
    ap (λ xs. record { model = record { format = line.model.format; features = features; constraints = xs }; classes = map (value_class features) (map (tree_of_class features) line.classes) })
    (each_again (value_iff features) (tree_of_formula features) (is_constraint (length features)) (constraint_again (palette_of line.model) features p.features_distinct refl) line.model.constraints p.each_constraint)
    ∙ ap (λ ks. record { model = line.model; classes = ks }) (classes_again (palette_of line.model) features p.features_distinct refl line.classes p.each_class r)
