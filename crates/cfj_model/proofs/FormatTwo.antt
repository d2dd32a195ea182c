-- What a project's type keeps in format One it keeps in format Two.
use Rattle.std.proofs.Common.{◌≡◌, ℕ, Bool, true, ◌&&◌, List, [], ◌∷◌, map, refl, sym, ◌∙◌}
use Rattle.std.specs.List.{list_all}
use Rattle.std.proofs.lemmas.Bool.{and_parts, and_from}
use Rattle.std.proofs.lemmas.List.Folds.{list_all-map}
use Rattle.cfj_logic.specs.Sides.{Sides}
use Rattle.cfj_model.specs.declared.class.Class.{Class}
use Rattle.cfj_model.specs.declared.class.Constructor.{Constructor}
use Rattle.cfj_model.specs.declared.class.Field.{Field}
use Rattle.cfj_model.specs.declared.class.Method.{Method}
use Rattle.cfj_model.specs.declared.class.Param.{Param}
use Rattle.cfj_model.specs.declared.class.Sent.{Sent}
use Rattle.cfj_model.specs.declared.expr.Arg.{Arg}
use Rattle.cfj_model.specs.declared.expr.Expr.{Expr}
use Rattle.cfj_model.specs.declared.expr.Expr.TheOpen.{Expr-F}
use Rattle.cfj_model.specs.declared.feature_model.Format.TheVariants.{Two}
use Rattle.cfj_model.specs.Coloring.{Palette, are_known, palette_of}
use Rattle.cfj_model.specs.Expressions.{is_named, is_named_arg, is_named_step}
use Rattle.cfj_model.specs.ProductLines.{ProductLine, IsProject, in_format_two, is_field, is_param, is_sent, are_params, are_sents, are_fields, is_ctor, is_body, is_method, are_methods, is_class, most_in_ctor, most_params}
use Rattle.cfj_model.specs.ProductLines as project
use Rattle.cfj_model.proofs.ExprCases.{Proved, args_of, Cases, by_cases, fold_var, fold_get, fold_call, fold_new, fold_cast}

-- what holds of each by one test holds by another that it implies
all_still : {A : Type 0} (p q : A → Bool) → ((x : A) → p x ≡ true → q x ≡ true) → (xs : List A)
    → list_all p xs ≡ true → list_all q xs ≡ true
all_still p q still [] h = refl
all_still p q still (x ∷ xs) h = let a = and_parts (p x) (list_all p xs) h in and_from _ _ (still x a.0) (all_still p q still xs a.1)

-- two tests, of which the second, or the first, implies another
and_second : (a b c : Bool) → (b ≡ true → c ≡ true) → (a && b) ≡ true → (a && c) ≡ true
and_second a b c still h = let p = and_parts a b h in and_from _ _ p.0 (still p.1)

and_first : (a b c : Bool) → (a ≡ true → c ≡ true) → (a && b) ≡ true → (c && b) ≡ true
and_first a b c still h = let p = and_parts a b h in and_from _ _ (still p.0) p.1

module _ (p : Palette) where
  abbrev pub q : Palette
  q = record p { format = Two }

  colors_still : (c : Sides) → are_known p c ≡ true → are_known q c ≡ true
  colors_still c = and_second _ _ _ (λ h. refl)

  field_still : (f : Field) → is_field p f ≡ true → is_field q f ≡ true
  field_still f = and_first _ _ _ (and_first _ _ _ (colors_still f.colors))

  param_still : (x : Param) → is_param p x ≡ true → is_param q x ≡ true
  param_still x = and_first _ _ _ (and_first _ _ _ (colors_still x.colors))

  sent_still : (s : Sent) → is_sent p s ≡ true → is_sent q s ≡ true
  sent_still s = and_first _ _ _ (colors_still s.colors)

  params_still : (most : ℕ) (ps : List Param) → are_params most p ps ≡ true → are_params most q ps ≡ true
  params_still most ps = and_second _ _ _ (all_still (is_param p) (is_param q) param_still ps)

  sents_still : (ss : List Sent) → are_sents p ss ≡ true → are_sents q ss ≡ true
  sents_still ss = and_second _ _ _ (all_still (is_sent p) (is_sent q) sent_still ss)

  fields_still : (fs : List Field) → are_fields p fs ≡ true → are_fields q fs ≡ true
  fields_still fs = and_second _ _ _ (all_still (is_field p) (is_field q) field_still fs)

  ctor_still : (c : Constructor) → is_ctor p c ≡ true → is_ctor q c ≡ true
  ctor_still c h =
      let a = and_parts (are_params most_in_ctor p c.params && are_sents p c.sends) (are_sents p c.assigns) h in
      let b = and_parts (are_params most_in_ctor p c.params) (are_sents p c.sends) a.0 in
      and_from _ _ (and_from _ _ (params_still most_in_ctor c.params b.0) (sents_still c.sends b.1)) (sents_still c.assigns a.1)

  -- ---- expressions

  record Still (x : Expr) : Type 0 where
    still : is_named p x ≡ true → is_named q x ≡ true

  abbrev arg_named : Palette → Arg → Bool
  arg_named palette a = are_known palette a.colors && is_named palette a.expr

  args_still : (ys : List (Proved Still)) → list_all (arg_named p) (args_of Still ys) ≡ true → list_all (arg_named q) (args_of Still ys) ≡ true
  args_still [] h = refl
  args_still (y ∷ ys) h =
      let a = and_parts (arg_named p y.0) (list_all (arg_named p) (args_of Still ys)) h in
      let b = and_parts (are_known p (y.0).colors) (is_named p (y.0).expr) a.0 in
      and_from _ _ (and_from _ _ (colors_still (y.0).colors b.0) (y.1.still b.1)) (args_still ys a.1)

  mapped_still : (ys : List (Proved Still)) → list_all (λ b. b) (map (arg_named p) (args_of Still ys)) ≡ true
      → list_all (λ b. b) (map (arg_named q) (args_of Still ys)) ≡ true
  mapped_still ys h =
      list_all-map (λ b. b) (arg_named q) (args_of Still ys) ∙ args_still ys (sym (list_all-map (λ b. b) (arg_named p) (args_of Still ys)) ∙ h)

  abbrev named : Expr-F Bool Bool → Bool
  named = is_named_step

  still_cases : Cases Still
  still_cases = record {
    var_case = λ slot name. record {
      still = λ h. fold_var Bool Bool named (is_named_arg q) slot name ∙ sym (fold_var Bool Bool named (is_named_arg p) slot name) ∙ h;
    };
    get_case = λ slot on ih field. record {
      still = λ h.
          fold_get Bool Bool named (is_named_arg q) slot on field
          ∙ and_first _ _ _ ih.still (sym (fold_get Bool Bool named (is_named_arg p) slot on field) ∙ h);
    };
    call_case = λ slot on ih method ys. record {
      still = λ h.
          let args = args_of Still ys in
          let a = and_parts _ _ (sym (fold_call Bool Bool named (is_named_arg p) slot on method args) ∙ h) in
          fold_call Bool Bool named (is_named_arg q) slot on method args ∙ and_from _ _ (and_first _ _ _ ih.still a.0) (mapped_still ys a.1);
    };
    new_case = λ slot class ys. record {
      still = λ h.
          let args = args_of Still ys in
          fold_new Bool Bool named (is_named_arg q) slot class args
          ∙ and_second _ _ _ (mapped_still ys) (sym (fold_new Bool Bool named (is_named_arg p) slot class args) ∙ h);
    };
    cast_case = λ slot class on ih. record {
      still = λ h.
          fold_cast Bool Bool named (is_named_arg q) slot class on
          ∙ and_second _ _ _ ih.still (sym (fold_cast Bool Bool named (is_named_arg p) slot class on) ∙ h);
    };
  }

  pub body_still : (x : Expr) → is_body p x ≡ true → is_body q x ≡ true
  body_still x = and_first _ _ _ (and_first _ _ _ (and_first _ _ _ (by_cases Still still_cases x).still))

  -- ---- classes

  method_still : (m : Method) → is_method p m ≡ true → is_method q m ≡ true
  unfolding is_method
  method_still m h =
      let a = and_parts _ (is_body p m.body) h in
      let b = and_parts _ (project.are_distinct (map (λ (x : Param). x.name) m.params)) a.0 in
      let c = and_parts _ (are_params most_params p m.params) b.0 in
      let heading = and_first _ _ _ (and_first _ _ _ (colors_still m.colors)) c.0 in
      and_from _ _ (and_from _ _ (and_from _ _ heading (params_still most_params m.params c.1)) b.1) (body_still m.body a.1)

  methods_still : (ms : List Method) → are_methods p ms ≡ true → are_methods q ms ≡ true
  methods_still ms = and_second _ _ _ (all_still (is_method p) (is_method q) method_still ms)

  class_still : (k : Class) → is_class p k ≡ true → is_class q k ≡ true
  unfolding is_class
  class_still k h =
      let a = and_parts _ (are_methods p k.methods) h in
      let b = and_parts _ (is_ctor p k.ctor) a.0 in
      let c = and_parts _ (are_fields p k.fields) b.0 in
      let heading = and_first _ _ _ (and_second _ _ _ (colors_still k.colors)) c.0 in
      and_from _ _ (and_from _ _ (and_from _ _ heading (fields_still k.fields c.1)) (ctor_still k.ctor b.1)) (methods_still k.methods a.1)

-- what a project's type keeps is kept in format Two
pub kept_in_two : (line : ProductLine) → IsProject line → IsProject (in_format_two line)
kept_in_two line is = record {
  few_features = is.few_features;
  features_named = is.features_named;
  features_distinct = is.features_distinct;
  few_formula_nodes = is.few_formula_nodes;
  each_constraint = is.each_constraint;
  few_classes = is.few_classes;
  classes_distinct = is.classes_distinct;
  each_class =
      let one = palette_of line.model in
      let two = palette_of (in_format_two line).model in
      all_still (is_class one) (is_class two) (class_still one) line.classes is.each_class;
  fits = is.fits;
}
