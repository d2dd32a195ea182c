-- An expression has a type by the rules exactly where it is judged to have it.
use Rattle.std.proofs.Common.{◌≡◌, ℕ, Bool, true, false, not, ◌&&◌, ◌||◌, cond, if◌then◌else◌, List, [], ◌∷◌, map, Option, None, Some, is_some, option_map, refl, sym, ◌∙◌, ap, subst}
use Rattle.std.specs.List.{find}
use Rattle.std.specs.Str.{bytes_eq}
use Rattle.std.proofs.lemmas.Bool.{and_parts, and_from, or_left, or_right}
use Rattle.std.proofs.lemmas.Option.{cond_some}
use Rattle.cfj_words.specs.Lists.{Has}
use Rattle.cfj_model.specs.LookUps.{Table, is_known, is_subtype, all_fields, field_of, method_of}
use Rattle.cfj_model.specs.Judging.{JudgedExpr, judged_step_with, judged_arg, types_of, fits, fit_of, fit_numbers, type_if, variable_type, param_type, accessed, called, result_type, is_unrelated}
use Rattle.cfj_model.specs.Typing.{Environment, this, param_types, TypesField, HasType, t_this, t_var, t_field, t_invk, t_new, t_ucast, t_dcast, HaveTypesBelow, no_types, one_more}
use Rattle.cfj_model.specs.declared.class.Field.{Field}
use Rattle.cfj_model.specs.declared.class.Method.{Method}
use Rattle.cfj_model.specs.declared.class.Param.{Param}
use Rattle.cfj_model.specs.declared.expr.Arg.{Arg}
use Rattle.cfj_model.specs.declared.expr.Expr.{Expr}
use Rattle.cfj_model.specs.declared.expr.Expr.TheFolds.{fold-Expr}
use Rattle.cfj_model.specs.declared.expr.Expr.TheVariants as e
use Rattle.cfj_model.proofs.ExprCases.{fold_var, fold_get, fold_call, fold_new, fold_cast, Proved, args_of, by_cases}
use Rattle.class_table.proofs.Members.{unlike, not_true, name_is, find_has, mapped}
use Rattle.plain_fj.proofs.Chains.{subtype_holds, holds_subtype}
use Rattle.plain_fj.proofs.Inherited.{IsSound, known_above, known_below, fields_are, are_fields, fields_known, field_known, nearest_has, typed_field, method_is, is_method, result_known}
use Rattle.plain_fj.proofs.Fitting.{are_below, fits_below}

-- what a body may name has known types
pub record HasKnownTypes (p : Table) (g : Environment) : Type 0 where
  pub class : is_known p g.class ≡ true
  pub params : (q : Param) → Has g.params q → is_known p q.of ≡ true

-- ---- the type of each kind of expression, by the types of its parts

abbrev pub call_type : {A : Type 0} → Table → List A → Option (List ℕ) → Option (List (List ℕ)) → List ℕ → Option (List ℕ)
call_type p args on ts m = result_type (fits (fit_of p args ts (option_map (λ (d : Method). param_types d.params) (called p on ts m)))) (called p on ts m)

-- the types of the fields, where the class is known
abbrev pub types_where : Bool → Table → List ℕ → Option (List (List ℕ))
types_where known p c = if known then Some (map (λ (f : Field). f.of) (all_fields p c)) else None

abbrev pub new_type : {A : Type 0} → Bool → Table → List A → Option (List (List ℕ)) → List ℕ → Option (List ℕ)
new_type known p args ts c = type_if (is_some ts && known && fits (fit_of p args ts (types_where known p c))) c

abbrev pub cast_type : Table → Option (List ℕ) → List ℕ → Option (List ℕ)
cast_type p on c = type_if (is_some on && is_known p c && not (is_unrelated p on c)) c

-- over the types that variables have
module _ (p : Table) (types : List ℕ → Option (List ℕ)) where
  abbrev pub judged_of : Expr → JudgedExpr
  judged_of = fold-Expr JudgedExpr JudgedExpr (judged_step_with p types) judged_arg

  abbrev pub type_of : Expr → Option (List ℕ)
  type_of x = (judged_of x).type

  abbrev pub judged_args : List Arg → List JudgedExpr
  judged_args args = map (λ (a : Arg). judged_of a.expr) args

  abbrev pub arg_types : List Arg → Option (List (List ℕ))
  arg_types args = types_of (map (λ (a : JudgedExpr). a.type) (judged_args args))

  pub type_var : (slot : ℕ) (x : List ℕ) → type_of (e.Var slot x) ≡ types x
  type_var slot x = ap (λ (j : JudgedExpr). j.type) (fold_var JudgedExpr JudgedExpr (judged_step_with p types) judged_arg slot x)

  pub type_get : (slot : ℕ) (on : Expr) (f : List ℕ) → type_of (e.Get slot on f) ≡ accessed p (type_of on) f
  type_get slot on f = ap (λ (j : JudgedExpr). j.type) (fold_get JudgedExpr JudgedExpr (judged_step_with p types) judged_arg slot on f)

  pub type_call : (slot : ℕ) (on : Expr) (m : List ℕ) (args : List Arg) → type_of (e.Call slot on m args) ≡ call_type p (judged_args args) (type_of on) (arg_types args) m
  type_call slot on m args = ap (λ (j : JudgedExpr). j.type) (fold_call JudgedExpr JudgedExpr (judged_step_with p types) judged_arg slot on m args)

  pub type_new : (slot : ℕ) (c : List ℕ) (args : List Arg) → type_of (e.New slot c args) ≡ new_type (is_known p c) p (judged_args args) (arg_types args) c
  type_new slot c args = ap (λ (j : JudgedExpr). j.type) (fold_new JudgedExpr JudgedExpr (judged_step_with p types) judged_arg slot c args)

  pub type_cast : (slot : ℕ) (c : List ℕ) (on : Expr) → type_of (e.Cast slot c on) ≡ cast_type p (type_of on) c
  type_cast slot c on = ap (λ (j : JudgedExpr). j.type) (fold_cast JudgedExpr JudgedExpr (judged_step_with p types) judged_arg slot c on)

-- ---- from the rules

module _ (p : Table) where
  -- the call of a method that is there, with arguments that fit
  pub call_typed : {A : Type 0} (xs : List A) (c m : List ℕ) (us : List (List ℕ)) (d : Method) → method_of p c m ≡ Some d → are_below p us (param_types d.params) ≡ true
      → call_type p xs (Some c) (Some us) m ≡ Some d.result
  call_typed xs c m us d q b =
      ap (λ o. result_type (fits (fit_of p xs (Some us) (option_map (λ (d : Method). param_types d.params) o))) o) q
      ∙ ap (λ b. type_if b d.result) (fits_below p us (param_types d.params) ∙ b)

  pub new_typed : {A : Type 0} (xs : List A) (c : List ℕ) (us : List (List ℕ)) → is_known p c ≡ true → are_below p us (map (λ (f : Field). f.of) (all_fields p c)) ≡ true
      → new_type (is_known p c) p xs (Some us) c ≡ Some c
  new_typed xs c us known b =
      ap (λ k. new_type k p xs (Some us) c) known ∙ ap (λ b. type_if b c) (fits_below p us (map (λ (f : Field). f.of) (all_fields p c)) ∙ b)

  pub cast_typed : (c d : List ℕ) → is_known p c ≡ true → is_subtype p d c || is_subtype p c d ≡ true → cast_type p (Some d) c ≡ Some c
  cast_typed c d known related = ap (λ k. type_if (true && k && not (k && not (is_subtype p d c) && not (is_subtype p c d))) c) known ∙ go (is_subtype p d c) (is_subtype p c d) related
    where
      go : (a b : Bool) → a || b ≡ true → type_if (true && true && not (true && not a && not b)) c ≡ Some c
      go true b r = refl
      go false true r = refl
      go false false r = absurd (not_true (sym r))

module _ (p : Table) (g : Environment) where
  abbrev types : List ℕ → Option (List ℕ)
  types = variable_type g

  module _ (sound : IsSound p) (env : HasKnownTypes p g) where
    mutual
      -- A type by the rules is the one that is judged, and is known.
      pub typed : (x : Expr) (t : List ℕ) → HasType p g x t → (type_of p types x ≡ Some t) × (is_known p t ≡ true)
      typed _ _ (t_this slot) = (type_var p types slot this, env.class)
      typed _ _ (t_var slot x t other (y, q, is)) = (
        type_var p types slot x ∙ ap (λ b. cond b (Some g.class) (param_type g.params x)) other ∙ ap (option_map (λ (p : Param). p.of)) q ∙ ap Some is,
        ap (is_known p) (sym is) ∙ env.params y (find_has (λ (q : Param). bytes_eq q.name x) g.params y q).0,
      )
      typed _ _ (t_field slot on f c t fs h inherited field) =
          let r = typed on c h in
          let all : TypesField (all_fields p c) f t = subst (λ z. TypesField z f t) (fields_are p sound.object_free sound.acyclic c fs inherited) field in
          let w = typed_field p sound c f t all in (
            type_get p types slot on f ∙ ap (λ o. accessed p o f) r.0 ∙ ap (option_map (λ (d : Field). d.of)) w.1 ∙ ap Some w.2,
            ap (is_known p) (sym all.3) ∙ field_known p sound c all.0 all.1,
          )
      typed _ _ (t_invk slot on m c args ts r h method below) =
          let o = typed on c h in
          let d = method_is p sound m c ts r method in
          let us = typed_args args ts below in (
            type_call p types slot on m args
                ∙ ap (λ o. call_type p (judged_args p types args) o (arg_types p types args) m) o.0
                ∙ ap (λ o. call_type p (judged_args p types args) (Some c) o m) us.1
                ∙ call_typed p (judged_args p types args) c m us.0 d.0 d.1 (ap (are_below p us.0) d.2 ∙ us.2)
                ∙ ap Some d.3,
            ap (is_known p) (sym d.3) ∙ result_known p sound m c d.0 d.1,
          )
      typed _ _ (t_new slot c args fs inherited below) =
          let known = fields_known p c fs inherited in
          let us = typed_args args (map (λ f. f.of) fs) below in
          let same = ap (map (λ (f : Field). f.of)) (fields_are p sound.object_free sound.acyclic c fs inherited) in (
            type_new p types slot c args
                ∙ ap (λ o. new_type (is_known p c) p (judged_args p types args) o c) us.1
                ∙ new_typed p (judged_args p types args) c us.0 known (ap (are_below p us.0) (sym same) ∙ us.2),
            known,
          )
      typed _ _ (t_ucast slot c d on h below) =
          let r = typed on d h in
          let known = known_above p sound d c below r.1 in (
            type_cast p types slot c on ∙ ap (λ o. cast_type p o c) r.0
                ∙ cast_typed p c d known (or_left (is_subtype p d c) (is_subtype p c d) (subtype_holds p d c below)),
            known,
          )
      typed _ _ (t_dcast slot c d on h above) =
          let r = typed on d h in
          let known = known_below p c d above r.1 in (
            type_cast p types slot c on ∙ ap (λ o. cast_type p o c) r.0
                ∙ cast_typed p c d known (or_right (is_subtype p d c) (is_subtype p c d) (subtype_holds p c d above)),
            known,
          )

      typed_args : (args : List Arg) (ts : List (List ℕ)) → HaveTypesBelow p g args ts → (us : List (List ℕ)) × (arg_types p types args ≡ Some us) × (are_below p us ts ≡ true)
      typed_args _ _ no_types = ([], refl, refl)
      typed_args _ _ (one_more a args c t ts h below rest) =
          let r = typed a.expr c h in
          let us = typed_args args ts rest in (
            c ∷ us.0,
            ap (λ o. types_of (o ∷ map (λ (a : JudgedExpr). a.type) (judged_args p types args))) r.0 ∙ ap (option_map (λ us. c ∷ us)) us.1,
            and_from (is_subtype p c t) (are_below p us.0 ts) (subtype_holds p c t below) us.2,
          )

    -- ---- from what is judged

    -- the type that is judged is one by the rules, and is known
    abbrev Derived : Expr → Type 0
    Derived x = (t : List ℕ) → type_of p types x ≡ Some t → HasType p g x t × (is_known p t ≡ true)

    var_derived : (slot : ℕ) (x t : List ℕ) → variable_type g x ≡ Some t → HasType p g (e.Var slot x) t × (is_known p t ≡ true)
    var_derived slot x t h = go (bytes_eq x this) refl h
      where
        go : (b : Bool) → bytes_eq x this ≡ b → cond b (Some g.class) (param_type g.params x) ≡ Some t → HasType p g (e.Var slot x) t × (is_known p t ≡ true)
        go true q h =
            let same : g.class ≡ t = cc h in
            let at_this : HasType p g (e.Var slot this) t = subst (HasType p g (e.Var slot this)) same (t_this slot) in
            (subst (λ n. HasType p g (e.Var slot n) t) (sym (name_is x this q)) at_this, ap (is_known p) (sym same) ∙ env.class)
        go false q h =
            let y = mapped (λ (p : Param). p.of) (find (λ (q : Param). bytes_eq q.name x) g.params) t h in
            (t_var slot x t q (y.0, y.1, y.2), ap (is_known p) (sym y.2) ∙ env.params y.0 (find_has (λ (q : Param). bytes_eq q.name x) g.params y.0 y.1).0)

    get_derived : (slot : ℕ) (on : Expr) → Derived on → (f t : List ℕ) → accessed p (type_of p types on) f ≡ Some t → HasType p g (e.Get slot on f) t × (is_known p t ≡ true)
    get_derived slot on ih f t h = go (type_of p types on) refl h
      where
        go : (o : Option (List ℕ)) → type_of p types on ≡ o → accessed p o f ≡ Some t → HasType p g (e.Get slot on f) t × (is_known p t ≡ true)
        go None q h = absurd (unlike h)
        go (Some c) q h =
            let r = ih c q in
            let d = mapped (λ (d : Field). d.of) (field_of p c f) t h in
            let all = nearest_has p c f d.0 d.1 in (
              subst (HasType p g (e.Get slot on f)) d.2 (t_field slot on f c d.0.of (all_fields p c) r.0 (are_fields p sound c r.1) (d.0, all.0, all.1, refl)),
              ap (is_known p) (sym d.2) ∙ field_known p sound c d.0 all.0,
            )

    args_derived : (ys : List (Proved Derived)) (us ws : List (List ℕ)) → arg_types p types (args_of Derived ys) ≡ Some us → are_below p us ws ≡ true
        → HaveTypesBelow p g (args_of Derived ys) ws
    args_derived [] us ws h b = go ws (let same : [] ≡ us = cc h in ap (λ z. are_below p z ws) same ∙ b)
      where
        go : (ws : List (List ℕ)) → are_below p [] ws ≡ true → HaveTypesBelow p g [] ws
        go [] b = no_types
        go (w ∷ ws) b = absurd (not_true (sym b))
    args_derived (y ∷ ys) us ws h b = go (args_derived ys) (type_of p types y.0.expr) refl h
      where
        go : ((us ws : List (List ℕ)) → arg_types p types (args_of Derived ys) ≡ Some us → are_below p us ws ≡ true → HaveTypesBelow p g (args_of Derived ys) ws)
            → (o : Option (List ℕ)) → type_of p types y.0.expr ≡ o
            → types_of (o ∷ map (λ (a : JudgedExpr). a.type) (judged_args p types (args_of Derived ys))) ≡ Some us → HaveTypesBelow p g (args_of Derived (y ∷ ys)) ws
        go ih None q h = absurd (unlike h)
        go ih (Some t) q h =
            at ws (ap (λ z. are_below p z ws) r.2 ∙ b)
          where
            r : (vs : List (List ℕ)) × (arg_types p types (args_of Derived ys) ≡ Some vs) × (t ∷ vs ≡ us)
            r = mapped (λ vs. t ∷ vs) (arg_types p types (args_of Derived ys)) us h

            at : (ws : List (List ℕ)) → are_below p (t ∷ r.0) ws ≡ true → HaveTypesBelow p g (args_of Derived (y ∷ ys)) ws
            at [] b = absurd (not_true (sym b))
            at (w ∷ ws) b =
                let parts = and_parts (is_subtype p t w) (are_below p r.0 ws) b in
                one_more y.0 (args_of Derived ys) t w ws (y.1 t q).0 (holds_subtype p t w parts.0) (ih r.0 ws r.1 parts.1)

    call_derived : (slot : ℕ) (on : Expr) → Derived on → (m : List ℕ) (ys : List (Proved Derived)) (t : List ℕ)
        → call_type p (judged_args p types (args_of Derived ys)) (type_of p types on) (arg_types p types (args_of Derived ys)) m ≡ Some t
        → HasType p g (e.Call slot on m (args_of Derived ys)) t × (is_known p t ≡ true)
    call_derived slot on ih m ys t h = go (type_of p types on) refl (arg_types p types args) refl h
      where
        args : List Arg
        args = args_of Derived ys

        Goal : Type 0
        Goal = HasType p g (e.Call slot on m args) t × (is_known p t ≡ true)

        there : (c : List ℕ) → type_of p types on ≡ Some c → (us : List (List ℕ)) → arg_types p types args ≡ Some us → (o : Option Method) → method_of p c m ≡ o
            → result_type (fits (fit_of p (judged_args p types args) (Some us) (option_map (λ (d : Method). param_types d.params) o))) o ≡ Some t → Goal
        there c q us r None s h = absurd (unlike h)
        there c q us r (Some d) s h =
            let parts = cond_some (fits (fit_numbers p us (param_types d.params))) d.result t h in
            let below = args_derived ys us (param_types d.params) r (sym (fits_below p us (param_types d.params)) ∙ parts.0) in (
              subst (HasType p g (e.Call slot on m args)) parts.1
                  (t_invk slot on m c args (param_types d.params) d.result (ih c q).0 (is_method p sound.acyclic m c d s) below),
              ap (is_known p) (sym parts.1) ∙ result_known p sound m c d s,
            )

        go : (o : Option (List ℕ)) → type_of p types on ≡ o → (a : Option (List (List ℕ))) → arg_types p types args ≡ a → call_type p (judged_args p types args) o a m ≡ Some t → Goal
        go None q a r h = absurd (unlike h)
        go (Some c) q None r h = absurd (unlike h)
        go (Some c) q (Some us) r h = there c q us r (method_of p c m) refl h

    new_derived : (slot : ℕ) (c : List ℕ) (ys : List (Proved Derived)) (t : List ℕ)
        → new_type (is_known p c) p (judged_args p types (args_of Derived ys)) (arg_types p types (args_of Derived ys)) c ≡ Some t
        → HasType p g (e.New slot c (args_of Derived ys)) t × (is_known p t ≡ true)
    new_derived slot c ys t h = go (arg_types p types args) refl (is_known p c) refl h
      where
        args : List Arg
        args = args_of Derived ys

        go : (a : Option (List (List ℕ))) → arg_types p types args ≡ a → (k : Bool) → is_known p c ≡ k → new_type k p (judged_args p types args) a c ≡ Some t
            → HasType p g (e.New slot c args) t × (is_known p t ≡ true)
        go None r k q h = absurd (unlike h)
        go (Some us) r false q h = absurd (unlike h)
        go (Some us) r true q h =
            let wanted : List (List ℕ) = map (λ (f : Field). f.of) (all_fields p c) in
            let parts = cond_some (fits (fit_numbers p us wanted)) c t h in
            let below = args_derived ys us wanted r (sym (fits_below p us wanted) ∙ parts.0) in
            (subst (HasType p g (e.New slot c args)) parts.1 (t_new slot c args (all_fields p c) (are_fields p sound c q) below), ap (is_known p) (sym parts.1) ∙ q)

    cast_derived : (slot : ℕ) (c : List ℕ) (on : Expr) → Derived on → (t : List ℕ) → cast_type p (type_of p types on) c ≡ Some t
        → HasType p g (e.Cast slot c on) t × (is_known p t ≡ true)
    cast_derived slot c on ih t h = go (type_of p types on) refl h
      where
        Goal : Type 0
        Goal = HasType p g (e.Cast slot c on) t × (is_known p t ≡ true)

        at : (d : List ℕ) → HasType p g on d → (k a b : Bool) → is_known p c ≡ k → is_subtype p d c ≡ a → is_subtype p c d ≡ b
            → type_if (true && k && not (k && not a && not b)) c ≡ Some t → Goal
        at d on_d false a b known up down h = absurd (unlike h)
        at d on_d true true b known up down h =
            let same : c ≡ t = cc h in
            (subst (HasType p g (e.Cast slot c on)) same (t_ucast slot c d on on_d (holds_subtype p d c up)), ap (is_known p) (sym same) ∙ known)
        at d on_d true false true known up down h =
            let same : c ≡ t = cc h in
            (subst (HasType p g (e.Cast slot c on)) same (t_dcast slot c d on on_d (holds_subtype p c d down)), ap (is_known p) (sym same) ∙ known)
        at d on_d true false false known up down h = absurd (unlike h)

        go : (o : Option (List ℕ)) → type_of p types on ≡ o → cast_type p o c ≡ Some t → Goal
        go None q h = absurd (unlike h)
        go (Some d) q h = at d (ih d q).0 (is_known p c) (is_subtype p d c) (is_subtype p c d) refl refl refl h

    -- What is judged is a type by the rules.
    pub derived : (x : Expr) (t : List ℕ) → type_of p types x ≡ Some t → HasType p g x t × (is_known p t ≡ true)
    derived = by_cases Derived (record {
      var_case = λ slot x t h. var_derived slot x t (sym (type_var p types slot x) ∙ h);
      get_case = λ slot on ih f t h. get_derived slot on ih f t (sym (type_get p types slot on f) ∙ h);
      call_case = λ slot on ih m ys t h. call_derived slot on ih m ys t (sym (type_call p types slot on m (args_of Derived ys)) ∙ h);
      new_case = λ slot c ys t h. new_derived slot c ys t (sym (type_new p types slot c (args_of Derived ys)) ∙ h);
      cast_case = λ slot c on ih t h. cast_derived slot c on ih t (sym (type_cast p types slot c on) ∙ h);
    })
