-- A body is judged alike by two tables whose look-ups agree at the classes that it reaches and the methods that it calls.
use Rattle.std.proofs.Common.{◌≡◌, ℕ, Bool, true, false, not, ◌&&◌, ◌==◌, List, [], ◌∷◌, ◌++◌, length, map, Option, None, Some, is_some, option_map, refl, sym, ◌∙◌, ap, ap₂, subst, cond}
use Rattle.std.specs.Prelude.{⊤}
use Rattle.cfj_model.proofs.ExprCases.{Proved, args_of, by_cases, fold_var, fold_get, fold_call, fold_new, fold_cast, of_arg}
use Rattle.cfj_model.specs.Judging.{Fit, JudgedExpr, accessed, argument_rules, called, field_types, fit_of, fits, is_unrelated, judged_access, judged_arg, judged_call, judged_cast, judged_expr, judged_new, judged_step, judged_variable, misfits, result_type, type_if, types_of, variable_type, with_ruling}
use Rattle.cfj_model.specs.LookUps.{Table, all_fields, ancestors, field_of, first_some, is_known, is_subtype, method_called, method_of}
use Rattle.cfj_model.specs.Typing.{Environment, classes_named_by, classes_named_step, joined, param_types}
use Rattle.cfj_model.specs.declared.class.Field.{Field}
use Rattle.cfj_model.specs.declared.class.Method.{Method}
use Rattle.cfj_model.specs.declared.expr.Arg.{Arg}
use Rattle.cfj_model.specs.declared.expr.Expr.{Expr}
use Rattle.cfj_model.specs.declared.expr.Expr.TheVariants as e
use Rattle.cfj_model.specs.declared.site.Rule.TheVariants.{K1, E2, E3, E4, E5, E6, E7, E8}
use Rattle.unit_facts.specs.Reach.{methods_called_by, methods_called_step}
use Rattle.locality_law.proofs.Items.{Each, each_left, each_right}
use Rattle.locality_law.proofs.SeenChains.{SigSeen, sig_seen}

-- where there is one, it has it
abbrev pub If : {A : Type 0} → (A → Type 0) → Option A → Type 0
If P None = ⊤
If P (Some x) = P x

-- Look-ups in two tables agree at the classes of N and the methods of K, and what they give is in N.
pub record Agree (N K : List ℕ → Type 0) (p q : Table) : Type 0 where
  pub known : (n : List ℕ) → N n → is_known p n ≡ is_known q n
  pub below : (n d : List ℕ) → N n → is_subtype p n d ≡ is_subtype q n d
  pub field : (n f : List ℕ) → N n → field_of p n f ≡ field_of q n f
  pub fields : (n : List ℕ) → N n → all_fields p n ≡ all_fields q n
  pub method : (n m : List ℕ) → N n → K m → option_map sig_seen (method_of p n m) ≡ option_map sig_seen (method_of q n m)
  pub overridden : (n m : List ℕ) → N n → K m
      → option_map sig_seen (first_some (method_called m) (ancestors p n)) ≡ option_map sig_seen (first_some (method_called m) (ancestors q n))
  pub field_in : (n f : List ℕ) → N n → If (λ (d : Field). N d.of) (field_of p n f)
  pub result_in : (n m : List ℕ) → N n → K m → If (λ (d : Method). N d.result) (method_of p n m)

-- ---- names, node by node

abbrev names_of_arg : Arg → List (List ℕ)
names_of_arg = of_arg (List (List ℕ)) (List (List ℕ)) classes_named_step (λ a. a.expr)

abbrev calls_of_arg : Arg → List (List ℕ)
calls_of_arg = of_arg (List (List ℕ)) (List (List ℕ)) methods_called_step (λ a. a.expr)

-- the names of arguments
abbrev pub names_of_args : List Arg → List (List ℕ)
names_of_args args = joined (map names_of_arg args)

abbrev pub calls_of_args : List Arg → List (List ℕ)
calls_of_args args = joined (map calls_of_arg args)

pub names_var : (slot : ℕ) (x : List ℕ) → classes_named_by (e.Var slot x) ≡ []
names_var slot x = fold_var (List (List ℕ)) (List (List ℕ)) classes_named_step (λ a. a.expr) slot x

pub names_get : (slot : ℕ) (on : Expr) (f : List ℕ) → classes_named_by (e.Get slot on f) ≡ classes_named_by on
names_get slot on f = fold_get (List (List ℕ)) (List (List ℕ)) classes_named_step (λ a. a.expr) slot on f

pub names_call : (slot : ℕ) (on : Expr) (m : List ℕ) (args : List Arg) → classes_named_by (e.Call slot on m args) ≡ classes_named_by on ++ names_of_args args
names_call slot on m args = fold_call (List (List ℕ)) (List (List ℕ)) classes_named_step (λ a. a.expr) slot on m args

pub names_new : (slot : ℕ) (c : List ℕ) (args : List Arg) → classes_named_by (e.New slot c args) ≡ c ∷ names_of_args args
names_new slot c args = fold_new (List (List ℕ)) (List (List ℕ)) classes_named_step (λ a. a.expr) slot c args

pub names_cast : (slot : ℕ) (c : List ℕ) (on : Expr) → classes_named_by (e.Cast slot c on) ≡ c ∷ classes_named_by on
names_cast slot c on = fold_cast (List (List ℕ)) (List (List ℕ)) classes_named_step (λ a. a.expr) slot c on

pub calls_var : (slot : ℕ) (x : List ℕ) → methods_called_by (e.Var slot x) ≡ []
calls_var slot x = fold_var (List (List ℕ)) (List (List ℕ)) methods_called_step (λ a. a.expr) slot x

pub calls_get : (slot : ℕ) (on : Expr) (f : List ℕ) → methods_called_by (e.Get slot on f) ≡ methods_called_by on
calls_get slot on f = fold_get (List (List ℕ)) (List (List ℕ)) methods_called_step (λ a. a.expr) slot on f

pub calls_call : (slot : ℕ) (on : Expr) (m : List ℕ) (args : List Arg) → methods_called_by (e.Call slot on m args) ≡ m ∷ (methods_called_by on ++ calls_of_args args)
calls_call slot on m args = fold_call (List (List ℕ)) (List (List ℕ)) methods_called_step (λ a. a.expr) slot on m args

pub calls_new : (slot : ℕ) (c : List ℕ) (args : List Arg) → methods_called_by (e.New slot c args) ≡ calls_of_args args
calls_new slot c args = fold_new (List (List ℕ)) (List (List ℕ)) methods_called_step (λ a. a.expr) slot c args

pub calls_cast : (slot : ℕ) (c : List ℕ) (on : Expr) → methods_called_by (e.Cast slot c on) ≡ methods_called_by on
calls_cast slot c on = fold_cast (List (List ℕ)) (List (List ℕ)) methods_called_step (λ a. a.expr) slot c on

-- ---- nodes

abbrev result_by : Bool → Option SigSeen → Option (List ℕ)
result_by ok None = None
result_by ok (Some g) = type_if ok g.result

-- a call that sees of its method the signature alone
abbrev call_by : Table → ℕ → JudgedExpr → List JudgedExpr → Option (List (List ℕ)) → Option SigSeen → JudgedExpr
call_by p slot on args ts g =
    let f : Fit = fit_of p args ts (option_map (λ (g : SigSeen). g.params) g) in
    record {
      type = result_by (fits f) g;
      rules = λ more. on.rules [] ++ (slot, (E3, is_some on.type && is_some ts && not (is_some g)) ∷ (E4, f.differs) ∷ more) ∷ argument_rules E5 args f.misfits;
    }

judged_by_sig : (p : Table) (slot : ℕ) (on : JudgedExpr) (m : List ℕ) (args : List JudgedExpr)
    → judged_call p slot on m args ≡ call_by p slot on args (types_of (map (λ a. a.type) args)) (option_map sig_seen (called p on.type (types_of (map (λ a. a.type) args)) m))
judged_by_sig p slot on m args = go (called p on.type (types_of (map (λ a. a.type) args)) m)
  where
    ts : Option (List (List ℕ))
    ts = types_of (map (λ a. a.type) args)

    go : (d : Option Method)
        → (let f : Fit = fit_of p args ts (option_map (λ (d : Method). param_types d.params) d) in
        let j : JudgedExpr = record {
          type = result_type (fits f) d;
          rules = λ more. on.rules [] ++ (slot, (E3, is_some on.type && is_some ts && not (is_some d)) ∷ (E4, f.differs) ∷ more) ∷ argument_rules E5 args f.misfits;
        } in j) ≡ call_by p slot on args ts (option_map sig_seen d)
    go None = refl
    go (Some d) = refl

module _ (N K : List ℕ → Type 0) (p q : Table) (agree : Agree N K p q) where
  -- judged alike, with a type in N
  abbrev IsFine : JudgedExpr → JudgedExpr → Type 0
  IsFine a b = (a ≡ b) × If N a.type

  abbrev with_first : Option (List ℕ) → Option (List (List ℕ)) → Option (List (List ℕ))
  with_first None ts = None
  with_first (Some t) ts = option_map (λ us. t ∷ us) ts

  types_more : (t : Option (List ℕ)) (ts : List (Option (List ℕ))) → types_of (t ∷ ts) ≡ with_first t (types_of ts)
  types_more None ts = refl
  types_more (Some t) ts = refl

  -- types that all are there are in N
  types_in : (js : List JudgedExpr) → Each (λ j. If N j.type) js → If (Each N) (types_of (map (λ a. a.type) js))
  types_in [] each = tt
  types_in (j ∷ js) each =
      subst (If (Each N)) (sym (types_more j.type (map (λ (a : JudgedExpr). a.type) js))) (go j.type each.0 (types_of (map (λ (a : JudgedExpr). a.type) js)) (types_in js each.1))
    where
      more : (t : List ℕ) → N t → (ts : Option (List (List ℕ))) → If (Each N) ts → If (Each N) (option_map (λ us. t ∷ us) ts)
      more t h None hs = tt
      more t h (Some us) hs = (h, hs)

      go : (t : Option (List ℕ)) → If N t → (ts : Option (List (List ℕ))) → If (Each N) ts → If (Each N) (with_first t ts)
      go None h ts hs = tt
      go (Some t) h ts hs = more t h ts hs

  misfits_same : (ts ws : List (List ℕ)) → Each N ts → misfits p ts ws ≡ misfits q ts ws
  misfits_same [] ws each = refl
  misfits_same (t ∷ ts) [] each = ap (λ bs. false ∷ bs) (misfits_same ts [] each.1)
  misfits_same (t ∷ ts) (w ∷ ws) each = ap₂ (λ b bs. not b ∷ bs) (agree.below t w each.0) (misfits_same ts ws each.1)

  fit_same : {A : Type 0} (args : List A) (ts : Option (List (List ℕ))) (wanted : Option (List (List ℕ))) → If (Each N) ts → fit_of p args ts wanted ≡ fit_of q args ts wanted
  fit_same args None wanted each = refl
  fit_same args (Some ts) None each = refl
  fit_same args (Some ts) (Some ws) each =
      ap (λ (bs : List Bool). cond (length ts == length ws) (let f : Fit = record { differs = false; misfits = bs } in f) (record { differs = true; misfits = map (λ x. false) ts })) (misfits_same ts ws each)

  access_fine : (slot : ℕ) (on : JudgedExpr) (f : List ℕ) → If N on.type → IsFine (judged_access p slot on f) (judged_access q slot on f)
  access_fine slot on f h =
      (ap (λ (t : Option (List ℕ)). let j : JudgedExpr = record { type = t; rules = λ more. on.rules [] ++ (slot, (E2, is_some on.type && not (is_some t)) ∷ more) ∷ [] } in j) (same on.type h), within on.type h)
    where
      same : (t : Option (List ℕ)) → If N t → accessed p t f ≡ accessed q t f
      same None h = refl
      same (Some c) h = ap (option_map (λ (d : Field). d.of)) (agree.field c f h)

      of_field : (o : Option Field) → If (λ (d : Field). N d.of) o → If N (option_map (λ (d : Field). d.of) o)
      of_field None h = tt
      of_field (Some d) h = h

      within : (t : Option (List ℕ)) → If N t → If N (accessed p t f)
      within None h = tt
      within (Some c) h = of_field (field_of p c f) (agree.field_in c f h)

  call_fine : (slot : ℕ) (on : JudgedExpr) (m : List ℕ) (args : List JudgedExpr) → If N on.type → K m → Each (λ j. If N j.type) args
      → IsFine (judged_call p slot on m args) (judged_call q slot on m args)
  call_fine slot on m args h k each =
      (judged_by_sig p slot on m args ∙ table_same ∙ ap (call_by q slot on args ts) (sig_same on.type h ts) ∙ sym (judged_by_sig q slot on m args), result_within (called p on.type ts m) (called_in on.type h ts))
    where
      ts : Option (List (List ℕ))
      ts = types_of (map (λ a. a.type) args)

      sig_same : (t : Option (List ℕ)) → If N t → (us : Option (List (List ℕ))) → option_map sig_seen (called p t us m) ≡ option_map sig_seen (called q t us m)
      sig_same None h us = refl
      sig_same (Some c) h None = refl
      sig_same (Some c) h (Some us) = agree.method c m h k

      with_fit : Option SigSeen → Fit → JudgedExpr
      with_fit g f = record {
        type = result_by (fits f) g;
        rules = λ more. on.rules [] ++ (slot, (E3, is_some on.type && is_some ts && not (is_some g)) ∷ (E4, f.differs) ∷ more) ∷ argument_rules E5 args f.misfits;
      }

      table_same : call_by p slot on args ts (option_map sig_seen (called p on.type ts m)) ≡ call_by q slot on args ts (option_map sig_seen (called p on.type ts m))
      table_same =
          let g : Option SigSeen = option_map sig_seen (called p on.type ts m) in
          ap (with_fit g) (fit_same args ts (option_map (λ (g : SigSeen). g.params) g) (types_in args each))

      called_in : (t : Option (List ℕ)) → If N t → (us : Option (List (List ℕ))) → If (λ (d : Method). N d.result) (called p t us m)
      called_in None h us = tt
      called_in (Some c) h None = tt
      called_in (Some c) h (Some us) = agree.result_in c m h k

      type_within : (ok : Bool) (t : List ℕ) → N t → If N (type_if ok t)
      type_within true t h = h
      type_within false t h = tt

      result_within : (d : Option Method) → If (λ (d : Method). N d.result) d → If N (result_type (fits (fit_of p args ts (option_map (λ (d : Method). param_types d.params) d))) d)
      result_within None h = tt
      result_within (Some d) h = type_within (fits (fit_of p args ts (Some (param_types d.params)))) d.result h

  new_fine : (slot : ℕ) (c : List ℕ) (args : List JudgedExpr) → N c → Each (λ j. If N j.type) args → IsFine (judged_new p slot c args) (judged_new q slot c args)
  new_fine slot c args h each =
      (ap₂ made (agree.known c h) (fit_same args ts (field_types p c) (types_in args each) ∙ ap (fit_of q args ts) wanted_same), type_within (is_some ts && is_known p c && fits (fit_of p args ts (field_types p c))))
    where
      ts : Option (List (List ℕ))
      ts = types_of (map (λ a. a.type) args)

      made : Bool → Fit → JudgedExpr
      made known f = record {
        type = type_if (is_some ts && known && fits f) c;
        rules = λ more. (slot, (K1, not known) ∷ with_ruling (E6, f.differs) more) ∷ argument_rules E7 args f.misfits;
      }

      wanted_same : field_types p c ≡ field_types q c
      wanted_same = ap₂ (λ (b : Bool) (fs : List Field). cond b (Some (map (λ (f : Field). f.of) fs)) None) (agree.known c h) (agree.fields c h)

      type_within : (ok : Bool) → If N (type_if ok c)
      type_within true = h
      type_within false = tt

  cast_fine : (slot : ℕ) (c : List ℕ) (on : JudgedExpr) → N c → If N on.type → IsFine (judged_cast p slot c on) (judged_cast q slot c on)
  cast_fine slot c on h within = (ap₂ made (agree.known c h) (unrelated_same on.type within), type_within (is_some on.type && is_known p c && not (is_unrelated p on.type c)))
    where
      made : Bool → Bool → JudgedExpr
      made known unrelated = record {
        type = type_if (is_some on.type && known && not unrelated) c;
        rules = λ more. (slot, (K1, not known) ∷ with_ruling (E8, unrelated) more) ∷ on.rules [];
      }

      unrelated_same : (t : Option (List ℕ)) → If N t → is_unrelated p t c ≡ is_unrelated q t c
      unrelated_same None w = refl
      unrelated_same (Some d) w =
          ap (λ b. b && not (is_subtype p d c) && not (is_subtype p c d)) (agree.known c h)
          ∙ ap₂ (λ a b. is_known q c && not a && not b) (agree.below d c w) (agree.below c d h)

      type_within : (ok : Bool) → If N (type_if ok c)
      type_within true = h
      type_within false = tt

  as_fine : (a b c d : JudgedExpr) → a ≡ c → b ≡ d → IsFine c d → IsFine a b
  as_fine a b c d e f fine = (e ∙ fine.0 ∙ sym f, subst (λ (j : JudgedExpr). If N j.type) (sym e) fine.1)

  module _ (g : Environment) (in_env : (x : List ℕ) → If N (variable_type g x)) where
    abbrev IsSame : Expr → Type 0
    IsSame x = Each N (classes_named_by x) → Each K (methods_called_by x) → IsFine (judged_expr p g x) (judged_expr q g x)

    abbrev judged_args : Table → List Arg → List JudgedExpr
    judged_args t args = map (of_arg JudgedExpr JudgedExpr (judged_step t g) judged_arg) args

    args_fine : (ys : List (Proved IsSame)) → Each N (names_of_args (args_of IsSame ys)) → Each K (calls_of_args (args_of IsSame ys))
        → (judged_args p (args_of IsSame ys) ≡ judged_args q (args_of IsSame ys)) × Each (λ j. If N j.type) (judged_args p (args_of IsSame ys))
    args_fine [] ns ks = (refl, tt)
    args_fine (y ∷ ys) ns ks =
        let here = y.1 (each_left N (classes_named_by y.0.expr) (names_of_args (args_of IsSame ys)) ns) (each_left K (methods_called_by y.0.expr) (calls_of_args (args_of IsSame ys)) ks) in
        let rest = args_fine ys (each_right N (classes_named_by y.0.expr) (names_of_args (args_of IsSame ys)) ns) (each_right K (methods_called_by y.0.expr) (calls_of_args (args_of IsSame ys)) ks) in
        (ap₂ (λ x xs. x ∷ xs) here.0 rest.0, (here.1, rest.1))

    call_same : (slot : ℕ) (on : Expr) → IsSame on → (m : List ℕ) (ys : List (Proved IsSame)) → IsSame (e.Call slot on m (args_of IsSame ys))
    call_same slot on part m ys ns ks =
        let args = args_of IsSame ys in
        let names : Each N (classes_named_by on ++ names_of_args args) = subst (Each N) (names_call slot on m args) ns in
        let calls : Each K (m ∷ (methods_called_by on ++ calls_of_args args)) = subst (Each K) (calls_call slot on m args) ks in
        let here = part (each_left N (classes_named_by on) (names_of_args args) names) (each_left K (methods_called_by on) (calls_of_args args) calls.1) in
        let rest = args_fine ys (each_right N (classes_named_by on) (names_of_args args) names) (each_right K (methods_called_by on) (calls_of_args args) calls.1) in
        as_fine _ _ (judged_call p slot (judged_expr p g on) m (judged_args p args)) (judged_call q slot (judged_expr p g on) m (judged_args p args))
        (fold_call JudgedExpr JudgedExpr (judged_step p g) judged_arg slot on m args)
        (fold_call JudgedExpr JudgedExpr (judged_step q g) judged_arg slot on m args ∙ sym (ap₂ (λ j js. judged_call q slot j m js) here.0 rest.0))
        (call_fine slot (judged_expr p g on) m (judged_args p args) here.1 calls.0 rest.1)

    new_same : (slot : ℕ) (c : List ℕ) (ys : List (Proved IsSame)) → IsSame (e.New slot c (args_of IsSame ys))
    new_same slot c ys ns ks =
        let args = args_of IsSame ys in
        let names : Each N (c ∷ names_of_args args) = subst (Each N) (names_new slot c args) ns in
        let calls : Each K (calls_of_args args) = subst (Each K) (calls_new slot c args) ks in
        let rest = args_fine ys names.1 calls in
        as_fine _ _ (judged_new p slot c (judged_args p args)) (judged_new q slot c (judged_args p args))
        (fold_new JudgedExpr JudgedExpr (judged_step p g) judged_arg slot c args)
        (fold_new JudgedExpr JudgedExpr (judged_step q g) judged_arg slot c args ∙ sym (ap (judged_new q slot c) rest.0))
        (new_fine slot c (judged_args p args) names.0 rest.1)

    cast_same : (slot : ℕ) (c : List ℕ) (on : Expr) → IsSame on → IsSame (e.Cast slot c on)
    cast_same slot c on part ns ks =
        let names : Each N (c ∷ classes_named_by on) = subst (Each N) (names_cast slot c on) ns in
        let here = part names.1 (subst (Each K) (calls_cast slot c on) ks) in
        as_fine _ _ (judged_cast p slot c (judged_expr p g on)) (judged_cast q slot c (judged_expr p g on))
        (fold_cast JudgedExpr JudgedExpr (judged_step p g) judged_arg slot c on)
        (fold_cast JudgedExpr JudgedExpr (judged_step q g) judged_arg slot c on ∙ sym (ap (judged_cast q slot c) here.0))
        (cast_fine slot c (judged_expr p g on) names.0 here.1)

    get_same : (slot : ℕ) (on : Expr) → IsSame on → (f : List ℕ) → IsSame (e.Get slot on f)
    get_same slot on part f ns ks =
        let here = part (subst (Each N) (names_get slot on f) ns) (subst (Each K) (calls_get slot on f) ks) in
        as_fine _ _ (judged_access p slot (judged_expr p g on) f) (judged_access q slot (judged_expr p g on) f)
        (fold_get JudgedExpr JudgedExpr (judged_step p g) judged_arg slot on f)
        (fold_get JudgedExpr JudgedExpr (judged_step q g) judged_arg slot on f ∙ sym (ap (λ j. judged_access q slot j f) here.0))
        (access_fine slot (judged_expr p g on) f here.1)

    var_same : (slot : ℕ) (x : List ℕ) → IsSame (e.Var slot x)
    var_same slot x ns ks =
        as_fine _ _ (judged_variable (variable_type g) slot x) (judged_variable (variable_type g) slot x)
        (fold_var JudgedExpr JudgedExpr (judged_step p g) judged_arg slot x) (fold_var JudgedExpr JudgedExpr (judged_step q g) judged_arg slot x) (refl, in_env x)

    -- a body whose classes are in N and whose methods are in K
    pub judged_same : (x : Expr) → Each N (classes_named_by x) → Each K (methods_called_by x) → (judged_expr p g x ≡ judged_expr q g x) × If N (judged_expr p g x).type
    judged_same = by_cases IsSame (record { var_case = var_same; get_case = get_same; call_case = call_same; new_case = new_same; cast_case = cast_same })
