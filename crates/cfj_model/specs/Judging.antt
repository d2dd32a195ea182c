-- The rules of a project's nodes, each judged at its node: which pairs of a site and a rule there are, in order, and which break.
use Rattle.std.specs.Prelude.{ℕ, Bool, true, false, not, ◌&&◌, ◌==◌, nat_lt, List, [], ◌∷◌, ◌++◌, length, map, flat_map, find, if◌then◌else◌, Option, Some, None, is_some, option_map}
use Rattle.std.specs.List.{list_any}
use Rattle.std.specs.Str.{bytes_eq}
use Rattle.cfj_model.specs.LookUps.{Table, all_fields, ancestors, chain, field_called, field_of, first_some, is_known, is_subtype, method_called, method_of}
use Rattle.cfj_model.specs.Members.{Placed, placed, is_again, field_name_of, method_name_of}
use Rattle.cfj_model.specs.Typing.{Environment, param_types, this}
use Rattle.cfj_words.specs.Lists.{Has}
use Rattle.cfj_model.specs.declared.class.Class.{Class}
use Rattle.cfj_model.specs.declared.class.Field.{Field}
use Rattle.cfj_model.specs.declared.class.Method.{Method}
use Rattle.cfj_model.specs.declared.class.Param.{Param}
use Rattle.cfj_model.specs.declared.expr.Arg.{Arg-F}
use Rattle.cfj_model.specs.declared.expr.Expr.{Expr}
use Rattle.cfj_model.specs.declared.expr.Expr.TheOpen.{Expr-F}
use Rattle.cfj_model.specs.declared.expr.Expr.TheFolds.{fold-Expr}
use Rattle.cfj_model.specs.declared.site.Rule.{Rule}
use Rattle.cfj_model.specs.declared.site.Rule.TheVariants.{K1, K2, K3, K4, K5, K6, K7, K8, K9, E1, E2, E3, E4, E5, E6, E7, E8}
use Rattle.cfj_model.specs.declared.site.Site.{Site}
use Rattle.cfj_model.specs.declared.site.Site.TheVariants as site

-- a rule at a site, and whether it breaks there
pub record RuleAt : Type 0 where
  pub site : Site
  pub rule : Rule
  pub breaks : Bool

-- a rule, and whether it breaks
abbrev pub Ruling : Type 0
Ruling = Rule × Bool

-- the order of the rules at one site: K1 to K9, then E1 to E8
abbrev pub rank : Rule → ℕ
rank K1 = 1
rank K2 = 2
rank K3 = 3
rank K4 = 4
rank K5 = 5
rank K6 = 6
rank K7 = 7
rank K8 = 8
rank K9 = 9
rank E1 = 10
rank E2 = 11
rank E3 = 12
rank E4 = 13
rank E5 = 14
rank E6 = 15
rank E7 = 16
rank E8 = 17

-- one more item in its place by rank, behind those that rank lower
abbrev pub insert_ranked : {A : Type 0} → (A → ℕ) → A → List A → List A
insert_ranked rank_of x [] = x ∷ []
insert_ranked rank_of x (y ∷ ys) = if nat_lt (rank_of y) (rank_of x) then y ∷ insert_ranked rank_of x ys else x ∷ y ∷ ys

-- one more ruling, in its place among those of its site
abbrev pub with_ruling : Ruling → List Ruling → List Ruling
with_ruling v vs = insert_ranked (λ w. rank w.0) v vs

-- the rules of a site, in order
abbrev pub judged_at : Site → List Ruling → List RuleAt
judged_at s vs = map (λ v. record { site = s; rule = v.0; breaks = v.1 }) vs

-- ---- lists of names

-- the names are the same, in order
abbrev pub are_same : List (List ℕ) → List (List ℕ) → Bool
are_same [] [] = true
are_same (x ∷ xs) (y ∷ ys) = bytes_eq x y && are_same xs ys
are_same _ _ = false

-- ---- expressions

-- the type that an environment gives a variable
abbrev pub param_type : List Param → List ℕ → Option (List ℕ)
param_type ps x = option_map (λ (p : Param). p.of) (find (λ (p : Param). bytes_eq p.name x) ps)

abbrev pub variable_type : Environment → List ℕ → Option (List ℕ)
variable_type g x = if bytes_eq x this then Some g.class else param_type g.params x

-- An expression that is judged: its type, where it has one, and the rules of its nodes by slot. Those that the node round it judges
-- at its root are given, and stand among its root's own in the order of the rules.
pub record JudgedExpr : Type 0 where
  pub type : Option (List ℕ)
  pub rules : List Ruling → List (ℕ × List Ruling)

-- all have types
abbrev pub types_of : List (Option (List ℕ)) → Option (List (List ℕ))
types_of [] = Some []
types_of (None ∷ ts) = None
types_of (Some t ∷ ts) = option_map (λ us. t ∷ us) (types_of ts)

-- Of each argument whether it isn't a subtype of what is wanted at its place.
abbrev pub misfits : Table → List (List ℕ) → List (List ℕ) → List Bool
misfits p [] wanted = []
misfits p (t ∷ ts) [] = false ∷ misfits p ts []
misfits p (t ∷ ts) (w ∷ ws) = not (is_subtype p t w) ∷ misfits p ts ws

-- none misfits, where nothing is to be judged
abbrev pub no_misfits : {A : Type 0} → List A → List Bool
no_misfits xs = map (λ x. false) xs

-- Arguments against the types that are wanted of them: whether their number differs, and which of them misfit.
pub record Fit : Type 0 where
  pub differs : Bool
  pub misfits : List Bool

-- nothing is judged of so many arguments
abbrev pub unjudged : {A : Type 0} → List A → Fit
unjudged xs = record { differs = false; misfits = no_misfits xs }

abbrev pub fit_numbers : Table → List (List ℕ) → List (List ℕ) → Fit
fit_numbers p ts wanted =
    if length ts == length wanted then record { differs = false; misfits = misfits p ts wanted } else record { differs = true; misfits = no_misfits ts }

-- only arguments that all have types are judged, and only against types that are known
abbrev pub fit_of : {A : Type 0} → Table → List A → Option (List (List ℕ)) → Option (List (List ℕ)) → Fit
fit_of p args None wanted = unjudged args
fit_of p args (Some ts) None = unjudged args
fit_of p args (Some ts) (Some wanted) = fit_numbers p ts wanted

-- the arguments fit
abbrev pub fits : Fit → Bool
fits f = not f.differs && not (list_any (λ b. b) f.misfits)

-- the rules of arguments, each with the one that the call or `new` round it judges there
abbrev pub argument_rules : Rule → List JudgedExpr → List Bool → List (ℕ × List Ruling)
argument_rules rule [] bs = []
argument_rules rule (a ∷ xs) [] = a.rules ((rule, false) ∷ []) ++ argument_rules rule xs []
argument_rules rule (a ∷ xs) (b ∷ bs) = a.rules ((rule, b) ∷ []) ++ argument_rules rule xs bs

-- a type where all is well
abbrev pub type_if : Bool → List ℕ → Option (List ℕ)
type_if ok t = if ok then Some t else None

-- a variable, by the types that variables have
abbrev pub judged_variable : (List ℕ → Option (List ℕ)) → ℕ → List ℕ → JudgedExpr
judged_variable types slot x = record { type = types x; rules = λ more. (slot, (E1, not (is_some (types x))) ∷ more) ∷ [] }

-- a field of a receiver that has a type
abbrev pub accessed : Table → Option (List ℕ) → List ℕ → Option (List ℕ)
accessed p None f = None
accessed p (Some c) f = option_map (λ (d : Field). d.of) (field_of p c f)

abbrev pub judged_access : Table → ℕ → JudgedExpr → List ℕ → JudgedExpr
judged_access p slot on f =
    record { type = accessed p on.type f; rules = λ more. on.rules [] ++ (slot, (E2, is_some on.type && not (is_some (accessed p on.type f))) ∷ more) ∷ [] }

-- the method of a receiver, where it and all arguments have types
abbrev pub called : Table → Option (List ℕ) → Option (List (List ℕ)) → List ℕ → Option Method
called p None ts m = None
called p (Some c) None m = None
called p (Some c) (Some ts) m = method_of p c m

abbrev pub result_type : Bool → Option Method → Option (List ℕ)
result_type ok None = None
result_type ok (Some d) = type_if ok d.result

abbrev pub judged_call : Table → ℕ → JudgedExpr → List ℕ → List JudgedExpr → JudgedExpr
judged_call p slot on m args =
    let ts : Option (List (List ℕ)) = types_of (map (λ a. a.type) args) in
    let d : Option Method = called p on.type ts m in
    let f : Fit = fit_of p args ts (option_map (λ (d : Method). param_types d.params) d) in
    record {
      type = result_type (fits f) d;
      rules = λ more. on.rules [] ++ (slot, (E3, is_some on.type && is_some ts && not (is_some d)) ∷ (E4, f.differs) ∷ more) ∷ argument_rules E5 args f.misfits;
    }

-- the types of a class's fields, where the class is known
abbrev pub field_types : Table → List ℕ → Option (List (List ℕ))
field_types p c = if is_known p c then Some (map (λ (f : Field). f.of) (all_fields p c)) else None

abbrev pub judged_new : Table → ℕ → List ℕ → List JudgedExpr → JudgedExpr
judged_new p slot c args =
    let ts : Option (List (List ℕ)) = types_of (map (λ a. a.type) args) in
    let f : Fit = fit_of p args ts (field_types p c) in
    record {
      type = type_if (is_some ts && is_known p c && fits f) c;
      rules = λ more. (slot, (K1, not (is_known p c)) ∷ with_ruling (E6, f.differs) more) ∷ argument_rules E7 args f.misfits;
    }

-- a known class to which an operand's type is neither below nor above
abbrev pub is_unrelated : Table → Option (List ℕ) → List ℕ → Bool
is_unrelated p None c = false
is_unrelated p (Some d) c = is_known p c && not (is_subtype p d c) && not (is_subtype p c d)

abbrev pub judged_cast : Table → ℕ → List ℕ → JudgedExpr → JudgedExpr
judged_cast p slot c on =
    record {
      type = type_if (is_some on.type && is_known p c && not (is_unrelated p on.type c)) c;
      rules = λ more. (slot, (K1, not (is_known p c)) ∷ with_ruling (E8, is_unrelated p on.type c) more) ∷ on.rules [];
    }

-- a node, by the types that variables have and by its judged parts
abbrev pub judged_step_with : Table → (List ℕ → Option (List ℕ)) → Expr-F JudgedExpr JudgedExpr → JudgedExpr
judged_step_with p types (Expr-F.Var slot name) = judged_variable types slot name
judged_step_with p types (Expr-F.Get slot on field) = judged_access p slot on field
judged_step_with p types (Expr-F.Call slot on method args) = judged_call p slot on method args
judged_step_with p types (Expr-F.New slot class args) = judged_new p slot class args
judged_step_with p types (Expr-F.Cast slot class on) = judged_cast p slot class on

-- a node of a body
abbrev pub judged_step : Table → Environment → Expr-F JudgedExpr JudgedExpr → JudgedExpr
judged_step p g = judged_step_with p (variable_type g)

abbrev pub judged_arg : Arg-F JudgedExpr JudgedExpr → JudgedExpr
judged_arg a = a.expr

-- An expression has a type exactly where each part directly under it has one, no rule breaks at it, and no argument of it misfits.
abbrev pub judged_expr : Table → Environment → Expr → JudgedExpr
judged_expr p g = fold-Expr JudgedExpr JudgedExpr (judged_step p g) judged_arg

-- an expression by itself, where no variable has a type
abbrev pub judged_alone : Table → Expr → JudgedExpr
judged_alone p = fold-Expr JudgedExpr JudgedExpr (judged_step_with p (λ x. None)) judged_arg

-- ---- declarations

-- a field, with those before it in its class
abbrev pub judged_field : Table → Class → Placed Field → List RuleAt
judged_field p k f =
    judged_at (site.Field k.name f.item.name f.item.alt)
    ((K1, not (is_known p f.item.of))
    ∷ (K3, list_any (λ a. is_some (field_called f.item.name a)) (ancestors p k.name))
    ∷ (K9, is_again field_name_of f) ∷ [])

-- the parameters of the constructor are the fields, by types and by names
abbrev pub takes_fields : List Param → List Field → Bool
takes_fields ps fs = are_same (map (λ p. p.of) ps) (map (λ f. f.of) fs) && are_same (map (λ p. p.name) ps) (map (λ f. f.name) fs)

abbrev pub judged_ctor : Table → Class → List RuleAt
judged_ctor p k =
    judged_at (site.Ctor k.name)
    ((K4, not (takes_fields k.ctor.params (all_fields p k.name)))
    ∷ (K5, not (are_same (map (λ s. s.name) k.ctor.sends) (map (λ f. f.name) (all_fields p k.parent))))
    ∷ (K6, not (are_same (map (λ a. a.name) k.ctor.assigns) (map (λ f. f.name) k.fields))) ∷ [])
    ++ flat_map (λ (c : Param). judged_at (site.CtorParam k.name c.slot) ((K1, not (is_known p c.of)) ∷ [])) k.ctor.params

-- the method that the nearest ancestor declares has other parameter types or another result
abbrev pub is_overridden_wrongly : Method → Option Method → Bool
is_overridden_wrongly m None = false
is_overridden_wrongly m (Some d) = not (are_same (param_types d.params) (param_types m.params) && bytes_eq d.result m.result)

-- the body has a type that isn't a subtype of the result
abbrev pub is_no_result : Table → Method → Option (List ℕ) → Bool
is_no_result p m None = false
is_no_result p m (Some t) = not (is_subtype p t m.result)

abbrev pub environment_of : Class → Method → Environment
environment_of k m = record { class = k.name; params = m.params }

-- a method, with those before it in its class
abbrev pub judged_method : Table → Class → Placed Method → List RuleAt
judged_method p k placed_method =
    let m : Method = placed_method.item in
    let body : JudgedExpr = judged_expr p (environment_of k m) m.body in
    judged_at (site.Method k.name m.name m.alt)
    ((K1, not (is_known p m.result))
    ∷ (K7, is_overridden_wrongly m (first_some (method_called m.name) (ancestors p k.name)))
    ∷ (K8, is_no_result p m body.type)
    ∷ (K9, is_again method_name_of placed_method) ∷ [])
    ++ (flat_map (λ (q : Param). judged_at (site.Param k.name m.name m.alt q.slot) ((K1, not (is_known p q.of)) ∷ [])) m.params
    ++ flat_map (λ (n : ℕ × List Ruling). judged_at (site.Node k.name m.name m.alt n.0) n.1) (body.rules []))

-- the class is an ancestor of itself
abbrev pub extends_itself : Table → Class → Bool
extends_itself p k = list_any (λ a. bytes_eq a.parent k.name) (chain p k.name)

abbrev pub judged_class : Table → Class → List RuleAt
judged_class p k =
    judged_at (site.Class k.name) ((K1, not (is_known p k.parent)) ∷ (K2, extends_itself p k) ∷ [])
    ++ (flat_map (judged_field p k) (placed k.fields) ++ (judged_ctor p k ++ flat_map (judged_method p k) (placed k.methods)))

-- all pairs of a project, in the order of the text, the rules of a site in their order
unfoldable pub judged : Table → List RuleAt
judged p = flat_map (judged_class p) p

-- a pair of a site and a rule
abbrev pub Pair : Type 0
Pair = Site × Rule

abbrev pub pair_of : RuleAt → Pair
pair_of j = (j.site, j.rule)

abbrev pub pairs_of : Table → List Pair
pairs_of p = map pair_of (judged p)

-- the rule breaks at the site
abbrev pub Breaks : Table → Site → Rule → Type 0
Breaks p s r = Has (judged p) (record { site = s; rule = r; breaks = true })

-- the first pair that breaks
abbrev pub first_breaking : Table → Option Pair
first_breaking p = option_map pair_of (find (λ j. j.breaks) (judged p))
