-- The aligned reading of a unit: every pair that it has in the line, and whether it breaks in the variant of a
-- selection. What isn't there breaks nothing.
use Rattle.std.specs.Prelude.{ℕ, Bool, false, not, ◌&&◌, List, [], ◌∷◌, ◌++◌, filter, map, flat_map, if◌then◌else◌}
use Rattle.std.specs.Prelude.{Option, is_some, option_map}
use Rattle.cfj_logic.specs.Selections.{Chosen}
use Rattle.cfj_logic.specs.Sides.{Sides}
use Rattle.cfj_model.specs.Judging.{Fit, JudgedExpr, RuleAt, Ruling, are_same, called, environment_of, extends_itself}
use Rattle.cfj_model.specs.Judging.{field_types, fit_of, fits, is_no_result, is_overridden_wrongly, judged_access}
use Rattle.cfj_model.specs.Judging.{judged_at, judged_cast, judged_field, judged_variable, result_type, takes_fields}
use Rattle.cfj_model.specs.Judging.{type_if, types_of, variable_type, with_ruling}
use Rattle.cfj_model.specs.LookUps.{Table, all_fields, ancestors, declared, first_some, is_known, method_called}
use Rattle.cfj_model.specs.Members.{Placed, is_again, method_name_of, placed}
use Rattle.cfj_model.specs.ProductLines.{ProductLine}
use Rattle.cfj_model.specs.Projection.{is_present, presence_of, present_fields, present_methods, projected}
use Rattle.cfj_model.specs.Projection.{projected_class, projected_method}
use Rattle.cfj_model.specs.Typing.{Environment, param_types}
use Rattle.cfj_model.specs.declared.class.Class.{Class}
use Rattle.cfj_model.specs.declared.class.Field.{Field}
use Rattle.cfj_model.specs.declared.class.Method.{Method}
use Rattle.cfj_model.specs.declared.class.Param.{Param}
use Rattle.cfj_model.specs.declared.expr.Arg.{Arg-F}
use Rattle.cfj_model.specs.declared.expr.Expr.{Expr}
use Rattle.cfj_model.specs.declared.expr.Expr.TheOpen.{Expr-F}
use Rattle.cfj_model.specs.declared.expr.Expr.TheFolds.{fold-Expr}
use Rattle.cfj_model.specs.declared.site.Rule.{Rule}
use Rattle.cfj_model.specs.declared.site.Rule.TheVariants.{K1, K2, K4, K5, K6, K7, K8, K9, E3, E4, E5, E6, E7}
use Rattle.cfj_model.specs.declared.site.Site.TheVariants as site
use Rattle.unit_facts.specs.Units.{placed_method, of_some}
use Rattle.unit_facts.specs.declared.unit.Unit.{Unit}
use Rattle.unit_facts.specs.declared.unit.Unit.TheVariants as unit

-- ---- what isn't there

-- nothing of it breaks
abbrev pub silent : List RuleAt → List RuleAt
silent js = map (λ (j : RuleAt). record j { breaks = false }) js

abbrev pub silent_rulings : List Ruling → List Ruling
silent_rulings vs = map (λ v. (v.0, false)) vs

-- where it is there it is judged; elsewhere nothing of it breaks
abbrev pub where_present : Bool → List RuleAt → List RuleAt
where_present here js = if here then js else silent js

-- the same of nodes, by slot
abbrev pub present_nodes : Bool → List (ℕ × List Ruling) → List (ℕ × List Ruling)
present_nodes here ns = if here then ns else map (λ n. (n.0, silent_rulings n.1)) ns

-- those that break, in their order
abbrev pub broken : List RuleAt → List RuleAt
broken js = filter (λ j. j.breaks) js

-- ---- expressions

-- an argument of the line, and whether it is there
pub record SeenArg : Type 0 where
  pub here : Bool
  pub expr : JudgedExpr

-- the types of those that are there
abbrev pub present_types : List SeenArg → List (Option (List ℕ))
present_types [] = []
present_types (a ∷ args) = if a.here then a.expr.type ∷ present_types args else present_types args

abbrev pub first_of : List Bool → Bool
first_of [] = false
first_of (b ∷ bs) = b

abbrev pub rest_of : List Bool → List Bool
rest_of [] = []
rest_of (b ∷ bs) = bs

-- of each argument of the line whether it misfits, by the misfits of those that are there
abbrev pub handed_out : List SeenArg → List Bool → List Bool
handed_out [] bs = []
handed_out (a ∷ args) bs = if a.here then first_of bs ∷ handed_out args (rest_of bs) else false ∷ handed_out args bs

-- the rules of the line's arguments, each with the one that the call or `new` round it judges there
abbrev pub seen_rules : Rule → List SeenArg → List Bool → List (ℕ × List Ruling)
seen_rules rule [] bs = []
seen_rules rule (a ∷ args) bs =
    present_nodes a.here (a.expr.rules ((rule, first_of bs) ∷ [])) ++ seen_rules rule args (rest_of bs)

-- what is found of a call or a `new` by the types of its arguments alone: its type, what is judged at it, and which
-- of them misfit
pub record Found : Type 0 where
  pub type : Option (List ℕ)
  pub own : List Ruling
  pub misfits : List Bool

abbrev pub found_call : Table → JudgedExpr → List ℕ → List (Option (List ℕ)) → Found
found_call p on m types =
    let ts : Option (List (List ℕ)) = types_of types in
    let d : Option Method = called p on.type ts m in
    let f : Fit = fit_of p types ts (option_map (λ (d : Method). param_types d.params) d) in
    record {
      type = result_type (fits f) d;
      own = (E3, is_some on.type && is_some ts && not (is_some d)) ∷ (E4, f.differs) ∷ [];
      misfits = f.misfits;
    }

abbrev pub found_new : Table → List ℕ → List (Option (List ℕ)) → Found
found_new p c types =
    let ts : Option (List (List ℕ)) = types_of types in
    let f : Fit = fit_of p types ts (field_types p c) in
    record { type = type_if (is_some ts && is_known p c && fits f) c; own = (E6, f.differs) ∷ []; misfits = f.misfits }

abbrev pub seen_call : Table → ℕ → JudgedExpr → List ℕ → List SeenArg → JudgedExpr
seen_call p slot on m args =
    let f : Found = found_call p on m (present_types args) in
    record {
      type = f.type;
      rules = λ more. on.rules [] ++ (slot, f.own ++ more) ∷ seen_rules E5 args (handed_out args f.misfits);
    }

-- rulings, each put in its place among others
abbrev pub with_rulings : List Ruling → List Ruling → List Ruling
with_rulings [] more = more
with_rulings (v ∷ vs) more = with_ruling v (with_rulings vs more)

abbrev pub seen_new : Table → ℕ → List ℕ → List SeenArg → JudgedExpr
seen_new p slot c args =
    let f : Found = found_new p c (present_types args) in
    let own : List Ruling → List Ruling = λ more. (K1, not (is_known p c)) ∷ with_rulings f.own more in
    record { type = f.type; rules = λ more. (slot, own more) ∷ seen_rules E7 args (handed_out args f.misfits) }

abbrev pub seen_step : Table → Environment → Expr-F (Sides → JudgedExpr) (Sides → SeenArg) → Sides → JudgedExpr
seen_step p g (Expr-F.Var slot name) around = judged_variable (variable_type g) slot name
seen_step p g (Expr-F.Get slot on field) around = judged_access p slot (on around) field
seen_step p g (Expr-F.Call slot on method args) around = seen_call p slot (on around) method (map (λ a. a around) args)
seen_step p g (Expr-F.New slot class args) around = seen_new p slot class (map (λ a. a around) args)
seen_step p g (Expr-F.Cast slot class on) around = judged_cast p slot class (on around)

abbrev pub seen_arg_step : Chosen → Arg-F (Sides → JudgedExpr) (Sides → SeenArg) → Sides → SeenArg
seen_arg_step s a around =
    let within : Sides = presence_of around a.colors in
    record { here = is_present s within; expr = a.expr within }

-- a body within these colours, over the variant's classes
abbrev pub seen_expr : Chosen → Table → Environment → Sides → Expr → JudgedExpr
seen_expr s p g around x = fold-Expr (Sides → JudgedExpr) (Sides → SeenArg) (seen_step p g) (seen_arg_step s) x around

-- ---- declarations

-- a field, with those before it that are there
abbrev pub seen_field : Chosen → Table → Class → Placed Field → List RuleAt
seen_field s p k f =
    where_present (is_present s (presence_of k.colors f.item.colors))
    (judged_field p k (record { before = present_fields s k.colors f.before; item = f.item }))

abbrev pub seen_ctor_param : Chosen → Table → Class → Param → List RuleAt
seen_ctor_param s p k c =
    where_present (is_present s (presence_of k.colors c.colors))
    (judged_at (site.CtorParam k.name c.slot) ((K1, not (is_known p c.of)) ∷ []))

-- the constructor itself, by what is left of its class
abbrev pub seen_ctor : Table → Class → List RuleAt
seen_ctor p k =
    judged_at (site.Ctor k.name)
    ((K4, not (takes_fields k.ctor.params (all_fields p k.name)))
    ∷ (K5, not (are_same (map (λ s. s.name) k.ctor.sends) (map (λ f. f.name) (all_fields p k.parent))))
    ∷ (K6, not (are_same (map (λ a. a.name) k.ctor.assigns) (map (λ f. f.name) k.fields))) ∷ [])

abbrev pub seen_own : Chosen → Table → Class → List RuleAt
seen_own s p k =
    where_present (is_present s k.colors)
    (judged_at (site.Class k.name) ((K1, not (is_known p k.parent)) ∷ (K2, extends_itself p k) ∷ [])
    ++ (flat_map (seen_field s p k) (placed k.fields)
    ++ (seen_ctor p (projected_class s k) ++ flat_map (seen_ctor_param s p k) k.ctor.params)))

abbrev pub seen_param : Chosen → Table → Class → Method → Sides → Param → List RuleAt
seen_param s p k m around a =
    where_present (is_present s (presence_of around a.colors))
    (judged_at (site.Param k.name m.name m.alt a.slot) ((K1, not (is_known p a.of)) ∷ []))

-- a method, with those before it that are there
abbrev pub seen_method : Chosen → Table → Class → Placed Method → List RuleAt
seen_method s p k q =
    let m : Method = q.item in
    let around : Sides = presence_of k.colors m.colors in
    let left : Method = projected_method s k.colors m in
    let again : Bool = is_again method_name_of (record { before = present_methods s k.colors q.before; item = left }) in
    let body : JudgedExpr = seen_expr s p (environment_of k left) around m.body in
    where_present (is_present s around)
    (judged_at (site.Method k.name m.name m.alt)
    ((K1, not (is_known p m.result))
    ∷ (K7, is_overridden_wrongly left (first_some (method_called m.name) (ancestors p k.name)))
    ∷ (K8, is_no_result p left body.type)
    ∷ (K9, again) ∷ [])
    ++ (flat_map (seen_param s p k m around) m.params
    ++ flat_map (λ (n : ℕ × List Ruling). judged_at (site.Node k.name m.name m.alt n.0) n.1) (body.rules [])))

-- every pair of the unit in the line, and whether it breaks in the variant
abbrev pub seen_unit : Chosen → ProductLine → Unit → List RuleAt
seen_unit s line unit.Model = []
seen_unit s line (unit.Class c) = of_some (seen_own s (projected s line).classes) (declared line.classes c)
seen_unit s line (unit.Method c m alt) =
    let p : Table = (projected s line).classes in
    of_some (λ k. of_some (seen_method s p k) (placed_method m alt k)) (declared line.classes c)
