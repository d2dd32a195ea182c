-- No public contract cites this: it serves the proofs.
-- What is found of expressions is what is judged of them.
use Rattle.std.specs.Prelude.{◌≡◌, ℕ, Bool, true, not, List, [], ◌∷◌, flat_map, map, Option, None, option_map, Vec}
use Rattle.std.specs.Borrow.{Bor}
use Rattle.std.specs.Option.{option_copied}
use Rattle.std.specs.declared.alloc.Global.{Global}
use Rattle.cfj_model.specs.Judging.{RuleAt, JudgedExpr, Ruling, judged_arg, judged_at, judged_step_with}
use Rattle.cfj_model.specs.Judging.{types_of, variable_type}
use Rattle.cfj_model.specs.LookUps.{is_known}
use Rattle.cfj_model.specs.declared.class.Class.{Class}
use Rattle.cfj_model.specs.declared.class.Method.{Method}
use Rattle.cfj_model.specs.declared.expr.Arg.{Arg}
use Rattle.cfj_model.specs.declared.expr.Expr.{Expr}
use Rattle.cfj_model.specs.declared.expr.Expr.TheOpen.{Expr-F}
use Rattle.cfj_model.specs.declared.expr.Expr.TheFolds.{fold-Expr}
use Rattle.cfj_model.specs.declared.site.Rule.{Rule}
use Rattle.cfj_model.specs.declared.site.Rule.TheVariants.{K1}
use Rattle.cfj_model.specs.declared.site.Site.TheVariants as site
use Rattle.plain_fj.specs.Breaking.{AddsAtNodes}
use Rattle.plain_fj.specs.declared.body.Body.{Body}
use Rattle.plain_fj.specs.declared.body.Scope.{Scope}
use Rattle.plain_fj.specs.declared.body.Scope.TheVariants as scope
use Rattle.plain_fj.specs.declared.node_break.NodeBreak.{NodeBreak}

-- the names that are read
abbrev pub names : List (Bor (List ℕ)) → List (List ℕ)
names ns = map (λ n. n.now) ns

abbrev pub slot_step : Expr-F ℕ ℕ → ℕ
slot_step (Expr-F.Var slot name) = slot
slot_step (Expr-F.Get slot on field) = slot
slot_step (Expr-F.Call slot on method args) = slot
slot_step (Expr-F.New slot class args) = slot
slot_step (Expr-F.Cast slot class on) = slot

-- the slot of an expression's root
abbrev pub slot_of : Expr → ℕ
slot_of = fold-Expr ℕ ℕ slot_step (λ a. a.expr)

-- the types of the variables that may be named
abbrev pub types_in : Scope → List ℕ → Option (List ℕ)
types_in (scope.Of class params) = variable_type (record { class = class.now; params = params.now })
types_in scope.Nothing = λ x. None

-- what is judged of an expression in a body
abbrev pub judged_in : Body → Expr → JudgedExpr
judged_in b = fold-Expr JudgedExpr JudgedExpr (judged_step_with b.table.now (types_in b.scope)) judged_arg

-- what is judged of arguments
abbrev pub judged_all : Body → List Arg → List JudgedExpr
judged_all b args = map (λ a. judged_in b a.expr) args

-- what is judged at the nodes of an expression
abbrev pub nodes_in : Body → Expr → List (ℕ × List Ruling)
nodes_in b x = (judged_in b x).rules []

-- K1 is added at the node of this slot, where it breaks there.
abbrev pub IsNameJudged : Body → ℕ → List ℕ → List NodeBreak → List NodeBreak → Type 0
IsNameJudged b slot class before after =
    AddsAtNodes before after ((slot, (K1, not (is_known b.table.now class)) ∷ []) ∷ [])

-- The type of the expression is found, if it has one, and each rule that breaks at its nodes is added.
pub record IsJudged (b : Body) (x : Expr) (found : Option (Bor (List ℕ))) (before after : List NodeBreak) : Type 0 where
  pub typed : option_copied found ≡ (judged_in b x).type
  pub adds : AddsAtNodes before after (nodes_in b x)

-- The types of the arguments are found, if all have one, and each rule that breaks at their nodes is added.
pub record AreJudged (b : Body) (args : List Arg) (found : Option (Vec (Bor (List ℕ)) Global)) (before after : List NodeBreak) : Type 0 where
  pub typed : option_map (λ ts. names ts.items) found ≡ types_of (map (λ j. j.type) (judged_all b args))
  pub adds : AddsAtNodes before after (flat_map (λ a. nodes_in b a.expr) args)

-- a rule that is judged at the root of each argument
abbrev pub at_roots : Rule → List Arg → List Bool → List (ℕ × List Ruling)
at_roots rule [] bs = []
at_roots rule (a ∷ args) [] = []
at_roots rule (a ∷ args) (b ∷ bs) = (slot_of a.expr, (rule, b) ∷ []) ∷ at_roots rule args bs

-- a break at a node of a method's body, at its site
abbrev pub judged_break : Class → Method → NodeBreak → List RuleAt
judged_break k m n = judged_at (site.Node k.name m.name m.alt n.slot) ((n.rule, true) ∷ [])
