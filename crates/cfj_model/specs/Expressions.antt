-- Expressions of Featherweight Java (Igarashi, Pierce, Wadler, TOPLAS 23(3), 2001) with marked arguments: what a body keeps.
use Rattle.std.specs.Prelude.{ℕ, ◌+◌, Bool, true, false, ◌&&◌, max, if◌then◌else◌, List, [], ◌∷◌, ◌++◌, flat_map, sum_by}
use Rattle.std.specs.List.{list_all}
use Rattle.cfj_model.specs.Coloring.{Palette, are_known, is_unmarked}
use Rattle.cfj_words.specs.Names.{is_name, is_short_identifier}
use Rattle.cfj_model.specs.declared.expr.Expr.{Expr}
use Rattle.cfj_model.specs.declared.expr.Arg.{Arg-F}
use Rattle.cfj_model.specs.declared.expr.Expr.TheOpen.{Expr-F}
use Rattle.cfj_model.specs.declared.expr.Expr.TheFolds.{fold-Expr}

-- what an argument has is what its expression has
abbrev pub of_arg : {A : Type 0} → Arg-F A A → A
of_arg a = a.expr

abbrev pub node_count_step : Expr-F ℕ ℕ → ℕ
node_count_step (Expr-F.Var slot name) = 1
node_count_step (Expr-F.Get slot on field) = on + 1
node_count_step (Expr-F.Call slot on method args) = on + (1 + sum_by (λ n. n) args)
node_count_step (Expr-F.New slot class args) = 1 + sum_by (λ n. n) args
node_count_step (Expr-F.Cast slot class on) = 1 + on

-- the number of its nodes
abbrev pub node_count : Expr → ℕ
node_count = fold-Expr ℕ ℕ node_count_step of_arg

abbrev pub slots_step : Expr-F (List ℕ) (List ℕ) → List ℕ
slots_step (Expr-F.Var slot name) = slot ∷ []
slots_step (Expr-F.Get slot on field) = on ++ slot ∷ []
slots_step (Expr-F.Call slot on method args) = on ++ slot ∷ flat_map (λ s. s) args
slots_step (Expr-F.New slot class args) = slot ∷ flat_map (λ s. s) args
slots_step (Expr-F.Cast slot class on) = slot ∷ on

-- The slots of its nodes in the order of their own tokens: a variable's word, the dot of an access or a call, `new`, the
-- bracket that opens a cast.
abbrev pub slots : Expr → List ℕ
slots = fold-Expr (List ℕ) (List ℕ) slots_step of_arg

-- whether an expression is a cast, and its nesting
pub record Nesting : Type 0 where
  pub is_cast : Bool
  pub depth : ℕ

-- the nesting of a receiver; a cast stands in brackets there
abbrev pub receiver_depth : Nesting → ℕ
receiver_depth on = if on.is_cast then 1 + on.depth else on.depth

-- the greatest of these; of none 0
abbrev pub greatest : List ℕ → ℕ
greatest [] = 0
greatest (n ∷ ns) = max n (greatest ns)

abbrev pub nesting_step : Expr-F Nesting ℕ → Nesting
nesting_step (Expr-F.Var slot name) = record { is_cast = false; depth = 0 }
nesting_step (Expr-F.Get slot on field) = record { is_cast = false; depth = receiver_depth on }
nesting_step (Expr-F.Call slot on method args) = record { is_cast = false; depth = max (receiver_depth on) (1 + greatest args) }
nesting_step (Expr-F.New slot class args) = record { is_cast = false; depth = 1 + greatest args }
nesting_step (Expr-F.Cast slot class on) = record { is_cast = true; depth = 1 + on.depth }

abbrev pub nesting_of_arg : Arg-F Nesting ℕ → ℕ
nesting_of_arg a = a.expr.depth

-- How many argument lists, casts and brackets are open at once in its text with the fewest brackets.
abbrev pub nest : Expr → ℕ
nest e = (fold-Expr Nesting ℕ nesting_step nesting_of_arg e).depth

abbrev pub is_named_step : Expr-F Bool Bool → Bool
is_named_step (Expr-F.Var slot name) = is_name name
is_named_step (Expr-F.Get slot on field) = on && is_short_identifier field
is_named_step (Expr-F.Call slot on method args) = on && is_short_identifier method && list_all (λ a. a) args
is_named_step (Expr-F.New slot class args) = is_short_identifier class && list_all (λ a. a) args
is_named_step (Expr-F.Cast slot class on) = is_short_identifier class && on

abbrev pub is_named_arg : Palette → Arg-F Bool Bool → Bool
is_named_arg palette a = are_known palette a.colors && a.expr

-- its names are identifiers, but for variables named `this`, and the marks of its arguments may be there
abbrev pub is_named : Palette → Expr → Bool
is_named palette = fold-Expr Bool Bool is_named_step (is_named_arg palette)

abbrev pub is_bare_step : Expr-F Bool Bool → Bool
is_bare_step (Expr-F.Var slot name) = true
is_bare_step (Expr-F.Get slot on field) = on
is_bare_step (Expr-F.Call slot on method args) = on && list_all (λ a. a) args
is_bare_step (Expr-F.New slot class args) = list_all (λ a. a) args
is_bare_step (Expr-F.Cast slot class on) = on

abbrev pub is_bare_arg : Arg-F Bool Bool → Bool
is_bare_arg a = is_unmarked a.colors && a.expr

-- none of its arguments is marked
abbrev pub is_bare : Expr → Bool
is_bare = fold-Expr Bool Bool is_bare_step is_bare_arg
