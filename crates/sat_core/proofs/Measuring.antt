-- How much a search has still to do.
use Rattle.std.proofs.Common.{◌≡◌, ℕ, zero, suc, ◌+◌, ◌-◌, ◌*◌, ◌<◌, ◌≤◌, List, [], ◌∷◌, length, Option, Some, None, Bool, false, refl, sym, subst, arith}
use Rattle.std.specs.Prelude.{sum_by}
use Rattle.std.proofs.lemmas.List.Sums.{sum_by-cons}
use Rattle.cfj_logic.specs.UnitClauses.{value_of, with_true}
use Rattle.unit_propagation.specs.Standings.{unvalued}
use Rattle.unit_propagation.proofs.Standing.{unvalued_falls}

-- the clauses that may still be learned, and the variables that have no value
abbrev pub remaining : ℕ → ℕ → ℕ → ℕ → ℕ
remaining budget vars logged free = (budget - logged) * (vars + 1) + free

pub free_most : (vs : List (Option Bool)) → sum_by unvalued vs ≤ length vs
free_most [] = omega arith
free_most (v ∷ vs) =
    let ih = free_most vs in
    let e : sum_by unvalued (v ∷ vs) ≡ unvalued v + sum_by unvalued vs = sum_by-cons unvalued v vs in
    let one = at_most v in
    omega (arith, ih, e, one)
  where
    at_most : (v : Option Bool) → unvalued v ≤ 1
    at_most None = omega arith
    at_most (Some b) = omega arith

-- one more clause was learned
pub learned_smaller : (budget vars logged now free before : ℕ) → now ≡ logged + 1 → logged < budget → free ≤ vars → remaining budget vars now free < remaining budget vars logged before
learned_smaller budget vars logged now free before is lt most = go (budget - logged) (budget - now) (omega (arith, is, lt))
  where
    go : (m k : ℕ) → m ≡ k + 1 → k * (vars + 1) + free < m * (vars + 1) + before
    go m k e = subst (λ w. k * (vars + 1) + free < w * (vars + 1) + before) (sym e) (more k)
      where
        more : (k : ℕ) → k * (vars + 1) + free < (k + 1) * (vars + 1) + before
        more k = grind (arith, most)

-- a variable got a value
pub decided_smaller : (budget vars logged free before : ℕ) → free < before → remaining budget vars logged free < remaining budget vars logged before
decided_smaller budget vars logged free before lt = omega (arith, lt)

pub decided_falls : (vs ws : List (Option Bool)) (f : ℕ) → f < length vs → value_of vs f ≡ None → ws ≡ with_true vs (record { var = f; on = false }) → sum_by unvalued ws < sum_by unvalued vs
decided_falls vs ws f lt free is = subst (λ w. sum_by unvalued w < sum_by unvalued vs) (sym is) (unvalued_falls vs (record { var = f; on = false }) lt free)
