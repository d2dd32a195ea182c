-- The answers of a search.
use Rattle.std.proofs.Common.{◌≡◌, ℕ, ◌+◌, ◌<◌, ◌≤◌, Bool, true, false, List, [], ◌∷◌, ◌++◌, length, refl, sym, ◌∙◌, ap, subst, arith, length-append}
use Rattle.cfj_logic.specs.declared.clauses.Literal.{Literal}
use Rattle.cfj_logic.specs.declared.clauses.Clauses.{Clauses}
use Rattle.cfj_logic.specs.Selections.{Chosen, is_on, choices}
use Rattle.cfj_logic.specs.Sides.{Sides, empty_clause}
use Rattle.cfj_logic.specs.UnitClauses.{Values, value_of}
use Rattle.cfj_logic.specs.Logs.{AreWellFormed, AreSettledByFeatures, IsProofOfLeast, IsRefutation}
use Rattle.unit_propagation.specs.declared.trail.Step.{Step}
use Rattle.unit_propagation.specs.Falsified.{IsFalsifiedAt}
use Rattle.unit_propagation.specs.Standings.{AreOpen}
use Rattle.unit_propagation.specs.Trails.{values_after}
use Rattle.clause_learning.specs.Decided.{IsValued, AreCaused}
use Rattle.clause_learning.specs.Denials.{is_value}
use Rattle.sat_core.specs.Searches.{IsLeastThatExtends}
use Rattle.sat_core.specs.States.{IsLearned, IsOnTrail, IsSearch}
use Rattle.sat_core.proofs.LeastSelection.{least_at_last}
use Rattle.sat_core.proofs.Replaying.{refuted_by, forced_last, clear_last}
use Rattle.sat_core.proofs.Searching.{refuted_at_last}

pub least_here : (clauses : Clauses) (budget : ℕ) (log : List Sides) (ps : List (List Literal)) (vs : Values) (t : List Step) (s : Chosen) → AreWellFormed clauses → AreSettledByFeatures clauses → IsLearned clauses log ps → length log ≤ budget →
    IsOnTrail clauses ps vs t → AreOpen ps vs → s.features ≡ clauses.features → ((x : ℕ) → x < clauses.features → IsValued vs x) → ((x : ℕ) → x < clauses.features → is_on s x ≡ is_value true (value_of vs x)) →
    IsLeastThatExtends clauses s × IsProofOfLeast clauses log s × (length log ≤ budget)
least_here clauses budget log ps vs t s formed settled known within along opened same all selected =
    least_at_last clauses budget log ps (choices s) s formed settled known within
    (forced_last ps clauses.features clauses.vars t s along.is_trail same (λ x lt. subst (λ w. IsValued w x) along.values_are (all x lt)) (λ x lt. selected x lt ∙ ap (λ w. is_value true (value_of w x)) along.values_are))
    same refl (clear_last ps clauses.features clauses.vars s vs opened same all selected)

pub refuted_here : (clauses : Clauses) (budget : ℕ) (log new : List Sides) (ps : List (List Literal)) (vs : Values) (t : List Step) (k : ℕ) → IsLearned clauses log ps → length log < budget → IsOnTrail clauses ps vs t → IsFalsifiedAt ps vs k → AreCaused t 0 →
    new ≡ log ++ empty_clause ∷ [] → IsRefutation clauses new × (length new ≤ budget)
refuted_here clauses budget log new ps vs t k known lt along falsified caused is = (
  refuted_at_last clauses log new ps known (refuted_by ps clauses.features clauses.vars t vs k along.is_trail along.values_are caused falsified) is,
  (let l : length new ≡ length log + 1 = ap length is ∙ length-append log (empty_clause ∷ []) in omega (arith, l, lt)),
)
