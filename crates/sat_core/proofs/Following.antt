-- What following a trail comes to.
use Rattle.std.proofs.Common.{◌≡◌, ℕ, List, Option, Result, Ok, Err, sym, subst}
use Rattle.std.specs.Prelude.{IfOk, OnOk, IfSome, IfNone}
use Rattle.cfj_logic.specs.declared.clauses.Literal.{Literal}
use Rattle.cfj_logic.specs.declared.clauses.Clauses.{Clauses}
use Rattle.cfj_logic.specs.UnitClauses.{Values}
use Rattle.unit_propagation.specs.declared.trail.Step.{Step}
use Rattle.unit_propagation.specs.Falsified.{IsFalsifiedAt}
use Rattle.unit_propagation.specs.Standings.{AreOpen}
use Rattle.unit_propagation.specs.Trails.{Grows}
use Rattle.unit_propagation.proofs.Growing.{grows_unvalued}
use Rattle.sat_core.specs.States.{IsOnTrail, Follows}
use Rattle.sat_core.proofs.Trailing.{along_grown}

followed_to : (clauses : Clauses) (ps : List (List Literal)) (vs ws : Values) (t u : List Step) (o : Option ℕ) → IsOnTrail clauses ps vs t → Grows ps vs t ws u → IfSome o (λ k. IsFalsifiedAt ps ws k) → IfNone o (AreOpen ps ws) → Follows clauses ps ps vs ws u o
followed_to clauses ps vs ws t u o along g f all = record {
  same = λ _. ps;
  along = along_grown clauses ps vs ws t u along g;
  fewer = grows_unvalued ps vs ws t u g;
  falsified = f;
  opened = all;
}

pub followed : {E : Type 0} (r : Result (Option ℕ) E) (clauses : Clauses) (ps qs : List (List Literal)) (vs ws back : Values) (t u : List Step) → IsOnTrail clauses ps vs t → OnOk r (Grows ps vs t ws u) → IfOk r (λ o. IfSome o (λ k. IsFalsifiedAt ps ws k)) →
    IfOk r (λ o. IfNone o (AreOpen ps ws)) → OnOk r (qs ≡ ps) → back ≡ ws → IfOk r (λ o. Follows clauses ps qs vs back u o)
followed (Ok o) clauses ps qs vs ws back t u along g f all same is =
    subst (λ w. Follows clauses ps w vs back u o) (sym same) (subst (λ w. Follows clauses ps ps vs w u o) (sym is) (followed_to clauses ps vs ws t u o along g f all))
followed (Err e) clauses ps qs vs ws back t u along g f all same is = f
