-- No public contract cites this: it serves the proofs.
-- What the tests know of the clauses that they ask about.
use Rattle.std.specs.Prelude.{◌≡◌, ℕ}
use Rattle.cfj_logic.specs.declared.clauses.Clauses.{Clauses}
use Rattle.cfj_logic.specs.Logs.{AreWellFormed, AreSettledByFeatures}

-- clauses over so many features that a solver and a checker of logs may be asked about
pub record IsQuestion (features : ℕ) (clauses : Clauses) : Type 0 where
  pub over : clauses.features ≡ features
  pub formed : AreWellFormed clauses
  pub settled : AreSettledByFeatures clauses
