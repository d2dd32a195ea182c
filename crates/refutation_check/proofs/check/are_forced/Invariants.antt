use Rattle.std.proofs.Common.{◌≡◌, ◌<◌, ℕ}
use Rattle.cfj_logic.specs.Logs.{IsForcedAt}
use Rattle.refutation_check.proofs.check.are_forced.Given as goal

abbrev pub invariant-loop-feature : goal.invariant-loop-feature
invariant-loop-feature l = record {
  same : l.premises ≡ l.initial.premises;
  forced : (f : ℕ) → f < l.feature → IsForcedAt l.vars l.initial.premises l.choices f;
}
