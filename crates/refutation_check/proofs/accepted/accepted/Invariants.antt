use Rattle.std.proofs.Common.{◌≡◌, take}
use Rattle.cfj_logic.specs.Logs.{premises, IsAccepted}
use Rattle.refutation_check.proofs.accepted.accepted.Given as goal

abbrev pub invariant-loop-place : goal.invariant-loop-place
invariant-loop-place l = record {
  premises : l.premises ≡ premises l.clauses (take l.place l.log);
  accepted : IsAccepted l.clauses (take l.place l.log);
}
