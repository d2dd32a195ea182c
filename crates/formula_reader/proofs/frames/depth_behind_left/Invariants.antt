use Rattle.std.proofs.Common.{◌≡◌, ◌≤◌, length, reverse}
use Rattle.formula_reader.specs.Machine.{still_open}
use Rattle.formula_reader.proofs.frames.depth_behind_left.Given as goal

abbrev pub invariant-left : goal.invariant-left
invariant-left l = record {
  same : still_open 3 (reverse l.open) ≡ still_open 3 (reverse l.frames);
  few : length l.open ≤ length l.frames;
}

abbrev pub decreases-left : goal.decreases-left
decreases-left l = length l.open
