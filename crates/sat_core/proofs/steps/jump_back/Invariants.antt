use Rattle.std.proofs.Common.{◌≡◌, ◌≤◌, length, take}
use Rattle.unit_propagation.specs.Trails.{values_after}
use Rattle.sat_core.proofs.steps.jump_back.Given as goal

abbrev pub invariant-steps : goal.invariant-steps
invariant-steps l = record {
  least : l.target ≤ length l.trail.items;
  most : length l.trail.items ≤ length l.initial.trail.items;
  front : l.trail.items ≡ take (length l.trail.items) l.initial.trail.items;
  size : length l.values.items ≡ length l.initial.values.items;
  values : l.values.items ≡ values_after (length l.initial.values.items) l.trail.items;
}

abbrev pub decreases-steps : goal.decreases-steps
decreases-steps l = length l.trail.items
