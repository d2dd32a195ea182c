use Rattle.std.proofs.Common.{◌≡◌, ◌≤◌}
use Rattle.edit_ops.proofs.Renumbering.{numbered_from, rest_numbered}
use Rattle.edit_ops.proofs.members.renumber.Given as goal

abbrev pub invariant-each : goal.invariant-each
invariant-each g l =
    (rest_numbered g.M.Numbered.kind l.name l.member-index l.alt l.members ≡ numbered_from g.M.Numbered.kind l.name 0 l.initial.members)
    × (l.alt ≤ l.member-index)
