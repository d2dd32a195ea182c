use Rattle.std.proofs.Common.{◌≡◌, map, take}
use Rattle.plain_fj.specs.Found.{names}
use Rattle.plain_fj.proofs.same_names.param_names.Given as goal

abbrev pub invariant-each : goal.invariant-each
invariant-each l = names l.found.items ≡ map (λ p. p.name) (take l.param-index l.params)
