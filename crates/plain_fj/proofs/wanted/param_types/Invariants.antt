use Rattle.std.proofs.Common.{◌≡◌, take}
use Rattle.cfj_model.specs.Typing.{param_types}
use Rattle.plain_fj.specs.Found.{names}
use Rattle.plain_fj.proofs.wanted.param_types.Given as goal

abbrev pub invariant-each : goal.invariant-each
invariant-each l = names l.types.items ≡ param_types (take l.param-index l.params)
