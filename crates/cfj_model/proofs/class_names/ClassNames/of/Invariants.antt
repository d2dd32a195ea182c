use Rattle.std.proofs.Common.{◌≡◌, map, take}
use Rattle.cfj_model.proofs.class_names.ClassNames.of.Given as goal

abbrev pub invariant-each : goal.invariant-each
invariant-each l = l.names.keys ≡ map (λ k. k.name) (take l.place l.classes)
