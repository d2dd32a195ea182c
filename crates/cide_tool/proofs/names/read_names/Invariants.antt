use Rattle.std.proofs.Common.{◌≡◌, ◌++◌, map, drop}
use Rattle.cide_tool.proofs.names.read_names.Given as goal

abbrev pub invariant-parts : goal.invariant-parts
invariant-parts l = l.names.items ++ map (λ part. part.now) (drop l.part-index l.parts) ≡ map (λ part. part.now) l.parts
