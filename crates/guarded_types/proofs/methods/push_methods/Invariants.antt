use Rattle.std.proofs.Common.{◌≡◌, ◌++◌, map, take}
use Rattle.guarded_types.specs.Along.{behind}
use Rattle.guarded_types.specs.Declarations.{read}
use Rattle.guarded_types.proofs.MethodDeclarations.{named_in}
use Rattle.guarded_types.proofs.methods.push_methods.Given as goal

abbrev pub invariant-each : goal.invariant-each
invariant-each l = read l.found.items ≡ read l.fn.found.items ++ map (behind l.up) (named_in l.fn.name l.class (take l.method-index l.class.methods))
