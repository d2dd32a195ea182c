use Rattle.fj_symbols.specs.Views.{symbol_seen}
use Rattle.fj_machine.specs.MachineViews.{machine_seen}
use Rattle.fj_parser.proofs.Named.{unnamed_fits, unnamed_symbol}
use Rattle.fj_parser.proofs.accept.goes.Goals as goal

pub step-requires-clause-named : goal.step-requires-clause-named
step-requires-clause-named c = unnamed_fits (machine_seen c.args.machine.now) (symbol_seen c.args.symbol) (unnamed_symbol c.args.symbol c.in_default.not-Id) c.requires.waited
