use Rattle.formula_reader.proofs.Complete.{formula_runs}
use Rattle.formula_reader.proofs.Law.{formula_read, reads_begin, cannot_go_on, any_name}
use Rattle.formula_reader.proofs.laws.reads_formulas.Goals as goal

pub returns-clause-each : goal.returns-clause-each
returns-clause-each c = formula_runs

pub returns-clause-only : goal.returns-clause-only
returns-clause-only c = formula_read

pub returns-clause-begun : goal.returns-clause-begun
returns-clause-begun c = reads_begin

pub returns-clause-stuck : goal.returns-clause-stuck
returns-clause-stuck c = cannot_go_on

pub returns-clause-names : goal.returns-clause-names
returns-clause-names c = any_name
