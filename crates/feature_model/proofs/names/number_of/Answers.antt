use Rattle.std.proofs.Common.{sym}
use Rattle.feature_model.proofs.Places.{name_at, name_nowhere}
use Rattle.feature_model.proofs.names.number_of.Goals as goal

pub returns-in-Some-clause-found : goal.returns-in-Some-clause-found
returns-in-Some-clause-found c = name_at c.args.features.now c.args.name.now c.in-Some.place (sym c.in-Some.ensures)

pub returns-in-None-clause-none : goal.returns-in-None-clause-none
returns-in-None-clause-none c = name_nowhere c.args.features.now c.args.name.now (sym c.in-None.ensures)
