use Rattle.std.proofs.Common.{length, arith}
use Rattle.unit_propagation.specs.Trails.{still}
use Rattle.unit_propagation.proofs.Growing.{grows_one}
use Rattle.unit_propagation.proofs.Watching.{falsified_at, past_settles, open_settles, unit_below, unit_settles}
use Rattle.unit_propagation.proofs.watches.settle.Goals as goal

pub returns-then-place-clauses-clause-grown : goal.returns-then-place-clauses-clause-grown
returns-then-place-clauses-clause-grown c = still c.args.values.now c.args.trail.now.items

pub returns-then-place-clauses-clause-says : goal.returns-then-place-clauses-clause-says
returns-then-place-clauses-clause-says c = past_settles c.args.clauses.now c.args.values.now c.args.place (omega arith)

pub make_true-requires : goal.make_true-requires
make_true-requires c =
    unit_below (length c.args.values.now) c.args.place c.args.clauses.now c.args.values.now c.index-clauses-place.result c.slice.result.now c.in-Unit.literal
    c.requires.below (omega arith) c.index-clauses-place.is c.slice.ensures c.in-Unit.ensures

pub returns-in-Open-clause-grown : goal.returns-in-Open-clause-grown
returns-in-Open-clause-grown c = still c.args.values.now c.args.trail.now.items

pub returns-in-Open-clause-says : goal.returns-in-Open-clause-says
returns-in-Open-clause-says c =
    open_settles c.args.clauses.now c.args.values.now c.args.place c.index-clauses-place.result c.slice.result.now (omega arith) c.index-clauses-place.is c.slice.ensures c.in-Open.ensures

pub returns-in-Falsified-clause-grown : goal.returns-in-Falsified-clause-grown
returns-in-Falsified-clause-grown c = still c.args.values.now c.args.trail.now.items

pub returns-in-Falsified-clause-says : goal.returns-in-Falsified-clause-says
returns-in-Falsified-clause-says c =
    falsified_at c.args.clauses.now c.args.values.now c.args.place c.index-clauses-place.result c.slice.result.now (omega arith) c.index-clauses-place.is c.slice.ensures c.in-Falsified.ensures

pub returns-in_ok-push-in-Unit-clause-grown : goal.returns-in_ok-push-in-Unit-clause-grown
returns-in_ok-push-in-Unit-clause-grown c =
    grows_one c.args.clauses.now c.args.values.now c.make_true.new.values c.args.trail.now.items c.push.new.self.items c.args.place c.index-clauses-place.result c.slice.result.now c.in-Unit.literal
    (omega arith) c.index-clauses-place.is c.slice.ensures c.in-Unit.ensures c.make_true.ensures c.in_ok-push-in-Unit.ensures.items

pub returns-in_ok-push-in-Unit-clause-says : goal.returns-in_ok-push-in-Unit-clause-says
returns-in_ok-push-in-Unit-clause-says c =
    unit_settles c.args.clauses.now c.args.values.now c.make_true.new.values c.args.place c.index-clauses-place.result c.slice.result.now c.in-Unit.literal (omega arith) c.index-clauses-place.is c.slice.ensures c.in-Unit.ensures
    (unit_below (length c.args.values.now) c.args.place c.args.clauses.now c.args.values.now c.index-clauses-place.result c.slice.result.now c.in-Unit.literal
    c.requires.below (omega arith) c.index-clauses-place.is c.slice.ensures c.in-Unit.ensures) c.make_true.ensures
