use Rattle.std.proofs.Common.{length, None, false}
use Rattle.unit_propagation.specs.declared.trail.Step.{Step}
use Rattle.clause_learning.proofs.Resolving.{cause_within, cause_below, literal_below, resolved_at}
use Rattle.clause_learning.proofs.resolution.resolve_at.Goals as goal

abbrev none : Step
none = record { literal = record { var = 0; on = false }; cause = None }

pub literals_at-requires : goal.literals_at-requires
literals_at-requires c = cause_within c.args.clauses.now c.args.features (length c.args.marks.now) c.args.trail.now c.args.place c.args.cause none c.requires.trail c.requires.place c.requires.cause

pub resolve-requires-clause-clause : goal.resolve-requires-clause-clause
resolve-requires-clause-clause c =
    cause_below c.args.clauses.now c.args.features (length c.args.marks.now) c.args.trail.now c.args.cause c.literals_at.result.now c.requires.trail c.literals_at.ensures

pub resolve-requires-clause-literal : goal.resolve-requires-clause-literal
resolve-requires-clause-literal c = literal_below c.args.clauses.now c.args.features (length c.args.marks.now) c.args.trail.now c.args.place none c.requires.trail c.requires.place

pub returns : goal.returns
returns c =
    let r = resolved_at c.args.clauses.now c.args.features c.args.trail.now c.args.place c.args.cause none c.literals_at.result.now c.args.marks.now c.resolve.new.marks c.requires.trail c.requires.place c.requires.cause
    c.literals_at.ensures c.resolve.ensures c.requires.denies in
    record { denies = r.0; resolves = r.1 }
