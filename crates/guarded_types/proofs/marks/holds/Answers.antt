use Rattle.std.proofs.Common.{◌≡◌, sym, rules, true}
use Rattle.cfj_model.specs.Coloring.{union}
use Rattle.guarded_types.proofs.MarkGates.{among_hold, is_within}
use Rattle.cfj_model.specs.Projection.{is_present}
use Rattle.guarded_types.proofs.marks.holds.Goals as goal

pub returns-then-eq-clause-worth : goal.returns-then-eq-clause-worth
returns-then-eq-clause-worth c =
    let same : union c.args.within c.args.marks ≡ c.args.within = search rules in
    is_within c.args.circuit.now c.args.within c.constant.result (λ s. true) (λ s. is_present s c.args.marks) c.constant.ensures.worth
    (λ s here. sym (among_hold s c.args.within c.args.marks same here))
