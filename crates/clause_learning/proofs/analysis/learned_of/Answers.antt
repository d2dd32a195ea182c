use Rattle.std.proofs.Common.{length, arith, sym, subst}
use Rattle.std.proofs.lemmas.Option.{slice_get_within}
use Rattle.clause_learning.specs.Decided.{AreBelowIn}
use Rattle.clause_learning.specs.Denials.{Denies, IsDenial}
use Rattle.clause_learning.proofs.Learning.{learned_is}
use Rattle.clause_learning.proofs.Valuing.{steps_below}
use Rattle.clause_learning.proofs.Watching.{watched_is}
use Rattle.clause_learning.proofs.analysis.learned_of.Goals as goal

pub returns-clause-learned : goal.returns-clause-learned
returns-clause-learned c =
    let cs = c.args.clauses.now in
    let vars = length c.args.values.now in
    let t = c.args.trail.now in
    learned_is cs c.args.features vars t c.args.decision c.target_of.result c.args.marks.now c.denial.result c.last_marked-second.result c.requires.trail c.requires.decision
    (subst (λ w. Denies cs w c.args.marks.now) c.requires.values c.requires.denies) c.requires.features (subst (λ w. IsDenial c.args.features w c.args.marks.now c.denial.result) c.requires.values c.denial.ensures)
    c.last_marked-second.ensures.some c.last_marked-second.ensures.none
    (record { behind = c.target_of.ensures.behind; within = c.target_of.ensures.within; decision = c.target_of.ensures.decision; first = c.target_of.ensures.first })

pub returns-clause-watched : goal.returns-clause-watched
returns-clause-watched c =
    let t = c.args.trail.now in
    let within = slice_get_within t c.args.decision c.requires.decision.step c.requires.decision.there in
    watched_is c.args.clauses.now c.args.features (length c.args.values.now) t c.args.decision c.args.marks.now c.denial.result c.last_marked-first.result c.last_marked-second.result c.denied.result c.denied-2.result
    c.requires.trail (omega (arith, within)) c.requires.features (subst (λ w. IsDenial c.args.features w c.args.marks.now c.denial.result) c.requires.values c.denial.ensures)
    c.last_marked-first.ensures.some c.last_marked-first.ensures.none c.last_marked-second.ensures.some c.last_marked-second.ensures.none
    (c.denied.ensures.some, c.denied.ensures.none) (c.denied-2.ensures.some, c.denied-2.ensures.none)

pub last_marked-first-requires-clause-below : goal.last_marked-first-requires-clause-below
last_marked-first-requires-clause-below c =
    subst (λ n. AreBelowIn n c.args.trail.now) (sym c.requires.denies.size) (steps_below c.args.clauses.now c.args.features (length c.args.values.now) c.args.trail.now c.requires.trail)

pub last_marked-second-requires-clause-below : goal.last_marked-second-requires-clause-below
last_marked-second-requires-clause-below c =
    subst (λ n. AreBelowIn n c.args.trail.now) (sym c.requires.denies.size) (steps_below c.args.clauses.now c.args.features (length c.args.values.now) c.args.trail.now c.requires.trail)
