use Rattle.std.proofs.Common.{◌≡◌, length, arith, sym, ◌∙◌, ap, subst, take}
use Rattle.std.proofs.lemmas.Option.{slice_get_within}
use Rattle.unit_propagation.specs.Trails.{values_after}
use Rattle.clause_learning.specs.Decided.{AreBelowIn}
use Rattle.clause_learning.specs.Denials.{IsTaught}
use Rattle.clause_learning.proofs.Valuing.{values_length, steps_below}
use Rattle.sat_core.specs.States.{AreFree}
use Rattle.sat_core.proofs.Entering.{taught_entry, taught_some, taught_as, trail_as}
use Rattle.sat_core.proofs.Trailing.{along_back, trail_free}
use Rattle.sat_core.proofs.steps.learn.Goals as goal

pub analyze-requires-clause-values : goal.analyze-requires-clause-values
analyze-requires-clause-values c =
    let along = c.requires.along in
    let size : length c.as_slice.result.now ≡ c.args.clauses.now.vars = ap length (c.as_slice.ensures.value ∙ along.values_are) ∙ values_length c.args.clauses.now.vars c.args.trail.now.items in
    c.as_slice.ensures.value ∙ along.values_are ∙ ap (λ n. values_after n c.args.trail.now.items) (sym size) ∙ ap (values_after (length c.as_slice.result.now)) (sym c.as_slice-2.ensures.value)

pub analyze-requires-clause-trail : goal.analyze-requires-clause-trail
analyze-requires-clause-trail c =
    let along = c.requires.along in
    let size : length c.as_slice.result.now ≡ c.args.clauses.now.vars = ap length (c.as_slice.ensures.value ∙ along.values_are) ∙ values_length c.args.clauses.now.vars c.args.trail.now.items in
    trail_as c.clauses.result.now c.args.premises.now c.args.clauses.now.features (length c.as_slice.result.now) c.args.clauses.now.vars c.as_slice-2.result.now c.args.trail.now.items
    c.clauses.ensures size c.as_slice-2.ensures.value along.is_trail

pub log_clause-requires-clause-entry : goal.log_clause-requires-clause-entry
log_clause-requires-clause-entry c =
    let along = c.requires.along in
    let cl = c.args.clauses.now in
    let size : length c.as_slice.result.now ≡ cl.vars = ap length (c.as_slice.ensures.value ∙ along.values_are) ∙ values_length cl.vars c.args.trail.now.items in
    let learned = c.in_ok-learned.learned in
    let taught = taught_as c.clauses.result.now c.args.premises.now cl.features (length c.as_slice.result.now) cl.vars c.as_slice-2.result.now c.args.trail.now.items c.args.decision learned.target learned.clause
    c.clauses.ensures size c.as_slice-2.ensures.value c.in_ok-learned.ensures.learned in
    taught_entry cl c.args.log.now c.args.premises.now c.args.trail.now.items c.args.decision learned.target learned.clause c.requires.known.premises_are along.is_trail c.requires.decision taught

pub log_clause-requires-clause-some : goal.log_clause-requires-clause-some
log_clause-requires-clause-some c =
    let learned = c.in_ok-learned.learned in
    taught_some c.clauses.result.now c.args.clauses.now.features (length c.as_slice.result.now) c.as_slice-2.result.now c.args.decision learned.target learned.clause c.in_ok-learned.ensures.learned

pub jump_back-requires-clause-below : goal.jump_back-requires-clause-below
jump_back-requires-clause-below c =
    let along = c.requires.along in
    let cl = c.args.clauses.now in
    let size : length c.args.values.now.items ≡ cl.vars = ap length along.values_are ∙ values_length cl.vars c.args.trail.now.items in
    subst (λ n. AreBelowIn n c.args.trail.now.items) (sym size) (steps_below c.args.premises.now cl.features cl.vars c.args.trail.now.items along.is_trail)

pub jump_back-requires-clause-free : goal.jump_back-requires-clause-free
jump_back-requires-clause-free c =
    let along = c.requires.along in
    let cl = c.args.clauses.now in
    let size : length c.args.values.now.items ≡ cl.vars = ap length along.values_are ∙ values_length cl.vars c.args.trail.now.items in
    subst (λ n. AreFree n c.args.trail.now.items) (sym size) (trail_free c.args.premises.now cl.features cl.vars c.args.trail.now.items along.is_trail)

pub jump_back-requires-clause-values : goal.jump_back-requires-clause-values
jump_back-requires-clause-values c =
    let along = c.requires.along in
    let cl = c.args.clauses.now in
    let size : length c.args.values.now.items ≡ cl.vars = ap length along.values_are ∙ values_length cl.vars c.args.trail.now.items in
    along.values_are ∙ ap (λ n. values_after n c.args.trail.now.items) (sym size)

pub jump_back-requires-clause-target : goal.jump_back-requires-clause-target
jump_back-requires-clause-target c =
    let within = slice_get_within c.args.trail.now.items c.args.decision c.requires.decision.step c.requires.decision.there in
    let le = c.in_ok-learned.ensures.target in
    omega (arith, within, le)

pub returns-clause-along : goal.returns-clause-along
returns-clause-along c =
    let along = c.requires.along in
    let cl = c.args.clauses.now in
    let t = c.args.trail.now.items in
    let size : length c.as_slice.result.now ≡ cl.vars = ap length (c.as_slice.ensures.value ∙ along.values_are) ∙ values_length cl.vars t in
    let all : length c.args.values.now.items ≡ cl.vars = ap length along.values_are ∙ values_length cl.vars t in
    let learned = c.in_ok-learned.learned in
    let taught = taught_as c.clauses.result.now c.args.premises.now cl.features (length c.as_slice.result.now) cl.vars c.as_slice-2.result.now t c.args.decision learned.target learned.clause
    c.clauses.ensures size c.as_slice-2.ensures.value c.in_ok-learned.ensures.learned in
    along_back cl c.log_clause.new.log c.args.premises.now c.log_clause.new.premises c.args.values.now.items c.jump_back.new.values.items t c.jump_back.new.trail.items c.args.decision learned.target learned.clause
    c.requires.formed along taught c.in_ok-log_clause.ensures.known c.in_ok-log_clause.ensures.premises c.jump_back.ensures.trail (c.jump_back.ensures.values ∙ ap (λ n. values_after n (take learned.target t)) all)
