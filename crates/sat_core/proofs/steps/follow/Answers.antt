use Rattle.std.proofs.Common.{◌≡◌, ◌++◌, drop, length, take, arith, sym, ◌∙◌, ap, subst}
use Rattle.std.specs.Prelude.{All, OnOk}
use Rattle.cfj_logic.specs.Logs.{AreBelow}
use Rattle.unit_propagation.specs.Trails.{Grows}
use Rattle.clause_learning.proofs.Valuing.{values_length}
use Rattle.sat_core.proofs.Following.{followed}
use Rattle.sat_core.proofs.Trailing.{written_back}
use Rattle.sat_core.proofs.steps.follow.Goals as goal

pub extend-requires : goal.extend-requires
extend-requires c =
    let along = c.requires.along in
    let size : length c.as_mut_slice.result.now ≡ c.args.clauses.now.vars = ap length (c.as_mut_slice.ensures.value ∙ along.values_are) ∙ values_length c.args.clauses.now.vars c.args.trail.now.items in
    subst (λ n. All (AreBelow n) c.args.premises.now) (sym size) along.is_trail.below

pub returns : goal.returns
returns c =
    let old = c.args.values.now.items in
    let new = c.extend.new.values in
    let n = c.args.values.now.len in
    let back = take n (new ++ drop (length new) old) in
    let size : length new ≡ length old = c.extend.auto.values ∙ ap length c.as_mut_slice.ensures.value in
    followed c.extend.result c.args.clauses.now c.args.premises.now c.extend.new.self old new back c.args.trail.now.items c.extend.new.trail.items c.requires.along
    (subst (λ w. OnOk c.extend.result (Grows c.args.premises.now w c.args.trail.now.items new c.extend.new.trail.items)) c.as_mut_slice.ensures.value c.extend.ensures.grown)
    c.extend.ensures.falsified c.extend.ensures.opened c.extend.ensures.same (written_back n new old size (omega (arith, c.args.values.now.ok)))
