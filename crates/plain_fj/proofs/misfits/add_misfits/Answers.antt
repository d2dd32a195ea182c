use Rattle.std.proofs.Common.{◌≡◌, ◌||◌, refl, sym, subst, ◌+◌}
use Rattle.plain_fj.proofs.MisfitScan.{IsSomeUpTo, adds_all, adds_more, no_more, one_more, some_all, some_more}
use Rattle.plain_fj.proofs.misfits.add_misfits.Goals as goal
use Rattle.plain_fj.proofs.misfits.add_misfits.Goals.{else-branch, then-branch}

pub each-init : goal.each-init
each-init c = (refl, refl)

pub each-preserved : goal.each-preserved
each-preserved c =
    let b = c.args.body.now in
    let new : c.if-branch.some ≡ c.each.some || c.in_ok-add_misfit.field-0 =
    elim c.if-branch.branch [
      | then-branch w ↦ one_more c.each.some c.in_ok-add_misfit.field-0 c.if-branch.some w.if-branch.true w.some-is
      | else-branch w ↦ no_more c.each.some c.in_ok-add_misfit.field-0 c.if-branch.some w.if-branch.false w.some-is
    ] in (
      subst (IsSomeUpTo b c.args.rule c.args.args.now c.args.types.now c.args.wanted.now (c.each.place + 1)) (sym new)
          (some_more b c.args.rule c.args.args.now c.args.types.now c.args.wanted.now c.each.place c.requires.as_many c.requires.wanted c.index-types-place.result c.index-wanted-place.result
          c.each-test.true c.index-types-place.is c.index-wanted-place.is c.each.some c.in_ok-add_misfit.field-0 c.each.invariant.0 c.in_ok-add_misfit.ensures.misfits),
      adds_more b c.args.rule c.args.args.now c.args.types.now c.args.wanted.now c.each.place c.requires.as_many c.requires.wanted c.index-types-place.result c.index-wanted-place.result
          c.each-test.true c.index-types-place.is c.index-wanted-place.is c.index-args-place.result c.args.breaks.now.items c.each.breaks.items c.add_misfit.new.breaks.items
          c.index-args-place.is c.each.invariant.1 c.in_ok-add_misfit.ensures.added,
    )

pub returns-clause-some : goal.returns-clause-some
returns-clause-some c =
    some_all c.args.body.now c.args.rule c.args.args.now c.args.types.now c.args.wanted.now c.each.place c.requires.as_many c.requires.wanted c.each-test.false c.each.some c.each.invariant.0

pub returns-clause-added : goal.returns-clause-added
returns-clause-added c =
    adds_all c.args.body.now c.args.rule c.args.args.now c.args.types.now c.args.wanted.now c.each.place c.requires.as_many c.requires.wanted c.each-test.false
    c.args.breaks.now.items c.each.breaks.items c.each.invariant.1
