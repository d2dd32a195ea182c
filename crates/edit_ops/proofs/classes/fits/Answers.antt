use Rattle.std.proofs.Common.{slice_set, arith}
use Rattle.cfj_model.specs.ProductLines.{size}
use Rattle.edit_ops.proofs.Changing.{same_fit, size_set, size_within}
use Rattle.edit_ops.proofs.classes.fits.Goals as goal

pub returns : goal.returns
returns c =
    let p = c.args.project.now.classes in
    let sum = size_set p c.args.place c.class.result.now c.args.class.now c.class.ensures in
    let within = size_within p c.args.place c.class.result.now c.class.ensures in
    same_fit c.saturating_add.result (size (slice_set p c.args.place c.args.class.now)) (omega (arith, sum, within, c.size.ensures, c.size-2.ensures, c.saturating_sub-others.ensures, c.size-3.ensures, c.saturating_add.ensures))
