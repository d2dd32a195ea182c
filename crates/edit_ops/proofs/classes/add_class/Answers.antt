use Rattle.edit_ops.proofs.Refusing.{fine}
use Rattle.edit_ops.proofs.Stays.{added_stays}
use Rattle.edit_ops.proofs.classes.add_class.Goals as goal

pub with_added-requires : goal.with_added-requires
with_added-requires c =
    let is = fine c.args.class c.args.project.now c.in_ok-may_be_added.ensures.fine in
    added_stays c.args.project.now c.args.class c.in_ok-may_be_added.ensures.kept c.requires is.free is.few is.fits
