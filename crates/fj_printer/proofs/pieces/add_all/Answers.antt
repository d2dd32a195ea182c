use Rattle.std.proofs.Common.{arith}
use Rattle.fj_printer.proofs.Composing.{adds_more, adds_stopped}
use Rattle.fj_printer.proofs.Lists.{texts_more, texts_there}
use Rattle.fj_printer.proofs.pieces.add_all.Goals as goal

pub returns-in_err-add : goal.returns-in_err-add
returns-in_err-add g c =
    adds_stopped _ c.from_residual.result c.from_residual.ensures.0 c.texts.invariant c.in_err-add.ensures
    (texts_there _ c.args.list.now c.texts.text-index _ _ (omega arith) c.as_bytes.ensures.value)

pub texts-preserved : goal.texts-preserved
texts-preserved g c =
    adds_more c.texts.invariant c.in_ok-add.ensures
    (texts_more _ c.args.list.now c.texts.text-index _ _ (omega arith) c.as_bytes.ensures.value)
