use Rattle.std.proofs.Common.{arith, rules}
use Rattle.cfj_model.specs.Print.{name_text}
use Rattle.fj_printer.proofs.Composing.{adds_more, adds_stopped}
use Rattle.fj_printer.proofs.Lists.{joined_more, joined_there, separator_after}
use Rattle.fj_printer.proofs.features.names.Goals as goal

pub returns-in_err-name : goal.returns-in_err-name
returns-in_err-name g c =
    adds_stopped _ c.from_residual.result c.from_residual.ensures.0 c.names.invariant.adds c.in_err-name.ensures
    (joined_there name_text c.args.names.now c.names.item-index _ _ _ (omega arith) c.names.invariant.between c.item-item.is)

pub names-preserved : goal.names-preserved
names-preserved g c =
    record {
      utf8 = search rules;
      between = separator_after c.args.names.now c.names.item-index c.item-item.result (omega arith);
      adds = adds_more c.names.invariant.adds c.in_ok-name.ensures
          (joined_more name_text c.args.names.now c.names.item-index _ _ _ (omega arith) c.names.invariant.between c.item-item.is);
    }
