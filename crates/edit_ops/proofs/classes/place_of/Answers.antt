use Rattle.std.proofs.Common.{true, false, Option, sym, ◌∙◌, ap}
use Rattle.std.specs.Option.{option_map_or}
use Rattle.cfj_model.specs.LookUps.{is_called}
use Rattle.cfj_model.specs.declared.class.Class.{Class}
use Rattle.edit_ops.proofs.Places.{found_none}
use Rattle.edit_ops.proofs.classes.place_of.Goals as goal

pub unreachable-requires : goal.unreachable-requires
unreachable-requires c =
    let none = found_none (is_called c.args.class.now) c.args.project.now.classes (sym c.find.ensures ∙ c.in-None.is) in
    let there = ap (λ (o : Option Class). option_map_or (λ k. true) o false) none ∙ c.requires in
    cc there
