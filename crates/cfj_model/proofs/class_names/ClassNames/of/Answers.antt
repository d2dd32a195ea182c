use Rattle.std.proofs.Common.{map, take, ap, ◌∙◌}
use Rattle.std.specs.Str.{bytes_eq}
use Rattle.indexmap.specs.IndexSet.{insert_key}
use Rattle.cfj_model.proofs.NameSets.{one_more}
use Rattle.cfj_model.proofs.class_names.ClassNames.of.Goals as goal

pub each-preserved : goal.each-preserved
each-preserved c =
    c.in_ok-insert.ensures.keys
    ∙ ap (λ ns. insert_key bytes_eq ns c.in_ok-name.name) c.each.invariant
    ∙ ap (λ n. insert_key bytes_eq (map (λ k. k.name) (take c.each.place c.args.classes.now)) n) c.in_ok-name.ensures
    ∙ one_more c.args.classes.now c.each.place c.get.result.now c.requires c.get.ensures
