use Rattle.std.proofs.Common.{◌≡◌, ◌+◌, ◌++◌, drop, take, sym, ◌∙◌, subst}
use Rattle.std.proofs.lemmas.Result.{IfOk-weaker}
use Rattle.cfj_model.specs.ProductLines.{IsProject}
use Rattle.edit_ops.specs.Changes.{class_removed}
use Rattle.edit_ops.proofs.Stays.{removed_is, removed_stays}
use Rattle.edit_ops.proofs.classes.remove_class.Goals as goal

pub without-requires-clause-kept : goal.without-requires-clause-kept
without-requires-clause-kept c =
    let line = c.args.project.now in
    let is = c.place_of.ensures.kept in
    subst IsProject (removed_is line c.args.class.now c.place_of.result is c.place_of.ensures.place) (removed_stays line c.args.class.now is)

pub returns : goal.returns
returns c =
    let line = c.args.project.now in
    let removed = removed_is line c.args.class.now c.place_of.result c.place_of.ensures.kept c.place_of.ensures.place in
    IfOk-weaker c.without.result (λ new. new ≡ record line { classes = take c.place_of.result line.classes ++ drop (c.place_of.result + 1) line.classes }) (λ new. new ≡ class_removed c.args.class.now line)
    (λ new same. same ∙ sym removed) c.without.ensures
