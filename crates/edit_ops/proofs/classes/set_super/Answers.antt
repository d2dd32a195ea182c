use Rattle.std.proofs.Common.{◌≡◌, slice_set, sym, ◌∙◌, ap, subst}
use Rattle.std.proofs.lemmas.Result.{IfOk-weaker}
use Rattle.cfj_model.specs.ProductLines.{IsProject}
use Rattle.cfj_model.specs.declared.class.Class.{Class}
use Rattle.edit_ops.specs.Changes.{super_set}
use Rattle.edit_ops.proofs.Changing.{changed_at, super_stays}
use Rattle.edit_ops.proofs.classes.set_super.Goals as goal

pub with_class-requires-clause-kept : goal.with_class-requires-clause-kept
with_class-requires-clause-kept c =
    let line = c.args.project.now in
    let set = changed_at c.args.class.now (λ k. record k { parent = c.args.parent }) line c.place_of-place.result c.class.result.now c.place_of-place.ensures.kept c.place_of-place.ensures.place c.class.ensures in
    let new = c.with_parent-changed.ensures ∙ ap (λ (k : Class). record k { parent = c.args.parent }) c.in_ok-copy.ensures in
    subst IsProject (set ∙ ap (λ k. record line { classes = slice_set line.classes c.place_of-place.result k }) (sym new))
    (super_stays c.args.class.now c.args.parent line c.place_of-place.ensures.kept c.requires.named)

pub returns : goal.returns
returns c =
    let line = c.args.project.now in
    let set = changed_at c.args.class.now (λ k. record k { parent = c.args.parent }) line c.place_of-place.result c.class.result.now c.place_of-place.ensures.kept c.place_of-place.ensures.place c.class.ensures in
    let new = c.with_parent-changed.ensures ∙ ap (λ (k : Class). record k { parent = c.args.parent }) c.in_ok-copy.ensures in
    IfOk-weaker c.with_class.result (λ p. p ≡ record line { classes = slice_set line.classes c.place_of-place.result c.with_parent-changed.result }) (λ p. p ≡ super_set c.args.class.now c.args.parent line)
    (λ p same. same ∙ ap (λ k. record line { classes = slice_set line.classes c.place_of-place.result k }) new ∙ sym set) c.with_class.ensures
