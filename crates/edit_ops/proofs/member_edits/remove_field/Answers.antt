use Rattle.std.proofs.Common.{◌≡◌, ◌≤◌, length, slice_set, sym, ◌∙◌, ap, subst}
use Rattle.std.proofs.lemmas.Result.{IfOk-weaker}
use Rattle.cfj_model.specs.ProductLines.{IsProject, most_fields}
use Rattle.cfj_model.specs.declared.class.Class.{Class}
use Rattle.cfj_model.specs.declared.member_name.MemberName.TheVariants as named
use Rattle.edit_ops.specs.Members.{field_removed, member_removed}
use Rattle.edit_ops.proofs.Changing.{changed_at}
use Rattle.edit_ops.proofs.MembersStay.{few_fields, field_removed_stays}
use Rattle.edit_ops.proofs.member_edits.remove_field.Goals as goal

pub without_field-changed-requires : goal.without_field-changed-requires
without_field-changed-requires c =
    let few = few_fields c.args.project.now c.place_of-place.result c.class.result.now c.place_of-place.ensures.kept c.class.ensures in
    subst (λ (k : Class). length k.fields ≤ most_fields) (sym c.in_ok-copy.ensures) few

pub with_class-requires-clause-kept : goal.with_class-requires-clause-kept
with_class-requires-clause-kept c =
    let line = c.args.project.now in
    let place = c.place_of-place.result in
    let new = c.without_field-changed.ensures ∙ ap (field_removed c.args.field.now c.args.alt) c.in_ok-copy.ensures in
    subst (λ (k : Class). IsProject (record line { classes = slice_set line.classes place k })) (sym new)
    (field_removed_stays line place c.class.result.now c.place_of-place.ensures.kept c.class.ensures c.args.field.now c.args.alt)

pub returns : goal.returns
returns c =
    let line = c.args.project.now in
    let place = c.place_of-place.result in
    let change = field_removed c.args.field.now c.args.alt in
    let set = changed_at c.args.class.now change line place c.class.result.now c.place_of-place.ensures.kept c.place_of-place.ensures.place c.class.ensures in
    let new = c.without_field-changed.ensures ∙ ap change c.in_ok-copy.ensures in
    IfOk-weaker c.with_class.result (λ p. p ≡ record line { classes = slice_set line.classes place c.without_field-changed.result })
    (λ p. p ≡ member_removed (named.Field c.args.class.now c.args.field.now c.args.alt) line)
    (λ p same. same ∙ ap (λ k. record line { classes = slice_set line.classes place k }) new ∙ sym set) c.with_class.ensures
