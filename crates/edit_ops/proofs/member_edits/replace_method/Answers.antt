use Rattle.std.proofs.Common.{◌≡◌, ◌≤◌, ◌⊎◌, Err, OnOk, Some, None, length, nat_le, slice_set, sym, ◌∙◌, ap, subst}
use Rattle.std.proofs.lemmas.Result.{IfOk-weaker}
use Rattle.cfj_model.specs.ProductLines.{IsProject, most_methods, most_size, size}
use Rattle.cfj_model.specs.declared.class.Class.{Class}
use Rattle.cfj_model.specs.declared.member.Member.TheVariants as member
use Rattle.cfj_model.specs.declared.member_name.MemberName.TheVariants as named
use Rattle.edit_ops.specs.Changes.{size_refused}
use Rattle.edit_ops.specs.Members.{method_replaced, member_replaced}
use Rattle.edit_ops.specs.declared.refused.EditRefused.{EditRefused}
use Rattle.edit_ops.specs.declared.refused.EditRefused.TheVariants.{NoMemory}
use Rattle.edit_ops.proofs.Changing.{changed_at}
use Rattle.edit_ops.proofs.MembersStay.{few_methods, method_replaced_stays}
use Rattle.edit_ops.proofs.member_edits.replace_method.Goals as goal

pub with_other_method-requires : goal.with_other_method-requires
with_other_method-requires c =
    let few = few_methods c.args.project.now c.place_of-place.result c.class.result.now c.place_of-place.ensures.kept c.class.ensures in
    subst (λ (k : Class). length k.methods ≤ most_methods) (sym c.in_ok-copy.ensures) few

pub with_fitting-requires-clause-kept : goal.with_fitting-requires-clause-kept
with_fitting-requires-clause-kept c = λ fits.
    let line = c.args.project.now in
    let place = c.place_of-place.result in
    let k = c.class.result.now in
    let change = method_replaced c.args.method.now c.args.alt c.args.new in
    let set = changed_at c.args.class.now change line place k c.place_of-place.ensures.kept c.place_of-place.ensures.place c.class.ensures in
    let new = c.in_ok-changed.ensures ∙ ap change c.in_ok-copy.ensures in
    subst (λ (x : Class). IsProject (record line { classes = slice_set line.classes place x })) (sym new)
    (method_replaced_stays line place k c.place_of-place.ensures.kept c.class.ensures c.args.method.now c.args.alt c.args.new c.requires.kept
    (ap (λ (x : Class). nat_le (size (slice_set line.classes place x)) most_size) (sym new) ∙ fits))

pub returns-clause-replaced : goal.returns-clause-replaced
returns-clause-replaced c =
    let line = c.args.project.now in
    let place = c.place_of-place.result in
    let k = c.class.result.now in
    let change = method_replaced c.args.method.now c.args.alt c.args.new in
    let set = changed_at c.args.class.now change line place k c.place_of-place.ensures.kept c.place_of-place.ensures.place c.class.ensures in
    let new = c.in_ok-changed.ensures ∙ ap change c.in_ok-copy.ensures in
    IfOk-weaker c.with_fitting.result (λ p. p ≡ record line { classes = slice_set line.classes place c.in_ok-changed.changed })
    (λ p. p ≡ member_replaced (named.Method c.args.class.now c.args.method.now c.args.alt) (member.Method c.args.new) line)
    (λ p same. same ∙ ap (λ x. record line { classes = slice_set line.classes place x }) new ∙ sym set) c.with_fitting.ensures.set

pub returns-clause-fine : goal.returns-clause-fine
returns-clause-fine c =
    let line = c.args.project.now in
    let place = c.place_of-place.result in
    let k = c.class.result.now in
    let change = method_replaced c.args.method.now c.args.alt c.args.new in
    let set = changed_at c.args.class.now change line place k c.place_of-place.ensures.kept c.place_of-place.ensures.place c.class.ensures in
    let new = c.in_ok-changed.ensures ∙ ap change c.in_ok-copy.ensures in
    let by_size = ap size_refused (set ∙ ap (λ x. record line { classes = slice_set line.classes place x }) (sym new)) in
    subst (λ o. OnOk c.with_fitting.result (o ≡ None)) (sym by_size) c.with_fitting.ensures.fine

pub returns-clause-refused : goal.returns-clause-refused
returns-clause-refused c =
    let line = c.args.project.now in
    let place = c.place_of-place.result in
    let k = c.class.result.now in
    let change = method_replaced c.args.method.now c.args.alt c.args.new in
    let set = changed_at c.args.class.now change line place k c.place_of-place.ensures.kept c.place_of-place.ensures.place c.class.ensures in
    let new = c.in_ok-changed.ensures ∙ ap change c.in_ok-copy.ensures in
    let by_size = ap size_refused (set ∙ ap (λ x. record line { classes = slice_set line.classes place x }) (sym new)) in
    subst (λ o. (why : EditRefused) → c.with_fitting.result ≡ Err why → (why ≡ NoMemory) ⊎ (o ≡ Some why)) (sym by_size) c.with_fitting.ensures.refused
