use Rattle.std.proofs.Common.{◌≡◌, ◌<◌, ◌≤◌, ◌⊎◌, Err, OnOk, Some, None, inr, length, nat_le, slice_set, sym, ◌∙◌, ap, subst, arith}
use Rattle.std.proofs.lemmas.Result.{IfOk-weaker}
use Rattle.cfj_model.specs.ProductLines.{IsProject, most_methods, most_size, size}
use Rattle.cfj_model.specs.declared.class.Class.{Class}
use Rattle.cfj_model.specs.declared.fault.LimitKind.TheVariants as limit
use Rattle.cfj_model.specs.declared.member.Member.TheVariants as member
use Rattle.edit_ops.specs.Changes.{size_refused}
use Rattle.edit_ops.specs.Members.{method_added, member_added}
use Rattle.edit_ops.specs.declared.refused.EditRefused.{EditRefused}
use Rattle.edit_ops.specs.declared.refused.EditRefused.TheVariants.{Limit, NoMemory}
use Rattle.edit_ops.proofs.Adding.{method_full, method_room}
use Rattle.edit_ops.proofs.Changing.{changed_at}
use Rattle.edit_ops.proofs.MembersStay.{method_added_stays}
use Rattle.edit_ops.proofs.member_edits.add_method.Goals as goal

pub returns-then-slice-ge-MOST_METHODS-clause-refused : goal.returns-then-slice-ge-MOST_METHODS-clause-refused
returns-then-slice-ge-MOST_METHODS-clause-refused c = λ why told.
    let line = c.args.project.now in
    let k = c.class.result.now in
    let items = ap length c.slice.ensures in
    let full : most_methods ≤ length k.methods = omega (arith, items, c.if-slice-ge-MOST_METHODS.true) in
    let e : Some (Limit limit.Methods) ≡ Some why = cc told in
    inr (method_full line c.args.class.now c.place_of-place.result k c.place_of-place.ensures.place c.class.ensures c.args.method full ∙ e)

pub with_fitting-requires-clause-kept : goal.with_fitting-requires-clause-kept
with_fitting-requires-clause-kept c = λ fits.
    let line = c.args.project.now in
    let place = c.place_of-place.result in
    let k = c.class-2.result.now in
    let some : Some c.class.result.now ≡ Some k = sym c.class.ensures ∙ c.class-2.ensures in
    let same : c.class.result.now ≡ k = cc some in
    let items = ap length c.slice.ensures in
    let fewer = ap (λ (x : Class). length x.methods) same in
    let room : length k.methods < most_methods = omega (arith, items, fewer, c.if-slice-ge-MOST_METHODS.false) in
    let new : c.in_ok-changed.changed ≡ method_added c.args.method k = c.in_ok-changed.ensures ∙ ap (method_added c.args.method) c.in_ok-copy.ensures in
    subst (λ (x : Class). IsProject (record line { classes = slice_set line.classes place x })) (sym new)
    (method_added_stays line place k c.place_of-place.ensures.kept c.class-2.ensures c.args.method c.requires.kept room
    (ap (λ (x : Class). nat_le (size (slice_set line.classes place x)) most_size) (sym new) ∙ fits))

pub returns-clause-added : goal.returns-clause-added
returns-clause-added c =
    let line = c.args.project.now in
    let place = c.place_of-place.result in
    let k = c.class-2.result.now in
    let change = method_added c.args.method in
    let set = changed_at c.args.class.now change line place k c.place_of-place.ensures.kept c.place_of-place.ensures.place c.class-2.ensures in
    let new = c.in_ok-changed.ensures ∙ ap change c.in_ok-copy.ensures in
    IfOk-weaker c.with_fitting.result (λ p. p ≡ record line { classes = slice_set line.classes place c.in_ok-changed.changed })
    (λ p. p ≡ member_added c.args.class.now (member.Method c.args.method) line)
    (λ p same. same ∙ ap (λ x. record line { classes = slice_set line.classes place x }) new ∙ sym set) c.with_fitting.ensures.set

pub returns-clause-fine : goal.returns-clause-fine
returns-clause-fine c =
    let line = c.args.project.now in
    let place = c.place_of-place.result in
    let k = c.class-2.result.now in
    let change = method_added c.args.method in
    let set = changed_at c.args.class.now change line place k c.place_of-place.ensures.kept c.place_of-place.ensures.place c.class-2.ensures in
    let new = c.in_ok-changed.ensures ∙ ap change c.in_ok-copy.ensures in
    let some : Some c.class.result.now ≡ Some k = sym c.class.ensures ∙ c.class-2.ensures in
    let same : c.class.result.now ≡ k = cc some in
    let items = ap length c.slice.ensures in
    let fewer = ap (λ (x : Class). length x.methods) same in
    let room : length k.methods < most_methods = omega (arith, items, fewer, c.if-slice-ge-MOST_METHODS.false) in
    let by_size = method_room line c.args.class.now place k c.place_of-place.ensures.place c.class-2.ensures c.args.method room
    ∙ ap size_refused (set ∙ ap (λ x. record line { classes = slice_set line.classes place x }) (sym new)) in
    subst (λ o. OnOk c.with_fitting.result (o ≡ None)) (sym by_size) c.with_fitting.ensures.fine

pub returns-clause-refused : goal.returns-clause-refused
returns-clause-refused c =
    let line = c.args.project.now in
    let place = c.place_of-place.result in
    let k = c.class-2.result.now in
    let change = method_added c.args.method in
    let set = changed_at c.args.class.now change line place k c.place_of-place.ensures.kept c.place_of-place.ensures.place c.class-2.ensures in
    let new = c.in_ok-changed.ensures ∙ ap change c.in_ok-copy.ensures in
    let some : Some c.class.result.now ≡ Some k = sym c.class.ensures ∙ c.class-2.ensures in
    let same : c.class.result.now ≡ k = cc some in
    let items = ap length c.slice.ensures in
    let fewer = ap (λ (x : Class). length x.methods) same in
    let room : length k.methods < most_methods = omega (arith, items, fewer, c.if-slice-ge-MOST_METHODS.false) in
    let by_size = method_room line c.args.class.now place k c.place_of-place.ensures.place c.class-2.ensures c.args.method room
    ∙ ap size_refused (set ∙ ap (λ x. record line { classes = slice_set line.classes place x }) (sym new)) in
    subst (λ o. (why : EditRefused) → c.with_fitting.result ≡ Err why → (why ≡ NoMemory) ⊎ (o ≡ Some why)) (sym by_size) c.with_fitting.ensures.refused
