use Rattle.std.proofs.Common.{◌≡◌, ◌<◌, ◌≤◌, ◌/◌, ◌%◌, ◌++◌, length, slice_set, arith, subst, sym, ap, ap₂, ◌∙◌}
use Rattle.shared_list.specs.Stretches.{joined}
use Rattle.shared_list.proofs.Stretches.{last_place, set_among, set_last}
use Rattle.shared_list.proofs.list.SharedList.with.Goals as goal

pub replaced-requires : goal.replaced-requires
replaced-requires g c =
    let l = c.self.inside in
    let within : c.args.place < length (joined l.full.items ++ l.last.items) = subst (λ xs. c.args.place < length xs) (sym c.self.view_is) c.requires in
    let past : length l.full.items ≤ c.args.place / 32 = omega (arith, c.len.ensures, l.full.ok, c.if-place-len.false) in
    let place = last_place l.full.items l.last.items c.args.place c.self.invariant.0 past within c.self.invariant.1 in
    subst (λ xs. c.args.place % 32 < length xs) (sym c.deref-else-place-len-2.ensures.value) place.0

pub returns-in_ok-shared_items : goal.returns-in_ok-shared_items
returns-in_ok-shared_items g c =
    let l = c.self.inside in
    let within : c.args.place / 32 < length l.full.items = omega (arith, c.len.ensures, l.full.ok, c.if-place-len.true) in
    let item : c.in_ok-item.item ≡ c.args.item = c.in_ok-item.ensures in
    let front : joined c.in_ok-with_item.field-0.items ≡ slice_set (joined l.full.items) c.args.place c.args.item =
    c.in_ok-with_item.ensures.items ∙ ap₂ (λ f x. slice_set (joined f) c.args.place x) c.deref.ensures.value item in
    let back : c.in_ok-shared_items.field-0.items ≡ l.last.items = c.in_ok-shared_items.ensures ∙ c.deref-then-place-len.ensures.value in
    ap₂ (λ f b. f ++ b) front back
    ∙ set_among l.full.items l.last.items c.args.place c.args.item c.self.invariant.0 within
    ∙ ap (λ xs. slice_set xs c.args.place c.args.item) c.self.view_is

pub returns-in_ok-replaced : goal.returns-in_ok-replaced
returns-in_ok-replaced g c =
    let l = c.self.inside in
    let within : c.args.place < length (joined l.full.items ++ l.last.items) = subst (λ xs. c.args.place < length xs) (sym c.self.view_is) c.requires in
    let past : length l.full.items ≤ c.args.place / 32 = omega (arith, c.len.ensures, l.full.ok, c.if-place-len.false) in
    let item : c.in_ok-item.item ≡ c.args.item = c.in_ok-item.ensures in
    let front : c.in_ok-shared_items-2.field-0.items ≡ l.full.items = c.in_ok-shared_items-2.ensures ∙ c.deref-else-place-len.ensures.value in
    let back : c.in_ok-replaced.field-0.items ≡ slice_set l.last.items (c.args.place % 32) c.args.item =
    c.in_ok-replaced.ensures ∙ ap₂ (λ b x. slice_set b (c.args.place % 32) x) c.deref-else-place-len-2.ensures.value item in
    ap₂ (λ f b. joined f ++ b) front back
    ∙ set_last l.full.items l.last.items c.args.place c.args.item c.self.invariant.0 past within c.self.invariant.1
    ∙ ap (λ xs. slice_set xs c.args.place c.args.item) c.self.view_is
