use Rattle.std.proofs.Common.{arith, ◌≡◌, ◌<◌, ◌≤◌, ◌/◌, ◌%◌, ◌++◌, length, get_or, slice_get, Some, sym, subst, ◌∙◌}
use Rattle.shared_list.specs.Stretches.{joined}
use Rattle.shared_list.proofs.Stretches.{in_stretch, in_last, last_place}
use Rattle.shared_list.proofs.list.SharedList.owner.Goals as goal

pub index-requires-else-stretch-len : goal.index-requires-else-stretch-len
index-requires-else-stretch-len g c =
    let l = c.self.inside in
    let within : c.args.place < length (joined l.full.items ++ l.last.items) = subst (λ xs. c.args.place < length xs) (sym c.self.view_is) c.requires in
    let past : length l.full.items ≤ c.args.place / 32 = omega (arith, c.len.ensures, l.full.ok, c.if-stretch-len.false) in
    let place = last_place l.full.items l.last.items c.args.place c.self.invariant.0 past within c.self.invariant.1 in
    omega (arith, place.0, l.last.ok)

pub returns-then-stretch-len : goal.returns-then-stretch-len
returns-then-stretch-len g c =
    let l = c.self.inside in
    let stretch = c.slice.result.now in
    let within : c.args.place / 32 < length l.full.items = omega (arith, c.len.ensures, l.full.ok, c.if-stretch-len.true) in
    let same = c.slice.ensures ∙ c.get.ensures in
    let there = in_stretch l.full.items l.last.items c.args.place c.index.result.now c.index-slice-place.result c.self.invariant.0 within c.index.ensures
    (subst (λ xs. c.index-slice-place.result ≡ get_or xs (c.args.place % 32) c.index-slice-place.result) same c.index-slice-place.is) in
    subst (λ xs. slice_get xs c.args.place ≡ Some c.index-slice-place.result) c.self.view_is there

pub returns-else-stretch-len : goal.returns-else-stretch-len
returns-else-stretch-len g c =
    let l = c.self.inside in
    let within : c.args.place < length (joined l.full.items ++ l.last.items) = subst (λ xs. c.args.place < length xs) (sym c.self.view_is) c.requires in
    let past : length l.full.items ≤ c.args.place / 32 = omega (arith, c.len.ensures, l.full.ok, c.if-stretch-len.false) in
    let there = in_last l.full.items l.last.items c.args.place c.index-else-stretch-len.result.now c.self.invariant.0 past within c.self.invariant.1 c.index-else-stretch-len.ensures in
    subst (λ xs. slice_get xs c.args.place ≡ Some c.index-else-stretch-len.result.now) c.self.view_is there
