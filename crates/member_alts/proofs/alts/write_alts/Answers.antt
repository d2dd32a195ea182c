use Rattle.std.proofs.Common.{◌<◌, length, take, set, get_or, sym, ap, ◌∙◌, add-one, arith}
use Rattle.member_alts.specs.Numbers.{with_alts}
use Rattle.member_alts.proofs.Counting.{with_alts-none, with_alts-more}
use Rattle.member_alts.proofs.alts.write_alts.Goals as goal

pub loop-place-init : goal.loop-place-init
loop-place-init g c = sym (with_alts-none g.M.Member.with_alt c.args.members.now)

pub loop-place-preserved : goal.loop-place-preserved
loop-place-preserved g c =
    let with_alt = g.M.Member.with_alt in
    let xs = c.args.members.now in
    let ns = c.args.alts.now in
    let i = c.loop-place.place in
    let d = c.index-members-place.result in
    let inside : i < length xs = c.loop-place-test.true in
    let within : i < length ns = omega arith in
    ap (set c.loop-place.members i) c.set_alt.ensures ∙ ap (λ ms. set ms i (with_alt (get_or ms i d) (get_or ns i 0))) c.loop-place.invariant
    ∙ sym (with_alts-more with_alt xs ns i d inside within) ∙ ap (λ k. with_alts with_alt xs (take k ns)) (sym (add-one i))
