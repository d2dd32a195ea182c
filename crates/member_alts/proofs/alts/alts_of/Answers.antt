use Rattle.std.proofs.Common.{◌≡◌, ◌+◌, ◌<◌, ◌∷◌, [], ◌++◌, length, take, ap, sym, subst, ◌∙◌, arith}
use Rattle.std.proofs.lemmas.List.{take_more}
use Rattle.member_alts.specs.Counts.{count_in, AreCounted}
use Rattle.member_alts.proofs.Counting.{counted_more}
use Rattle.member_alts.proofs.alts.alts_of.Goals as goal

pub loop-member-preserved : goal.loop-member-preserved
loop-member-preserved g c =
    let name_of = g.M.Member.name_of in
    let xs = c.args.members.now in
    let x = c.member-item.result in
    let i = c.loop-member.member-index in
    let within : i < length xs = omega arith in
    let behind : take (i + 1) xs ≡ take i xs ++ x ∷ [] = take_more xs i x within ∙ ap (λ y. take i xs ++ y ∷ []) (sym c.member-item.is) in
    subst (λ ys. AreCounted name_of ys (count_in c.count.new.counts) c.push.new.self.items) (sym behind)
    (counted_more name_of (take i xs) x c.name.result.now (count_in c.loop-member.counts) (count_in c.count.new.counts) c.loop-member.alts.items
    c.push.new.self.items c.in_ok-alt.alt c.loop-member.invariant c.name.ensures c.in_ok-alt.ensures.before c.in_ok-alt.ensures.counted c.in_ok-push.ensures.items)
