use Rattle.std.proofs.Common.{◌≡◌, ◌+◌, Some}
use Rattle.std.specs.Str.{bytes_eq}
use Rattle.std.proofs.lemmas.Map.Text.{hash_map_updates_str}
use Rattle.indexmap.specs.IndexMap.{get_by}
use Rattle.member_alts.specs.Counts.{count_in}
use Rattle.member_alts.proofs.Counting.{counted_once}
use Rattle.member_alts.proofs.counts.count.Goals as goal

pub returns-clause-counted : goal.returns-clause-counted
returns-clause-counted c =
    let old = c.args.counts.now in
    let new = c.insert.new.self in
    let name = c.args.name.now in
    let n = c.unwrap_or-before.result in
    let was : count_in old name ≡ n = cc in
    counted_once (λ w. get_by (λ k. bytes_eq w k.now) old) (λ w. get_by (λ k. bytes_eq w k.now) new) name n was
    (hash_map_updates_str name old new (Some (n + 1)) c.in_ok-insert.ensures.updates)
