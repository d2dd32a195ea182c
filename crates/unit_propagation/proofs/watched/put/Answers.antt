use Rattle.std.proofs.Common.{◌≡◌, ◌++◌, ◌∷◌, [], length, sym, ◌∙◌, ap, subst, arith}
use Rattle.unit_propagation.specs.Watched.{IsNoted, AreWatched}
use Rattle.unit_propagation.proofs.Adding.{short_more, short_added}
use Rattle.unit_propagation.proofs.watched.put.Goals as goal

pub returns-clause-kept : goal.returns-clause-kept
returns-clause-kept c =
    let cs = c.args.clauses.now.items in
    let size : c.len.result ≡ length cs = omega (arith, c.len.ensures, c.args.clauses.now.ok) in
    let noted : IsNoted c.args.clause c.in_ok-pair.pair c.pair_of.new.short.items (length cs) =
    subst (IsNoted c.args.clause c.in_ok-pair.pair c.pair_of.new.short.items) size (c.in_ok-pair.ensures.noted c.args.clause c.requires.some c.requires.none) in
    let added = c.in_ok-add.ensures.added c.args.clause noted.pair in
    record {
      watched = subst (λ w. AreWatched w c.add.new.self) (ap (λ w. w ++ c.args.clause ∷ []) c.as_slice.ensures.value ∙ sym c.in_ok-push.ensures.items) added;
      short = short_added cs c.push.new.self.items c.pair_of.new.short.items c.args.clause c.in_ok-pair.pair c.in_ok-push.ensures.items noted
          (short_more cs c.args.short.now.items c.pair_of.new.short.items c.pair_of.ensures.kept c.requires.kept.short);
    }
