use Rattle.std.proofs.Common.{◌≡◌, ◌-◌, ◌<◌, ◌≤◌, [], ◌∷◌, ◌++◌, length, take, not, refl, sym, ◌∙◌, ap, subst, arith}
use Rattle.std.proofs.lemmas.Option.{slice_get_read}
use Rattle.cfj_words.specs.Lists.{Has}
use Rattle.cfj_logic.specs.UnitClauses.{IsFalse}
use Rattle.unit_propagation.specs.declared.watches.Watches.{Watches}
use Rattle.unit_propagation.specs.Trails.{still}
use Rattle.unit_propagation.specs.Watched.{HandledBut}
use Rattle.unit_propagation.proofs.Adding.{more_then, more_same}
use Rattle.unit_propagation.proofs.Growing.{grows_then}
use Rattle.unit_propagation.proofs.Listing.{swap_take, swap_has}
use Rattle.unit_propagation.proofs.Members.{all_taken, front_split}
use Rattle.unit_propagation.proofs.Walking.{grown_within}
use Rattle.unit_propagation.proofs.Watching.{watched_more, moved_watched, moved_handled, stays_handled, handled_first, handled_last}
use Rattle.unit_propagation.proofs.watches.visit_each.Goals as goal

pub visits-init : goal.visits-init
visits-init c =
    let all : take c.len-at.result c.args.list.now.items ≡ c.args.list.now.items = all_taken c.args.list.now.items c.len-at.result (omega (arith, c.len-at.ensures, c.args.list.now.ok)) in
    record {
      grown = still c.args.values.now c.args.trail.now.items;
      more = more_same c.args.watches.now.lists;
      watched = c.requires.watched;
      handled = λ ds within h. subst (λ r. HandledBut c.args.clauses.now c.args.watches.now.pairs.items ds c.args.falsified r c.args.values.now) (sym all)
          (handled_first c.args.clauses.now c.args.watches.now ds c.args.values.now c.args.falsified c.args.list.now.items c.requires.watched h);
      within = omega (arith, c.len-at.ensures);
    }

pub returns-in_err-visit_one-clause-more : goal.returns-in_err-visit_one-clause-more
returns-in_err-visit_one-clause-more c = more_then c.args.watches.now.lists c.visits.watches.lists c.visit_one.new.lists c.visits.invariant.more c.visit_one.ensures.more

pub returns-in_err-visit_one-clause-watched : goal.returns-in_err-visit_one-clause-watched
returns-in_err-visit_one-clause-watched c =
    watched_more c.args.clauses.now c.visits.watches (record { pairs = c.visit_one.new.pairs; lists = c.visit_one.new.lists }) c.args.falsified c.visits.list.items
    c.in_err-visit_one.ensures.failed c.visit_one.ensures.more c.visits.invariant.watched

pub visits-preserved-in-Stays : goal.visits-preserved-in-Stays
visits-preserved-in-Stays c =
    let i = c.visits.invariant in
    let le : c.visits.at ≤ length c.visits.list.items = omega (arith, i.within, c.visits.list.ok) in
    let says = rw c.in-Stays.is at c.in_ok-visit_one.ensures.says in
    record {
      grown = grows_then c.args.clauses.now c.args.values.now c.visits.values c.visit_one.new.values c.args.trail.now.items c.visits.trail.items c.visit_one.new.trail.items i.grown c.in_ok-visit_one.ensures.grown;
      more = more_then c.args.watches.now.lists c.visits.watches.lists c.visit_one.new.lists i.more c.visit_one.ensures.more;
      watched = watched_more c.args.clauses.now c.visits.watches (record { pairs = c.visit_one.new.pairs; lists = c.visit_one.new.lists }) c.args.falsified c.visits.list.items says.0 c.visit_one.ensures.more i.watched;
      handled = λ ds within h. stays_handled c.args.clauses.now c.visits.watches.pairs.items c.visit_one.new.pairs.items ds c.visits.values c.visit_one.new.values c.args.falsified c.index-place.result.now
          (take c.visits.at c.visits.list.items) (take (c.visits.at - 1) c.visits.list.items)
          (front_split c.visits.list.items c.visits.at c.index-place.result.now (omega arith) le c.index-place.ensures)
          (grown_within c.args.clauses.now c.visits.values c.visit_one.new.values c.visits.trail.items c.visit_one.new.trail.items c.in_ok-visit_one.ensures.grown)
          says.0 says.1 (i.handled ds within h);
      within = omega (arith, i.within);
    }

pub visits-preserved : goal.visits-preserved
visits-preserved c =
    let i = c.visits.invariant in
    let xs = c.visits.list.items in
    let at = c.visits.at - 1 in
    let le : c.visits.at ≤ length xs = omega (arith, i.within, c.visits.list.ok) in
    let lt : at < length xs = omega (arith, le) in
    let place = c.index-place.result.now in
    let w = c.visits.watches in
    let z : Watches = record { pairs = c.visit_one.new.pairs; lists = c.visit_one.new.lists } in
    let moved = rw c.in-Moves.is at c.in_ok-visit_one.ensures.says in
    let until = grown_within c.args.clauses.now c.args.values.now c.visits.values c.args.trail.now.items c.visits.trail.items i.grown in
    let f : IsFalse c.visits.values c.args.falsified = until c.args.falsified.var (not c.args.falsified.on) c.requires.made in
    let front : take at c.swap_remove-moved.new.self.items ≡ take at xs = ap (take at) c.swap_remove-moved.ensures.items ∙ swap_take xs at _ lt in
    let split : take c.visits.at xs ≡ take at xs ++ place ∷ [] = front_split xs c.visits.at place (omega arith) le c.index-place.ensures in
    record {
      grown = grows_then c.args.clauses.now c.args.values.now c.visits.values c.visit_one.new.values c.args.trail.now.items c.visits.trail.items c.visit_one.new.trail.items i.grown c.in_ok-visit_one.ensures.grown;
      more = more_then c.args.watches.now.lists c.visits.watches.lists c.visit_one.new.lists i.more c.visit_one.ensures.more;
      watched = moved_watched c.args.clauses.now c.visits.values w z c.args.falsified place moved xs c.swap_remove-moved.new.self.items f c.visit_one.ensures.more
          (λ k ne h. subst (λ r. Has r k) (sym c.swap_remove-moved.ensures.items) (swap_has xs at _ k place lt (slice_get_read xs (length xs) at place refl lt c.index-place.ensures) ne h))
          i.watched;
      handled = λ ds within h. moved_handled c.args.clauses.now c.visits.values w z c.args.falsified place moved ds c.visit_one.new.values (take c.visits.at xs) (take at c.swap_remove-moved.new.self.items)
          (split ∙ ap (λ r. r ++ place ∷ []) (sym front)) f (λ x b e. until x b (within x b e))
          (grown_within c.args.clauses.now c.visits.values c.visit_one.new.values c.visits.trail.items c.visit_one.new.trail.items c.in_ok-visit_one.ensures.grown)
          i.watched.paired (i.handled ds within h);
      within = omega (arith, le, c.swap_remove-moved.ensures.len, c.visits.list.ok);
    }

pub returns-in-Falsified-clause-grown : goal.returns-in-Falsified-clause-grown
returns-in-Falsified-clause-grown c =
    grows_then c.args.clauses.now c.args.values.now c.visits.values c.visit_one.new.values c.args.trail.now.items c.visits.trail.items c.visit_one.new.trail.items c.visits.invariant.grown c.in_ok-visit_one.ensures.grown

pub returns-in-Falsified-clause-more : goal.returns-in-Falsified-clause-more
returns-in-Falsified-clause-more c = more_then c.args.watches.now.lists c.visits.watches.lists c.visit_one.new.lists c.visits.invariant.more c.visit_one.ensures.more

pub returns-in-Falsified-clause-watched : goal.returns-in-Falsified-clause-watched
returns-in-Falsified-clause-watched c =
    let says = rw c.in-Falsified.is at c.in_ok-visit_one.ensures.says in
    watched_more c.args.clauses.now c.visits.watches (record { pairs = c.visit_one.new.pairs; lists = c.visit_one.new.lists }) c.args.falsified c.visits.list.items
    says.0 c.visit_one.ensures.more c.visits.invariant.watched

pub returns-clause-handled : goal.returns-clause-handled
returns-clause-handled c = λ ds within h.
    let none : take c.visits.at c.visits.list.items ≡ [] = let e : c.visits.at ≡ 0 = omega arith in ap (λ n. take n c.visits.list.items) e in
    handled_last c.args.clauses.now c.visits.watches.pairs.items ds c.visits.values c.args.falsified
    (subst (λ r. HandledBut c.args.clauses.now c.visits.watches.pairs.items ds c.args.falsified r c.visits.values) none (c.visits.invariant.handled ds within h))
