use Rattle.std.proofs.Common.{◌≡◌, ℕ, ◌+◌, ◌<◌, ◌≤◌, true, length, None, arith, rules, sym, ◌∙◌, ap, subst}
use Rattle.std.specs.Prelude.{sum_by}
use Rattle.cfj_logic.specs.Selections.{is_on}
use Rattle.cfj_logic.specs.UnitClauses.{value_of}
use Rattle.unit_propagation.specs.Standings.{unvalued}
use Rattle.clause_learning.specs.Decided.{IsValued, AreCaused}
use Rattle.clause_learning.specs.Denials.{is_value}
use Rattle.clause_learning.proofs.Valuing.{values_length}
use Rattle.sat_core.specs.States.{IsLearned}
use Rattle.sat_core.proofs.Ending.{least_here, refuted_here}
use Rattle.sat_core.proofs.Measuring.{free_most, learned_smaller, decided_smaller, decided_falls}
use Rattle.sat_core.proofs.Searching.{learned_first, spent}
use Rattle.sat_core.proofs.Trailing.{along_first, along_decided}
use Rattle.sat_core.proofs.search.solve.Goals as goal

pub search-init : goal.search-init
search-init c = record {
  known = learned_first c.args.clauses.now c.new-log.result c.in_ok-premises.premises c.new-log.ensures (c.in_ok-premises.ensures ∙ c.slice.ensures);
  along = along_first c.args.clauses.now c.in_ok-premises.premises c.in_ok-values.values.items c.new-trail.result.items c.requires.formed (c.in_ok-premises.ensures ∙ c.slice.ensures)
      (c.in_ok-values.ensures.items_if_clones_equal (λ y k. search rules)) c.new-trail.ensures.items;
  within = (let none : length c.new-log.result ≡ 0 = ap length c.new-log.ensures in omega (arith, none));
}

pub next_feature-requires : goal.next_feature-requires
next_feature-requires c =
    let along = c.in_ok-found.ensures.along in
    let cl = c.args.clauses.now in
    let size : length c.as_slice.result.now ≡ cl.vars = ap length (c.as_slice.ensures.value ∙ along.values_are) ∙ values_length cl.vars c.follow.new.trail.items in
    let few = c.requires.formed.features in
    omega (arith, size, few)

pub selection_of-selection-requires-clause-within : goal.selection_of-selection-requires-clause-within
selection_of-selection-requires-clause-within c =
    let along = c.in_ok-found.ensures.along in
    let cl = c.args.clauses.now in
    let size : length c.as_slice-in-None-next_feature.result.now ≡ cl.vars = ap length (c.as_slice-in-None-next_feature.ensures.value ∙ along.values_are) ∙ values_length cl.vars c.follow.new.trail.items in
    let few = c.requires.formed.features in
    omega (arith, size, few)

pub returns-in-None-next_feature : goal.returns-in-None-next_feature
returns-in-None-next_feature c =
    let cl = c.args.clauses.now in
    let s = c.selection_of-selection.result in
    let i = c.search.invariant in
    let follows = c.in_ok-found.ensures in
    let none = rw c.in-None-next_feature.is at c.next_feature.ensures.none in
    least_here cl c.args.budget c.search.log c.follow.new.premises c.follow.new.values.items c.follow.new.trail.items s c.requires.formed c.requires.settled
    (subst (IsLearned cl c.search.log) (sym follows.same) i.known) i.within follows.along (rw c.in-None.is at follows.opened) c.selection_of-selection.ensures.features
    (subst (λ w. (x : ℕ) → x < cl.features → IsValued w x) c.as_slice.ensures.value none)
    (subst (λ w. (x : ℕ) → x < cl.features → is_on s x ≡ is_value true (value_of w x)) c.as_slice-in-None-next_feature.ensures.value c.selection_of-selection.ensures.selected)

pub decide-requires : goal.decide-requires
decide-requires c =
    let along = c.in_ok-found.ensures.along in
    let cl = c.args.clauses.now in
    let size : length c.follow.new.values.items ≡ cl.vars = ap length along.values_are ∙ values_length cl.vars c.follow.new.trail.items in
    let few = c.requires.formed.features in
    let lt = (rw c.in-Some-next_feature.is at c.next_feature.ensures.some).0 in
    omega (arith, size, few, lt)

pub search-smaller-in-Continue-branch-4 : goal.search-smaller-in-Continue-branch-4
search-smaller-in-Continue-branch-4 c =
    let cl = c.args.clauses.now in
    let follows = c.in_ok-found.ensures in
    let f = c.in-Some-next_feature.feature in
    let some = rw c.in-Some-next_feature.is at c.next_feature.ensures.some in
    let free = subst (λ w. value_of w f ≡ None) c.as_slice.ensures.value some.1 in
    let size : length c.follow.new.values.items ≡ cl.vars = ap length follows.along.values_are ∙ values_length cl.vars c.follow.new.trail.items in
    let few = c.requires.formed.features in
    let lt = some.0 in
    let fall = decided_falls c.follow.new.values.items c.decide.new.values.items f (omega (arith, size, few, lt)) free c.in_ok-decide-in-Some-next_feature.ensures.values in
    let fewer = follows.fewer in
    decided_smaller c.args.budget cl.vars (length c.search.log) (sum_by unvalued c.decide.new.values.items) (sum_by unvalued c.search.values.items) (omega (arith, fall, fewer))

pub search-preserved-in-Continue-branch-4 : goal.search-preserved-in-Continue-branch-4
search-preserved-in-Continue-branch-4 c =
    let cl = c.args.clauses.now in
    let i = c.search.invariant in
    let follows = c.in_ok-found.ensures in
    let f = c.in-Some-next_feature.feature in
    let some = rw c.in-Some-next_feature.is at c.next_feature.ensures.some in
    record {
      known = subst (IsLearned cl c.search.log) (sym follows.same) i.known;
      along = along_decided cl c.follow.new.premises c.follow.new.values.items c.decide.new.values.items c.follow.new.trail.items c.decide.new.trail.items f follows.along (rw c.in-None.is at follows.opened) some.0
          (subst (λ w. value_of w f ≡ None) c.as_slice.ensures.value some.1) (subst (λ w. (x : ℕ) → x < f → IsValued w x) c.as_slice.ensures.value some.2) c.in_ok-decide-in-Some-next_feature.ensures;
      within = i.within;
    }

pub returns-then-clauses-budget : goal.returns-then-clauses-budget
returns-then-clauses-budget c =
    let n : length c.clauses.result.now ≡ length c.search.log = ap length c.clauses.ensures in (
      c.search.invariant.known.accepted,
      omega (arith, n, c.if-clauses-budget.true),
      λ h. spent c.args.clauses.now c.search.log c.search.premises c.search.invariant.known h,
    )

pub returns-in-None-last_decision : goal.returns-in-None-last_decision
returns-in-None-last_decision c =
    let cl = c.args.clauses.now in
    let i = c.search.invariant in
    let follows = c.in_ok-found.ensures in
    let n : length c.clauses.result.now ≡ length c.search.log = ap length c.clauses.ensures in
    let most = i.within in
    let caused = rw c.in-None-last_decision.is at c.last_decision.ensures.none in
    refuted_here cl c.args.budget c.search.log c.refute.new.log c.follow.new.premises c.follow.new.values.items c.follow.new.trail.items c.in-Some.conflict (subst (IsLearned cl c.search.log) (sym follows.same) i.known)
    (omega (arith, n, most, c.if-clauses-budget.false)) follows.along (rw c.in-Some.is at follows.falsified) (subst (λ w. AreCaused w 0) c.as_slice-in-Some.ensures.value caused) c.in_ok-refute-in-None-last_decision.ensures

pub search-smaller : goal.search-smaller
search-smaller c =
    let cl = c.args.clauses.now in
    let learned = c.in_ok-learn-in-Some-last_decision.ensures in
    let n : length c.clauses.result.now ≡ length c.search.log = ap length c.clauses.ensures in
    let most = c.search.invariant.within in
    let size : length c.learn.new.values.items ≡ cl.vars = ap length learned.along.values_are ∙ values_length cl.vars c.learn.new.trail.items in
    let free = free_most c.learn.new.values.items in
    learned_smaller c.args.budget cl.vars (length c.search.log) (length c.learn.new.log) (sum_by unvalued c.learn.new.values.items) (sum_by unvalued c.search.values.items) learned.longer
    (omega (arith, n, most, c.if-clauses-budget.false)) (omega (arith, size, free))

pub search-preserved : goal.search-preserved
search-preserved c =
    let learned = c.in_ok-learn-in-Some-last_decision.ensures in
    let n : length c.clauses.result.now ≡ length c.search.log = ap length c.clauses.ensures in
    let most = c.search.invariant.within in
    let longer = learned.longer in
    record { known = learned.known; along = learned.along; within = omega (arith, n, most, longer, c.if-clauses-budget.false) }
