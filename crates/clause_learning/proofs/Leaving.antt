-- What resolving along a trail leaves.
use Rattle.std.proofs.Common.{◌≡◌, ℕ, ◌+◌, ◌<◌, ◌≤◌, ◌⊎◌, inl, inr, Bool, true, false, List, length, get_or, take, slice_get, Some, None, sym, ◌∙◌, ap, subst, arith}
use Rattle.std.proofs.lemmas.Option.{slice_get_within}
use Rattle.cfj_logic.specs.declared.clauses.Literal.{Literal}
use Rattle.cfj_logic.specs.UnitClauses.{Values, value_of}
use Rattle.unit_propagation.specs.declared.trail.Step.{Step}
use Rattle.unit_propagation.specs.Trails.{values_after}
use Rattle.unit_propagation.proofs.UnitSteps.{one_value, stuck}
use Rattle.clause_learning.specs.Decided.{IsValued, IsTrail, IsLastDecision}
use Rattle.clause_learning.specs.Denials.{IsMarked, AreUnmarked, Denies, Keeps, Resolves, LeavesOne, LeavesFeatures}
use Rattle.clause_learning.proofs.Resolving.{decided_at, within_whole}
use Rattle.clause_learning.proofs.Valuing.{values_length, none_first, step_free, free_front, valued_front, step_value, valued_split, valued_between}

-- all marked variables have values before this place
abbrev pub AreValued : ℕ → List Step → ℕ → List Bool → Type 0
AreValued vars t k marks = (x : ℕ) → IsMarked marks x → IsValued (values_after vars (take k t)) x

marked_false : (marks : List Bool) (x y : ℕ) → IsMarked marks x → get_or marks y false ≡ false → x ≡ y → ⊥
marked_false marks x y h plain e = let no : true ≡ false = sym h ∙ ap (λ k. get_or marks k false) e ∙ plain in cc no

-- a step whose variable isn't marked
pub valued_skip : (vars : ℕ) (t : List Step) (k : ℕ) (s : Step) (marks : List Bool) → slice_get t k ≡ Some s → get_or marks s.literal.var false ≡ false → AreValued vars t (k + 1) marks → AreValued vars t k marks
valued_skip vars t k s marks e plain all x h = go (valued_split vars t k x s e (all x h))
  where
    go : (x ≡ s.literal.var) ⊎ IsValued (values_after vars (take k t)) x → IsValued (values_after vars (take k t)) x
    go (inl q) = absurd (marked_false marks x s.literal.var h plain q)
    go (inr q) = q

-- a step that was resolved
pub valued_next : (vars : ℕ) (t : List Step) (k : ℕ) (s : Step) (old new : List Bool) → slice_get t k ≡ Some s → Resolves vars t k old new → AreValued vars t (k + 1) old → AreValued vars t k new
valued_next vars t k s old new e r all x h = go (r.source s e x h)
  where
    split : (x ≡ s.literal.var → ⊥) → (x ≡ s.literal.var) ⊎ IsValued (values_after vars (take k t)) x → IsValued (values_after vars (take k t)) x
    split ne (inl q) = absurd (ne q)
    split ne (inr q) = q

    go : (IsMarked old x × (x ≡ s.literal.var → ⊥)) ⊎ IsValued (values_after vars (take k t)) x → IsValued (values_after vars (take k t)) x
    go (inl q) = split q.1 (valued_split vars t k x s e (all x q.0))
    go (inr q) = q

-- ---- the one that is left

abbrev pub IsDone : ℕ → List Step → ℕ → ℕ → List Bool → Type 0
IsDone n t k p marks = (s : Step) → slice_get t p ≡ Some s → (s.cause ≡ None) ⊎ ((s.literal.var < n) × AreUnmarked marks t k p)

-- a decision is the last one, and a feature
done_alone : (cs : List (List Literal)) (n vars : ℕ) (t : List Step) (k p : ℕ) (s : Step) (marks : List Bool) → IsTrail cs n vars t → IsLastDecision t k → k ≤ p → slice_get t p ≡ Some s → (s.cause ≡ None) ⊎ ((s.literal.var < n) × AreUnmarked marks t k p) →
    (s.literal.var < n) × AreUnmarked marks t k p
done_alone cs n vars t k p s marks trail last le e (inr r) = r
done_alone cs n vars t k p s marks trail last le e (inl none) = (
  (decided_at cs n vars t p s trail e none).feature,
  λ j r from to at h. absurd (last.later p s (omega (arith, le, from, to)) e none),
)

pub leaves_one : (cs : List (List Literal)) (n vars : ℕ) (t : List Step) (k p : ℕ) (s : Step) (marks : List Bool) → IsTrail cs n vars t → IsLastDecision t k → k ≤ p → slice_get t p ≡ Some s → IsDone n t k p marks → IsMarked marks s.literal.var →
    AreValued vars t (p + 1) marks → LeavesOne n vars t k marks
leaves_one cs n vars t k p s marks trail last le e done marked all = record {
  var = s.literal.var;
  feature = alone.0;
  marked = marked;
  valued = (s.literal.on, within_whole cs n vars t (p + 1) trail (omega (arith, within)) s.literal.var s.literal.on (step_value cs n vars t p s trail e));
  free = free_front cs n vars t k p s.literal.var trail le (omega (arith, within)) (step_free cs n (values_after vars (take p t)) s (trail.steps p s e));
  others = λ x h. go x h (valued_split vars t p x s e (all x h));
}
  where
    within : p < length t
    within = slice_get_within t p s e

    alone : (s.literal.var < n) × AreUnmarked marks t k p
    alone = done_alone cs n vars t k p s marks trail last le e (done s e)

    before : (x : ℕ) → IsMarked marks x → IsValued (values_after vars (take k t)) x ⊎ ((j : ℕ) × (r : Step) × (k ≤ j) × (j < p) × (slice_get t j ≡ Some r) × (x ≡ r.literal.var)) → IsValued (values_after vars (take k t)) x
    before x h (inl q) = q
    before x h (inr q) = absurd (alone.1 q.0 q.1 q.2 q.3 q.4 (subst (IsMarked marks) q.5 h))

    go : (x : ℕ) → IsMarked marks x → (x ≡ s.literal.var) ⊎ IsValued (values_after vars (take p t)) x → (x ≡ s.literal.var) ⊎ IsValued (values_after vars (take k t)) x
    go x h (inl q) = inl q
    go x h (inr q) = inr (before x h (valued_between vars t k p x le (omega (arith, within)) q))

-- the marked variables can't all have had values before a decision, where all clauses are open
pub never_none : (cs : List (List Literal)) (n vars : ℕ) (t : List Step) (k : ℕ) (marks : List Bool) → IsTrail cs n vars t → IsLastDecision t k → Denies cs (values_after vars t) marks → AreValued vars t k marks → ⊥
never_none cs n vars t k marks trail last denies all =
    stuck cs before before (decided_at cs n vars t k last.step trail last.there last.decision).all (λ x b e. e)
    (denies.leads before (values_length vars (take k t) ∙ sym (values_length vars t)) keeps)
  where
    before : Values
    before = values_after vars (take k t)

    keeps : Keeps (values_after vars t) marks before
    keeps x b h e =
        let v = all x h in
        let within = slice_get_within t k last.step last.there in
        let same : v.0 ≡ b = one_value (values_after vars t) x v.0 b (within_whole cs n vars t k trail (omega (arith, within)) x v.0 v.1) e in
        v.1 ∙ ap Some same

pub leaves_some : (cs : List (List Literal)) (n vars : ℕ) (t : List Step) (k p : ℕ) (marks : List Bool) → IsTrail cs n vars t → IsLastDecision t k → p ≤ k → k ≤ p → Denies cs (values_after vars t) marks → AreValued vars t p marks → LeavesOne n vars t k marks
leaves_some cs n vars t k p marks trail last le ge denies all =
    let same : p ≡ k = omega (arith, le, ge) in
    absurd (never_none cs n vars t k marks trail last denies (subst (λ j. AreValued vars t j marks) same all))

-- ---- before the last decision

-- a marked variable is a feature, or has a value before this place
abbrev pub AreKept : ℕ → ℕ → List Step → ℕ → List Bool → Type 0
AreKept n vars t k marks = (x : ℕ) → IsMarked marks x → (x < n) ⊎ IsValued (values_after vars (take k t)) x

pub kept_first : (n vars : ℕ) (t : List Step) (k : ℕ) (marks : List Bool) → LeavesOne n vars t k marks → AreKept n vars t k marks
kept_first n vars t k marks one x h = go (one.others x h)
  where
    go : (x ≡ one.var) ⊎ IsValued (values_after vars (take k t)) x → (x < n) ⊎ IsValued (values_after vars (take k t)) x
    go (inl q) = inl (subst (λ y. y < n) (sym q) one.feature)
    go (inr q) = inr q

-- a step whose variable is a feature, if it is marked
pub kept_skip : (cs : List (List Literal)) (n vars : ℕ) (t : List Step) (k : ℕ) (s : Step) (marks : List Bool) → IsTrail cs n vars t → slice_get t k ≡ Some s → (IsMarked marks s.literal.var → (s.literal.var < n) ⊎ (s.cause ≡ None)) →
    AreKept n vars t (k + 1) marks → AreKept n vars t k marks
kept_skip cs n vars t k s marks trail e feature all x h = go (all x h)
  where
    is_feature : (s.literal.var < n) ⊎ (s.cause ≡ None) → s.literal.var < n
    is_feature (inl q) = q
    is_feature (inr q) = (decided_at cs n vars t k s trail e q).feature

    split : (x ≡ s.literal.var) ⊎ IsValued (values_after vars (take k t)) x → (x < n) ⊎ IsValued (values_after vars (take k t)) x
    split (inl q) = inl (subst (λ y. y < n) (sym q) (is_feature (feature (subst (IsMarked marks) q h))))
    split (inr q) = inr q

    go : (x < n) ⊎ IsValued (values_after vars (take (k + 1) t)) x → (x < n) ⊎ IsValued (values_after vars (take k t)) x
    go (inl q) = inl q
    go (inr q) = split (valued_split vars t k x s e q)

pub kept_next : (n vars : ℕ) (t : List Step) (k : ℕ) (s : Step) (old new : List Bool) → slice_get t k ≡ Some s → Resolves vars t k old new → AreKept n vars t (k + 1) old → AreKept n vars t k new
kept_next n vars t k s old new e r all x h = go (r.source s e x h)
  where
    split : (x ≡ s.literal.var → ⊥) → (x ≡ s.literal.var) ⊎ IsValued (values_after vars (take k t)) x → IsValued (values_after vars (take k t)) x
    split ne (inl q) = absurd (ne q)
    split ne (inr q) = q

    old_one : (x ≡ s.literal.var → ⊥) → (x < n) ⊎ IsValued (values_after vars (take (k + 1) t)) x → (x < n) ⊎ IsValued (values_after vars (take k t)) x
    old_one ne (inl q) = inl q
    old_one ne (inr q) = inr (split ne (valued_split vars t k x s e q))

    go : (IsMarked old x × (x ≡ s.literal.var → ⊥)) ⊎ IsValued (values_after vars (take k t)) x → (x < n) ⊎ IsValued (values_after vars (take k t)) x
    go (inl q) = old_one q.1 (all x q.0)
    go (inr q) = inr q

-- the one that is left stays
pub one_next : (cs : List (List Literal)) (n vars : ℕ) (t : List Step) (k p : ℕ) (s : Step) (old new : List Bool) → IsTrail cs n vars t → k ≤ length t → p < k → slice_get t p ≡ Some s → Resolves vars t p old new → LeavesOne n vars t k old → LeavesOne n vars t k new
one_next cs n vars t k p s old new trail most lt e r one = record {
  var = one.var;
  feature = one.feature;
  marked = stays (r.kept s e one.var one.marked);
  valued = one.valued;
  free = one.free;
  others = λ x h. go x (r.source s e x h);
}
  where
    stays : (one.var ≡ s.literal.var) ⊎ IsMarked new one.var → IsMarked new one.var
    stays (inr q) = q
    stays (inl q) =
        let v = valued_front cs n vars t (p + 1) k s.literal.var trail (omega (arith, lt)) most (s.literal.on, step_value cs n vars t p s trail e) in
        let no : None ≡ Some v.0 = sym one.free ∙ ap (value_of (values_after vars (take k t))) q ∙ v.1 in
        absurd (let bad : ⊥ = cc no in bad)

    go : (x : ℕ) → (IsMarked old x × (x ≡ s.literal.var → ⊥)) ⊎ IsValued (values_after vars (take p t)) x → (x ≡ one.var) ⊎ IsValued (values_after vars (take k t)) x
    go x (inl q) = one.others x q.0
    go x (inr q) = inr (valued_front cs n vars t p k x trail (omega (arith, lt)) most q)

pub leaves_features : (n vars : ℕ) (t : List Step) (k p : ℕ) (marks : List Bool) → p ≡ 0 → LeavesOne n vars t k marks → AreKept n vars t p marks → LeavesFeatures n vars t k marks
leaves_features n vars t k p marks none one all = record { one = one; features = λ x h. go x (all x h) }
  where
    go : (x : ℕ) → (x < n) ⊎ IsValued (values_after vars (take p t)) x → x < n
    go x (inl q) = q
    go x (inr q) = absurd (none_first vars t x (subst (λ j. IsValued (values_after vars (take j t)) x) none q))
