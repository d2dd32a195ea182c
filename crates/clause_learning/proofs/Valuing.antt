-- The values along a trail.
use Rattle.std.proofs.Common.{◌≡◌, ℕ, zero, suc, ◌+◌, ◌-◌, ◌<◌, ◌≤◌, ◌⊎◌, inl, inr, Bool, List, [], ◌∷◌, ◌++◌, length, take, Option, Some, None, slice_get, refl, sym, ◌∙◌, ap, subst, arith}
use Rattle.std.specs.Prelude.{replicate, All}
use Rattle.std.proofs.lemmas.List.{take_more, get_or-set_same}
use Rattle.std.proofs.lemmas.Option.{slice_get_within, get_or_from_slice_get}
use Rattle.cfj_logic.specs.declared.clauses.Literal.{Literal}
use Rattle.cfj_logic.specs.UnitClauses.{Values, value_of, IsUnvalued, with_true}
use Rattle.cfj_logic.specs.Logs.{AreBelow}
use Rattle.unit_propagation.specs.declared.trail.Step.{Step}
use Rattle.unit_propagation.specs.Trails.{values_from, values_after}
use Rattle.unit_propagation.proofs.Members.{all_has}
use Rattle.unit_propagation.proofs.UnitSteps.{Within, set_cases, grown}
use Rattle.refutation_check.proofs.FirstValues.{fixed_none, fixed_length, set_length}
use Rattle.clause_learning.specs.Decided.{IsValued, IsDecision, IsImplied, IsTrail, AreBelowIn}

pub values_push : (vs : Values) (t : List Step) (s : Step) → values_from vs (t ++ s ∷ []) ≡ with_true (values_from vs t) s.literal
values_push vs [] s = refl
values_push vs (r ∷ t) s = values_push (with_true vs r.literal) t s

values_from_length : (vs : Values) (t : List Step) → length (values_from vs t) ≡ length vs
values_from_length vs [] = refl
values_from_length vs (s ∷ t) = values_from_length (with_true vs s.literal) t ∙ set_length vs s.literal.var (Some s.literal.on)

pub values_length : (vars : ℕ) (t : List Step) → length (values_after vars t) ≡ vars
values_length vars t = values_from_length (replicate vars None) t ∙ ap length (fixed_none vars) ∙ fixed_length vars []

none_valued : (vars x : ℕ) (b : Bool) → value_of (replicate vars None) x ≡ Some b → ⊥
none_valued zero x b e = cc e
none_valued (suc vars) zero b e = cc e
none_valued (suc vars) (suc x) b e = none_valued vars x b e

pub none_first : (vars : ℕ) (t : List Step) (x : ℕ) → IsValued (values_after vars (take 0 t)) x → ⊥
none_first vars t x v = none_valued vars x v.0 v.1

pub take_step : (t : List Step) (k : ℕ) (s : Step) → slice_get t k ≡ Some s → take (k + 1) t ≡ take k t ++ s ∷ []
take_step t k s e = take_more t k s (slice_get_within t k s e) ∙ ap (λ w. take k t ++ w ∷ []) (get_or_from_slice_get t k s s e)

pub values_step : (vars : ℕ) (t : List Step) (k : ℕ) (s : Step) → slice_get t k ≡ Some s → values_after vars (take (k + 1) t) ≡ with_true (values_after vars (take k t)) s.literal
values_step vars t k s e = ap (values_after vars) (take_step t k s e) ∙ values_push (replicate vars None) (take k t) s

-- ---- steps

pub step_free : (cs : List (List Literal)) (n : ℕ) (vs : Values) (s : Step) → IsDecision cs n vs s ⊎ IsImplied cs vs s → IsUnvalued vs s.literal
step_free cs n vs s (inl d) = d.unvalued
step_free cs n vs s (inr i) = i.unit.unvalued

step_below : (cs : List (List Literal)) (n vars : ℕ) (vs : Values) (s : Step) → n ≤ vars → All (AreBelow vars) cs → IsDecision cs n vs s ⊎ IsImplied cs vs s → s.literal.var < vars
step_below cs n vars vs s le all (inl d) = let lt = d.feature in omega (arith, lt, le)
step_below cs n vars vs s le all (inr i) = all_has (λ (w : Literal). w.var < vars) i.clause s.literal (all_has (AreBelow vars) cs i.clause all (i.place, i.there)) i.unit.has

pub steps_below : (cs : List (List Literal)) (n vars : ℕ) (t : List Step) → IsTrail cs n vars t → AreBelowIn vars t
steps_below cs n vars t trail k s e = step_below cs n vars (values_after vars (take k t)) s trail.features trail.below (trail.steps k s e)

pub some_step : (t : List Step) (k : ℕ) → k < length t → (s : Step) × (slice_get t k ≡ Some s)
some_step [] k lt = absurd (omega arith)
some_step (s ∷ t) zero lt = (s, refl)
some_step (s ∷ t) (suc k) lt = some_step t k (omega arith)

-- ---- values stay

one_more : (cs : List (List Literal)) (n vars : ℕ) (t : List Step) (k : ℕ) (s : Step) → IsTrail cs n vars t → slice_get t k ≡ Some s → Within (values_after vars (take k t)) (values_after vars (take (k + 1) t))
one_more cs n vars t k s trail e =
    subst (Within (values_after vars (take k t))) (sym (values_step vars t k s e))
    (grown (values_after vars (take k t)) s.literal (step_free cs n (values_after vars (take k t)) s (trail.steps k s e)))

within_more : (cs : List (List Literal)) (n vars : ℕ) (t : List Step) (k d : ℕ) → IsTrail cs n vars t → k + d ≤ length t → Within (values_after vars (take k t)) (values_after vars (take (k + d) t))
within_more cs n vars t k zero trail le = let e : k ≡ k + 0 = omega arith in subst (λ j. Within (values_after vars (take k t)) (values_after vars (take j t))) e (λ x b v. v)
within_more cs n vars t k (suc d) trail le =
    let e : k + d + 1 ≡ k + suc d = omega arith in
    let s = some_step t (k + d) (omega arith) in
    subst (λ j. Within (values_after vars (take k t)) (values_after vars (take j t))) e
    (λ x b v. one_more cs n vars t (k + d) s.0 trail s.1 x b (within_more cs n vars t k d trail (omega arith) x b v))

pub within_front : (cs : List (List Literal)) (n vars : ℕ) (t : List Step) (k m : ℕ) → IsTrail cs n vars t → k ≤ m → m ≤ length t → Within (values_after vars (take k t)) (values_after vars (take m t))
within_front cs n vars t k m trail le most = go (m - k) (omega arith)
  where
    go : (d : ℕ) → m ≡ k + d → Within (values_after vars (take k t)) (values_after vars (take m t))
    go d e = subst (λ j. Within (values_after vars (take k t)) (values_after vars (take j t))) (sym e) (within_more cs n vars t k d trail (omega arith))

pub free_front : (cs : List (List Literal)) (n vars : ℕ) (t : List Step) (k m x : ℕ) → IsTrail cs n vars t → k ≤ m → m ≤ length t → value_of (values_after vars (take m t)) x ≡ None → value_of (values_after vars (take k t)) x ≡ None
free_front cs n vars t k m x trail le most free = go (value_of (values_after vars (take k t)) x) refl
  where
    go : (v : Option Bool) → value_of (values_after vars (take k t)) x ≡ v → value_of (values_after vars (take k t)) x ≡ None
    go None e = e
    go (Some b) e = let no : None ≡ Some b = sym free ∙ within_front cs n vars t k m trail le most x b e in absurd (let bad : ⊥ = cc no in bad)

pub valued_front : (cs : List (List Literal)) (n vars : ℕ) (t : List Step) (k m x : ℕ) → IsTrail cs n vars t → k ≤ m → m ≤ length t → IsValued (values_after vars (take k t)) x → IsValued (values_after vars (take m t)) x
valued_front cs n vars t k m x trail le most v = (v.0, within_front cs n vars t k m trail le most x v.0 v.1)

-- a step gives its variable its value
pub step_value : (cs : List (List Literal)) (n vars : ℕ) (t : List Step) (k : ℕ) (s : Step) → IsTrail cs n vars t → slice_get t k ≡ Some s → value_of (values_after vars (take (k + 1) t)) s.literal.var ≡ Some s.literal.on
step_value cs n vars t k s trail e =
    let lt = steps_below cs n vars t trail k s e in
    let l = values_length vars (take k t) in
    ap (λ w. value_of w s.literal.var) (values_step vars t k s e) ∙ get_or-set_same (values_after vars (take k t)) s.literal.var (Some s.literal.on) None (omega (arith, lt, l))

-- what has a value behind a step has it from the step, or had it before
pub valued_split : (vars : ℕ) (t : List Step) (k x : ℕ) (s : Step) → slice_get t k ≡ Some s → IsValued (values_after vars (take (k + 1) t)) x → (x ≡ s.literal.var) ⊎ IsValued (values_after vars (take k t)) x
valued_split vars t k x s e v = go (set_cases (values_after vars (take k t)) s.literal.var x (Some s.literal.on))
  where
    at : value_of (with_true (values_after vars (take k t)) s.literal) x ≡ Some v.0
    at = ap (λ w. value_of w x) (sym (values_step vars t k s e)) ∙ v.1

    go : ((x ≡ s.literal.var) × (value_of (with_true (values_after vars (take k t)) s.literal) x ≡ Some s.literal.on)) ⊎ (value_of (with_true (values_after vars (take k t)) s.literal) x ≡ value_of (values_after vars (take k t)) x) →
        (x ≡ s.literal.var) ⊎ IsValued (values_after vars (take k t)) x
    go (inl r) = inl r.0
    go (inr r) = inr (v.0, sym r ∙ at)

-- it has it from a step between two places, or had it before them
abbrev pub IsFrom : ℕ → List Step → ℕ → ℕ → ℕ → Type 0
IsFrom vars t k m x = IsValued (values_after vars (take k t)) x ⊎ ((j : ℕ) × (s : Step) × (k ≤ j) × (j < m) × (slice_get t j ≡ Some s) × (x ≡ s.literal.var))

valued_from : (vars : ℕ) (t : List Step) (k d x : ℕ) → k + d ≤ length t → IsValued (values_after vars (take (k + d) t)) x → IsFrom vars t k (k + d) x
valued_from vars t k zero x le v = let e : k + 0 ≡ k = omega arith in inl (subst (λ j. IsValued (values_after vars (take j t)) x) e v)
valued_from vars t k (suc d) x le v = go (valued_split vars t (k + d) x at.0 at.1 (subst (λ j. IsValued (values_after vars (take j t)) x) e v)) (λ w. valued_from vars t k d x (omega arith) w)
  where
    e : k + suc d ≡ k + d + 1
    e = omega arith

    at : (s : Step) × (slice_get t (k + d) ≡ Some s)
    at = some_step t (k + d) (omega arith)

    wider : IsFrom vars t k (k + d) x → IsFrom vars t k (k + suc d) x
    wider (inl w) = inl w
    wider (inr w) = let lt = w.3 in inr (w.0, w.1, w.2, omega (arith, lt), w.4, w.5)

    go : (x ≡ at.0.literal.var) ⊎ IsValued (values_after vars (take (k + d) t)) x → (IsValued (values_after vars (take (k + d) t)) x → IsFrom vars t k (k + d) x) → IsFrom vars t k (k + suc d) x
    go (inl s) ih = inr (k + d, at.0, omega arith, omega arith, at.1, s)
    go (inr w) ih = wider (ih w)

pub valued_between : (vars : ℕ) (t : List Step) (k m x : ℕ) → k ≤ m → m ≤ length t → IsValued (values_after vars (take m t)) x → IsFrom vars t k m x
valued_between vars t k m x le most v = go (m - k) (omega arith)
  where
    go : (d : ℕ) → m ≡ k + d → IsFrom vars t k m x
    go d e = subst (λ j. IsFrom vars t k j x) (sym e) (valued_from vars t k d x (omega arith) (subst (λ j. IsValued (values_after vars (take j t)) x) e v))
