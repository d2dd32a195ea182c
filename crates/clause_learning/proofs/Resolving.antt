-- Resolving along a trail.
use Rattle.std.proofs.Common.{◌≡◌, ℕ, ◌+◌, ◌<◌, ◌≤◌, ◌⊎◌, inl, inr, Bool, false, not, List, length, get_or, take, slice_get, slice_set, Option, Some, None, refl, sym, ◌∙◌, ap, subst, arith}
use Rattle.std.proofs.lemmas.List.{get_or-set_same}
use Rattle.std.proofs.lemmas.Option.{slice_get_within, slice_get-get_or}
use Rattle.std.proofs.Math.Seq.{take-length}
use Rattle.cfj_logic.specs.declared.clauses.Literal.{Literal}
use Rattle.cfj_words.specs.Lists.{Has}
use Rattle.cfj_logic.specs.UnitClauses.{Values, value_of, IsFalse, IsFalsified, with_true, IsUnit, Leads}
use Rattle.cfj_logic.specs.Logs.{AreBelow}
use Rattle.unit_propagation.specs.declared.trail.Step.{Step}
use Rattle.unit_propagation.specs.Trails.{values_after}
use Rattle.unit_propagation.proofs.Members.{all_has}
use Rattle.unit_propagation.proofs.UnitSteps.{Within, value_cases, one_value, grown, leads_here, leads_after, reaches_one}
use Rattle.refutation_check.proofs.FirstValues.{set_length}
use Rattle.clause_learning.specs.Decided.{IsValued, IsDecision, IsImplied, IsTrail}
use Rattle.clause_learning.specs.Denials.{IsMarked, with_others, Keeps, Denies, Resolves}
use Rattle.clause_learning.proofs.Marking.{set_size, others_size, others_still, others_marked, others_source, unmarked_others, unmarked_source}
use Rattle.clause_learning.proofs.Valuing.{values_length, steps_below, within_front, step_value}

-- ---- what marked variables deny

pub denies_first : (cs : List (List Literal)) (vs : Values) (marks : List Bool) (c : List Literal) → length marks ≡ length vs → Has cs c → IsFalsified vs c → ((m : Literal) → Has c m → IsMarked marks m.var) → Denies cs vs marks
denies_first cs vs marks c size has f all = record { size = size; leads = λ ws n keeps. leads_here cs ws c has (λ m h. keeps m.var (not m.on) (all m h) (f m h)) }

pub denies_resolved : (cs : List (List Literal)) (vs : Values) (old new : List Bool) (c : List Literal) (l : Literal) → length new ≡ length vs → Has cs c → Has c l → value_of vs l.var ≡ Some l.on → l.var < length vs →
    ((m : Literal) → Has c m → (m ≡ l) ⊎ (IsFalse vs m × IsMarked new m.var)) → ((y : ℕ) → IsMarked old y → (y ≡ l.var) ⊎ IsMarked new y) → Denies cs vs old → Denies cs vs new
denies_resolved cs vs old new c l size has has_l is lt others kept d = record { size = size; leads = λ ws n keeps. lead ws n keeps (value_of ws l.var) refl }
  where
    moved : (ws : Values) → Keeps vs new ws → (m : Literal) → (m ≡ l) ⊎ (IsFalse vs m × IsMarked new m.var) → (m ≡ l) ⊎ IsFalse ws m
    moved ws keeps m (inl e) = inl e
    moved ws keeps m (inr f) = inr (keeps m.var (not m.on) f.1 f.0)

    falsified : (ws : Values) → IsFalse ws l → (m : Literal) → (m ≡ l) ⊎ IsFalse ws m → IsFalse ws m
    falsified ws e m (inl s) = subst (IsFalse ws) (sym s) e
    falsified ws e m (inr f) = f

    -- values that keep the new marks and make the literal true keep the old ones
    before : (ws : Values) → Keeps vs new ws → value_of ws l.var ≡ Some l.on → Keeps vs old ws
    before ws keeps e x b m v = go (kept x m)
      where
        go : (x ≡ l.var) ⊎ IsMarked new x → value_of ws x ≡ Some b
        go (inl s) = ap (value_of ws) s ∙ e ∙ ap Some (one_value vs l.var l.on b is (ap (value_of vs) (sym s) ∙ v))
        go (inr k) = keeps x b k v

    valued : (ws : Values) → length ws ≡ length vs → Keeps vs new ws → (b : Bool) → value_of ws l.var ≡ Some b → (b ≡ l.on) ⊎ (b ≡ not l.on) → Leads cs ws
    valued ws n keeps b e (inl s) = d.leads ws n (before ws keeps (e ∙ ap Some s))
    valued ws n keeps b e (inr s) = leads_here cs ws c has (λ m h. falsified ws (e ∙ ap Some s) m (moved ws keeps m (others m h)))

    lead : (ws : Values) → length ws ≡ length vs → Keeps vs new ws → (v : Option Bool) → value_of ws l.var ≡ v → Leads cs ws
    lead ws n keeps (Some b) e = valued ws n keeps b e (value_cases b l.on)
    lead ws n keeps None e =
        let next = with_true ws l in
        let m : length next ≡ length vs = set_length ws l.var (Some l.on) ∙ n in
        let made : value_of next l.var ≡ Some l.on = now ws (omega (arith, lt, n)) in
        leads_after cs ws next (reaches_one cs ws c l has (record { has = has_l; unvalued = e; others = λ k h. moved ws keeps k (others k h) }))
        (d.leads next m (before next (λ x b k v. grown ws l e x b (keeps x b k v)) made))
      where
        now : (ws : Values) → l.var < length ws → value_of (with_true ws l) l.var ≡ Some l.on
        now ws lt = get_or-set_same ws l.var (Some l.on) None lt

-- ---- a step that has a cause

pub implied_by : (cs : List (List Literal)) (n vars : ℕ) (t : List Step) (k place : ℕ) (s : Step) → IsTrail cs n vars t → slice_get t k ≡ Some s → s.cause ≡ Some place →
    (c : List Literal) × (slice_get cs place ≡ Some c) × IsUnit (values_after vars (take k t)) c s.literal
implied_by cs n vars t k place s trail e cause = go (trail.steps k s e)
  where
    go : IsDecision cs n (values_after vars (take k t)) s ⊎ IsImplied cs (values_after vars (take k t)) s → (c : List Literal) × (slice_get cs place ≡ Some c) × IsUnit (values_after vars (take k t)) c s.literal
    go (inl d) = let no : None ≡ Some place = sym d.cause ∙ cause in absurd (let bad : ⊥ = cc no in bad)
    go (inr i) =
        let both : Some i.place ≡ Some place = sym i.cause ∙ cause in
        let same : i.place ≡ place = cc both in
        (i.clause, ap (slice_get cs) (sym same) ∙ i.there, i.unit)

pub decided_at : (cs : List (List Literal)) (n vars : ℕ) (t : List Step) (k : ℕ) (s : Step) → IsTrail cs n vars t → slice_get t k ≡ Some s → s.cause ≡ None → IsDecision cs n (values_after vars (take k t)) s
decided_at cs n vars t k s trail e cause = go (trail.steps k s e)
  where
    go : IsDecision cs n (values_after vars (take k t)) s ⊎ IsImplied cs (values_after vars (take k t)) s → IsDecision cs n (values_after vars (take k t)) s
    go (inl d) = d
    go (inr i) = let no : None ≡ Some i.place = sym cause ∙ i.cause in absurd (let bad : ⊥ = cc no in bad)

pub whole_front : (t : List Step) → take (length t) t ≡ t
whole_front t = take-length t

pub within_whole : (cs : List (List Literal)) (n vars : ℕ) (t : List Step) (k : ℕ) → IsTrail cs n vars t → k ≤ length t → Within (values_after vars (take k t)) (values_after vars t)
within_whole cs n vars t k trail le = subst (λ w. Within (values_after vars (take k t)) (values_after vars w)) (take-length t) (within_front cs n vars t k (length t) trail le (omega arith))

-- the marks after a resolution with the clause of a step
pub resolved_denies : (cs : List (List Literal)) (n vars : ℕ) (t : List Step) (k place : ℕ) (s : Step) (c : List Literal) (old new : List Bool) → IsTrail cs n vars t → slice_get t k ≡ Some s → s.cause ≡ Some place → slice_get cs place ≡ Some c →
    new ≡ with_others s.literal (slice_set old s.literal.var false) c → Denies cs (values_after vars t) old → Denies cs (values_after vars t) new
resolved_denies cs n vars t k place s c old new trail e cause there is d =
    subst (Denies cs (values_after vars t)) (sym is)
    (denies_resolved cs (values_after vars t) old marks c s.literal size (place, there) unit.has value (let l = values_length vars t in omega (arith, lt, l)) (λ m h. other m h (others_marked s.literal bare c m (omega (arith, bare_size, all_below m h)) h) (unit.others m h)) kept d)
  where
    bare : List Bool
    bare = slice_set old s.literal.var false

    marks : List Bool
    marks = with_others s.literal bare c

    lt : s.literal.var < vars
    lt = steps_below cs n vars t trail k s e

    within : k < length t
    within = slice_get_within t k s e

    old_size : length old ≡ vars
    old_size = d.size ∙ values_length vars t

    bare_size : length bare ≡ vars
    bare_size = set_size old s.literal.var false ∙ old_size

    size : length marks ≡ length (values_after vars t)
    size = others_size s.literal bare c ∙ bare_size ∙ sym (values_length vars t)

    unit : IsUnit (values_after vars (take k t)) c s.literal
    unit = let i = implied_by cs n vars t k place s trail e cause in
        let both : Some i.0 ≡ Some c = sym i.1 ∙ there in
        let same : i.0 ≡ c = cc both in
        subst (λ w. IsUnit (values_after vars (take k t)) w s.literal) same i.2

    all_below : (m : Literal) → Has c m → m.var < vars
    all_below m h = all_has (λ (w : Literal). w.var < vars) c m (all_has (AreBelow vars) cs c trail.below (place, there)) h

    value : value_of (values_after vars t) s.literal.var ≡ Some s.literal.on
    value = within_whole cs n vars t (k + 1) trail (omega (arith, within)) s.literal.var s.literal.on (step_value cs n vars t k s trail e)

    other : (m : Literal) → Has c m → (m ≡ s.literal) ⊎ IsMarked marks m.var → (m ≡ s.literal) ⊎ IsFalse (values_after vars (take k t)) m → (m ≡ s.literal) ⊎ (IsFalse (values_after vars t) m × IsMarked marks m.var)
    other m h (inl s) _ = inl s
    other m h _ (inl s) = inl s
    other m h (inr p) (inr f) = inr (within_whole cs n vars t k trail (omega (arith, within)) m.var (not m.on) f, p)

    kept : (y : ℕ) → IsMarked old y → (y ≡ s.literal.var) ⊎ IsMarked marks y
    kept y h = go (unmarked_others old s.literal.var y h)
      where
        go : (y ≡ s.literal.var) ⊎ IsMarked bare y → (y ≡ s.literal.var) ⊎ IsMarked marks y
        go (inl q) = inl q
        go (inr q) = inr (others_still s.literal bare c y q)

pub resolved_marks : (cs : List (List Literal)) (n vars : ℕ) (t : List Step) (k place : ℕ) (s : Step) (c : List Literal) (old new : List Bool) → IsTrail cs n vars t → slice_get t k ≡ Some s → s.cause ≡ Some place → slice_get cs place ≡ Some c → length old ≡ vars →
    new ≡ with_others s.literal (slice_set old s.literal.var false) c → Resolves vars t k old new
resolved_marks cs n vars t k place s c old new trail e cause there size is = subst (Resolves vars t k old) (sym is) (record { source = λ r at y h. source y (same r at) h; kept = λ r at y h. kept y (same r at) h })
  where
    bare : List Bool
    bare = slice_set old s.literal.var false

    marks : List Bool
    marks = with_others s.literal bare c

    same : (r : Step) → slice_get t k ≡ Some r → r.literal.var ≡ s.literal.var
    same r at = let both : Some r ≡ Some s = sym at ∙ e in let is : r ≡ s = cc both in ap (λ (w : Step). w.literal.var) is

    unit : IsUnit (values_after vars (take k t)) c s.literal
    unit = let i = implied_by cs n vars t k place s trail e cause in
        let both : Some i.0 ≡ Some c = sym i.1 ∙ there in
        let is : i.0 ≡ c = cc both in
        subst (λ w. IsUnit (values_after vars (take k t)) w s.literal) is i.2

    source : {x : ℕ} (y : ℕ) → x ≡ s.literal.var → IsMarked marks y → (IsMarked old y × (y ≡ x → ⊥)) ⊎ IsValued (values_after vars (take k t)) y
    source {x = x} y at h = go (others_source s.literal bare c y h)
      where
        old_mark : IsMarked bare y → (IsMarked old y × (y ≡ x → ⊥))
        old_mark q = let r = unmarked_source old s.literal.var y (let lt = steps_below cs n vars t trail k s e in omega (arith, lt, size)) q in (r.0, λ d. r.1 (d ∙ at))

        fresh : (m : Literal) → m.var ≡ y → (m ≡ s.literal → ⊥) → (m ≡ s.literal) ⊎ IsFalse (values_after vars (take k t)) m → IsValued (values_after vars (take k t)) y
        fresh m d ne (inl q) = absurd (ne q)
        fresh m d ne (inr f) = subst (IsValued (values_after vars (take k t))) d (not m.on, f)

        go : IsMarked bare y ⊎ ((m : Literal) × Has c m × (m.var ≡ y) × (m ≡ s.literal → ⊥)) → (IsMarked old y × (y ≡ x → ⊥)) ⊎ IsValued (values_after vars (take k t)) y
        go (inl q) = inl (old_mark q)
        go (inr r) = inr (fresh r.0 r.2 r.3 (unit.others r.0 r.1))

    kept : {x : ℕ} (y : ℕ) → x ≡ s.literal.var → IsMarked old y → (y ≡ x) ⊎ IsMarked marks y
    kept {x = x} y at h = go (unmarked_others old s.literal.var y h)
      where
        go : (y ≡ s.literal.var) ⊎ IsMarked bare y → (y ≡ x) ⊎ IsMarked marks y
        go (inl q) = inl (q ∙ sym at)
        go (inr q) = inr (others_still s.literal bare c y q)

-- ---- what a call of the resolution needs

abbrev pub HasCause : List Step → ℕ → ℕ → Type 0
HasCause t k place = (s : Step) → slice_get t k ≡ Some s → s.cause ≡ Some place

pub cause_within : (cs : List (List Literal)) (n vars : ℕ) (t : List Step) (k place : ℕ) (d : Step) → IsTrail cs n vars t → k < length t → HasCause t k place → place < length cs
cause_within cs n vars t k place d trail lt cause =
    let s = get_or t k d in
    let e : slice_get t k ≡ Some s = slice_get-get_or t k d lt in
    let i = implied_by cs n vars t k place s trail e (cause s e) in
    slice_get_within cs place i.0 i.1

pub cause_below : (cs : List (List Literal)) (n vars : ℕ) (t : List Step) (place : ℕ) (c : List Literal) → IsTrail cs n vars t → slice_get cs place ≡ Some c → AreBelow vars c
cause_below cs n vars t place c trail there = all_has (AreBelow vars) cs c trail.below (place, there)

pub literal_below : (cs : List (List Literal)) (n vars : ℕ) (t : List Step) (k : ℕ) (d : Step) → IsTrail cs n vars t → k < length t → (get_or t k d).literal.var < vars
literal_below cs n vars t k d trail lt = steps_below cs n vars t trail k (get_or t k d) (slice_get-get_or t k d lt)

pub resolved_at : (cs : List (List Literal)) (n : ℕ) (t : List Step) (k place : ℕ) (d : Step) (c : List Literal) (old new : List Bool) → IsTrail cs n (length old) t → k < length t → HasCause t k place → slice_get cs place ≡ Some c →
    new ≡ with_others (get_or t k d).literal (slice_set old (get_or t k d).literal.var false) c → Denies cs (values_after (length old) t) old → Denies cs (values_after (length old) t) new × Resolves (length old) t k old new
resolved_at cs n t k place d c old new trail lt cause there is denies =
    let s = get_or t k d in
    let e : slice_get t k ≡ Some s = slice_get-get_or t k d lt in (
      resolved_denies cs n (length old) t k place s c old new trail e (cause s e) there is denies,
      resolved_marks cs n (length old) t k place s c old new trail e (cause s e) there refl is,
    )
