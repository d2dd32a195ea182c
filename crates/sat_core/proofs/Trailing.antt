-- How the search's trail grows and is cut.
use Rattle.std.proofs.Common.{◌≡◌, ℕ, zero, suc, ◌+◌, ◌<◌, ◌≤◌, ◌⊎◌, inl, inr, Bool, false, List, [], ◌∷◌, ◌++◌, length, take, drop, slice_get, slice_set, Option, Some, None, refl, sym, ◌∙◌, ap, subst, arith, length-append, append-nil}
use Rattle.std.specs.Prelude.{All, replicate}
use Rattle.std.proofs.lemmas.List.{take-append-le}
use Rattle.std.proofs.lemmas.Option.{slice_get_within}
use Rattle.std.proofs.Math.ListN.{drop_of_length-le}
use Rattle.std.proofs.Math.Seq.{take-append_seam, take-length}
use Rattle.cfj_logic.specs.declared.clauses.Literal.{Literal}
use Rattle.cfj_logic.specs.declared.clauses.Clauses.{Clauses}
use Rattle.cfj_logic.specs.Sides.{Sides}
use Rattle.cfj_words.specs.Lists.{Has}
use Rattle.cfj_logic.specs.UnitClauses.{Values, value_of, IsUnvalued, with_true, IsUnit}
use Rattle.cfj_logic.specs.Logs.{AreBelow, AreWellFormed, literals}
use Rattle.unit_propagation.specs.declared.trail.Step.{Step}
use Rattle.unit_propagation.specs.Standings.{IsOpen, AreOpen}
use Rattle.unit_propagation.specs.Trails.{values_after, Grows, still, by_unit_at}
use Rattle.unit_propagation.proofs.Members.{lt_or_ge, has_split, has_one, slice_get_left, slice_get_end}
use Rattle.refutation_check.proofs.Accepting.{below_as}
use Rattle.clause_learning.specs.Decided.{IsValued, IsDecision, IsImplied, AreSteps, IsTrail}
use Rattle.clause_learning.specs.Denials.{IsTaught}
use Rattle.clause_learning.proofs.Valuing.{values_push, step_free, values_step}
use Rattle.sat_core.specs.States.{IsLearned, IsOnTrail, AreFree, Decides}

-- ---- one more step

pub trail_push : (cs : List (List Literal)) (n vars : ℕ) (t : List Step) (s : Step) → IsTrail cs n vars t → IsDecision cs n (values_after vars t) s ⊎ IsImplied cs (values_after vars t) s → IsTrail cs n vars (t ++ s ∷ [])
trail_push cs n vars t s trail step = record { features = trail.features; below = trail.below; steps = λ k r e. at k r e (lt_or_ge k (length t)) }
  where
    at : (k : ℕ) (r : Step) → slice_get (t ++ s ∷ []) k ≡ Some r → (k < length t) ⊎ (length t ≤ k) → IsDecision cs n (values_after vars (take k (t ++ s ∷ []))) r ⊎ IsImplied cs (values_after vars (take k (t ++ s ∷ []))) r
    at k r e (inl lt) =
        subst (λ w. IsDecision cs n (values_after vars w) r ⊎ IsImplied cs (values_after vars w) r) (sym (take-append-le k t (s ∷ []) (omega (arith, lt)))) (trail.steps k r (sym (slice_get_left t (s ∷ []) k lt) ∙ e))
    at k r e (inr ge) =
        let within = slice_get_within (t ++ s ∷ []) k r e in
        let l : length (t ++ s ∷ []) ≡ length t + 1 = length-append t (s ∷ []) in
        let same : k ≡ length t = omega (arith, within, l, ge) in
        let both : Some s ≡ Some r = sym (slice_get_end t s) ∙ ap (slice_get (t ++ s ∷ [])) (sym same) ∙ e in
        let is : s ≡ r = cc both in
        let front : take k (t ++ s ∷ []) ≡ t = ap (λ j. take j (t ++ s ∷ [])) same ∙ take-append_seam t (s ∷ []) in
        subst (λ w. IsDecision cs n (values_after vars w) r ⊎ IsImplied cs (values_after vars w) r) (sym front)
        (subst (λ w. IsDecision cs n (values_after vars t) w ⊎ IsImplied cs (values_after vars t) w) is step)

trail_grown : (cs : List (List Literal)) (n vars : ℕ) (vs ws : Values) (t u : List Step) → vs ≡ values_after vars t → IsTrail cs n vars t → Grows cs vs t ws u → IsTrail cs n vars u × (ws ≡ values_after vars u)
trail_grown cs n vars vs ws t u is trail (still _ _) = (trail, is)
trail_grown cs n vars vs ws t u is trail (by_unit_at _ _ _ _ place c l there unit g) =
    trail_grown cs n vars (with_true vs l) ws (t ++ record { literal = l; cause = Some place } ∷ []) u (ap (λ w. with_true w l) is ∙ sym (values_push (replicate vars None) t (record { literal = l; cause = Some place })))
    (trail_push cs n vars t (record { literal = l; cause = Some place }) trail (inr (record { place = place; cause = refl; clause = c; there = there; unit = subst (λ w. IsUnit w c l) is unit }))) g

pub along_grown : (clauses : Clauses) (ps : List (List Literal)) (vs ws : Values) (t u : List Step) → IsOnTrail clauses ps vs t → Grows ps vs t ws u → IsOnTrail clauses ps ws u
along_grown clauses ps vs ws t u along g =
    let r = trail_grown ps clauses.features clauses.vars vs ws t u along.values_are along.is_trail g in
    record { is_trail = r.0; values_are = r.1 }

pub along_decided : (clauses : Clauses) (ps : List (List Literal)) (vs ws : Values) (t u : List Step) (f : ℕ) → IsOnTrail clauses ps vs t → AreOpen ps vs → f < clauses.features → value_of vs f ≡ None → ((x : ℕ) → x < f → IsValued vs x) →
    Decides vs t ws u f → IsOnTrail clauses ps ws u
along_decided clauses ps vs ws t u f along all lt free first decides = record {
  is_trail = subst (IsTrail ps clauses.features clauses.vars) (sym decides.trail) (trail_push ps clauses.features clauses.vars t step along.is_trail (inl decision));
  values_are = decides.values ∙ ap (λ w. with_true w step.literal) along.values_are ∙ sym (values_push (replicate clauses.vars None) t step) ∙ ap (values_after clauses.vars) (sym decides.trail);
}
  where
    step : Step
    step = record { literal = record { var = f; on = false }; cause = None }

    decision : IsDecision ps clauses.features (values_after clauses.vars t) step
    decision = subst (λ w. IsDecision ps clauses.features w step) along.values_are (record { cause = refl; off = refl; feature = lt; unvalued = free; first = first; all = all })

-- ---- going back

set_back : (vs : Values) (x : ℕ) (b : Bool) → value_of vs x ≡ None → slice_set (slice_set vs x (Some b)) x None ≡ vs
set_back [] x b e = refl
set_back (v ∷ vs) zero b e = ap (λ w. w ∷ vs) (sym e)
set_back (v ∷ vs) (suc x) b e = ap (λ w. v ∷ w) (set_back vs x b e)

pub back_one : (vars : ℕ) (t : List Step) (k : ℕ) (s : Step) → AreFree vars t → slice_get t k ≡ Some s → slice_set (values_after vars (take (k + 1) t)) s.literal.var None ≡ values_after vars (take k t)
back_one vars t k s free e =
    ap (λ w. slice_set w s.literal.var None) (values_step vars t k s e) ∙ set_back (values_after vars (take k t)) s.literal.var s.literal.on (free k s e)

pub trail_free : (cs : List (List Literal)) (n vars : ℕ) (t : List Step) → IsTrail cs n vars t → AreFree vars t
trail_free cs n vars t trail k s e = step_free cs n (values_after vars (take k t)) s (trail.steps k s e)

take_get : {A : Type 0} (xs : List A) (k j : ℕ) (x : A) → slice_get (take k xs) j ≡ Some x → (j < k) × (slice_get xs j ≡ Some x)
take_get xs zero j x e = absurd (let bad : ⊥ = cc e in bad)
take_get [] (suc k) j x e = absurd (let bad : ⊥ = cc e in bad)
take_get (y ∷ xs) (suc k) zero x e = (omega arith, e)
take_get (y ∷ xs) (suc k) (suc j) x e = let r = take_get xs k j x e in let lt = r.0 in (omega (arith, lt), r.1)

take_take : {A : Type 0} (xs : List A) (k m : ℕ) → k ≤ m → take k (take m xs) ≡ take k xs
take_take xs zero m le = refl
take_take [] (suc k) zero le = absurd (omega arith)
take_take [] (suc k) (suc m) le = refl
take_take (x ∷ xs) (suc k) zero le = absurd (omega arith)
take_take (x ∷ xs) (suc k) (suc m) le = ap (λ w. x ∷ w) (take_take xs k m (omega arith))

-- the last step is taken back
pub back_step : (vars : ℕ) (whole t new : List Step) (s : Step) (vs : Values) → AreFree vars whole → t ≡ take (length t) whole → t ≡ new ++ s ∷ [] → vs ≡ values_after vars t →
    (new ≡ take (length new) whole) × (slice_set vs s.literal.var None ≡ values_after vars new)
back_step vars whole t new s vs free is items values = (front, ap (λ w. slice_set w s.literal.var None) (values ∙ ap (values_after vars) (is ∙ ap (λ j. take j whole) l)) ∙ back_one vars whole (length new) s free at ∙ ap (values_after vars) (sym front))
  where
    l : length t ≡ length new + 1
    l = ap length items ∙ length-append new (s ∷ [])

    front : new ≡ take (length new) whole
    front = sym (take-append_seam new (s ∷ [])) ∙ ap (take (length new)) (sym items ∙ is) ∙ take_take whole (length new) (length t) (omega (arith, l))

    at : slice_get whole (length new) ≡ Some s
    at = (take_get whole (length t) (length new) s (ap (λ w. slice_get w (length new)) (sym is ∙ items) ∙ slice_get_end new s)).1

-- the front of a trail is one with the clause that was learned too
pub trail_back : (cs : List (List Literal)) (n vars : ℕ) (t : List Step) (k target : ℕ) (c : Sides) → IsTrail cs n vars t → IsTaught cs n vars t k c target → All (AreBelow vars) (cs ++ literals c ∷ []) → IsTrail (cs ++ literals c ∷ []) n vars (take target t)
trail_back cs n vars t k target c trail taught below = record { features = trail.features; below = below; steps = λ j s e. at j s (take_get t target j s e) }
  where
    more : List (List Literal)
    more = cs ++ literals c ∷ []

    opened : (j : ℕ) → AreOpen cs (values_after vars (take j t)) → IsOpen (values_after vars (take j t)) (literals c) → AreOpen more (values_after vars (take j t))
    opened j all one d h = go (has_split cs (literals c ∷ []) d h)
      where
        go : Has cs d ⊎ Has (literals c ∷ []) d → IsOpen (values_after vars (take j t)) d
        go (inl q) = all d q
        go (inr q) = subst (IsOpen (values_after vars (take j t))) (sym (has_one (literals c) d q)) one

    step : (j : ℕ) (s : Step) → j < target → slice_get t j ≡ Some s → IsDecision cs n (values_after vars (take j t)) s ⊎ IsImplied cs (values_after vars (take j t)) s →
        IsDecision more n (values_after vars (take j t)) s ⊎ IsImplied more (values_after vars (take j t)) s
    step j s lt e (inl d) = inl (record { cause = d.cause; off = d.off; feature = d.feature; unvalued = d.unvalued; first = d.first; all = opened j d.all (taught.open_before j s lt e d.cause) })
    step j s lt e (inr i) =
        inr (record { place = i.place; cause = i.cause; clause = i.clause; there = slice_get_left cs (literals c ∷ []) i.place (slice_get_within cs i.place i.clause i.there) ∙ i.there; unit = i.unit })

    at : (j : ℕ) (s : Step) → (j < target) × (slice_get t j ≡ Some s) → IsDecision more n (values_after vars (take j (take target t))) s ⊎ IsImplied more (values_after vars (take j (take target t))) s
    at j s (lt, e) = subst (λ w. IsDecision more n (values_after vars w) s ⊎ IsImplied more (values_after vars w) s) (sym (take_take t j target (omega (arith, lt)))) (step j s lt e (trail.steps j s e))

pub along_back : (clauses : Clauses) (log : List Sides) (ps more : List (List Literal)) (vs ws : Values) (t u : List Step) (k target : ℕ) (c : Sides) → AreWellFormed clauses → IsOnTrail clauses ps vs t → IsTaught ps clauses.features clauses.vars t k c target →
    IsLearned clauses log more → more ≡ ps ++ literals c ∷ [] → u ≡ take target t → ws ≡ values_after clauses.vars (take target t) → IsOnTrail clauses more ws u
along_back clauses log ps more vs ws t u k target c formed along taught known more_is u_is ws_is = record {
  is_trail = subst (IsTrail more clauses.features clauses.vars) (sym u_is) (subst (λ w. IsTrail w clauses.features clauses.vars (take target t)) (sym more_is)
      (trail_back ps clauses.features clauses.vars t k target c along.is_trail taught (subst (All (AreBelow clauses.vars)) more_is (below_as clauses log more formed known.accepted known.premises_are))));
  values_are = ws_is ∙ ap (values_after clauses.vars) (sym u_is);
}

-- ---- at first

pub along_first : (clauses : Clauses) (ps : List (List Literal)) (vs : Values) (t : List Step) → AreWellFormed clauses → ps ≡ clauses.list → vs ≡ replicate clauses.vars None → t ≡ [] → IsOnTrail clauses ps vs t
along_first clauses ps vs t formed is none empty = record {
  is_trail = subst (λ w. IsTrail w clauses.features clauses.vars t) (sym is) (subst (IsTrail clauses.list clauses.features clauses.vars) (sym empty)
      (record { features = formed.features; below = formed.literals; steps = λ k s e. absurd (let no : ⊥ = cc e in no) }));
  values_are = none ∙ ap (values_after clauses.vars) (sym empty);
}

-- ---- what a call wrote back

pub written_back : {A : Type 0} (n : ℕ) (new old : List A) → length new ≡ length old → n ≡ length old → take n (new ++ drop (length new) old) ≡ new
written_back n new old l e =
    ap (λ w. take n (new ++ w)) (drop_of_length-le old (omega (arith, l))) ∙ ap (take n) (append-nil new) ∙ ap (λ k. take k new) (e ∙ sym l) ∙ take-length new
