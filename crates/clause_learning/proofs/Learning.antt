-- What a conflict teaches.
use Rattle.std.proofs.Common.{◌≡◌, ℕ, zero, suc, ◌+◌, ◌<◌, ◌≤◌, ◌⊎◌, inl, inr, Bool, false, not, List, [], length, take, slice_get, Option, Some, None, refl, sym, ◌∙◌, ap, subst, arith}
use Rattle.std.specs.Prelude.{IfSome, IfNone, replicate}
use Rattle.std.proofs.lemmas.Option.{slice_get_within}
use Rattle.cfj_logic.specs.declared.clauses.Literal.{Literal}
use Rattle.cfj_logic.specs.Sides.{Sides}
use Rattle.cfj_words.specs.Lists.{Has}
use Rattle.cfj_logic.specs.UnitClauses.{Values, value_of, IsFalse, IsFalsified}
use Rattle.cfj_logic.specs.Logs.{AreBelow, literals, assumed}
use Rattle.unit_propagation.specs.declared.trail.Step.{Step}
use Rattle.unit_propagation.specs.Falsified.{IsFalsifiedAt}
use Rattle.unit_propagation.specs.Standings.{IsOpen}
use Rattle.unit_propagation.specs.Trails.{values_after}
use Rattle.unit_propagation.proofs.Members.{all_has}
use Rattle.refutation_check.proofs.FirstValues.{fixed_none, fixed_length, assumed_length}
use Rattle.clause_learning.specs.Decided.{IsValued, IsTrail, IsLastDecision}
use Rattle.clause_learning.specs.Denials.{IsMarked, AreUnmarked, IsLastMarked, with_all, Keeps, Denies, LeavesOne, LeavesFeatures, IsDenial, IsTaught, negated}
use Rattle.clause_learning.proofs.Assuming.{assumed_has}
use Rattle.clause_learning.proofs.Choosing.{twice}
use Rattle.clause_learning.proofs.Marking.{all_size, all_marked, all_source, none_marked}
use Rattle.clause_learning.proofs.Resolving.{denies_first}
use Rattle.clause_learning.proofs.Valuing.{values_length, step_free, some_step, free_front, valued_front, step_value}
use Rattle.clause_learning.proofs.Watching.{none_valued, valued_behind, false_front, denied_at, left_or_valued}

-- ---- the first marks

pub none_size : (n : ℕ) → length (replicate {A = Bool} n false) ≡ n
none_size zero = refl
none_size (suc n) = ap suc (none_size n)

pub first_size : (n : ℕ) (none marks : List Bool) (c : List Literal) → none ≡ replicate n false → marks ≡ with_all none c → length marks ≡ n
first_size n none marks c e is = ap length is ∙ all_size none c ∙ ap length e ∙ none_size n

pub first_denies : (cs : List (List Literal)) (vs : Values) (k : ℕ) (none marks : List Bool) (c : List Literal) → none ≡ replicate (length vs) false → marks ≡ with_all none c → AreBelow (length vs) c → slice_get cs k ≡ Some c → IsFalsifiedAt cs vs k → Denies cs vs marks
first_denies cs vs k none marks c e is below there f =
    denies_first cs vs marks c (first_size (length vs) none marks c e is) (k, there) falsified
    (λ m h. subst (λ w. IsMarked w m.var) (sym is) (all_marked none c m (let lt = all_has (λ (w : Literal). w.var < length vs) c m below h in omega (arith, lt, size)) h))
  where
    size : length none ≡ length vs
    size = ap length e ∙ none_size (length vs)

    falsified : IsFalsified vs c
    falsified = let both : Some f.clause ≡ Some c = sym f.there ∙ there in let same : f.clause ≡ c = cc both in subst (IsFalsified vs) same f.falsified

pub first_valued : (cs : List (List Literal)) (vs : Values) (k n : ℕ) (none marks : List Bool) (c : List Literal) → none ≡ replicate n false → marks ≡ with_all none c → slice_get cs k ≡ Some c → IsFalsifiedAt cs vs k → (x : ℕ) → IsMarked marks x → IsValued vs x
first_valued cs vs k n none marks c e is there f x h = go (all_source none c x (subst (λ w. IsMarked w x) is h))
  where
    falsified : IsFalsified vs c
    falsified = let both : Some f.clause ≡ Some c = sym f.there ∙ there in let same : f.clause ≡ c = cc both in subst (IsFalsified vs) same f.falsified

    go : IsMarked none x ⊎ ((m : Literal) × Has c m × (m.var ≡ x)) → IsValued vs x
    go (inl q) = absurd (none_marked n x (subst (λ w. IsMarked w x) e q))
    go (inr q) = subst (IsValued vs) q.2 (not q.0.on, falsified q.0 q.1)

-- ---- the clause

-- the place to go back to is that of the first decision behind the last marked step before the last decision
pub record IsTarget (t : List Step) (k target : ℕ) (last : Option ℕ) : Type 0 where
  pub behind : IfSome last (λ p. p < target)
  pub within : target ≤ k
  pub decision : (s : Step) → slice_get t target ≡ Some s → (s.cause ≡ None) ⊎ (target ≡ k)
  pub first : (j : ℕ) (s : Step) → j < target → slice_get t j ≡ Some s → s.cause ≡ None → (p : ℕ) × (last ≡ Some p) × (j ≤ p)

pub learned_is : (cs : List (List Literal)) (n vars : ℕ) (t : List Step) (k target : ℕ) (marks : List Bool) (c : Sides) (last : Option ℕ) → IsTrail cs n vars t → IsLastDecision t k → Denies cs (values_after vars t) marks →
    LeavesFeatures n vars t k marks → IsDenial n (values_after vars t) marks c → IfSome last (IsLastMarked marks t k) → IfNone last (AreUnmarked marks t 0 k) → IsTarget t k target last → IsTaught cs n vars t k c target
learned_is cs n vars t k target marks c last trail decision denies leaves denial some none back = record {
  over = denial.over;
  once = denial.once;
  follows = denies.leads (assumed vars (literals c)) (assumed_length vars (literals c) ∙ sym (values_length vars t)) keeps;
  falsified = λ m h. (denial.denied m h).1;
  literal = literal;
  has = has;
  free = one.free;
  others = λ m h. others m h (left m h);
  open_before = λ j s lt e cause. opened j (back.first j s lt e cause) some;
  unit = record {
    has = has;
    unvalued = free_front cs n vars t target k one.var trail back.within (omega (arith, within)) one.free;
    others = λ m h. unit_others m h (left m h);
  };
  decision = λ s e. decided s e (back.decision s e);
}
  where
    vs : Values
    vs = values_after vars t

    one : LeavesOne n vars t k marks
    one = leaves.one

    within : k < length t
    within = slice_get_within t k decision.step decision.there

    keeps : Keeps vs marks (assumed vars (literals c))
    keeps x b h e =
        let lt = leaves.features x h in
        let few = trail.features in
        let size : length (replicate {A = Option Bool} vars None) ≡ vars = ap length (fixed_none vars) ∙ fixed_length vars [] in
        assumed_has (literals c) (replicate vars None) (value_of vs) (record { var = x; on = not b }) (λ m g. (denial.denied m g).1) (denial.all x b lt h e) (omega (arith, lt, few, size)) ∙ ap Some (twice b)

    literal : Literal
    literal = record { var = one.var; on = not one.valued.0 }

    has : Has (literals c) literal
    has = denial.all one.var one.valued.0 one.feature one.marked one.valued.1

    left : (m : Literal) → Has (literals c) m → (m ≡ literal) ⊎ IsValued (values_after vars (take k t)) m.var
    left m h = left_or_valued n vars t k marks c literal m one denial refl (denial.denied literal has).1 h

    others : (m : Literal) → Has (literals c) m → (m ≡ literal) ⊎ IsValued (values_after vars (take k t)) m.var → (m ≡ literal) ⊎ IsFalse (values_after vars (take k t)) m
    others m h (inl q) = inl q
    others m h (inr q) = inr (false_front cs n vars t k m trail (omega (arith, within)) (denial.denied m h).1 q)

    -- what has a value before the last decision has it before the place to go back to
    kept : (o : Option ℕ) → IfSome o (IsLastMarked marks t k) → IfNone o (AreUnmarked marks t 0 k) → IfSome o (λ p. p < target) → (x : ℕ) → IsMarked marks x → IsValued (values_after vars (take k t)) x → IsValued (values_after vars (take target t)) x
    kept None _ b _ x h v = absurd (none_valued vars t marks k x (omega (arith, within)) b h v)
    kept (Some p) b _ lt x h v =
        let most = back.within in
        valued_front cs n vars t (p + 1) target x trail (omega (arith, lt)) (omega (arith, most, within)) (valued_behind cs n vars t marks k p x trail (omega (arith, within)) b h v)

    unit_others : (m : Literal) → Has (literals c) m → (m ≡ literal) ⊎ IsValued (values_after vars (take k t)) m.var → (m ≡ literal) ⊎ IsFalse (values_after vars (take target t)) m
    unit_others m h (inl q) = inl q
    unit_others m h (inr q) =
        let most = back.within in
        inr (false_front cs n vars t target m trail (omega (arith, most, within)) (denial.denied m h).1 (kept last some none back.behind m.var (denial.denied m h).0 q))

    decided : (s : Step) → slice_get t target ≡ Some s → (s.cause ≡ None) ⊎ (target ≡ k) → s.cause ≡ None
    decided s e (inl q) = q
    decided s e (inr q) =
        let both : Some decision.step ≡ Some s = sym decision.there ∙ ap (slice_get t) (sym q) ∙ e in
        let same : decision.step ≡ s = cc both in
        subst (λ (w : Step). w.cause ≡ None) same decision.decision

    -- two literals have no value before a decision that is kept
    two : (j p : ℕ) (r : Step) → j ≤ p → p < k → slice_get t p ≡ Some r → IsMarked marks r.literal.var → IsOpen (values_after vars (take j t)) (literals c)
    two j p r le lt e h = inr (
      literal,
      second,
      has,
      has_second,
      free_front cs n vars t j k one.var trail (omega (arith, le, lt)) (omega (arith, within)) one.free,
      free_front cs n vars t j p r.literal.var trail le (omega (arith, within, lt)) (step_free cs n (values_after vars (take p t)) r (trail.steps p r e)),
      apart,
    )
      where
        second : Literal
        second = negated r.literal

        has_second : Has (literals c) second
        has_second = denied_at cs n vars t k p r marks c trail leaves denial e h

        apart : literal ≡ second → ⊥
        apart same =
            let v = valued_front cs n vars t (p + 1) k r.literal.var trail (omega (arith, lt)) (omega (arith, within)) (r.literal.on, step_value cs n vars t p r trail e) in
            let no : None ≡ Some v.0 = sym one.free ∙ ap (value_of (values_after vars (take k t))) (ap (λ (w : Literal). w.var) same) ∙ v.1 in
            cc no

    opened : (j : ℕ) → (p : ℕ) × (last ≡ Some p) × (j ≤ p) → IfSome last (IsLastMarked marks t k) → IsOpen (values_after vars (take j t)) (literals c)
    opened j q b =
        let at : IsLastMarked marks t k q.0 = rw q.1 at b in
        let lt = at.within in
        let r = some_step t q.0 (omega (arith, lt, within)) in
        two j q.0 r.0 q.2 at.within r.1 (at.marked r.0 r.1)
