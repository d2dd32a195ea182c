-- Which literals of a learned clause to watch.
use Rattle.std.proofs.Common.{◌≡◌, ℕ, ◌+◌, ◌<◌, ◌≤◌, ◌⊎◌, inl, inr, Bool, not, List, length, take, slice_get, Option, Some, None, sym, ◌∙◌, ap, subst, arith}
use Rattle.std.specs.Prelude.{IfSome, IfNone}
use Rattle.std.proofs.lemmas.Option.{slice_get_within}
use Rattle.std.proofs.lemmas.List.{take_all}
use Rattle.std.proofs.Math.Seq.{take-length}
use Rattle.cfj_logic.specs.declared.clauses.Literal.{Literal}
use Rattle.cfj_logic.specs.Sides.{Sides}
use Rattle.cfj_words.specs.Lists.{Has}
use Rattle.cfj_logic.specs.UnitClauses.{Values, value_of, IsFalse}
use Rattle.cfj_logic.specs.Logs.{literals}
use Rattle.unit_propagation.specs.declared.trail.Step.{Step}
use Rattle.unit_propagation.specs.Trails.{values_after}
use Rattle.unit_propagation.proofs.Members.{lt_or_ge}
use Rattle.unit_propagation.proofs.UnitSteps.{one_value, no_value}
use Rattle.clause_learning.specs.Decided.{IsValued, IsTrail}
use Rattle.clause_learning.specs.Denials.{IsMarked, AreUnmarked, IsLastMarked, LeavesOne, LeavesFeatures, IsDenial, IsLastFalse, AreToWatch, negated}
use Rattle.clause_learning.proofs.Choosing.{twice}
use Rattle.clause_learning.proofs.Resolving.{within_whole}
use Rattle.clause_learning.proofs.Valuing.{IsFrom, none_first, some_step, step_free, free_front, valued_front, step_value, valued_between}

-- ---- marked steps

-- the step that gave a variable its value
step_of : (vars : ℕ) (t : List Step) (k x : ℕ) → k ≤ length t → IsValued (values_after vars (take k t)) x → (j : ℕ) × (s : Step) × (j < k) × (slice_get t j ≡ Some s) × (x ≡ s.literal.var)
step_of vars t k x most v = go (valued_between vars t 0 k x (omega arith) most v)
  where
    go : IsFrom vars t 0 k x → (j : ℕ) × (s : Step) × (j < k) × (slice_get t j ≡ Some s) × (x ≡ s.literal.var)
    go (inl q) = absurd (none_first vars t x q)
    go (inr q) = (q.0, q.1, q.3, q.4, q.5)

-- no marked variable has a value where no step is marked
pub none_valued : (vars : ℕ) (t : List Step) (marks : List Bool) (to x : ℕ) → to ≤ length t → AreUnmarked marks t 0 to → IsMarked marks x → IsValued (values_after vars (take to t)) x → ⊥
none_valued vars t marks to x most none h v =
    let at = step_of vars t to x most v in
    none at.0 at.1 (omega arith) at.2 at.3 (subst (IsMarked marks) at.4 h)

-- all marked variables that have values have them once the last marked step is made
pub valued_behind : (cs : List (List Literal)) (n vars : ℕ) (t : List Step) (marks : List Bool) (to p x : ℕ) → IsTrail cs n vars t → to ≤ length t → IsLastMarked marks t to p → IsMarked marks x → IsValued (values_after vars (take to t)) x →
    IsValued (values_after vars (take (p + 1) t)) x
valued_behind cs n vars t marks to p x trail most last h v = go (lt_or_ge p at.0)
  where
    at : (j : ℕ) × (s : Step) × (j < to) × (slice_get t j ≡ Some s) × (x ≡ s.literal.var)
    at = step_of vars t to x most v

    go : (p < at.0) ⊎ (at.0 ≤ p) → IsValued (values_after vars (take (p + 1) t)) x
    go (inl lt) = absurd (last.later at.0 at.1 (omega (arith, lt)) at.2 at.3 (subst (IsMarked marks) at.4 h))
    go (inr le) =
        let lt = last.within in
        subst (IsValued (values_after vars (take (p + 1) t))) (sym at.4)
        (valued_front cs n vars t (at.0 + 1) (p + 1) at.1.literal.var trail (omega (arith, le)) (omega (arith, lt, most)) (at.1.literal.on, step_value cs n vars t at.0 at.1 trail at.3))

-- the last marked step of the whole trail is that of the variable which was left behind the last decision
pub left_last : (cs : List (List Literal)) (n vars : ℕ) (t : List Step) (k p : ℕ) (s : Step) (marks : List Bool) → IsTrail cs n vars t → k ≤ length t → (one : LeavesOne n vars t k marks) → IsLastMarked marks t (length t) p → slice_get t p ≡ Some s →
    s.literal.var ≡ one.var
left_last cs n vars t k p s marks trail most one last e = go (one.others s.literal.var (last.marked s e))
  where
    value : IsValued (values_after vars (take (p + 1) t)) one.var
    value = valued_behind cs n vars t marks (length t) p one.var trail (omega arith) last one.marked (subst (λ w. IsValued (values_after vars w) one.var) (sym (take-length t)) one.valued)

    from : (p < k) ⊎ (k ≤ p) → k ≤ p
    from (inr le) = le
    from (inl lt) =
        let v = valued_front cs n vars t (p + 1) k one.var trail (omega (arith, lt)) most value in
        absurd (no_value (values_after vars (take k t)) one.var v.0 one.free v.1)

    go : (s.literal.var ≡ one.var) ⊎ IsValued (values_after vars (take k t)) s.literal.var → s.literal.var ≡ one.var
    go (inl q) = q
    go (inr q) =
        let within = last.within in
        let v = valued_front cs n vars t k p s.literal.var trail (from (lt_or_ge p k)) (omega (arith, within)) q in
        absurd (no_value (values_after vars (take p t)) s.literal.var v.0 (step_free cs n (values_after vars (take p t)) s (trail.steps p s e)) v.1)

-- ---- literals of the clause

-- two false literals of one variable are the same
pub same_false : (vs : Values) (l m : Literal) → l.var ≡ m.var → IsFalse vs l → IsFalse vs m → l ≡ m
same_false vs l m var p q =
    let value : not l.on ≡ not m.on = one_value vs m.var (not l.on) (not m.on) (ap (value_of vs) (sym var) ∙ p) q in
    let on : l.on ≡ m.on = sym (twice l.on) ∙ ap not value ∙ twice m.on in
    (λ i. record { var = var i; on = on i })

-- what is false at the end is false as soon as it has a value
pub false_front : (cs : List (List Literal)) (n vars : ℕ) (t : List Step) (j : ℕ) (m : Literal) → IsTrail cs n vars t → j ≤ length t → IsFalse (values_after vars t) m → IsValued (values_after vars (take j t)) m.var → IsFalse (values_after vars (take j t)) m
false_front cs n vars t j m trail most f v =
    v.1 ∙ ap Some (one_value (values_after vars t) m.var v.0 (not m.on) (within_whole cs n vars t j trail most m.var v.0 v.1) f)

-- a marked step's literal is denied
pub denied_at : (cs : List (List Literal)) (n vars : ℕ) (t : List Step) (k p : ℕ) (s : Step) (marks : List Bool) (c : Sides) → IsTrail cs n vars t → LeavesFeatures n vars t k marks → IsDenial n (values_after vars t) marks c → slice_get t p ≡ Some s → IsMarked marks s.literal.var →
    Has (literals c) (negated s.literal)
denied_at cs n vars t k p s marks c trail leaves denial e h =
    let within = slice_get_within t p s e in
    denial.all s.literal.var s.literal.on (leaves.features s.literal.var h) h (within_whole cs n vars t (p + 1) trail (omega (arith, within)) s.literal.var s.literal.on (step_value cs n vars t p s trail e))

-- a literal of the clause is that of the variable which was left, or had a value before the last decision
pub left_or_valued : (n vars : ℕ) (t : List Step) (k : ℕ) (marks : List Bool) (c : Sides) (l m : Literal) → (one : LeavesOne n vars t k marks) → IsDenial n (values_after vars t) marks c → l.var ≡ one.var → IsFalse (values_after vars t) l → Has (literals c) m →
    (m ≡ l) ⊎ IsValued (values_after vars (take k t)) m.var
left_or_valued n vars t k marks c l m one denial var f h = go (one.others m.var (denial.denied m h).0)
  where
    go : (m.var ≡ one.var) ⊎ IsValued (values_after vars (take k t)) m.var → (m ≡ l) ⊎ IsValued (values_after vars (take k t)) m.var
    go (inl q) = inl (same_false (values_after vars t) m l (q ∙ sym var) (denial.denied m h).1 f)
    go (inr q) = inr q

-- ---- the two literals

-- a literal is what the step at a place made false
abbrev pub IsDenied : List Step → Option ℕ → Option Literal → Type 0
IsDenied t place l = IfSome place (λ p. (s : Step) → slice_get t p ≡ Some s → l ≡ Some (negated s.literal)) × IfNone place (l ≡ None)

-- the last marked step before the last decision made false what became false last
last_is : (cs : List (List Literal)) (n vars : ℕ) (t : List Step) (k p : ℕ) (s : Step) (marks : List Bool) (c : Sides) (l : Literal) → IsTrail cs n vars t → k ≤ length t → (leaves : LeavesFeatures n vars t k marks) → IsDenial n (values_after vars t) marks c →
    l.var ≡ leaves.one.var → IsFalse (values_after vars t) l → IsLastMarked marks t k p → slice_get t p ≡ Some s → IsLastFalse vars t k c l (negated s.literal)
last_is cs n vars t k p s marks c l trail most leaves denial var f last e = record {
  has = has;
  other = λ same. let free = ap (value_of (values_after vars (take k t))) (ap (λ (w : Literal). w.var) same ∙ var) ∙ leaves.one.free in no_value (values_after vars (take k t)) s.literal.var value.0 free value.1;
  falsified = false_front cs n vars t k (negated s.literal) trail most (denial.denied (negated s.literal) has).1 value;
  last = λ j g d h. later j g d h (left_or_valued n vars t k marks c l d leaves.one denial var f h);
}
  where
    lt : p < k
    lt = last.within

    has : Has (literals c) (negated s.literal)
    has = denied_at cs n vars t k p s marks c trail leaves denial e (last.marked s e)

    value : IsValued (values_after vars (take k t)) s.literal.var
    value = valued_front cs n vars t (p + 1) k s.literal.var trail (omega (arith, lt)) most (s.literal.on, step_value cs n vars t p s trail e)

    -- it is false behind its step alone
    behind : (j : ℕ) → IsFalse (values_after vars (take j t)) (negated s.literal) → (p < j) ⊎ (j ≤ p) → p < j
    behind j g (inl q) = q
    behind j g (inr q) =
        let free = free_front cs n vars t j p s.literal.var trail q (omega (arith, lt, most)) (step_free cs n (values_after vars (take p t)) s (trail.steps p s e)) in
        absurd (no_value (values_after vars (take j t)) s.literal.var (not (not s.literal.on)) free g)

    later : (j : ℕ) → IsFalse (values_after vars (take j t)) (negated s.literal) → (d : Literal) → Has (literals c) d → (d ≡ l) ⊎ IsValued (values_after vars (take k t)) d.var → (d ≡ l) ⊎ IsFalse (values_after vars (take j t)) d
    later j g d h (inl q) = inl q
    later j g d h (inr q) = inr (go (lt_or_ge (length t) j))
      where
        after : p < j
        after = behind j g (lt_or_ge p j)

        go : (length t < j) ⊎ (j ≤ length t) → IsFalse (values_after vars (take j t)) d
        go (inl long) = subst (λ w. IsFalse (values_after vars w) d) (sym (take_all j t (omega (arith, long)))) (denial.denied d h).1
        go (inr short) =
            false_front cs n vars t j d trail short (denial.denied d h).1
            (valued_front cs n vars t (p + 1) j d.var trail (omega (arith, after)) short (valued_behind cs n vars t marks k p d.var trail most last (denial.denied d h).0 q))

pub watched_is : (cs : List (List Literal)) (n vars : ℕ) (t : List Step) (k : ℕ) (marks : List Bool) (c : Sides) (left last : Option ℕ) (first second : Option Literal) → IsTrail cs n vars t → k ≤ length t → LeavesFeatures n vars t k marks → IsDenial n (values_after vars t) marks c →
    IfSome left (IsLastMarked marks t (length t)) → IfNone left (AreUnmarked marks t 0 (length t)) → IfSome last (IsLastMarked marks t k) → IfNone last (AreUnmarked marks t 0 k) → IsDenied t left first → IsDenied t last second → AreToWatch vars t k c first second
watched_is cs n vars t k marks c None last first second trail most leaves denial some none some_last none_last is_left is_last =
    let one = leaves.one in
    absurd (none_valued vars t marks (length t) one.var (omega arith) none one.marked (subst (λ w. IsValued (values_after vars w) one.var) (sym (take-length t)) one.valued))
watched_is cs n vars t k marks c (Some p) last first second trail most leaves denial left _ some_last none_last is_left is_last = record {
  literal = literal;
  is_first = is_left.0 step.0 step.1;
  has = has;
  free = ap (value_of (values_after vars (take k t))) var ∙ leaves.one.free;
  some = some last some_last is_last;
  none = none last some_last none_last is_last;
}
  where
    step : (s : Step) × (slice_get t p ≡ Some s)
    step = some_step t p left.within

    literal : Literal
    literal = negated step.0.literal

    var : literal.var ≡ leaves.one.var
    var = left_last cs n vars t k p step.0 marks trail most leaves.one left step.1

    has : Has (literals c) literal
    has = denied_at cs n vars t k p step.0 marks c trail leaves denial step.1 (left.marked step.0 step.1)

    some : (o : Option ℕ) → IfSome o (IsLastMarked marks t k) → IsDenied t o second → IfSome second (λ m. IsLastFalse vars t k c literal m)
    some None b d = subst (λ w. IfSome w (λ m. IsLastFalse vars t k c literal m)) (sym d.1) tt
    some (Some q) b d =
        let within = b.within in
        let s = some_step t q (omega (arith, within, most)) in
        subst (λ w. IfSome w (λ m. IsLastFalse vars t k c literal m)) (sym (d.0 s.0 s.1))
        (last_is cs n vars t k q s.0 marks c literal trail most leaves denial var (denial.denied literal has).1 b s.1)

    none : (o : Option ℕ) → IfSome o (IsLastMarked marks t k) → IfNone o (AreUnmarked marks t 0 k) → IsDenied t o second → IfNone second ((m : Literal) → Has (literals c) m → m ≡ literal)
    none (Some q) b _ d =
        let within = b.within in
        let s = some_step t q (omega (arith, within, most)) in
        subst (λ w. IfNone w ((m : Literal) → Has (literals c) m → m ≡ literal)) (sym (d.0 s.0 s.1)) tt
    none None _ b d = subst (λ w. IfNone w ((m : Literal) → Has (literals c) m → m ≡ literal)) (sym d.1) (λ m h. alone m h (left_or_valued n vars t k marks c literal m leaves.one denial var (denial.denied literal has).1 h))
      where
        alone : (m : Literal) → Has (literals c) m → (m ≡ literal) ⊎ IsValued (values_after vars (take k t)) m.var → m ≡ literal
        alone m h (inl q) = q
        alone m h (inr q) = absurd (none_valued vars t marks k m.var most b (denial.denied m h).0 q)
