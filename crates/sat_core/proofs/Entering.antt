-- A clause that a conflict taught may be logged.
use Rattle.std.proofs.Common.{◌≡◌, ℕ, ◌<◌, ◌≤◌, ◌⊎◌, inl, inr, Bool, true, false, not, ◌==◌, List, [], ◌∷◌, ◌++◌, length, map, take, slice_get, Some, None, refl, sym, ◌∙◌, ap, subst, arith}
use Rattle.std.proofs.lemmas.Bool.{eqb-true}
use Rattle.std.proofs.lemmas.Option.{slice_get_within}
use Rattle.cfj_logic.specs.declared.clauses.Literal.{Literal}
use Rattle.cfj_logic.specs.declared.clauses.Clauses.{Clauses}
use Rattle.cfj_logic.specs.Selections.{has_bit, is_subset}
use Rattle.cfj_logic.specs.Sides.{Sides, empty_clause, is_empty, is_within}
use Rattle.cfj_words.specs.Lists.{Has}
use Rattle.cfj_logic.specs.UnitClauses.{Values, value_of, IsFalse, IsFalsified, Leads}
use Rattle.cfj_logic.specs.Logs.{literals, premises, assumed, IsEntry}
use Rattle.cfj_logic.proofs.FeatureBits.{subset_has}
use Rattle.unit_propagation.specs.declared.trail.Step.{Step}
use Rattle.unit_propagation.specs.Standings.{IsOpen, AreOpen}
use Rattle.unit_propagation.specs.Trails.{values_after}
use Rattle.unit_propagation.proofs.Members.{has_right, has_map, has_none, both_true}
use Rattle.unit_propagation.proofs.UnitSteps.{Within, one_value, no_value, not_itself}
use Rattle.refutation_check.proofs.ClauseLiterals.{side, literals_has, literals_in}
use Rattle.clause_learning.specs.Decided.{IsTrail, IsLastDecision}
use Rattle.clause_learning.specs.Denials.{IsTaught}
use Rattle.clause_learning.proofs.Resolving.{decided_at, within_whole}

-- a clause within another has its literals
pub within_has : (d c : Sides) (m : Literal) → is_within d c ≡ true → Has (literals d) m → Has (literals c) m
within_has d c m within h = go (both_true (is_subset d.on c.on) (is_subset d.off c.off) within) (literals_has d m h)
  where
    bit : (on : Bool) → (is_subset d.on c.on ≡ true) × (is_subset d.off c.off ≡ true) → has_bit (side d on) m.var ≡ true → has_bit (side c on) m.var ≡ true
    bit true s b = subset_has d.on c.on m.var s.0 b
    bit false s b = subset_has d.off c.off m.var s.1 b

    go : (is_subset d.on c.on ≡ true) × (is_subset d.off c.off ≡ true) → (m.var < 128) × (has_bit (side d m.on) m.var ≡ true) → Has (literals c) m
    go s l = literals_in c m.var m.on l.0 (bit m.on s l.1)

-- of a clause that is open two literals have no value, or one is true: neither is among literals that are false but for one
pub not_contained : (vs ws : Values) (c d : List Literal) (u : Literal) → Within vs ws → IsOpen vs d → ((m : Literal) → Has d m → Has c m) → IsFalsified ws c → ((m : Literal) → Has c m → (m ≡ u) ⊎ IsFalse vs m) → ⊥
not_contained vs ws c d u more (inl t) within f others =
    not_itself t.0.on (one_value ws t.0.var t.0.on (not t.0.on) (more t.0.var t.0.on t.2) (f t.0 (within t.0 t.1)))
not_contained vs ws c d u more (inr t) within f others = go (others t.0 (within t.0 t.2)) (others t.1 (within t.1 t.3))
  where
    go : (t.0 ≡ u) ⊎ IsFalse vs t.0 → (t.1 ≡ u) ⊎ IsFalse vs t.1 → ⊥
    go (inl p) (inl q) = t.6 (p ∙ sym q)
    go (inr p) _ = no_value vs t.0.var (not t.0.on) t.4 p
    go (inl p) (inr q) = no_value vs t.1.var (not t.1.on) t.5 q

pub taught_new : (clauses : Clauses) (log : List Sides) (cs : List (List Literal)) (n vars : ℕ) (t : List Step) (k target : ℕ) (c d : Sides) → cs ≡ premises clauses log → IsTrail cs n vars t → IsLastDecision t k → IsTaught cs n vars t k c target →
    Has log d → is_within d c ≡ true → ⊥
taught_new clauses log cs n vars t k target c d are trail last taught h within =
    not_contained (values_after vars (take k t)) (values_after vars t) (literals c) (literals d) taught.literal (within_whole cs n vars t k trail (let lt = slice_get_within t k last.step last.there in omega (arith, lt)))
    ((decided_at cs n vars t k last.step trail last.there last.decision).all (literals d) has) (λ m g. within_has d c m within g) taught.falsified taught.others
  where
    has : Has cs (literals d)
    has = subst (λ w. Has w (literals d)) (sym are) (has_right clauses.list (map literals log) (literals d) (has_map literals log d h))

pub taught_entry : (clauses : Clauses) (log : List Sides) (cs : List (List Literal)) (t : List Step) (k target : ℕ) (c : Sides) → cs ≡ premises clauses log → IsTrail cs clauses.features clauses.vars t → IsLastDecision t k →
    IsTaught cs clauses.features clauses.vars t k c target → IsEntry clauses log c
taught_entry clauses log cs t k target c are trail last taught = record {
  over = taught.over;
  once = taught.once;
  follows = inl (subst (λ w. Leads w (assumed clauses.vars (literals c))) are taught.follows);
  new = λ d h. new d h (is_within d c) refl;
}
  where
    new : (d : Sides) → Has log d → (b : Bool) → is_within d c ≡ b → is_within d c ≡ false
    new d h false e = e
    new d h true e = absurd (taught_new clauses log cs clauses.features clauses.vars t k target c d are trail last taught h e)

empty_literals : literals empty_clause ≡ []
unfolding literals
empty_literals = refl

pub taught_some : (cs : List (List Literal)) (n vars : ℕ) (t : List Step) (k target : ℕ) (c : Sides) → IsTaught cs n vars t k c target → is_empty c ≡ false
taught_some cs n vars t k target c taught = go (is_empty c) refl
  where
    go : (b : Bool) → is_empty c ≡ b → is_empty c ≡ false
    go false e = e
    go true e =
        let h = both_true (c.on == 0) (c.off == 0) e in
        let p : c.on ≡ 0 = eqb-true c.on 0 h.0 in
        let q : c.off ≡ 0 = eqb-true c.off 0 h.1 in
        let is : c ≡ empty_clause = λ i. record { on = p i; off = q i } in
        absurd (has_none taught.literal (subst (λ w. Has w taught.literal) (ap literals is ∙ empty_literals) taught.has))

-- the same of lists that are equal
pub taught_as : (cs ds : List (List Literal)) (n v w : ℕ) (t u : List Step) (k target : ℕ) (c : Sides) → cs ≡ ds → v ≡ w → t ≡ u → IsTaught cs n v t k c target → IsTaught ds n w u k c target
taught_as cs ds n v w t u k target c p q r taught = subst (λ a. IsTaught a n w u k c target) p (subst (λ a. IsTaught cs n a u k c target) q (subst (λ a. IsTaught cs n v a k c target) r taught))

pub trail_as : (cs ds : List (List Literal)) (n v w : ℕ) (t u : List Step) → cs ≡ ds → v ≡ w → t ≡ u → IsTrail ds n w u → IsTrail cs n v t
trail_as cs ds n v w t u p q r trail = subst (λ a. IsTrail a n v t) (sym p) (subst (λ a. IsTrail ds n a t) (sym q) (subst (λ a. IsTrail ds n w a) (sym r) trail))
