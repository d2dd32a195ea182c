-- Refutations and proofs of least.
use Rattle.std.proofs.Common.{◌≡◌, ℕ, zero, suc, ◌+◌, ◌<◌, ◌⊎◌, inl, inr, Bool, true, ◌==◌, List, [], ◌∷◌, ◌++◌, length, map, Option, Some, None, slice_get, refl, sym, ◌∙◌, ap, subst, arith, append-nil, Result, Ok, Err, is_some}
use Rattle.std.specs.Prelude.{IfSome, IfNone, IfOk, IsTrue}
use Rattle.std.specs.List.{list_any}
use Rattle.std.proofs.lemmas.Bool.{eqb-true}
use Rattle.std.proofs.lemmas.Option.{slice_get_within}
use Rattle.cfj_logic.specs.declared.clauses.Literal.{Literal}
use Rattle.cfj_logic.specs.declared.clauses.Clauses.{Clauses}
use Rattle.cfj_logic.specs.Selections.{Chosen, is_on, choices}
use Rattle.cfj_logic.specs.Sides.{Sides, empty_clause, is_empty}
use Rattle.cfj_words.specs.Lists.{Has}
use Rattle.cfj_logic.specs.UnitClauses.{Values, value_of, Leads}
use Rattle.cfj_logic.specs.Logs.{Assignment, AreWellFormed, ExtendsToModel, literals, premises, fixed, IsAccepted, IsRefutation, AreForced, Completes, AreSettledByFeatures, IsProofOfLeast}
use Rattle.unit_propagation.proofs.Members.{any_has, has_any, both_true}
use Rattle.unit_propagation.proofs.UnitSteps.{reaches_within}
use Rattle.refutation_check.proofs.Consequences.{Agrees, sound}
use Rattle.refutation_check.proofs.FirstValues.{fixed_at, choices_from_at, choices_from_length}

-- ---- the empty clause

empty_is : (c : Sides) → is_empty c ≡ true → c ≡ empty_clause
empty_is c e =
    let h = both_true (c.on == 0) (c.off == 0) e in
    let p : c.on ≡ 0 = eqb-true c.on 0 h.0 in
    let q : c.off ≡ 0 = eqb-true c.off 0 h.1 in
    λ i. record { on = p i; off = q i }

pub refuted : (clauses : Clauses) (log : List Sides) → list_any is_empty log ≡ true → IsAccepted clauses log → IsRefutation clauses log
refuted clauses log e all =
    let r = any_has is_empty log e in
    record { accepted = all; empty = subst (Has log) (empty_is r.0 r.2) r.1 }

pub refutation_holds_empty : (clauses : Clauses) (log : List Sides) → IsRefutation clauses log → list_any is_empty log ≡ true
refutation_holds_empty clauses log r = has_any is_empty log empty_clause r.empty refl

-- ---- selections and models

pub fixed_value : (n : ℕ) (p : List Bool) (x : ℕ) (b : Bool) → value_of (fixed n p) x ≡ Some b → slice_get p x ≡ Some b
fixed_value zero p x b e = absurd (let no : ⊥ = cc e in no)
fixed_value (suc n) [] zero b e = absurd (let no : ⊥ = cc e in no)
fixed_value (suc n) [] (suc x) b e = fixed_value n [] x b e
fixed_value (suc n) (c ∷ p) zero b e = e
fixed_value (suc n) (c ∷ p) (suc x) b e = fixed_value n p x b e

pub choice_at : (s : Chosen) (f : ℕ) → f < s.features → slice_get (choices s) f ≡ Some (is_on s f)
choice_at s f lt = let e : 0 + f ≡ f = omega arith in choices_from_at s s.features 0 f lt ∙ ap (λ k. Some (is_on s k)) e

pub choices_length : (s : Chosen) → length (choices s) ≡ s.features
choices_length s = choices_from_length s s.features 0

-- the choices that are fixed are those of an assignment that agrees with the selection
pub agrees_fixed : (v : Assignment) (s : Chosen) (n : ℕ) → ((f : ℕ) → f < s.features → v f ≡ is_on s f) → Agrees v (fixed n (choices s))
agrees_fixed v s n features x b e =
    let at = fixed_value n (choices s) x b e in
    let within = slice_get_within (choices s) x b at in
    let lt : x < s.features = subst (λ k. x < k) (choices_length s) within in
    let same : Some b ≡ Some (is_on s x) = sym at ∙ choice_at s x lt in
    features x lt ∙ (let d : b ≡ is_on s x = cc same in sym d)

pub extends_no_conflict : (clauses : Clauses) (s : Chosen) → s.features ≡ clauses.features → ExtendsToModel clauses s → Leads clauses.list (fixed clauses.vars (choices s)) → ⊥
extends_no_conflict clauses s same x leads =
    sound clauses.list x.values (fixed clauses.vars (choices s)) x.model (agrees_fixed x.values s clauses.vars (λ f lt. x.features f (omega (arith, lt, same)))) leads

pub settled_extends : (clauses : Clauses) (s : Chosen) → AreWellFormed clauses → AreSettledByFeatures clauses → s.features ≡ clauses.features → (Leads clauses.list (fixed clauses.vars (choices s)) → ⊥) → ExtendsToModel clauses s
settled_extends clauses s formed settled same clear = go (settled s same)
  where
    go : Leads clauses.list (fixed clauses.vars (choices s)) ⊎ Completes clauses (fixed clauses.vars (choices s)) → ExtendsToModel clauses s
    go (inl leads) = absurd (clear leads)
    go (inr k) = record { values = k.values; features = λ f lt. at f lt; model = k.model }
      where
        at : (f : ℕ) → f < clauses.features → k.values f ≡ is_on s f
        at f lt =
            let few = formed.features in
            let f_lt : f < s.features = omega (arith, lt, same) in
            let f_vars : f < clauses.vars = omega (arith, lt, few) in
            let first = fixed_at clauses.vars (choices s) f (is_on s f) (choice_at s f f_lt) f_vars in
            let last = reaches_within clauses.list (fixed clauses.vars (choices s)) k.end k.reached f (is_on s f) first in
            let e : Some (k.values f) ≡ Some (is_on s f) = sym (k.all f f_vars) ∙ last in
            cc e

-- ---- answers

pub same_answer : {E : Type 0} (r : Result Bool E) (X Y : Type 0) → (X → Y) → (Y → X) → IfOk r (λ b. (IsTrue b → X) × (X → IsTrue b)) → IfOk r (λ b. (IsTrue b → Y) × (Y → IsTrue b))
same_answer (Ok b) X Y f g h = (λ t. f (h.0 t), λ y. h.1 (g y))
same_answer (Err e) X Y f g h = h

pub proof_of_least : (clauses : Clauses) (log read : List Sides) (s : Chosen) (ps : List (List Literal)) (p : List Bool) → read ≡ log → ps ≡ premises clauses read → p ≡ choices s → IsAccepted clauses read → ExtendsToModel clauses s →
    AreForced clauses.vars ps p → IsProofOfLeast clauses log s
proof_of_least clauses log read s ps p log_is ps_is p_is all extends forced =
    let over : AreForced clauses.vars (premises clauses log) p = subst (λ w. AreForced clauses.vars w p) (ps_is ∙ ap (premises clauses) log_is) forced in
    record {
      accepted = subst (IsAccepted clauses) log_is all;
      extends = extends;
      forced = subst (AreForced clauses.vars (premises clauses log)) p_is over;
    }

pub proof_forced : (clauses : Clauses) (log read : List Sides) (s : Chosen) (ps : List (List Literal)) (p : List Bool) → read ≡ log → ps ≡ premises clauses read → p ≡ choices s → IsProofOfLeast clauses log s →
    AreForced clauses.vars ps p
proof_forced clauses log read s ps p log_is ps_is p_is proof =
    subst (AreForced clauses.vars ps) (sym p_is)
    (subst (λ w. AreForced clauses.vars w (choices s)) (sym (ps_is ∙ ap (premises clauses) log_is)) proof.forced)
