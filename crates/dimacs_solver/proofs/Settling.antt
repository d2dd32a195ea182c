-- Where all variables are features, they settle the clauses.
use Rattle.std.proofs.lemmas.List.{take_more}
use Rattle.std.proofs.lemmas.Option.{slice_get_within, get_or_from_slice_get}
use Rattle.std.proofs.Common.{◌≡◌, ℕ, zero, suc, ◌+◌, ◌<◌, ◌⊎◌, inl, inr, List, [], ◌∷◌, ◌++◌, take, slice_get, Some, refl, sym, ◌∙◌, ap, subst, arith}
use Rattle.std.specs.Prelude.{All}
use Rattle.cfj_logic.specs.declared.clauses.Literal.{Literal}
use Rattle.cfj_logic.specs.declared.clauses.Clauses.{Clauses}
use Rattle.cfj_logic.specs.Selections.{is_on, choices}
use Rattle.cfj_words.specs.Lists.{Has}
use Rattle.cfj_logic.specs.UnitClauses.{value_of, here, Leads}
use Rattle.cfj_logic.specs.Logs.{Assignment, AreBelow, IsTrueIn, IsModel, fixed, Completes, AreSettledByFeatures}
use Rattle.unit_propagation.proofs.Members.{has_none, has_one, has_split, all_has, all_from}
use Rattle.unit_propagation.proofs.UnitSteps.{leads_here}
use Rattle.refutation_check.proofs.Consequences.{IsFalseIn, true_or_false}
use Rattle.refutation_check.proofs.FirstValues.{fixed_at}
use Rattle.refutation_check.proofs.Least.{choice_at}

-- some clause has no true literal, or all have one
some_false : (v : Assignment) (cs : List (List Literal)) → ((c : List Literal) × Has cs c × IsFalseIn v c) ⊎ IsModel cs v
some_false v [] = inr (λ c h. absurd (has_none c h))
some_false v (d ∷ cs) = go (true_or_false v d) (some_false v cs)
  where
    each : IsTrueIn v d → IsModel cs v → (c : List Literal) → Has (d ∷ cs) c → IsTrueIn v c
    each t m c (zero, e) = let same : d ≡ c = cc e in subst (IsTrueIn v) same t
    each t m c (suc k, e) = m c (k, e)

    go : IsTrueIn v d ⊎ IsFalseIn v d → ((c : List Literal) × Has cs c × IsFalseIn v c) ⊎ IsModel cs v → ((c : List Literal) × Has (d ∷ cs) c × IsFalseIn v c) ⊎ IsModel (d ∷ cs) v
    go (inr f) _ = inl (d, (0, refl), f)
    go (inl t) (inl r) = inl (r.0, (suc r.1.0, r.1.1), r.2)
    go (inl t) (inr m) = inr (λ c h. each t m c h)

pub settled : (clauses : Clauses) → clauses.features ≡ clauses.vars → All (AreBelow clauses.vars) clauses.list → AreSettledByFeatures clauses
settled clauses all below s same = go (some_false (is_on s) clauses.list)
  where
    value : (x : ℕ) → x < clauses.vars → value_of (fixed clauses.vars (choices s)) x ≡ Some (is_on s x)
    value x lt = fixed_at clauses.vars (choices s) x (is_on s x) (choice_at s x (omega (arith, lt, same, all))) lt

    go : ((c : List Literal) × Has clauses.list c × IsFalseIn (is_on s) c) ⊎ IsModel clauses.list (is_on s) → Leads clauses.list (fixed clauses.vars (choices s)) ⊎ Completes clauses (fixed clauses.vars (choices s))
    go (inl r) =
        inl (leads_here clauses.list (fixed clauses.vars (choices s)) r.0 r.1 (λ m h. value m.var (all_has (λ (w : Literal). w.var < clauses.vars) r.0 m (all_has (AreBelow clauses.vars) clauses.list r.0 below r.1) h) ∙ ap Some (r.2 m h)))
    go (inr m) = inr (record { values = is_on s; end = fixed clauses.vars (choices s); reached = here (fixed clauses.vars (choices s)); all = value; model = m })

-- ---- one more item

pub all_next : {A : Type 0} (P : A → Type 0) (xs : List A) (i : ℕ) (x : A) → slice_get xs i ≡ Some x → P x → All P (take i xs) → All P (take (i + 1) xs)
all_next {A = A} P xs i x e px all =
    subst (All P) (sym (take_more xs i x (slice_get_within xs i x e) ∙ ap (λ w. take i xs ++ w ∷ []) (get_or_from_slice_get xs i x x e)))
    (all_from P (take i xs ++ x ∷ []) (λ y h. go y (has_split (take i xs) (x ∷ []) y h)))
  where
    go : (y : A) → Has (take i xs) y ⊎ Has (x ∷ []) y → P y
    go y (inl h) = all_has P (take i xs) y all h
    go y (inr h) = subst P (sym (has_one x y h)) px
