-- The clauses that deny the first selections spend a budget that is smaller than the number of selections.
use Rattle.std.proofs.Common.{◌≡◌, ℕ, zero, suc, ◌-◌, ◌^◌, ◌<◌, ◌≤◌, Bool, true, false, not, ◌==◌, ◌⊎◌, inl, inr, List, [], ◌∷◌, ◌++◌, length, bit_and, refl, sym, ◌∙◌, ap, subst, arith}
use Rattle.std.specs.List.{list_all}
use Rattle.std.proofs.lemmas.Bool.{and_parts, and_from, both_ways, cases_Bool, cases_lt, eqb-true, eq-eqb, false_from_ne_true, lt-ltb, not-true, not-false, not_from_false, or_parts, true_from_ne_false}
use Rattle.std.proofs.lemmas.List.{length_push}
use Rattle.std.proofs.lemmas.List.Folds.{list_all-append}
use Rattle.std.proofs.lemmas.Nat.{xor_lt, pow_pos}
use Rattle.cfj_model.specs.ProductLines.{ProductLine}
use Rattle.cfj_logic.specs.Selections.{Chosen, has_bit, is_subset}
use Rattle.cfj_logic.specs.Sides.{Sides, is_empty, is_over, is_within}
use Rattle.cfj_logic.proofs.FeatureBits.{subset_has, has_bit_none}
use Rattle.unit_facts.specs.Diagnostics.{IsSpent, IsValidFor, are_fresh, is_simple, satisfies}
use Rattle.plain_judge.specs.Denials.{denial, denials, lacking}
use Rattle.plain_judge.specs.Order.{mirrored, nth}
use Rattle.plain_judge.proofs.Bits.{lacking_apart, lacking_has, not_in_both, same_from_features}
use Rattle.plain_judge.proofs.Mirrors.{mirrored_below, mirrored_injective}

-- ---- one clause

lacking_below : (n a : ℕ) → a < 2 ^ n → lacking (record { features = n; on = a }) < 2 ^ n
lacking_below n a small = xor_lt n (2 ^ n - 1) a (let pos = pow_pos n in omega (arith, pos)) small

over : (n a : ℕ) → a < 2 ^ n → is_over n (denial (record { features = n; on = a })) ≡ true
over n a small = and_from _ _ (lt-ltb _ _ (lacking_below n a small)) (lt-ltb _ _ small)

simple : (n a : ℕ) → a < 2 ^ n → is_simple (denial (record { features = n; on = a })) ≡ true
simple n a small = eq-eqb _ 0 (lacking_apart (record { features = n; on = a }) small)

-- where there is a feature, it is lacked or had
telling : (n a : ℕ) → 0 < n → a < 2 ^ n → not (is_empty (denial (record { features = n; on = a }))) ≡ true
telling n a some small = not_from_false _ (false_from_ne_true _ refuted)
  where
    refuted : is_empty (denial (record { features = n; on = a })) ≡ true → ⊥
    refuted empty =
        let sides = and_parts _ _ empty in
        let on = eqb-true _ 0 sides.0 in
        let off = eqb-true a 0 sides.1 in
        let lacked : has_bit (lacking (record { features = n; on = a })) 0 ≡ true = lacking_has (record { features = n; on = a }) 0 some ∙ ap (λ (k : ℕ). not (has_bit k 0)) off ∙ ap not (has_bit_none 0) in
        both_ways _ (ap (λ (k : ℕ). has_bit k 0) on ∙ has_bit_none 0) lacked

-- a clause that denies a selection is within that of another only if they are the same
within_itself_alone : (n a b : ℕ) → a < 2 ^ n → b < 2 ^ n → is_within (denial (record { features = n; on = a })) (denial (record { features = n; on = b })) ≡ true → a ≡ b
within_itself_alone n a b small_a small_b within = same_from_features n a b small_a small_b (λ f lt. go f lt (cases_Bool (has_bit a f)))
  where
    sides : (is_subset (lacking (record { features = n; on = a })) (lacking (record { features = n; on = b })) ≡ true) × (is_subset a b ≡ true)
    sides = and_parts _ _ within

    go : (f : ℕ) → f < n → (has_bit a f ≡ true) ⊎ (has_bit a f ≡ false) → has_bit a f ≡ has_bit b f
    go f lt (inl has) = has ∙ sym (subset_has a b f sides.1 has)
    go f lt (inr lacks) =
        let one = lacking_has (record { features = n; on = a }) f lt ∙ ap not lacks in
        let two = subset_has _ _ f sides.0 one in
        lacks ∙ sym (not-true _ (sym (lacking_has (record { features = n; on = b }) f lt) ∙ two))

-- a selection makes the clauses true that deny others
denied_alone : (n a b : ℕ) → a < 2 ^ n → b < 2 ^ n → satisfies (record { features = n; on = b }) (denial (record { features = n; on = a })) ≡ false → a ≡ b
denied_alone n a b small_a small_b denied = same_from_features n a b small_a small_b (λ f lt. go f lt (cases_Bool (has_bit a f)) (cases_Bool (has_bit b f)))
  where
    sides : (not (bit_and (lacking (record { features = n; on = a })) b == 0) ≡ false) × (not (is_subset a b) ≡ false)
    sides = or_parts _ _ denied

    go : (f : ℕ) → f < n → (has_bit a f ≡ true) ⊎ (has_bit a f ≡ false) → (has_bit b f ≡ true) ⊎ (has_bit b f ≡ false) → has_bit a f ≡ has_bit b f
    go f lt (inl has) _ = has ∙ sym (subset_has a b f (not-false _ sides.1) has)
    go f lt (inr lacks) (inr lacks_too) = lacks ∙ sym lacks_too
    go f lt (inr lacks) (inl has) = absurd (not_in_both _ b f (eqb-true _ 0 (not-false _ sides.0)) (lacking_has (record { features = n; on = a }) f lt ∙ ap not lacks) has)

-- ---- the log

length_denials : (n k : ℕ) → length (denials n k) ≡ k
length_denials n zero = refl
length_denials n (suc k) = length_push (denials n k) (denial (nth n k)) ∙ omega (arith, length_denials n k)

-- what each of the clauses is, all are
each_denial : (n k : ℕ) (p : Sides → Bool) → ((j : ℕ) → j < k → p (denial (nth n j)) ≡ true) → list_all p (denials n k) ≡ true
each_denial n zero p each = refl
each_denial n (suc k) p each =
    list_all-append p (denials n k) (denial (nth n k) ∷ [])
    ∙ and_from _ _ (each_denial n k p (λ j lt. each j (omega arith))) (and_from _ _ (each k (omega arith)) refl)

fresh_push : (cs : List Sides) (d : Sides) → are_fresh cs ≡ true → list_all (λ c. not (is_within c d)) cs ≡ true → are_fresh (cs ++ d ∷ []) ≡ true
fresh_push [] d fresh apart = refl
fresh_push (c ∷ cs) d fresh apart =
    let f = and_parts _ _ fresh in
    let a = and_parts _ _ apart in
    and_from _ _ (list_all-append (λ e. not (is_within c e)) cs (d ∷ []) ∙ and_from _ _ f.0 (and_from _ _ a.0 refl)) (fresh_push cs d f.1 a.1)

fresh_denials : (n k : ℕ) → k ≤ 2 ^ n → are_fresh (denials n k) ≡ true
fresh_denials n zero le = refl
fresh_denials n (suc k) le = fresh_push (denials n k) (denial (nth n k)) (fresh_denials n k (omega arith)) (each_denial n k (λ c. not (is_within c (denial (nth n k)))) apart)
  where
    apart : (j : ℕ) → j < k → not (is_within (denial (nth n j)) (denial (nth n k))) ≡ true
    apart j lt = not_from_false _ (false_from_ne_true _ refuted)
      where
        refuted : is_within (denial (nth n j)) (denial (nth n k)) ≡ true → ⊥
        refuted within =
            let same = mirrored_injective n j k (omega arith) (omega arith) (within_itself_alone n (mirrored n j) (mirrored n k) (mirrored_below n j) (mirrored_below n k) within) in
            omega (arith, same, lt)

-- Where none of the first selections is an answer, and they are as many as the budget allows but not all, their clauses spend it.
pub denials_spend : (line : ProductLine) (budget : ℕ) (So : Chosen → Type 0) → 1 ≤ budget → budget < 2 ^ length line.model.features →
    ((j : ℕ) → j < budget → IsValidFor line (nth (length line.model.features) j) → So (nth (length line.model.features) j) → ⊥) →
    IsSpent line budget So (denials (length line.model.features) budget)
denials_spend line budget So some few none =
    record {
      long = length_denials n budget;
      over = each_denial n budget (is_over n) (λ j lt. over n (mirrored n j) (mirrored_below n j));
      simple = each_denial n budget is_simple (λ j lt. simple n (mirrored n j) (mirrored_below n j));
      telling = each_denial n budget (λ c. not (is_empty c)) (λ j lt. telling n (mirrored n j) has_features (mirrored_below n j));
      fresh = fresh_denials n budget (omega arith);
      true_of_answers = λ s valid so. each_denial n budget (satisfies s) (λ j lt. true_from_ne_false _ (λ denied. refuted s valid so j lt denied));
    }
  where
    n : ℕ
    n = length line.model.features

    has_features : 0 < n
    has_features = go (cases_lt 0 n)
      where
        go : (0 < n) ⊎ (n ≤ 0) → 0 < n
        go (inl lt) = lt
        go (inr le) = let none : n ≡ 0 = omega arith in let one : 2 ^ n ≡ 1 = ap (λ (k : ℕ). 2 ^ k) none in absurd (omega (arith, one, some, few))

    refuted : (s : Chosen) → IsValidFor line s → So s → (j : ℕ) → j < budget → satisfies s (denial (nth n j)) ≡ false → ⊥
    refuted s valid so j lt denied =
        let on = denied_alone n (mirrored n j) s.on (mirrored_below n j) (subst (λ (k : ℕ). s.on < 2 ^ k) valid.features valid.on) denied in
        let same : nth n j ≡ s =
        ap (λ (k : ℕ). let t : Chosen = record { features = n; on = k } in t) on
        ∙ ap (λ (k : ℕ). let t : Chosen = record { features = k; on = s.on } in t) (sym valid.features) in
        none j lt (subst (IsValidFor line) (sym same) valid) (subst So (sym same) so)
