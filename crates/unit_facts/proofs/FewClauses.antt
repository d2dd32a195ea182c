-- Over `n` features there are fewer than 3 ^ n clauses that aren't empty, hold no feature twice and of which none contains all literals
-- of an earlier one.
use Rattle.std.proofs.Common.{◌≡◌, ℕ, ◌^◌, ◌<◌, true, false, not, eqb, ◌⊎◌, inl, inr, List, [], ◌∷◌, length, map, bit_and, refl, sym, ◌∙◌, ap, subst, arith}
use Rattle.std.specs.List.{list_all, list_any, IsDistinct, AllByRecursion}
use Rattle.std.specs.Int.Bits.{and_self}
use Rattle.std.proofs.lemmas.Bool.{and_parts, and_from, or_cases, eqb-true, eq-eqb, ltb-true, not-true, both_ways, false_from_ne_true}
use Rattle.std.proofs.lemmas.List.{length-map}
use Rattle.std.proofs.lemmas.Map.Keys.{IsDistinct-cons}
use Rattle.std.proofs.lemmas.Map.Steps.{length-le_from_distinct_below}
use Rattle.cfj_logic.specs.Sides.{Sides, is_empty, is_over, is_within}
use Rattle.unit_facts.specs.Diagnostics.{is_simple, are_fresh}
use Rattle.unit_facts.proofs.ClauseCodes.{AreApart, apart_from_and, code, code_none, code_below, code_injective}

-- the clause's number
abbrev number : ℕ → Sides → ℕ
number n c = code n c.on c.off

-- what a log's clauses have each by itself
record IsClause (n : ℕ) (c : Sides) : Type 0 where
  on : c.on < 2 ^ n
  off : c.off < 2 ^ n
  apart : AreApart c.on c.off
  telling : is_empty c ≡ false

is_clause : (n : ℕ) (c : Sides) → is_over n c ≡ true → is_simple c ≡ true → not (is_empty c) ≡ true → IsClause n c
is_clause n c over simple telling =
    let sides = and_parts _ _ over in
    record {
      on = ltb-true c.on (2 ^ n) sides.0;
      off = ltb-true c.off (2 ^ n) sides.1;
      apart = apart_from_and c.on c.off (eqb-true (bit_and c.on c.off) 0 simple);
      telling = not-true (is_empty c) telling;
    }

are_clauses : (n : ℕ) (cs : List Sides) → list_all (is_over n) cs ≡ true → list_all is_simple cs ≡ true → list_all (λ c. not (is_empty c)) cs ≡ true → AllByRecursion (IsClause n) cs
are_clauses n [] over simple telling = tt
are_clauses n (c ∷ cs) over simple telling =
    let o = and_parts _ _ over in
    let s = and_parts _ _ simple in
    let t = and_parts _ _ telling in
    (is_clause n c o.0 s.0 t.0, are_clauses n cs o.1 s.1 t.1)

-- a clause contains all literals of itself
within_itself : (c d : Sides) → c.on ≡ d.on → c.off ≡ d.off → is_within c d ≡ true
within_itself c d on off =
    and_from _ _ (eq-eqb (bit_and c.on d.on) c.on (ap (bit_and c.on) (sym on) ∙ and_self c.on)) (eq-eqb (bit_and c.off d.off) c.off (ap (bit_and c.off) (sym off) ∙ and_self c.off))

-- a clause that isn't within another has another number
other_number : (n : ℕ) (c d : Sides) → IsClause n c → IsClause n d → not (is_within c d) ≡ true → eqb (number n c) (number n d) ≡ false
other_number n c d one two apart = false_from_ne_true _ (λ same. refuted (code_injective n c.on c.off d.on d.off one.on one.off two.on two.off one.apart two.apart (eqb-true _ _ same)))
  where
    refuted : (c.on ≡ d.on) × (c.off ≡ d.off) → ⊥
    refuted e = both_ways (is_within c d) (not-true _ apart) (within_itself c d e.0 e.1)

other_numbers : (n : ℕ) (c : Sides) (ds : List Sides) → IsClause n c → AllByRecursion (IsClause n) ds → list_all (λ d. not (is_within c d)) ds ≡ true → AllByRecursion (λ m. eqb (number n c) m ≡ false) (map (number n) ds)
other_numbers n c [] one all fresh = tt
other_numbers n c (d ∷ ds) one all fresh =
    let f = and_parts _ _ fresh in
    (other_number n c d one all.0 f.0, other_numbers n c ds one all.1 f.1)

distinct_numbers : (n : ℕ) (cs : List Sides) → AllByRecursion (IsClause n) cs → are_fresh cs ≡ true → IsDistinct eqb (map (number n) cs)
unfolding IsDistinct
distinct_numbers n [] all fresh = tt
distinct_numbers n (c ∷ cs) all fresh =
    let f = and_parts _ _ fresh in
    IsDistinct-cons eqb (number n c) (map (number n) cs) (other_numbers n c cs all.0 all.1 f.0) (distinct_numbers n cs all.1 f.1)

-- no clause has the empty one's number
not_none : (n : ℕ) (c : Sides) → IsClause n c → eqb 0 (number n c) ≡ false
not_none n c one = false_from_ne_true _ (λ same. refuted (code_injective n 0 0 c.on c.off (omega (arith, one.on)) (omega (arith, one.on)) one.on one.off none_apart one.apart (code_none n ∙ eqb-true _ _ same)))
  where
    none_apart : AreApart 0 0
    none_apart = apart_from_and 0 0 refl

    refuted : (0 ≡ c.on) × (0 ≡ c.off) → ⊥
    refuted e = both_ways (is_empty c) one.telling (and_from _ _ (eq-eqb c.on 0 (sym e.0)) (eq-eqb c.off 0 (sym e.1)))

none_not : (n : ℕ) (cs : List Sides) → AllByRecursion (IsClause n) cs → AllByRecursion (λ m. eqb 0 m ≡ false) (map (number n) cs)
none_not n [] all = tt
none_not n (c ∷ cs) all = (not_none n c all.0, none_not n cs all.1)

below : (n : ℕ) (cs : List Sides) → AllByRecursion (IsClause n) cs → (q : ℕ) → list_any (eqb q) (map (number n) cs) ≡ true → q < 3 ^ n
below n [] all q found = absurd (let e : false ≡ true = found in cc e)
below n (c ∷ cs) all q found = go (below n cs all.1 q) (or_cases _ _ found)
  where
    go : (list_any (eqb q) (map (number n) cs) ≡ true → q < 3 ^ n) → (eqb q (number n c) ≡ true) ⊎ (list_any (eqb q) (map (number n) cs) ≡ true) → q < 3 ^ n
    go rest (inl same) = subst (λ k. k < 3 ^ n) (sym (eqb-true _ _ same)) (code_below n c.on c.off all.0.apart)
    go rest (inr more) = rest more

-- the empty clause's number, 0, is below the bound too, and none of theirs
pub few_clauses : (n : ℕ) (cs : List Sides) → list_all (is_over n) cs ≡ true → list_all is_simple cs ≡ true → list_all (λ c. not (is_empty c)) cs ≡ true → are_fresh cs ≡ true → length cs < 3 ^ n
few_clauses n cs over simple telling fresh =
    let all = are_clauses n cs over simple telling in
    let most = length-le_from_distinct_below (0 ∷ map (number n) cs) (3 ^ n) (IsDistinct-cons eqb 0 (map (number n) cs) (none_not n cs all) (distinct_numbers n cs all fresh)) within in
    let same = length-map cs (number n) in
    omega (arith, most, same)
  where
    zero_below : 0 < 3 ^ n
    zero_below = subst (λ k. k < 3 ^ n) (code_none n) (code_below n 0 0 (apart_from_and 0 0 refl))

    within : (q : ℕ) → list_any (eqb q) (0 ∷ map (number n) cs) ≡ true → q < 3 ^ n
    within q found = go (or_cases _ _ found)
      where
        go : (eqb q 0 ≡ true) ⊎ (list_any (eqb q) (map (number n) cs) ≡ true) → q < 3 ^ n
        go (inl same) = subst (λ k. k < 3 ^ n) (sym (eqb-true q 0 same)) zero_below
        go (inr more) = below n cs (are_clauses n cs over simple telling) q more
