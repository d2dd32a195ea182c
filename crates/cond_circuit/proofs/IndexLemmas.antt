-- The map finds a part's first gate, also behind an added part.
use Rattle.std.proofs.Common.{◌≡◌, ℕ, ◌+◌, ◌==◌, Bool, true, false, ◌&&◌, cond, List, [], ◌∷◌, ◌++◌, length, Option, Some, None, slice_get, refl, sym, ◌∙◌, ap, ap₂, arith, suc}
use Rattle.std.proofs.lemmas.Bool.{eqb-true, cond-true, cond-false}
use Rattle.std.proofs.lemmas.Bool.Decides.{nat_tests}
use Rattle.std.specs.BTreeMap.{BTreeMap, get}
use Rattle.std.specs.List.{position_from}
use Rattle.std.specs.Ordering.{nat_cmp, ordering_then, is_eq}
use Rattle.std.specs.declared.cmp.Ordering.{Ordering}
use Rattle.std.specs.declared.cmp.Ordering.TheVariants.{Less, Equal, Greater}
use Rattle.cond_circuit.specs.declared.part.Part.{Part}
use Rattle.cond_circuit.specs.declared.part.Part.TheVariants.{Zero, One, Feat, Not, And, Or}
use Rattle.cond_circuit.specs.Folding.{part_eq, place_of}
use Rattle.cond_circuit.specs.Indexes.{part_cmp, IsIndex}

is_eq-nat_cmp : (a b : ℕ) → is_eq (nat_cmp a b) ≡ (a == b)
is_eq-nat_cmp a b = grind (arith, nat_tests)

is_eq-ordering_then : (o r : Ordering) → is_eq (ordering_then o r) ≡ (is_eq o && is_eq r)
is_eq-ordering_then Less r = refl
is_eq-ordering_then Equal r = refl
is_eq-ordering_then Greater r = refl

is_eq-pairs : (a b c d : ℕ) → is_eq (ordering_then (nat_cmp a c) (nat_cmp b d)) ≡ (a == c && b == d)
is_eq-pairs a b c d = is_eq-ordering_then (nat_cmp a c) (nat_cmp b d) ∙ ap₂ (λ x y. x && y) (is_eq-nat_cmp a c) (is_eq-nat_cmp b d)

-- the map's order tells parts apart as `part_eq` does
cmp_is : (p q : Part) → is_eq (part_cmp p q) ≡ part_eq p q
cmp_is Zero Zero = refl
cmp_is Zero One = refl
cmp_is Zero (Feat b) = refl
cmp_is Zero (Not b) = refl
cmp_is Zero (And b b') = refl
cmp_is Zero (Or b b') = refl
cmp_is One Zero = refl
cmp_is One One = refl
cmp_is One (Feat b) = refl
cmp_is One (Not b) = refl
cmp_is One (And b b') = refl
cmp_is One (Or b b') = refl
cmp_is (Feat a) Zero = refl
cmp_is (Feat a) One = refl
cmp_is (Feat a) (Feat b) = is_eq-nat_cmp a b
cmp_is (Feat a) (Not b) = refl
cmp_is (Feat a) (And b b') = refl
cmp_is (Feat a) (Or b b') = refl
cmp_is (Not a) Zero = refl
cmp_is (Not a) One = refl
cmp_is (Not a) (Feat b) = refl
cmp_is (Not a) (Not b) = is_eq-nat_cmp a b
cmp_is (Not a) (And b b') = refl
cmp_is (Not a) (Or b b') = refl
cmp_is (And a a') Zero = refl
cmp_is (And a a') One = refl
cmp_is (And a a') (Feat b) = refl
cmp_is (And a a') (Not b) = refl
cmp_is (And a a') (And b b') = is_eq-pairs a a' b b'
cmp_is (And a a') (Or b b') = refl
cmp_is (Or a a') Zero = refl
cmp_is (Or a a') One = refl
cmp_is (Or a a') (Feat b) = refl
cmp_is (Or a a') (Not b) = refl
cmp_is (Or a a') (And b b') = refl
cmp_is (Or a a') (Or b b') = is_eq-pairs a a' b b'

both_true : (x y : Bool) → (x && y) ≡ true → (x ≡ true) × (y ≡ true)
both_true true true e = (refl, refl)
both_true true false e = absurd (let no : ⊥ = cc e in no)
both_true false y e = absurd (let no : ⊥ = cc e in no)

part_eq-true : (p q : Part) → part_eq p q ≡ true → p ≡ q
part_eq-true Zero Zero e = refl
part_eq-true Zero One e = absurd (let no : ⊥ = cc e in no)
part_eq-true Zero (Feat b) e = absurd (let no : ⊥ = cc e in no)
part_eq-true Zero (Not b) e = absurd (let no : ⊥ = cc e in no)
part_eq-true Zero (And b b') e = absurd (let no : ⊥ = cc e in no)
part_eq-true Zero (Or b b') e = absurd (let no : ⊥ = cc e in no)
part_eq-true One Zero e = absurd (let no : ⊥ = cc e in no)
part_eq-true One One e = refl
part_eq-true One (Feat b) e = absurd (let no : ⊥ = cc e in no)
part_eq-true One (Not b) e = absurd (let no : ⊥ = cc e in no)
part_eq-true One (And b b') e = absurd (let no : ⊥ = cc e in no)
part_eq-true One (Or b b') e = absurd (let no : ⊥ = cc e in no)
part_eq-true (Feat a) Zero e = absurd (let no : ⊥ = cc e in no)
part_eq-true (Feat a) One e = absurd (let no : ⊥ = cc e in no)
part_eq-true (Feat a) (Feat b) e = ap Feat (eqb-true a b e)
part_eq-true (Feat a) (Not b) e = absurd (let no : ⊥ = cc e in no)
part_eq-true (Feat a) (And b b') e = absurd (let no : ⊥ = cc e in no)
part_eq-true (Feat a) (Or b b') e = absurd (let no : ⊥ = cc e in no)
part_eq-true (Not a) Zero e = absurd (let no : ⊥ = cc e in no)
part_eq-true (Not a) One e = absurd (let no : ⊥ = cc e in no)
part_eq-true (Not a) (Feat b) e = absurd (let no : ⊥ = cc e in no)
part_eq-true (Not a) (Not b) e = ap Not (eqb-true a b e)
part_eq-true (Not a) (And b b') e = absurd (let no : ⊥ = cc e in no)
part_eq-true (Not a) (Or b b') e = absurd (let no : ⊥ = cc e in no)
part_eq-true (And a a') Zero e = absurd (let no : ⊥ = cc e in no)
part_eq-true (And a a') One e = absurd (let no : ⊥ = cc e in no)
part_eq-true (And a a') (Feat b) e = absurd (let no : ⊥ = cc e in no)
part_eq-true (And a a') (Not b) e = absurd (let no : ⊥ = cc e in no)
part_eq-true (And a a') (And b b') e =
    let t = both_true (a == b) (a' == b') e in
    ap₂ And (eqb-true a b t.0) (eqb-true a' b' t.1)
part_eq-true (And a a') (Or b b') e = absurd (let no : ⊥ = cc e in no)
part_eq-true (Or a a') Zero e = absurd (let no : ⊥ = cc e in no)
part_eq-true (Or a a') One e = absurd (let no : ⊥ = cc e in no)
part_eq-true (Or a a') (Feat b) e = absurd (let no : ⊥ = cc e in no)
part_eq-true (Or a a') (Not b) e = absurd (let no : ⊥ = cc e in no)
part_eq-true (Or a a') (And b b') e = absurd (let no : ⊥ = cc e in no)
part_eq-true (Or a a') (Or b b') e =
    let t = both_true (a == b) (a' == b') e in
    ap₂ Or (eqb-true a b t.0) (eqb-true a' b' t.1)

eqb_swap : (a b : ℕ) → (a == b) ≡ (b == a)
eqb_swap a b = grind (arith, nat_tests)

part_eq-swap : (p q : Part) → part_eq p q ≡ part_eq q p
part_eq-swap Zero Zero = refl
part_eq-swap Zero One = refl
part_eq-swap Zero (Feat b) = refl
part_eq-swap Zero (Not b) = refl
part_eq-swap Zero (And b b') = refl
part_eq-swap Zero (Or b b') = refl
part_eq-swap One Zero = refl
part_eq-swap One One = refl
part_eq-swap One (Feat b) = refl
part_eq-swap One (Not b) = refl
part_eq-swap One (And b b') = refl
part_eq-swap One (Or b b') = refl
part_eq-swap (Feat a) Zero = refl
part_eq-swap (Feat a) One = refl
part_eq-swap (Feat a) (Feat b) = eqb_swap a b
part_eq-swap (Feat a) (Not b) = refl
part_eq-swap (Feat a) (And b b') = refl
part_eq-swap (Feat a) (Or b b') = refl
part_eq-swap (Not a) Zero = refl
part_eq-swap (Not a) One = refl
part_eq-swap (Not a) (Feat b) = refl
part_eq-swap (Not a) (Not b) = eqb_swap a b
part_eq-swap (Not a) (And b b') = refl
part_eq-swap (Not a) (Or b b') = refl
part_eq-swap (And a a') Zero = refl
part_eq-swap (And a a') One = refl
part_eq-swap (And a a') (Feat b) = refl
part_eq-swap (And a a') (Not b) = refl
part_eq-swap (And a a') (And b b') = ap₂ (λ x y. x && y) (eqb_swap a b) (eqb_swap a' b')
part_eq-swap (And a a') (Or b b') = refl
part_eq-swap (Or a a') Zero = refl
part_eq-swap (Or a a') One = refl
part_eq-swap (Or a a') (Feat b) = refl
part_eq-swap (Or a a') (Not b) = refl
part_eq-swap (Or a a') (And b b') = refl
part_eq-swap (Or a a') (Or b b') = ap₂ (λ x y. x && y) (eqb_swap a b) (eqb_swap a' b')

-- ---- the first place at which a test passes

found_more : (t : Part → Bool) (i g : ℕ) (ps qs : List Part) → position_from t i ps ≡ Some g → position_from t i (ps ++ qs) ≡ Some g
found_more t i g [] qs e = absurd (let no : ⊥ = cc e in no)
found_more t i g (p ∷ ps) qs e = go (t p) (found_more t (i + 1) g ps qs) e
  where
    go : (b : Bool) → (position_from t (i + 1) ps ≡ Some g → position_from t (i + 1) (ps ++ qs) ≡ Some g) →
        cond b (Some i) (position_from t (i + 1) ps) ≡ Some g → cond b (Some i) (position_from t (i + 1) (ps ++ qs)) ≡ Some g
    go true rest e = e
    go false rest e = rest e

found_last : (t : Part → Bool) (i : ℕ) (ps : List Part) (p : Part) → position_from t i ps ≡ None → position_from t i (ps ++ p ∷ []) ≡ cond (t p) (Some (i + length ps)) None
found_last t i [] p e = ap (λ k. cond (t p) (Some k) None) (let z : i ≡ i + 0 = omega arith in z)
found_last t i (q ∷ ps) p e = go (t q) (found_last t (i + 1) ps p) e
  where
    go : (b : Bool) → (position_from t (i + 1) ps ≡ None → position_from t (i + 1) (ps ++ p ∷ []) ≡ cond (t p) (Some ((i + 1) + length ps)) None) →
        cond b (Some i) (position_from t (i + 1) ps) ≡ None → cond b (Some i) (position_from t (i + 1) (ps ++ p ∷ [])) ≡ cond (t p) (Some (i + length (q ∷ ps))) None
    go true rest e = absurd (let no : ⊥ = cc e in no)
    go false rest e = rest e ∙ ap (λ k. cond (t p) (Some k) None) (let z : (i + 1) + length ps ≡ i + length (q ∷ ps) = omega arith in z)

-- what is found: its place, and a part there that passes
record Found (t : Part → Bool) (i g : ℕ) (ps : List Part) : Type 0 where
  place : ℕ
  part : Part
  counted : g ≡ i + place
  is : slice_get ps place ≡ Some part
  passes : t part ≡ true

found_at : (t : Part → Bool) (i g : ℕ) (ps : List Part) → position_from t i ps ≡ Some g → Found t i g ps
found_at t i g [] e = absurd (let no : ⊥ = cc e in no)
found_at t i g (q ∷ ps) e = go (t q) refl (found_at t (i + 1) g ps) e
  where
    go : (b : Bool) → t q ≡ b → (position_from t (i + 1) ps ≡ Some g → Found t (i + 1) g ps) → cond b (Some i) (position_from t (i + 1) ps) ≡ Some g → Found t i g (q ∷ ps)
    go true here rest e =
        let same : i ≡ g = cc e in
        record { place = 0; part = q; counted = omega arith; is = refl; passes = here }
    go false here rest e =
        let r = rest e in
        record { place = suc r.place; part = r.part; counted = omega (arith, r.counted); is = r.is; passes = r.passes }

-- the gate that is found has the part
pub place_of-Some : (ps : List Part) (p : Part) (g : ℕ) → place_of ps p ≡ Some g → slice_get ps g ≡ Some p
place_of-Some ps p g e =
    let r = found_at (part_eq p) 0 g ps e in
    let k : g ≡ r.place = omega (arith, r.counted) in
    ap (slice_get ps) k ∙ r.is ∙ ap Some (sym (part_eq-true p r.part r.passes))

-- the map behind an added part
pub index_push : (ps : List Part) (p : Part) (m n : BTreeMap Part ℕ) → IsIndex ps m → place_of ps p ≡ None →
    ((q : Part) → get part_cmp n q ≡ cond (is_eq (part_cmp p q)) (Some (length ps)) (get part_cmp m q)) → IsIndex (ps ++ p ∷ []) n
index_push ps p m n old absent updates = record { finds = λ q. updates q ∙ ap₂ (λ b o. cond b (Some (length ps)) o) (cmp_is p q) (old.finds q) ∙ go q (part_eq p q) refl }
  where
    apart : (q : Part) → part_eq p q ≡ false → (o : Option ℕ) → place_of ps q ≡ o → o ≡ place_of (ps ++ p ∷ []) q
    apart q other (Some g) e = sym (found_more (part_eq q) 0 g ps (p ∷ []) e)
    apart q other None e = sym (found_last (part_eq q) 0 ps p e ∙ cond-false (part_eq q p) (Some (0 + length ps)) None (part_eq-swap q p ∙ other))

    go : (q : Part) (b : Bool) → part_eq p q ≡ b → cond b (Some (length ps)) (place_of ps q) ≡ place_of (ps ++ p ∷ []) q
    go q true e =
        let same : p ≡ q = part_eq-true p q e in
        let z : length ps ≡ 0 + length ps = omega arith in
        ap Some z
        ∙ sym (found_last (part_eq q) 0 ps p (ap (place_of ps) (sym same) ∙ absent) ∙ cond-true (part_eq q p) (Some (0 + length ps)) None (part_eq-swap q p ∙ e))
    go q false e = apart q e (place_of ps q) refl
