-- What folding gives has the value of its operation, and adds at most one gate.
use Rattle.std.proofs.Common.{◌≡◌, ℕ, ◌<◌, ◌≤◌, min, max, Bool, true, false, not, ◌&&◌, ◌||◌, ◌==◌, cond, ◌⊎◌, inl, inr, List, [], ◌∷◌, ◌++◌, length, Option, Some, None, slice_get, Result, Ok, Err, IfOk, length-append, refl, sym, ◌∙◌, ap, ap₂, subst, arith, zero, suc}
use Rattle.std.proofs.lemmas.Bool.{eqb-true, eqb-false, cond_both}
use Rattle.std.proofs.lemmas.Option.{slice_get_within}
use Rattle.cfj_logic.specs.Selections.{Chosen, is_on}
use Rattle.cond_circuit.specs.declared.part.Part.{Part}
use Rattle.cond_circuit.specs.declared.part.Part.TheVariants.{Zero, One, Feat, Not, And, Or}
use Rattle.cond_circuit.specs.declared.folding.Folded.{Folded}
use Rattle.cond_circuit.specs.declared.folding.Folded.TheVariants.{Gate, New}
use Rattle.cond_circuit.specs.Gates.{Gates, Stands, IsCircuit, part_value, values_behind, value, Grown, Is}
use Rattle.cond_circuit.specs.Folding.{fold_and, fold_or, fold_not, place_of, placed, placed_at, IsPlaceable}
use Rattle.cond_circuit.proofs.IndexLemmas.{place_of-Some}
use Rattle.cond_circuit.proofs.ValueLemmas.{value_at, value_last, value_zero, value_one, value_not, zero_is, one_is, Grown-refl}

pub slice_get_more : (ps qs : List Part) (g : ℕ) (p : Part) → slice_get ps g ≡ Some p → slice_get (ps ++ qs) g ≡ Some p
slice_get_more [] qs g p is = absurd (let no : ⊥ = cc is in no)
slice_get_more (q ∷ ps) qs zero p is = is
slice_get_more (q ∷ ps) qs (suc g) p is = slice_get_more ps qs g p is

-- a gate of the longer list is one of the shorter, or the last
slice_get_push : (ps : List Part) (p : Part) (g : ℕ) (q : Part) → slice_get (ps ++ p ∷ []) g ≡ Some q → (slice_get ps g ≡ Some q) ⊎ ((g ≡ length ps) × (p ≡ q))
slice_get_push [] p zero q is = inr (refl, (let same : p ≡ q = cc is in same))
slice_get_push [] p (suc g) q is = absurd (let no : ⊥ = cc is in no)
slice_get_push (r ∷ ps) p zero q is = inl is
slice_get_push (r ∷ ps) p (suc g) q is = elim (slice_get_push ps p g q is) [ inl old ↦ inl old | inr new ↦ inr (ap suc new.0, new.1) ]

-- the circuit behind an added part
pub circuit_push : (n : ℕ) (ps : List Part) (p : Part) → IsCircuit n ps → Stands n (length ps) p → IsCircuit n (ps ++ p ∷ [])
circuit_push n ps p k h = record {
  few = k.few;
  zero_is = slice_get_more ps (p ∷ []) 0 Zero k.zero_is;
  one_is = slice_get_more ps (p ∷ []) 1 One k.one_is;
  stands = λ g q is. elim (slice_get_push ps p g q is) [ inl old ↦ k.stands g q old | inr new ↦ subst (λ r. Stands n g r) new.1 (subst (λ j. Stands n j p) (sym new.0) h) ];
}

-- what an operation folds to is in the circuit or may be added, and is worth this
abbrev pub IsFor : Gates → (Chosen → Bool) → Folded → Type 0
IsFor c v (Gate g) = Is c g v
IsFor c v (New p) = Stands c.features (length c.parts) p × ((s : Chosen) → part_value s (values_behind s [] c.parts) p ≡ v s)

pub for_placeable : (c : Gates) (v : Chosen → Bool) (w : Folded) → IsFor c v w → IsPlaceable c w
for_placeable c v (Gate g) h = h.inside
for_placeable c v (New p) h = h.0

pub placed_is : (c : Gates) (v : Chosen → Bool) (w : Folded) → IsCircuit c.features c.parts → IsFor c v w → Is (placed c w).0 (placed c w).1 v
placed_is c v (Gate g) k h = h
placed_is c v (New p) k h = go (place_of c.parts p) refl
  where
    go : (o : Option ℕ) → place_of c.parts p ≡ o → Is (placed_at c p o).0 (placed_at c p o).1 v
    go (Some g) e =
        let is : slice_get c.parts g ≡ Some p = place_of-Some c.parts p g e in
        record { inside = slice_get_within c.parts g p is; worth = λ s. value_at s c.parts c.features g p is (k.stands g p is) ∙ h.1 s }
    go None e = record { inside = omega (arith, length-append c.parts (p ∷ [])); worth = λ s. value_last s c.parts p ∙ h.1 s }

pub placed_grown : (c : Gates) (w : Folded) → Grown c (placed c w).0
placed_grown c (Gate g) = Grown-refl c
placed_grown c (New p) = go (place_of c.parts p)
  where
    go : (o : Option ℕ) → Grown c (placed_at c p o).0
    go (Some g) = Grown-refl c
    go None = record { features = refl; more = p ∷ []; parts = refl }

-- ---- truth tables

and_same : (x : Bool) → x ≡ (x && x)
and_same true = refl
and_same false = refl

and_swap : (x y : Bool) → (x && y) ≡ (y && x)
and_swap true true = refl
and_swap true false = refl
and_swap false true = refl
and_swap false false = refl

or_same : (x : Bool) → x ≡ (x || x)
or_same true = refl
or_same false = refl

or_swap : (x y : Bool) → (x || y) ≡ (y || x)
or_swap true true = refl
or_swap true false = refl
or_swap false true = refl
or_swap false false = refl

not_not : (x : Bool) → x ≡ not (not x)
not_not true = refl
not_not false = refl

-- one of two tests passed
one_of : (x y : Bool) → (x || y) ≡ true → (x ≡ true) ⊎ (y ≡ true)
one_of true y e = inl refl
one_of false y e = inr e

none_of : (x y : Bool) → (x || y) ≡ false → (x ≡ false) × (y ≡ false)
none_of true y e = absurd (let no : ⊥ = cc e in no)
none_of false y e = (refl, e)

lt_or_ge : (a b : ℕ) → (a < b) ⊎ (b ≤ a)
lt_or_ge a b = grind arith

-- a symmetric operation doesn't see the operands' order
in_order : (f : ℕ → ℕ → Bool) → ((a b : ℕ) → f a b ≡ f b a) → (a b : ℕ) → f (min a b) (max a b) ≡ f a b
in_order f swap a b = go (lt_or_ge a b)
  where
    go : (a < b) ⊎ (b ≤ a) → f (min a b) (max a b) ≡ f a b
    go (inl less) =
        let low : min a b ≡ a = omega arith in
        let high : max a b ≡ b = omega arith in
        ap₂ f low high
    go (inr more) =
        let low : min a b ≡ b = omega arith in
        let high : max a b ≡ a = omega arith in
        ap₂ f low high ∙ swap b a

-- the operands that are left may stand in a part
operands_stand : (a b n : ℕ) → (a ≡ b → ⊥) → (a ≡ 0 → ⊥) → (b ≡ 0 → ⊥) → (a ≡ 1 → ⊥) → (b ≡ 1 → ⊥) → a < n → b < n → (2 ≤ min a b) × (min a b < max a b) × (max a b < n)
operands_stand a b n apart za zb oa ob la lb = (grind arith, grind arith, grind arith)

-- a gate has the value of an operation
gate_for : (c : Gates) (g : ℕ) (v w : Chosen → Bool) → Is c g v → ((s : Chosen) → v s ≡ w s) → Is c g w
gate_for c g v w is same = record { inside = is.inside; worth = λ s. is.worth s ∙ same s }

pub gate_itself : (c : Gates) (g : ℕ) → g < length c.parts → Is c g (λ s. value s c.parts g)
gate_itself c g inside = record { inside = inside; worth = λ s. refl }

-- ---- the operations

module _ (c : Gates) (a b : ℕ) (k : IsCircuit c.features c.parts) (la : a < length c.parts) (lb : b < length c.parts) where
  equal_gates : (f : Bool → Bool → Bool) → ((x : Bool) → x ≡ f x x) → (a == b) ≡ true → Is c a (λ s. f (value s c.parts a) (value s c.parts b))
  equal_gates f same e =
      gate_for c a (λ s. value s c.parts a) (λ s. f (value s c.parts a) (value s c.parts b)) (gate_itself c a la)
      (λ s. same (value s c.parts a) ∙ ap (λ g. f (value s c.parts a) (value s c.parts g)) (eqb-true a b e))

  -- a constant operand
  constant_left : (g : ℕ) (x : Bool) (r : ℕ) (w : Bool → Bool) (f : Bool → Bool → Bool) → Is c g (λ s. x) → (a == g) ≡ true → Is c r (λ s. w (value s c.parts b)) → ((y : Bool) → w y ≡ f x y) → Is c r (λ s. f (value s c.parts a) (value s c.parts b))
  constant_left g x r w f const e is table =
      gate_for c r (λ s. w (value s c.parts b)) (λ s. f (value s c.parts a) (value s c.parts b)) is
      (λ s. table (value s c.parts b) ∙ ap (λ y. f y (value s c.parts b)) (sym (ap (value s c.parts) (eqb-true a g e) ∙ const.worth s)))

  constant_right : (g : ℕ) (x : Bool) (r : ℕ) (w : Bool → Bool) (f : Bool → Bool → Bool) → Is c g (λ s. x) → (b == g) ≡ true → Is c r (λ s. w (value s c.parts a)) → ((y : Bool) → w y ≡ f y x) → Is c r (λ s. f (value s c.parts a) (value s c.parts b))
  constant_right g x r w f const e is table =
      gate_for c r (λ s. w (value s c.parts a)) (λ s. f (value s c.parts a) (value s c.parts b)) is
      (λ s. table (value s c.parts a) ∙ ap (f (value s c.parts a)) (sym (ap (value s c.parts) (eqb-true b g e) ∙ const.worth s)))

  and_new : (a == b) ≡ false → (a == 0 || b == 0) ≡ false → (a == 1) ≡ false → (b == 1) ≡ false → IsFor c (λ s. value s c.parts a && value s c.parts b) (New (And (min a b) (max a b)))
  unfolding value
  and_new apart no_zero one_a one_b =
      let z = none_of (a == 0) (b == 0) no_zero in (
        operands_stand a b (length c.parts) (eqb-false a b apart) (eqb-false a 0 z.0) (eqb-false b 0 z.1) (eqb-false a 1 one_a) (eqb-false b 1 one_b) la lb,
        λ s. in_order (λ x y. value s c.parts x && value s c.parts y) (λ x y. and_swap (value s c.parts x) (value s c.parts y)) a b,
      )

  or_new : (a == b) ≡ false → (a == 1 || b == 1) ≡ false → (a == 0) ≡ false → (b == 0) ≡ false → IsFor c (λ s. value s c.parts a || value s c.parts b) (New (Or (min a b) (max a b)))
  unfolding value
  or_new apart no_one zero_a zero_b =
      let o = none_of (a == 1) (b == 1) no_one in (
        operands_stand a b (length c.parts) (eqb-false a b apart) (eqb-false a 0 zero_a) (eqb-false b 0 zero_b) (eqb-false a 1 o.0) (eqb-false b 1 o.1) la lb,
        λ s. in_order (λ x y. value s c.parts x || value s c.parts y) (λ x y. or_swap (value s c.parts x) (value s c.parts y)) a b,
      )

  pub and_for : IsFor c (λ s. value s c.parts a && value s c.parts b) (fold_and a b)
  and_for =
      let P = IsFor c (λ s. value s c.parts a && value s c.parts b) in
      let new = New (And (min a b) (max a b)) in
      let right = cond (b == 1) (Gate a) new in
      let left = cond (a == 1) (Gate b) right in
      let false_gate = zero_is c k in
      let true_gate = one_is c k in
      let none = λ (e : (a == 0 || b == 0) ≡ true). elim (one_of (a == 0) (b == 0) e) as (λ _. P (Gate 0)) [
        | inl z ↦ constant_left 0 false 0 (λ y. false) (λ x y. x && y) false_gate z false_gate (λ y. refl)
        | inr z ↦ constant_right 0 false 0 (λ y. false) (λ x y. x && y) false_gate z false_gate (λ y. and_swap false y)
      ] in
      cond_both (a == b) (Gate a) (cond (a == 0 || b == 0) (Gate 0) left) P (equal_gates (λ x y. x && y) and_same)
      (λ apart. cond_both (a == 0 || b == 0) (Gate 0) left P none
      (λ no_zero. cond_both (a == 1) (Gate b) right P (λ e. constant_left 1 true b (λ y. y) (λ x y. x && y) true_gate e (gate_itself c b lb) (λ y. refl))
      (λ a_no_one. cond_both (b == 1) (Gate a) new P (λ e. constant_right 1 true a (λ y. y) (λ x y. x && y) true_gate e (gate_itself c a la) (λ y. and_swap true y))
      (λ b_no_one. and_new apart no_zero a_no_one b_no_one))))

  pub or_for : IsFor c (λ s. value s c.parts a || value s c.parts b) (fold_or a b)
  or_for =
      let P = IsFor c (λ s. value s c.parts a || value s c.parts b) in
      let new = New (Or (min a b) (max a b)) in
      let right = cond (b == 0) (Gate a) new in
      let left = cond (a == 0) (Gate b) right in
      let false_gate = zero_is c k in
      let true_gate = one_is c k in
      let some = λ (e : (a == 1 || b == 1) ≡ true). elim (one_of (a == 1) (b == 1) e) as (λ _. P (Gate 1)) [
        | inl z ↦ constant_left 1 true 1 (λ y. true) (λ x y. x || y) true_gate z true_gate (λ y. refl)
        | inr z ↦ constant_right 1 true 1 (λ y. true) (λ x y. x || y) true_gate z true_gate (λ y. or_swap true y)
      ] in
      cond_both (a == b) (Gate a) (cond (a == 1 || b == 1) (Gate 1) left) P (equal_gates (λ x y. x || y) or_same)
      (λ apart. cond_both (a == 1 || b == 1) (Gate 1) left P some
      (λ no_one. cond_both (a == 0) (Gate b) right P (λ e. constant_left 0 false b (λ y. y) (λ x y. x || y) false_gate e (gate_itself c b lb) (λ y. refl))
      (λ a_no_zero. cond_both (b == 0) (Gate a) new P (λ e. constant_right 0 false a (λ y. y) (λ x y. x || y) false_gate e (gate_itself c a la) (λ y. or_swap false y))
      (λ b_no_zero. or_new apart no_one a_no_zero b_no_zero))))

-- `not` of a gate with this part
pub not_for : (c : Gates) (a : ℕ) (p : Part) → IsCircuit c.features c.parts → slice_get c.parts a ≡ Some p → IsFor c (λ s. not (value s c.parts a)) (fold_not p a)
unfolding value
not_for c a p k is = go p is (k.stands a p is)
  where
    inside : a < length c.parts
    inside = slice_get_within c.parts a p is

    -- no other part is that of a constant
    other : (q : Part) → slice_get c.parts a ≡ Some q → (Zero ≡ q → ⊥) → (One ≡ q → ⊥) → 2 ≤ a
    other q h no_zero no_one =
        let z : a ≡ 0 → ⊥ = λ e. no_zero (let same : Some Zero ≡ Some q = sym k.zero_is ∙ ap (slice_get c.parts) (sym e) ∙ h in let r : Zero ≡ q = cc same in r) in
        let o : a ≡ 1 → ⊥ = λ e. no_one (let same : Some One ≡ Some q = sym k.one_is ∙ ap (slice_get c.parts) (sym e) ∙ h in let r : One ≡ q = cc same in r) in
        grind arith

    go : (q : Part) → slice_get c.parts a ≡ Some q → Stands c.features a q → IsFor c (λ s. not (value s c.parts a)) (fold_not q a)
    go Zero h t = gate_for c 1 (λ s. true) (λ s. not (value s c.parts a)) (one_is c k) (λ s. ap not (sym (value_zero s c.parts a h t)))
    go One h t = gate_for c 0 (λ s. false) (λ s. not (value s c.parts a)) (zero_is c k) (λ s. ap not (sym (value_one s c.parts a h t)))
    go (Feat f) h t = ((other (Feat f) h (λ e. let no : ⊥ = cc e in no) (λ e. let no : ⊥ = cc e in no), inside), λ s. refl)
    go (Not d) h t =
        gate_for c d (λ s. value s c.parts d) (λ s. not (value s c.parts a)) (gate_itself c d (omega (arith, inside, t.1)))
        (λ s. not_not (value s c.parts d) ∙ ap not (sym (value_not s c.parts c.features a d h t)))
    go (And d e) h t = ((other (And d e) h (λ e. let no : ⊥ = cc e in no) (λ e. let no : ⊥ = cc e in no), inside), λ s. refl)
    go (Or d e) h t = ((other (Or d e) h (λ e. let no : ⊥ = cc e in no) (λ e. let no : ⊥ = cc e in no), inside), λ s. refl)

pub feat_for : (c : Gates) (f : ℕ) → f < c.features → IsFor c (λ s. is_on s f) (New (Feat f))
feat_for c f below = (below, λ s. refl)

-- the gate that a call gave, where the call placed what an operation folds to
pub placed_worth : {E : Type 0} (r : Result ℕ E) (old new : Gates) (v : Chosen → Bool) (w : Folded) → IsCircuit old.features old.parts → IsFor old v w →
    IfOk r (λ g. (new, g) ≡ placed old w) → IfOk r (λ g. Is new g v)
placed_worth (Ok g) old new v w k h e = subst (λ (p : Gates × ℕ). Is p.0 p.1 v) (sym e) (placed_is old v w k h)
placed_worth (Err x) old new v w k h e = tt
