-- Sets of features by their values.
use Rattle.std.proofs.Common.{◌≡◌, ◌≢◌, ℕ, ◌+◌, ◌^◌, ◌<◌, ◌≤◌, ◌⊎◌, inl, inr, Bool, true, false, not, List, get_or, Option, Some, None, eqb, ◌&&◌, nat_lt, bit_and, bit_or, refl, sym, ◌∙◌, ap, subst, arith}
use Rattle.std.proofs.lemmas.Bool.Decides.{eqb_tells}
use Rattle.std.proofs.lemmas.Bool.{lt-ltb}
use Rattle.std.proofs.lemmas.Nat.{or_lt}
use Rattle.std.proofs.Math.Pow.{pow-lt}
use Rattle.cfj_logic.specs.declared.clauses.Literal.{Literal}
use Rattle.cfj_logic.specs.Selections.{has_bit}
use Rattle.cfj_logic.specs.Sides.{Sides, is_over}
use Rattle.cfj_words.specs.Lists.{Has}
use Rattle.cfj_logic.specs.UnitClauses.{Values, value_of, IsFalse}
use Rattle.cfj_logic.specs.Logs.{literals}
use Rattle.cfj_logic.proofs.FeatureBits.{has_bit_same, has_bit_other, has_bit_none, apart}
use Rattle.unit_propagation.proofs.Members.{lt_or_ge}
use Rattle.refutation_check.proofs.ClauseLiterals.{side, literals_has, literals_in}
use Rattle.clause_learning.specs.Decided.{IsValued}
use Rattle.clause_learning.specs.Denials.{IsMarked, Gathers, IsDenial, is_value, marked_value}

pub gathers_none : (b : Bool) (w : ℕ → Option Bool) → Gathers b 0 0 w
gathers_none b w = record { below = λ f lt. absurd (omega arith); past = λ f le. has_bit_none f }

pub gathers_with : (b : Bool) (n m i : ℕ) (w : ℕ → Option Bool) → is_value b (w i) ≡ true → m ≡ bit_or n (2 ^ i) → Gathers b n i w → Gathers b m (i + 1) w
gathers_with b n m i w is set g = subst (λ k. Gathers b k (i + 1) w) (sym set) (record { below = λ f lt. at f lt (eqb_tells f i); past = λ f le. past f le })
  where
    at : (f : ℕ) → f < i + 1 → ((eqb f i ≡ true) × (f ≡ i)) ⊎ ((eqb f i ≡ false) × (f ≢ i)) → has_bit (bit_or n (2 ^ i)) f ≡ is_value b (w f)
    at f lt (inl e) = ap (has_bit (bit_or n (2 ^ i))) e.1 ∙ has_bit_same n i ∙ sym is ∙ ap (λ k. is_value b (w k)) (sym e.1)
    at f lt (inr e) = let ne = e.1 in has_bit_other n i f e.1 ∙ g.below f (omega (arith, lt, ne))

    past : (f : ℕ) → i + 1 ≤ f → has_bit (bit_or n (2 ^ i)) f ≡ false
    past f le = has_bit_other n i f (λ e. (omega (arith, le, e))) ∙ g.past f (omega (arith, le))

pub gathers_past : (b : Bool) (n i : ℕ) (w : ℕ → Option Bool) → is_value b (w i) ≡ false → Gathers b n i w → Gathers b n (i + 1) w
gathers_past b n i w is g = record { below = λ f lt. at f lt (eqb_tells f i); past = λ f le. g.past f (omega (arith, le)) }
  where
    at : (f : ℕ) → f < i + 1 → ((eqb f i ≡ true) × (f ≡ i)) ⊎ ((eqb f i ≡ false) × (f ≢ i)) → has_bit n f ≡ is_value b (w f)
    at f lt (inl e) = g.past f (let same = e.1 in omega (arith, same)) ∙ sym is ∙ ap (λ k. is_value b (w k)) (sym e.1)
    at f lt (inr e) = let ne = e.1 in g.below f (omega (arith, lt, ne))

pub with_small : (n f k : ℕ) → f < k → n < 2 ^ k → bit_or n (2 ^ f) < 2 ^ k
with_small n f k lt small = or_lt k n (2 ^ f) small (pow-lt lt)

value_is : (b : Bool) (v : Option Bool) → is_value b v ≡ true → v ≡ Some b
value_is b None e = absurd (let bad : ⊥ = cc e in bad)
value_is true (Some true) e = refl
value_is true (Some false) e = absurd (let bad : ⊥ = cc e in bad)
value_is false (Some true) e = absurd (let bad : ⊥ = cc e in bad)
value_is false (Some false) e = refl

is_itself : (b : Bool) → is_value b (Some b) ≡ true
is_itself true = refl
is_itself false = refl

-- no feature has both values
pub both_values : (on off i f : ℕ) (w : ℕ → Option Bool) → Gathers false on i w → Gathers true off i w → has_bit on f ≡ true → has_bit off f ≡ true → ⊥
both_values on off i f w g h x y = go (lt_or_ge f i)
  where
    two : (v : Option Bool) → is_value false v ≡ true → is_value true v ≡ true → ⊥
    two None d e = cc d
    two (Some true) d e = cc d
    two (Some false) d e = cc e

    go : (f < i) ⊎ (i ≤ f) → ⊥
    go (inl lt) = two (w f) (sym (g.below f lt) ∙ x) (sym (h.below f lt) ∙ y)
    go (inr le) = let no : true ≡ false = sym x ∙ g.past f le in cc no

-- ---- the clause

marked_is : (marks : List Bool) (vs : Values) (x : ℕ) (b : Bool) → marked_value marks vs x ≡ Some b → IsMarked marks x × (value_of vs x ≡ Some b)
marked_is marks vs x b e = go (get_or marks x false) refl
  where
    go : (m : Bool) → get_or marks x false ≡ m → IsMarked marks x × (value_of vs x ≡ Some b)
    go true is = (is, rw is at e)
    go false is = let no : None ≡ Some b = rw is at e in absurd (let bad : ⊥ = cc no in bad)

is_marked : (marks : List Bool) (vs : Values) (x : ℕ) (b : Bool) → IsMarked marks x → value_of vs x ≡ Some b → marked_value marks vs x ≡ Some b
is_marked marks vs x b m e = rw m e

gathered : (n : ℕ) (c : Sides) (w : ℕ → Option Bool) (f : ℕ) (on : Bool) → Gathers false c.on n w → Gathers true c.off n w → f < n → has_bit (side c on) f ≡ is_value (not on) (w f)
gathered n c w f true g h lt = g.below f lt
gathered n c w f false g h lt = h.below f lt

gathered_past : (n : ℕ) (c : Sides) (w : ℕ → Option Bool) (f : ℕ) (on : Bool) → Gathers false c.on n w → Gathers true c.off n w → n ≤ f → has_bit (side c on) f ≡ false
gathered_past n c w f true g h le = g.past f le
gathered_past n c w f false g h le = h.past f le

pub twice : (b : Bool) → not (not b) ≡ b
twice true = refl
twice false = refl

pub denial_is : (n : ℕ) (vs : Values) (marks : List Bool) (c : Sides) → n ≤ 128 → Gathers false c.on n (marked_value marks vs) → Gathers true c.off n (marked_value marks vs) → is_over n c ≡ true → bit_and c.on c.off ≡ 0 → IsDenial n vs marks c
denial_is n vs marks c few g h over once = record { over = over; once = once; denied = denied; all = all }
  where
    w : ℕ → Option Bool
    w = marked_value marks vs

    denied : (m : Literal) → Has (literals c) m → IsMarked marks m.var × IsFalse vs m
    denied m k = go (literals_has c m k) (lt_or_ge m.var n)
      where
        go : (m.var < 128) × (has_bit (side c m.on) m.var ≡ true) → (m.var < n) ⊎ (n ≤ m.var) → IsMarked marks m.var × IsFalse vs m
        go l (inl lt) = marked_is marks vs m.var (not m.on) (value_is (not m.on) (w m.var) (sym (gathered n c w m.var m.on g h lt) ∙ l.1))
        go l (inr le) = let no : true ≡ false = sym l.1 ∙ gathered_past n c w m.var m.on g h le in absurd (let bad : ⊥ = cc no in bad)

    all : (x : ℕ) (b : Bool) → x < n → IsMarked marks x → value_of vs x ≡ Some b → Has (literals c) (record { var = x; on = not b })
    all x b lt m e =
        literals_in c x (not b) (omega (arith, lt, few))
        (gathered n c w x (not b) g h lt ∙ ap (λ d. is_value d (w x)) (twice b) ∙ ap (is_value b) (is_marked marks vs x b m e) ∙ is_itself b)

-- ---- the first feature without a value

pub valued_next : (vs : Values) (k : ℕ) → ((x : ℕ) → x < k → IsValued vs x) → IsValued vs k → (x : ℕ) → x < k + 1 → IsValued vs x
valued_next vs k all now x lt = go (lt_or_ge x k)
  where
    go : (x < k) ⊎ (k ≤ x) → IsValued vs x
    go (inl below) = all x below
    go (inr le) = let same : k ≡ x = omega (arith, lt, le) in subst (IsValued vs) same now

pub denial_found : (n i : ℕ) (vs : Values) (marks : List Bool) (on off : ℕ) → n ≤ 128 → i ≡ n → Gathers false on i (marked_value marks vs) → Gathers true off i (marked_value marks vs) → on < 2 ^ n → off < 2 ^ n →
    IsDenial n vs marks (record { on = on; off = off })
denial_found n i vs marks on off few end g h on_small off_small =
    denial_is n vs marks (record { on = on; off = off }) few (subst (λ k. Gathers false on k (marked_value marks vs)) end g) (subst (λ k. Gathers true off k (marked_value marks vs)) end h)
    (ap (λ b. b && nat_lt off (2 ^ n)) (lt-ltb on (2 ^ n) on_small) ∙ lt-ltb off (2 ^ n) off_small)
    (apart on off (λ f x y. both_values on off i f (marked_value marks vs) g h x y))
