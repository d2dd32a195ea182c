-- Marks hold where the marks of each feature do.
use Rattle.std.proofs.Common.{◌≡◌, ℕ, zero, suc, ◌+◌, ◌<◌, ◌≤◌, ◌^◌, ◌==◌, min, nat_lt, Bool, true, false, not, ◌&&◌, ◌||◌, bit_and, length, refl, sym, ◌∙◌, ap, ap₂, arith, add-one}
use Rattle.std.specs.Int.{bit_at}
use Rattle.std.proofs.lemmas.Bool.{and_from, and_parts, eq-eqb, eqb-true, ltb-false, ltb-true}
use Rattle.std.proofs.lemmas.Nat.Bits.{bit_at-lt, bit_at-zero, bit_at_above, bit_at_and, same_from_bits}
use Rattle.cfj_logic.specs.Selections.{Chosen, has_bit, is_on, is_subset}
use Rattle.cfj_logic.specs.Sides.{Sides, is_over}
use Rattle.cfj_model.specs.Coloring.{has_mark, union}
use Rattle.cfj_model.specs.Projection.{is_present}
use Rattle.feature_views.proofs.Presence.{present_inside}
use Rattle.cond_circuit.proofs.ValueLemmas.{Grown-value}
use Rattle.cond_circuit.specs.Gates.{Gates, Grown, Is, value}
use Rattle.guarded_types.specs.Within.{IsWithin, mark_holds, marks_hold_at}

-- ---- one mark

unlike_true : (b : Bool) → b ≡ true → b ≡ false → ⊥
unlike_true true e f = let none : ⊥ = cc f in none
unlike_true false e f = let none : ⊥ = cc e in none

-- a wanted feature is selected
wanted_on : (s : Chosen) (m : Sides) (f : ℕ) → is_subset m.on s.on ≡ true → has_bit m.on f ≡ true → is_on s f ≡ true
wanted_on s m f sub has =
    let whole : bit_at (bit_and m.on s.on) f ≡ bit_at m.on f = ap (λ n. bit_at n f) (eqb-true (bit_and m.on s.on) m.on sub) in
    let both = bit_at_and m.on s.on f in
    let mine = eqb-true (bit_at m.on f) 1 has in
    let less = bit_at-lt s.on f in
    eq-eqb (bit_at s.on f) 1 (omega arith)

-- an unwanted one isn't
unwanted_off : (s : Chosen) (m : Sides) (f : ℕ) → (bit_and m.off s.on == 0) ≡ true → has_bit m.off f ≡ true → is_on s f ≡ false
unwanted_off s m f none has = go (is_on s f) refl
  where
    go : (b : Bool) → is_on s f ≡ b → b ≡ false
    go false e = refl
    go true e =
        let whole : bit_at (bit_and m.off s.on) f ≡ 0 = ap (λ n. bit_at n f) (eqb-true (bit_and m.off s.on) 0 none) ∙ bit_at-zero f in
        let both = bit_at_and m.off s.on f in
        let mine = eqb-true (bit_at m.off f) 1 has in
        let other = eqb-true (bit_at s.on f) 1 e in
        absurd (omega arith)

-- a mark of marks that hold holds
pub mark_in : (s : Chosen) (m : Sides) (off : Bool) (f : ℕ) → is_present s m ≡ true → has_mark off f m ≡ true → mark_holds s off f ≡ true
mark_in s m false f here has = wanted_on s m f (and_parts (is_subset m.on s.on) (bit_and m.off s.on == 0) here).0 has
mark_in s m true f here has = ap not (unwanted_off s m f (and_parts (is_subset m.on s.on) (bit_and m.off s.on == 0) here).1 has)

either : (a b : Bool) → (a ≡ true → b ≡ true) → (not a || b) ≡ true
either true b h = h refl
either false b h = refl

pub marks_in : (s : Chosen) (m : Sides) (f : ℕ) → is_present s m ≡ true → marks_hold_at s m f ≡ true
marks_in s m f here =
    and_from (not (has_mark false f m) || mark_holds s false f) (not (has_mark true f m) || mark_holds s true f)
    (either (has_mark false f m) (mark_holds s false f) (mark_in s m false f here))
    (either (has_mark true f m) (mark_holds s true f) (mark_in s m true f here))

-- ---- within other marks

-- marks that are among those that hold, hold
pub among_hold : (s : Chosen) (w m : Sides) → union w m ≡ w → is_present s w ≡ true → is_present s m ≡ true
among_hold s w m same here = sym (present_inside s w m here) ∙ ap (is_present s) same ∙ here

-- where a feature is wanted and unwanted, the marks don't all hold
pub against : (s : Chosen) (w m : Sides) (f : ℕ) → has_mark false f (union w m) ≡ true → has_mark true f (union w m) ≡ true → is_present s w ≡ true → is_present s m ≡ false
against s w m f wanted unwanted here = go (is_present s m) refl
  where
    go : (b : Bool) → is_present s m ≡ b → b ≡ false
    go false e = refl
    go true e =
        let whole : is_present s (union w m) ≡ true = present_inside s w m here ∙ e in
        let on : is_on s f ≡ true = mark_in s (union w m) false f whole wanted in
        absurd (unlike_true (not (is_on s f)) (mark_in s (union w m) true f whole unwanted) (ap not on))

-- ---- feature by feature

-- the marks of the first features hold
abbrev pub hold_to : ℕ → Chosen → Sides → Bool
hold_to zero s m = true
hold_to (suc f) s m = hold_to f s m && marks_hold_at s m f

pub hold_more : (f : ℕ) (s : Chosen) (m : Sides) → hold_to (f + 1) s m ≡ (hold_to f s m && marks_hold_at s m f)
hold_more f s m = ap (λ n. hold_to n s m) (add-one f)

all_hold : (n : ℕ) (s : Chosen) (m : Sides) → is_present s m ≡ true → hold_to n s m ≡ true
all_hold zero s m here = refl
all_hold (suc f) s m here = and_from (hold_to f s m) (marks_hold_at s m f) (all_hold f s m here) (marks_in s m f here)

held : (n : ℕ) (s : Chosen) (m : Sides) → hold_to n s m ≡ true → (f : ℕ) → f < n → marks_hold_at s m f ≡ true
held zero s m e f lt = absurd (omega arith)
held (suc n) s m e f lt = go (held n s m parts.0 f) (f == n) refl
  where
    parts : (hold_to n s m ≡ true) × (marks_hold_at s m n ≡ true)
    parts = and_parts (hold_to n s m) (marks_hold_at s m n) e

    other : (f == n) ≡ false → f ≡ n → ⊥
    other q s = unlike_true (f == n) (eq-eqb f n s) q

    before : (f ≡ n → ⊥) → f < n
    before ne = omega (arith, lt, ne)

    go : (f < n → marks_hold_at s m f ≡ true) → (b : Bool) → (f == n) ≡ b → marks_hold_at s m f ≡ true
    go ih true q = ap (marks_hold_at s m) (eqb-true f n q) ∙ parts.1
    go ih false q = ih (before (other q))

implied : (a b : Bool) → (not a || b) ≡ true → a ≡ true → b ≡ true
implied true b e h = e
implied false b e h = absurd (let none : ⊥ = cc h in none)

module _ (n : ℕ) (s : Chosen) (m : Sides) (over : is_over n m ≡ true) (each : (f : ℕ) → f < n → marks_hold_at s m f ≡ true) where
  below : (m.on < 2 ^ n) × (m.off < 2 ^ n)
  below = let parts = and_parts (nat_lt m.on (2 ^ n)) (nat_lt m.off (2 ^ n)) over in (ltb-true m.on (2 ^ n) parts.0, ltb-true m.off (2 ^ n) parts.1)

  at : (f : ℕ) → f < n → ((not (has_mark false f m) || mark_holds s false f) ≡ true) × ((not (has_mark true f m) || mark_holds s true f) ≡ true)
  at f lt = and_parts (not (has_mark false f m) || mark_holds s false f) (not (has_mark true f m) || mark_holds s true f) (each f lt)

  -- each wanted feature is selected
  on_bit : (f : ℕ) → bit_at m.on f ≡ 1 → bit_at s.on f ≡ 1
  on_bit f has = go (nat_lt f n) refl
    where
      high : nat_lt f n ≡ false → n ≤ f
      high q = ltb-false f n q

      go : (b : Bool) → nat_lt f n ≡ b → bit_at s.on f ≡ 1
      go true q = eqb-true (bit_at s.on f) 1 (implied (has_mark false f m) (mark_holds s false f) (at f (ltb-true f n q)).0 (eq-eqb (bit_at m.on f) 1 has))
      go false q = let none = bit_at_above m.on n f below.0 (high q) in absurd (omega (arith, none, has))

  off_bit : (f : ℕ) → bit_at m.off f ≡ 1 → bit_at s.on f ≡ 1 → ⊥
  off_bit f has on = go (nat_lt f n) refl
    where
      high : nat_lt f n ≡ false → n ≤ f
      high q = ltb-false f n q

      go : (b : Bool) → nat_lt f n ≡ b → ⊥
      go true q =
          unlike_true (not (is_on s f)) (implied (has_mark true f m) (mark_holds s true f) (at f (ltb-true f n q)).1 (eq-eqb (bit_at m.off f) 1 has)) (ap not (eq-eqb (bit_at s.on f) 1 on))
      go false q = let none = bit_at_above m.off n f below.1 (high q) in omega (arith, none, has)

  least : (x y : ℕ) → x < 2 → y < 2 → (x ≡ 1 → y ≡ 1) → min x y ≡ x
  least zero y lx ly h = omega arith
  least (suc x) y lx ly h = let one : suc x ≡ 1 = omega arith in let other = h one in omega arith

  nothing : (x y : ℕ) → x < 2 → y < 2 → (x ≡ 1 → y ≡ 1 → ⊥) → min x y ≡ 0
  nothing zero y lx ly h = omega arith
  nothing (suc x) zero lx ly h = omega arith
  nothing (suc x) (suc y) lx ly h = absurd (h (omega arith) (omega arith))

  here : is_present s m ≡ true
  here =
      and_from (is_subset m.on s.on) (bit_and m.off s.on == 0)
      (eq-eqb (bit_and m.on s.on) m.on (same_from_bits (bit_and m.on s.on) m.on (λ i. bit_at_and m.on s.on i ∙ least (bit_at m.on i) (bit_at s.on i) (bit_at-lt m.on i) (bit_at-lt s.on i) (on_bit i))))
      (eq-eqb (bit_and m.off s.on) 0
      (same_from_bits (bit_and m.off s.on) 0 (λ i. bit_at_and m.off s.on i ∙ nothing (bit_at m.off i) (bit_at s.on i) (bit_at-lt m.off i) (bit_at-lt s.on i) (off_bit i) ∙ sym (bit_at-zero i))))

both_ways : (p q : Bool) → (p ≡ true → q ≡ true) → (q ≡ true → p ≡ true) → p ≡ q
both_ways true true f g = refl
both_ways true false f g = sym (f refl)
both_ways false true f g = g refl
both_ways false false f g = refl

-- over the features of a model, marks hold where those of each feature do
pub hold_all : (n : ℕ) (s : Chosen) (m : Sides) → is_over n m ≡ true → hold_to n s m ≡ is_present s m
hold_all n s m over = both_ways (hold_to n s m) (is_present s m) (λ e. here n s m over (held n s m e)) (all_hold n s m)

-- ---- gates

-- a gate stands where it stood, and is worth within marks what it is worth everywhere
pub is_within : (c : Gates) (w : Sides) (g : ℕ) (v u : Chosen → Bool) → Is c g v → ((s : Chosen) → is_present s w ≡ true → v s ≡ u s) → IsWithin c w g u
is_within c w g v u is same = record { inside = is.inside; worth = λ s here. is.worth s ∙ same s here }

pub stays_within : (c : Gates) (w : Sides) (g : ℕ) (u : Chosen → Bool) → g < length c.parts → ((s : Chosen) → is_present s w ≡ true → value s c.parts g ≡ u s) → IsWithin c w g u
stays_within c w g u inside same = record { inside = inside; worth = same }

and_nothing : (a b : Bool) → b ≡ true → a ≡ (a && b)
and_nothing true b e = sym e
and_nothing false b e = refl

not_marked : (a b : Bool) → a ≡ false → (not a || b) ≡ true
not_marked a b e = ap (λ x. not x || b) e

no_mark : (a : Bool) → not a ≡ true → a ≡ false
no_mark true e = let none : ⊥ = cc e in absurd none
no_mark false e = refl

pub unmarked : (c : Gates) (w m : Sides) (g f : ℕ) (off : Bool) → g < length c.parts → has_mark off f m ≡ false
    → IsWithin c w g (λ s. value s c.parts g && (not (has_mark off f m) || mark_holds s off f))
unmarked c w m g f off inside e =
    stays_within c w g (λ s. value s c.parts g && (not (has_mark off f m) || mark_holds s off f)) inside
    (λ s here. and_nothing (value s c.parts g) (not (has_mark off f m) || mark_holds s off f) (not_marked (has_mark off f m) (mark_holds s off f) e))

pub marked_round : (c : Gates) (w m : Sides) (g f : ℕ) (off : Bool) → g < length c.parts → has_mark off f w ≡ true
    → IsWithin c w g (λ s. value s c.parts g && (not (has_mark off f m) || mark_holds s off f))
marked_round c w m g f off inside e =
    stays_within c w g (λ s. value s c.parts g && (not (has_mark off f m) || mark_holds s off f)) inside
    (λ s here. and_nothing (value s c.parts g) (not (has_mark off f m) || mark_holds s off f) (either (has_mark off f m) (mark_holds s off f) (λ has. mark_in s w off f here e)))

pub marked_here : (c d e : Gates) (w m : Sides) (g f h r : ℕ) (off : Bool) → g < length c.parts → Grown c d → Is d h (λ s. mark_holds s off f)
    → Is e r (λ s. value s d.parts g && value s d.parts h) → has_mark off f m ≡ true → IsWithin e w r (λ s. value s c.parts g && (not (has_mark off f m) || mark_holds s off f))
marked_here c d e w m g f h r off inside grown mark both has =
    is_within e w r (λ s. value s d.parts g && value s d.parts h) (λ s. value s c.parts g && (not (has_mark off f m) || mark_holds s off f)) both
    (λ s here. ap₂ (λ a b. a && b) (Grown-value c d s g grown inside) (mark.worth s ∙ sym (ap (λ b. not b || mark_holds s off f) has)))

pub marks_both : (d e : Gates) (c : Gates) (w m : Sides) (g f h r : ℕ)
    → IsWithin d w h (λ s. value s c.parts g && (not (has_mark false f m) || mark_holds s false f))
    → IsWithin e w r (λ s. value s d.parts h && (not (has_mark true f m) || mark_holds s true f))
    → IsWithin e w r (λ s. value s c.parts g && marks_hold_at s m f)
marks_both d e c w m g f h r first second =
    record {
      inside = second.inside;
      worth = λ s here.
          second.worth s here
          ∙ ap (λ b. b && (not (has_mark true f m) || mark_holds s true f)) (first.worth s here)
          ∙ and_right (value s c.parts g) (not (has_mark false f m) || mark_holds s false f) (not (has_mark true f m) || mark_holds s true f);
    }
  where
    and_right : (x y z : Bool) → ((x && y) && z) ≡ (x && (y && z))
    and_right true y z = refl
    and_right false y z = refl

pub no_marks_yet : (c : Gates) (w m : Sides) (g : ℕ) → Is c g (λ s. true) → IsWithin c w g (λ s. hold_to 0 s m)
no_marks_yet c w m g is = record { inside = is.inside; worth = λ s here. is.worth s }

pub marks_more : (c d : Gates) (w m : Sides) (g r f : ℕ) → IsWithin c w g (λ s. hold_to f s m) → IsWithin d w r (λ s. value s c.parts g && marks_hold_at s m f)
    → IsWithin d w r (λ s. hold_to (f + 1) s m)
marks_more c d w m g r f before is =
    record { inside = is.inside; worth = λ s here. is.worth s here ∙ ap (λ b. b && marks_hold_at s m f) (before.worth s here) ∙ sym (hold_more f s m) }

pub marks_all : (c : Gates) (w m : Sides) (g n : ℕ) → is_over n m ≡ true → IsWithin c w g (λ s. hold_to n s m) → IsWithin c w g (λ s. is_present s m)
marks_all c w m g n over is = record { inside = is.inside; worth = λ s here. is.worth s here ∙ hold_all n s m over }

pub marks_against : (c : Gates) (w m : Sides) (g f : ℕ) → has_mark false f (union w m) ≡ true → has_mark true f (union w m) ≡ true → Is c g (λ s. false) → IsWithin c w g (λ s. is_present s m)
marks_against c w m g f wanted unwanted is = record { inside = is.inside; worth = λ s here. is.worth s ∙ sym (against s w m f wanted unwanted here) }
