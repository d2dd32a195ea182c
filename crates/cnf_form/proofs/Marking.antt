-- Marks of the gates that a gate reaches, from the last one down.
use Rattle.std.proofs.Common.{◌≡◌, ℕ, ◌+◌, ◌<◌, ◌≤◌, ◌==◌, ◌⊎◌, inl, inr, Bool, true, false, List, length, get_or, set, replicate, zero, suc, Some, slice_get, refl, sym, ◌∙◌, ap, subst, arith, length-set}
use Rattle.std.proofs.lemmas.List.{get_or-set_same, get_or-set_other, length-replicate}
use Rattle.std.proofs.lemmas.Option.{get_or_from_slice_get, slice_get_read}
use Rattle.std.proofs.lemmas.Bool.{eqb-true, eqb-false}
use Rattle.cond_circuit.specs.Gates.{Stands}
use Rattle.cond_circuit.specs.declared.part.Part.{Part}
use Rattle.cond_circuit.specs.declared.part.Part.TheVariants.{Zero, One, Feat, Not, And, Or}
use Rattle.cnf_form.specs.Reaching.{IsOperand, AreBelow, Reaches, is_marked, with_operands, AreReached}

-- the operands of a part of a circuit are below its gate
pub stands_below : (n g m : ℕ) (p : Part) → Stands n g p → g ≤ m → AreBelow m p
stands_below n g m Zero h le = tt
stands_below n g m One h le = tt
stands_below n g m (Feat f) h le = tt
stands_below n g m (Not a) h le = omega arith
stands_below n g m (And a b) h le = (omega arith, omega arith)
stands_below n g m (Or a b) h le = (omega arith, omega arith)

-- ---- one more mark

same_or_not : (k a : ℕ) → (k ≡ a) ⊎ (k ≡ a → ⊥)
same_or_not k a = go (k == a) refl
  where
    go : (b : Bool) → (k == a) ≡ b → (k ≡ a) ⊎ (k ≡ a → ⊥)
    go true e = inl (eqb-true k a e)
    go false e = inr (eqb-false k a e)

mark_has : (m : List Bool) (a : ℕ) → a < length m → is_marked (set m a true) a ≡ true
mark_has m a within = get_or-set_same m a true false within

mark_other : (m : List Bool) (a k : ℕ) → (k ≡ a → ⊥) → is_marked (set m a true) k ≡ is_marked m k
mark_other m a k apart = get_or-set_other m a k true false apart

mark_keeps : (m : List Bool) (a k : ℕ) → a < length m → is_marked m k ≡ true → is_marked (set m a true) k ≡ true
mark_keeps m a k within h = elim (same_or_not k a) [ inl same ↦ ap (is_marked (set m a true)) same ∙ mark_has m a within | inr apart ↦ mark_other m a k apart ∙ h ]

mark_only : (m : List Bool) (a k : ℕ) → is_marked (set m a true) k ≡ true → (is_marked m k ≡ true) ⊎ (k ≡ a)
mark_only m a k h = elim (same_or_not k a) [ inl same ↦ inr same | inr apart ↦ inl (sym (mark_other m a k apart) ∙ h) ]

unmarked : (n g : ℕ) → is_marked (replicate n false) g ≡ false
unmarked zero g = refl
unmarked (suc n) zero = refl
unmarked (suc n) (suc g) = unmarked n g

-- ---- the marks of a part's operands

pub length-with_operands : (p : Part) (m : List Bool) → length (with_operands p m) ≡ length m
length-with_operands Zero m = refl
length-with_operands One m = refl
length-with_operands (Feat f) m = refl
length-with_operands (Not a) m = length-set m a true
length-with_operands (And a b) m = length-set (set m a true) b true ∙ length-set m a true
length-with_operands (Or a b) m = length-set (set m a true) b true ∙ length-set m a true

two_keep : (m : List Bool) (a b k : ℕ) → a < length m → b < length m → is_marked m k ≡ true → is_marked (set (set m a true) b true) k ≡ true
two_keep m a b k la lb h = mark_keeps (set m a true) b k (omega (arith, length-set m a true)) (mark_keeps m a k la h)

operands_keep : (p : Part) (m : List Bool) (k : ℕ) → AreBelow (length m) p → is_marked m k ≡ true → is_marked (with_operands p m) k ≡ true
operands_keep Zero m k below h = h
operands_keep One m k below h = h
operands_keep (Feat f) m k below h = h
operands_keep (Not a) m k below h = mark_keeps m a k below h
operands_keep (And a b) m k below h = two_keep m a b k below.0 below.1 h
operands_keep (Or a b) m k below h = two_keep m a b k below.0 below.1 h

two_only : (m : List Bool) (a b k : ℕ) → is_marked (set (set m a true) b true) k ≡ true → (is_marked m k ≡ true) ⊎ ((k ≡ a) ⊎ (k ≡ b))
two_only m a b k h = elim (mark_only (set m a true) b k h) [ inl before ↦ elim (mark_only m a k before) [ inl old ↦ inl old | inr left ↦ inr (inl left) ] | inr right ↦ inr (inr right) ]

operands_only : (p : Part) (m : List Bool) (k : ℕ) → is_marked (with_operands p m) k ≡ true → (is_marked m k ≡ true) ⊎ IsOperand k p
operands_only Zero m k h = inl h
operands_only One m k h = inl h
operands_only (Feat f) m k h = inl h
operands_only (Not a) m k h = mark_only m a k h
operands_only (And a b) m k h = two_only m a b k h
operands_only (Or a b) m k h = two_only m a b k h

two_have : (m : List Bool) (a b k : ℕ) → a < length m → b < length m → (k ≡ a) ⊎ (k ≡ b) → is_marked (set (set m a true) b true) k ≡ true
two_have m a b k la lb (inl left) = ap (is_marked (set (set m a true) b true)) left ∙ mark_keeps (set m a true) b a (omega (arith, length-set m a true)) (mark_has m a la)
two_have m a b k la lb (inr right) = ap (is_marked (set (set m a true) b true)) right ∙ mark_has (set m a true) b (omega (arith, length-set m a true))

operands_have : (p : Part) (m : List Bool) (k : ℕ) → AreBelow (length m) p → IsOperand k p → is_marked (with_operands p m) k ≡ true
operands_have Zero m k below h = absurd h
operands_have One m k below h = absurd h
operands_have (Feat f) m k below h = absurd h
operands_have (Not a) m k below h = ap (is_marked (set m a true)) h ∙ mark_has m a below
operands_have (And a b) m k below h = two_have m a b k below.0 below.1 h
operands_have (Or a b) m k below h = two_have m a b k below.0 below.1 h

operand_below : (p : Part) (g k : ℕ) → AreBelow g p → IsOperand k p → k < g
operand_below Zero g k below h = absurd h
operand_below One g k below h = absurd h
operand_below (Feat f) g k below h = absurd h
operand_below (Not a) g k below h = omega (arith, h, below)
operand_below (And a b) g k below (inl h) = omega (arith, h, below.0)
operand_below (And a b) g k below (inr h) = omega (arith, h, below.1)
operand_below (Or a b) g k below (inl h) = omega (arith, h, below.0)
operand_below (Or a b) g k below (inr h) = omega (arith, h, below.1)

-- ---- the loop

-- each mark is of a gate that is reached, and of the marked gates from `above` on all operands are marked
pub record Marking (ps : List Part) (top above : ℕ) (m : List Bool) : Type 0 where
  pub size : length m ≡ top + 1
  pub starts : is_marked m top ≡ true
  pub only : (g : ℕ) → is_marked m g ≡ true → Reaches ps top g
  pub closed : (g a : ℕ) (p : Part) → above ≤ g → is_marked m g ≡ true → slice_get ps g ≡ Some p → IsOperand a p → is_marked m a ≡ true

-- a gate that isn't marked has no operands to mark
pub marking_skip : (ps : List Part) (top above g : ℕ) (m : List Bool) → Marking ps top above m → above ≡ g + 1 → is_marked m g ≡ false → Marking ps top g m
marking_skip ps top above g m k e off = record {
  size = k.size;
  starts = k.starts;
  only = k.only;
  closed = λ h a p le on is operand. elim (same_or_not h g) [ inl same ↦ absurd (let no : ⊥ = cc (sym off ∙ sym (ap (is_marked m) same) ∙ on) in no) | inr apart ↦ k.closed h a p (grind arith) on is operand ];
}

pub marking_step : (ps : List Part) (n top above g : ℕ) (p : Part) (m : List Bool) → Marking ps top above m → above ≡ g + 1 → g ≤ top → is_marked m g ≡ true → slice_get ps g ≡ Some p → Stands n g p →
    Marking ps top g (with_operands p m)
marking_step ps n top above g p m k e within on is stands = record {
  size = length-with_operands p m ∙ k.size;
  starts = operands_keep p m top below k.starts;
  only = λ h marked. elim (operands_only p m h marked) [ inl old ↦ k.only h old | inr operand ↦ Reaches.operand g h p (k.only g on) is operand ];
  closed = λ h a q le marked isq operand. closed h a q le marked isq operand;
}
  where
    below : AreBelow (length m) p
    below = stands_below n g (length m) p stands (omega (arith, k.size))

    -- a gate from here on had its mark before
    before : (h : ℕ) → g ≤ h → is_marked (with_operands p m) h ≡ true → is_marked m h ≡ true
    before h le marked = elim (operands_only p m h marked) [ inl old ↦ old | inr operand ↦ absurd (omega (arith, operand_below p g h (stands_below n g g p stands (omega arith)) operand)) ]

    closed : (h a : ℕ) (q : Part) → g ≤ h → is_marked (with_operands p m) h ≡ true → slice_get ps h ≡ Some q → IsOperand a q → is_marked (with_operands p m) a ≡ true
    closed h a q le marked isq operand = elim (same_or_not h g) [
      | inl same ↦ operands_have p m a below (let eq : q ≡ p = cc (sym isq ∙ ap (slice_get ps) same ∙ is) in subst (IsOperand a) eq operand)
      | inr apart ↦ operands_keep p m a below (k.closed h a q (grind arith) (before h le marked) isq operand)
    ]

pub marked_all : (ps : List Part) (top : ℕ) (m : List Bool) → Marking ps top 0 m → (g : ℕ) → Reaches ps top g → is_marked m g ≡ true
marked_all ps top m k g Reaches.itself = k.starts
marked_all ps top m k g (Reaches.operand h a p reach is operand) = k.closed h g p (omega arith) (marked_all ps top m k h reach) is operand

pub marking_done : (ps : List Part) (top : ℕ) (m : List Bool) → Marking ps top 0 m → AreReached ps top m
marking_done ps top m k = record { size = k.size; exact = λ g. (k.only g, marked_all ps top m k g) }

-- before the loop the last gate alone is marked
pub marking_start : (ps : List Part) (top : ℕ) → Marking ps top (top + 1) (set (replicate (top + 1) false) top true)
marking_start ps top = record {
  size = length-set (replicate (top + 1) false) top true ∙ length-replicate (top + 1) false;
  starts = mark_has (replicate (top + 1) false) top (omega (arith, length-replicate (top + 1) false));
  only = λ g h. subst (Reaches ps top) (sym (first g h)) Reaches.itself;
  closed = λ g a p le h is operand. absurd (omega (arith, first g h, le));
}
  where
    first : (g : ℕ) → is_marked (set (replicate (top + 1) false) top true) g ≡ true → g ≡ top
    first g h = elim (mark_only (replicate (top + 1) false) top g h) [ inl old ↦ absurd (let none : ⊥ = cc (sym (unmarked (top + 1) g) ∙ old) in none) | inr same ↦ same ]

-- what is read within a list, whatever stands for what is past its end
pub read_within : {X : Type 0} (xs : List X) (k : ℕ) (x d : X) → k < length xs → x ≡ get_or xs k x → get_or xs k d ≡ x
read_within xs k x d within e = get_or_from_slice_get xs k x d (slice_get_read xs (length xs) k x refl within e)
