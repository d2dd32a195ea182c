-- Marks of variables.
use Rattle.std.proofs.Common.{◌≡◌, ◌≢◌, ℕ, zero, suc, ◌<◌, ◌≤◌, ◌⊎◌, inl, inr, Bool, true, false, List, [], ◌∷◌, length, get_or, slice_set, eqb, refl, sym, ◌∙◌, ap, subst, arith}
use Rattle.std.specs.Prelude.{replicate}
use Rattle.std.proofs.lemmas.Bool.Decides.{eqb_tells}
use Rattle.std.proofs.lemmas.List.{get_or-set_same, get_or-set_other}
use Rattle.cfj_logic.specs.declared.clauses.Literal.{Literal}
use Rattle.cfj_words.specs.Lists.{Has}
use Rattle.unit_propagation.specs.Standings.{literal_eq}
use Rattle.unit_propagation.proofs.Members.{lt_or_ge, has_none}
use Rattle.unit_propagation.proofs.Standing.{literal_eq_true, literal_eq_false}
use Rattle.clause_learning.specs.Denials.{IsMarked, with_all, with_other, with_others}

pub set_size : (marks : List Bool) (x : ℕ) (b : Bool) → length (slice_set marks x b) ≡ length marks
set_size [] x b = refl
set_size (m ∷ marks) zero b = refl
set_size (m ∷ marks) (suc x) b = ap suc (set_size marks x b)

set_past : (marks : List Bool) (x y : ℕ) (b : Bool) → length marks ≤ x → get_or (slice_set marks x b) y false ≡ get_or marks y false
set_past [] x y b le = refl
set_past (m ∷ marks) zero y b le = absurd (omega arith)
set_past (m ∷ marks) (suc x) zero b le = refl
set_past (m ∷ marks) (suc x) (suc y) b le = set_past marks x y b (omega arith)

-- a mark is the one that was set, or the old one
mark_cases : (marks : List Bool) (x y : ℕ) (b : Bool) → ((y ≡ x) × (get_or (slice_set marks x b) y false ≡ b)) ⊎ (get_or (slice_set marks x b) y false ≡ get_or marks y false)
mark_cases marks x y b = go (eqb_tells y x) (lt_or_ge x (length marks))
  where
    go : ((eqb y x ≡ true) × (y ≡ x)) ⊎ ((eqb y x ≡ false) × (y ≢ x)) → (x < length marks) ⊎ (length marks ≤ x) → ((y ≡ x) × (get_or (slice_set marks x b) y false ≡ b)) ⊎ (get_or (slice_set marks x b) y false ≡ get_or marks y false)
    go (inl s) (inl lt) = inl (s.1, ap (λ k. get_or (slice_set marks x b) k false) s.1 ∙ get_or-set_same marks x b false lt)
    go (inr s) _ = inr (get_or-set_other marks x y b false s.1)
    go _ (inr le) = inr (set_past marks x y b le)

pub marked_now : (marks : List Bool) (x : ℕ) → x < length marks → IsMarked (slice_set marks x true) x
marked_now marks x lt = get_or-set_same marks x true false lt

pub marked_still : (marks : List Bool) (x y : ℕ) → IsMarked marks y → IsMarked (slice_set marks x true) y
marked_still marks x y h = go (mark_cases marks x y true)
  where
    go : ((y ≡ x) × (get_or (slice_set marks x true) y false ≡ true)) ⊎ (get_or (slice_set marks x true) y false ≡ get_or marks y false) → IsMarked (slice_set marks x true) y
    go (inl s) = s.1
    go (inr s) = s ∙ h

marked_source : (marks : List Bool) (x y : ℕ) → IsMarked (slice_set marks x true) y → (y ≡ x) ⊎ IsMarked marks y
marked_source marks x y h = go (mark_cases marks x y true)
  where
    go : ((y ≡ x) × (get_or (slice_set marks x true) y false ≡ true)) ⊎ (get_or (slice_set marks x true) y false ≡ get_or marks y false) → (y ≡ x) ⊎ IsMarked marks y
    go (inl s) = inl s.0
    go (inr s) = inr (sym s ∙ h)

-- taking a mark away
pub unmarked_others : (marks : List Bool) (x y : ℕ) → IsMarked marks y → (y ≡ x) ⊎ IsMarked (slice_set marks x false) y
unmarked_others marks x y h = go (mark_cases marks x y false)
  where
    go : ((y ≡ x) × (get_or (slice_set marks x false) y false ≡ false)) ⊎ (get_or (slice_set marks x false) y false ≡ get_or marks y false) → (y ≡ x) ⊎ IsMarked (slice_set marks x false) y
    go (inl s) = inl s.0
    go (inr s) = inr (s ∙ h)

pub unmarked_source : (marks : List Bool) (x y : ℕ) → x < length marks → IsMarked (slice_set marks x false) y → IsMarked marks y × (y ≢ x)
unmarked_source marks x y lt h = (go (mark_cases marks x y false), λ e. (let no : true ≡ false = sym h ∙ ap (λ k. get_or (slice_set marks x false) k false) e ∙ get_or-set_same marks x false false lt in cc no))
  where
    go : ((y ≡ x) × (get_or (slice_set marks x false) y false ≡ false)) ⊎ (get_or (slice_set marks x false) y false ≡ get_or marks y false) → IsMarked marks y
    go (inl s) = let no : true ≡ false = sym h ∙ s.1 in absurd (let bad : ⊥ = cc no in bad)
    go (inr s) = sym s ∙ h

pub none_marked : (size x : ℕ) → IsMarked (replicate size false) x → ⊥
none_marked zero x h = cc h
none_marked (suc size) zero h = cc h
none_marked (suc size) (suc x) h = none_marked size x h

-- ---- all literals of a clause

pub all_size : (marks : List Bool) (c : List Literal) → length (with_all marks c) ≡ length marks
all_size marks [] = refl
all_size marks (l ∷ c) = all_size (slice_set marks l.var true) c ∙ set_size marks l.var true

pub all_still : (marks : List Bool) (c : List Literal) (y : ℕ) → IsMarked marks y → IsMarked (with_all marks c) y
all_still marks [] y h = h
all_still marks (l ∷ c) y h = all_still (slice_set marks l.var true) c y (marked_still marks l.var y h)

pub all_marked : (marks : List Bool) (c : List Literal) (m : Literal) → m.var < length marks → Has c m → IsMarked (with_all marks c) m.var
all_marked marks [] m lt h = absurd (has_none m h)
all_marked marks (l ∷ c) m lt (zero, e) =
    let same : l ≡ m = cc e in
    all_still (slice_set marks l.var true) c m.var (subst (λ (w : Literal). IsMarked (slice_set marks w.var true) m.var) (sym same) (marked_now marks m.var lt))
all_marked marks (l ∷ c) m lt (suc k, e) = let n = set_size marks l.var true in all_marked (slice_set marks l.var true) c m (omega (arith, lt, n)) (k, e)

pub all_source : (marks : List Bool) (c : List Literal) (y : ℕ) → IsMarked (with_all marks c) y → IsMarked marks y ⊎ ((m : Literal) × Has c m × (m.var ≡ y))
all_source marks [] y h = inl h
all_source marks (l ∷ c) y h = go (all_source (slice_set marks l.var true) c y h)
  where
    first : (y ≡ l.var) ⊎ IsMarked marks y → IsMarked marks y ⊎ ((m : Literal) × Has (l ∷ c) m × (m.var ≡ y))
    first (inl e) = inr (l, (0, refl), sym e)
    first (inr k) = inl k

    go : IsMarked (slice_set marks l.var true) y ⊎ ((m : Literal) × Has c m × (m.var ≡ y)) → IsMarked marks y ⊎ ((m : Literal) × Has (l ∷ c) m × (m.var ≡ y))
    go (inl k) = first (marked_source marks l.var y k)
    go (inr r) = inr (r.0, (suc r.1.0, r.1.1), r.2)

-- ---- all but one

other_size : (l : Literal) (marks : List Bool) (m : Literal) → length (with_other l marks m) ≡ length marks
other_size l marks m = go (literal_eq m l) refl
  where
    go : (b : Bool) → literal_eq m l ≡ b → length (with_other l marks m) ≡ length marks
    go true e = rw e refl
    go false e = rw e (set_size marks m.var true)

other_still : (l : Literal) (marks : List Bool) (m : Literal) (y : ℕ) → IsMarked marks y → IsMarked (with_other l marks m) y
other_still l marks m y h = go (literal_eq m l) refl
  where
    go : (b : Bool) → literal_eq m l ≡ b → IsMarked (with_other l marks m) y
    go true e = rw e h
    go false e = rw e (marked_still marks m.var y h)

other_now : (l : Literal) (marks : List Bool) (m : Literal) → m.var < length marks → (m ≡ l) ⊎ IsMarked (with_other l marks m) m.var
other_now l marks m lt = go (literal_eq m l) refl
  where
    go : (b : Bool) → literal_eq m l ≡ b → (m ≡ l) ⊎ IsMarked (with_other l marks m) m.var
    go true e = inl (literal_eq_true m l e)
    go false e = inr (rw e (marked_now marks m.var lt))

other_source : (l : Literal) (marks : List Bool) (m : Literal) (y : ℕ) → IsMarked (with_other l marks m) y → IsMarked marks y ⊎ ((m.var ≡ y) × (m ≡ l → ⊥))
other_source l marks m y h = go (literal_eq m l) refl
  where
    cases : (m ≡ l → ⊥) → (y ≡ m.var) ⊎ IsMarked marks y → IsMarked marks y ⊎ ((m.var ≡ y) × (m ≡ l → ⊥))
    cases ne (inl e) = inr (sym e, ne)
    cases ne (inr k) = inl k

    go : (b : Bool) → literal_eq m l ≡ b → IsMarked marks y ⊎ ((m.var ≡ y) × (m ≡ l → ⊥))
    go true e = inl (rw e at h)
    go false e = cases (literal_eq_false m l e) (marked_source marks m.var y (rw e at h))

pub others_size : (l : Literal) (marks : List Bool) (c : List Literal) → length (with_others l marks c) ≡ length marks
others_size l marks [] = refl
others_size l marks (m ∷ c) = others_size l (with_other l marks m) c ∙ other_size l marks m

pub others_still : (l : Literal) (marks : List Bool) (c : List Literal) (y : ℕ) → IsMarked marks y → IsMarked (with_others l marks c) y
others_still l marks [] y h = h
others_still l marks (m ∷ c) y h = others_still l (with_other l marks m) c y (other_still l marks m y h)

pub others_marked : (l : Literal) (marks : List Bool) (c : List Literal) (m : Literal) → m.var < length marks → Has c m → (m ≡ l) ⊎ IsMarked (with_others l marks c) m.var
others_marked l marks [] m lt h = absurd (has_none m h)
others_marked l marks (k ∷ c) m lt (zero, e) = go (other_now l marks m lt)
  where
    same : k ≡ m
    same = cc e

    go : (m ≡ l) ⊎ IsMarked (with_other l marks m) m.var → (m ≡ l) ⊎ IsMarked (with_others l (with_other l marks k) c) m.var
    go (inl s) = inl s
    go (inr s) = inr (others_still l (with_other l marks k) c m.var (subst (λ (w : Literal). IsMarked (with_other l marks w) m.var) (sym same) s))
others_marked l marks (k ∷ c) m lt (suc i, e) = let n = other_size l marks k in others_marked l (with_other l marks k) c m (omega (arith, lt, n)) (i, e)

pub others_source : (l : Literal) (marks : List Bool) (c : List Literal) (y : ℕ) → IsMarked (with_others l marks c) y → IsMarked marks y ⊎ ((m : Literal) × Has c m × (m.var ≡ y) × (m ≡ l → ⊥))
others_source l marks [] y h = inl h
others_source l marks (k ∷ c) y h = go (others_source l (with_other l marks k) c y h)
  where
    first : IsMarked marks y ⊎ ((k.var ≡ y) × (k ≡ l → ⊥)) → IsMarked marks y ⊎ ((m : Literal) × Has (k ∷ c) m × (m.var ≡ y) × (m ≡ l → ⊥))
    first (inl s) = inl s
    first (inr s) = inr (k, (0, refl), s.0, s.1)

    go : IsMarked (with_other l marks k) y ⊎ ((m : Literal) × Has c m × (m.var ≡ y) × (m ≡ l → ⊥)) → IsMarked marks y ⊎ ((m : Literal) × Has (k ∷ c) m × (m.var ≡ y) × (m ≡ l → ⊥))
    go (inl s) = first (other_source l marks k y s)
    go (inr r) = inr (r.0, (suc r.1.0, r.1.1), r.2, r.3)
