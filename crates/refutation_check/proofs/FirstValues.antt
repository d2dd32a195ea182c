-- The values of the first variables.
use Rattle.std.proofs.Common.{◌≡◌, ℕ, zero, suc, ◌+◌, ◌-◌, ◌<◌, ◌≤◌, Bool, not, List, [], ◌∷◌, ◌++◌, length, get_or, take, set, Option, Some, None, slice_get, refl, sym, ◌∙◌, ap, arith, append_assoc}
use Rattle.std.proofs.lemmas.List.{take_more, length-take-le}
use Rattle.std.specs.Prelude.{replicate}
use Rattle.cfj_logic.specs.Selections.{Chosen, is_on, choices_from}
use Rattle.cfj_logic.specs.declared.clauses.Literal.{Literal}
use Rattle.cfj_logic.specs.UnitClauses.{value_of, with_false}
use Rattle.cfj_logic.specs.Logs.{fixed, assumed_from, assumed}

pub fixed_none : (n : ℕ) → replicate n None ≡ fixed n []
fixed_none zero = refl
fixed_none (suc n) = ap (λ w. None ∷ w) (fixed_none n)

pub fixed_length : (n : ℕ) (p : List Bool) → length (fixed n p) ≡ n
fixed_length zero p = refl
fixed_length (suc n) [] = ap suc (fixed_length n [])
fixed_length (suc n) (b ∷ p) = ap suc (fixed_length n p)

pub fixed_at : (n : ℕ) (p : List Bool) (i : ℕ) (b : Bool) → slice_get p i ≡ Some b → i < n → value_of (fixed n p) i ≡ Some b
fixed_at zero p i b is lt = absurd (omega arith)
fixed_at (suc n) [] i b is lt = absurd (let no : ⊥ = cc is in no)
fixed_at (suc n) (c ∷ p) zero b is lt = is
fixed_at (suc n) (c ∷ p) (suc i) b is lt = fixed_at n p i b is (omega arith)

pub fixed_past : (n : ℕ) (p : List Bool) (i : ℕ) → length p ≤ i → value_of (fixed n p) i ≡ None
fixed_past zero p i le = refl
fixed_past (suc n) [] zero le = refl
fixed_past (suc n) [] (suc i) le = fixed_past n [] i (omega arith)
fixed_past (suc n) (c ∷ p) zero le = absurd (omega arith)
fixed_past (suc n) (c ∷ p) (suc i) le = fixed_past n p i (omega arith)

pub fixed_set : (n : ℕ) (p : List Bool) (b : Bool) → length p < n → set (fixed n p) (length p) (Some b) ≡ fixed n (p ++ b ∷ [])
fixed_set zero p b lt = absurd (omega arith)
fixed_set (suc n) [] b lt = refl
fixed_set (suc n) (c ∷ p) b lt = ap (λ w. Some c ∷ w) (fixed_set n p b (omega arith))

pub fixed_step : (n : ℕ) (p : List Bool) (i : ℕ) (d : Bool) → i < length p → length p ≤ n → set (fixed n (take i p)) i (Some (get_or p i d)) ≡ fixed n (take (i + 1) p)
fixed_step n p i d lt le =
    let l : length (take i p) ≡ i = length-take-le i p (omega arith) in
    ap (λ k. set (fixed n (take i p)) k (Some (get_or p i d))) (sym l) ∙ fixed_set n (take i p) (get_or p i d) (omega arith) ∙ ap (fixed n) (sym (take_more p i d lt))

-- ---- choices

choices_step : (s : Chosen) (n f : ℕ) → f < n → choices_from s (n - f) f ≡ is_on s f ∷ choices_from s (n - (f + 1)) (f + 1)
choices_step s n f lt = let e : n - f ≡ suc (n - (f + 1)) = omega arith in ap (λ k. choices_from s k f) e

pub choices_more : (s : Chosen) (n f : ℕ) (xs ys all : List Bool) (b : Bool) → f < n → ys ≡ xs ++ b ∷ [] → b ≡ is_on s f → xs ++ choices_from s (n - f) f ≡ all → ys ++ choices_from s (n - (f + 1)) (f + 1) ≡ all
choices_more s n f xs ys all b lt is same so_far =
    ap (λ w. w ++ choices_from s (n - (f + 1)) (f + 1)) (is ∙ ap (λ d. xs ++ d ∷ []) same)
    ∙ append_assoc xs (is_on s f ∷ []) (choices_from s (n - (f + 1)) (f + 1))
    ∙ ap (λ w. xs ++ w) (sym (choices_step s n f lt)) ∙ so_far

pub choices_from_length : (s : Chosen) (n f : ℕ) → length (choices_from s n f) ≡ n
choices_from_length s zero f = refl
choices_from_length s (suc n) f = ap suc (choices_from_length s n (f + 1))

pub choices_from_at : (s : Chosen) (n f i : ℕ) → i < n → slice_get (choices_from s n f) i ≡ Some (is_on s (f + i))
choices_from_at s zero f i lt = absurd (omega arith)
choices_from_at s (suc n) f zero lt = let e : f ≡ f + 0 = omega arith in ap (λ k. Some (is_on s k)) e
choices_from_at s (suc n) f (suc i) lt =
    let e : f + 1 + i ≡ f + suc i = omega arith in
    choices_from_at s n (f + 1) i (omega arith) ∙ ap (λ k. Some (is_on s k)) e

-- ---- assumptions

pub set_length : (vs : List (Option Bool)) (x : ℕ) (v : Option Bool) → length (set vs x v) ≡ length vs
set_length [] x v = refl
set_length (w ∷ vs) zero v = refl
set_length (w ∷ vs) (suc x) v = ap suc (set_length vs x v)

assumed_from_length : (vs : List (Option Bool)) (c : List Literal) → length (assumed_from vs c) ≡ length vs
assumed_from_length vs [] = refl
assumed_from_length vs (l ∷ c) = assumed_from_length (with_false vs l) c ∙ set_length vs l.var (Some (not l.on))

pub assumed_length : (n : ℕ) (c : List Literal) → length (assumed n c) ≡ n
assumed_length n c = assumed_from_length (replicate n None) c ∙ ap length (fixed_none n) ∙ fixed_length n []
