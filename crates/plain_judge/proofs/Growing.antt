-- Lists that grow item by item.
use Rattle.std.proofs.Common.{◌≡◌, ℕ, zero, suc, ◌+◌, ◌≤◌, List, [], ◌∷◌, ◌++◌, length, drop, slice_get, Some, append-nil, sym, ◌∙◌, ap, add-one, arith}
use Rattle.std.specs.Prelude.{Result, Ok, Err, OnOk}
use Rattle.std.specs.List.{flat_map}
use Rattle.std.proofs.Math.Seq.{drop-nil}
use Rattle.std.proofs.lemmas.List.{append_assoc}

pub drop_get : {A : Type 0} (xs : List A) (i : ℕ) (x : A) → slice_get xs i ≡ Some x → drop i xs ≡ x ∷ drop (i + 1) xs
drop_get {A = A} xs i x at = go xs i at ∙ ap (λ n. x ∷ drop n xs) (sym (add-one i))
  where
    go : (xs : List A) (i : ℕ) → slice_get xs i ≡ Some x → drop i xs ≡ x ∷ drop (suc i) xs
    go [] i at = absurd (cc at)
    go (y ∷ ys) zero at = let same : y ≡ x = cc at in ap (λ z. z ∷ ys) same
    go (y ∷ ys) (suc i) at = go ys i at

drop_past : {A : Type 0} (xs : List A) (i : ℕ) → length xs ≤ i → drop i xs ≡ []
drop_past [] i le = drop-nil i
drop_past (x ∷ xs) zero le = absurd (omega arith)
drop_past (x ∷ xs) (suc i) le = drop_past xs i (omega arith)

module _ {A B : Type 0} (of : A → List B) (xs : List A) (i : ℕ) (a b : List B) where
  -- with what the items from the place on give, all is there
  abbrev pub IsGrownUpTo : Type 0
  IsGrownUpTo = b ++ flat_map of (drop i xs) ≡ a ++ flat_map of xs

  pub grown_more : (x : A) (c : List B) → IsGrownUpTo → drop i xs ≡ x ∷ drop (i + 1) xs → c ≡ b ++ of x → c ++ flat_map of (drop (i + 1) xs) ≡ a ++ flat_map of xs
  grown_more x c so_far at grows =
      ap (λ z. z ++ flat_map of (drop (i + 1) xs)) grows ∙ append_assoc b (of x) (flat_map of (drop (i + 1) xs)) ∙ ap (λ z. b ++ flat_map of z) (sym at) ∙ so_far

  pub grown_all : IsGrownUpTo → length xs ≤ i → b ≡ a ++ flat_map of xs
  grown_all so_far le = sym (append-nil b) ∙ ap (λ z. b ++ flat_map of z) (sym (drop_past xs i le)) ∙ so_far

-- what is added in two or three steps, where there is memory for the last
pub two_added : {B X E : Type 0} (r : Result X E) (a b c ps qs all : List B) → b ≡ a ++ ps → all ≡ ps ++ qs → OnOk r (c ≡ b ++ qs) → OnOk r (c ≡ a ++ all)
two_added (Ok x) a b c ps qs all first is then = then ∙ ap (λ z. z ++ qs) first ∙ append_assoc a ps qs ∙ ap (λ z. a ++ z) (sym is)
two_added (Err e) a b c ps qs all first is then = tt

pub three_added : {B X E : Type 0} (r : Result X E) (a b c d ps qs rs all : List B) → b ≡ a ++ ps → c ≡ b ++ qs → all ≡ ps ++ (qs ++ rs) → OnOk r (d ≡ c ++ rs) → OnOk r (d ≡ a ++ all)
three_added r a b c d ps qs rs all first second is then =
    two_added r a c d (ps ++ qs) rs all (second ∙ ap (λ z. z ++ qs) first ∙ append_assoc a ps qs) (is ∙ sym (append_assoc ps qs rs)) then
