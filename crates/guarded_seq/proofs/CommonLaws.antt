-- A common front or back by one item more.
use Rattle.std.proofs.Common.{◌≡◌, ℕ, ◌+◌, ◌-◌, ◌<◌, Bool, true, ◌&&◌, List, ◌∷◌, length, take, drop, get_or, Some, slice_get, sym, ◌∙◌, ap, ap₂, arith, suc}
use Rattle.std.proofs.Math.Numerals.{suc-eq-add-one}
use Rattle.std.proofs.Math.Seq.{drop-cons, drop-length}
use Rattle.std.proofs.lemmas.Option.{slice_get-get_or}
use Rattle.std.specs.Cmp.Lexicographic.{pointwise}
use Rattle.guarded_seq.proofs.SequenceLaws.{take_snoc, pointwise_snoc}

-- an item that was read
pub read_item : {T : Type 0} (xs : List T) (i : ℕ) (x : T) → i < length xs → x ≡ get_or xs i x → slice_get xs i ≡ Some x
read_item xs i x below is = slice_get-get_or xs i x below ∙ ap Some (sym is)

module _ {T : Type 0} (E : T → T → Bool) (xs ys : List T) where
  pub front_more : (i : ℕ) (x y : T) → i < length xs → i < length ys → x ≡ get_or xs i x → y ≡ get_or ys i y → E x y ≡ true → pointwise E (take i xs) (take i ys) ≡ true → pointwise E (take (i + 1) xs) (take (i + 1) ys) ≡ true
  front_more i x y in_xs in_ys is_x is_y same so_far =
      ap₂ (pointwise E) (ap (λ n. take n xs) (sym (suc-eq-add-one i)) ∙ take_snoc xs i x (read_item xs i x in_xs is_x)) (ap (λ n. take n ys) (sym (suc-eq-add-one i)) ∙ take_snoc ys i y (read_item ys i y in_ys is_y))
      ∙ pointwise_snoc E (take i xs) (take i ys) x y
      ∙ ap₂ (λ a b. a && b) so_far same

  pub back_none : pointwise E (drop (length xs - 0) xs) (drop (length ys - 0) ys) ≡ true
  back_none =
      let n : length xs - 0 ≡ length xs = omega arith in
      let m : length ys - 0 ≡ length ys = omega arith in
      ap₂ (pointwise E) (ap (λ k. drop k xs) n ∙ drop-length xs) (ap (λ k. drop k ys) m ∙ drop-length ys)

  -- the items that stand so many places before the ends
  pub back_more : (i : ℕ) (x y : T) → i < length xs → i < length ys → x ≡ get_or xs (length xs - 1 - i) x → y ≡ get_or ys (length ys - 1 - i) y → E x y ≡ true →
      pointwise E (drop (length xs - i) xs) (drop (length ys - i) ys) ≡ true → pointwise E (drop (length xs - (i + 1)) xs) (drop (length ys - (i + 1)) ys) ≡ true
  back_more i x y in_xs in_ys is_x is_y same so_far = ap₂ (pointwise E) (longer xs x in_xs is_x) (longer ys y in_ys is_y) ∙ ap₂ (λ a b. a && b) same so_far
    where
      longer : (zs : List T) (z : T) → i < length zs → z ≡ get_or zs (length zs - 1 - i) z → drop (length zs - (i + 1)) zs ≡ z ∷ drop (length zs - i) zs
      longer zs z inside is =
          let here : length zs - (i + 1) ≡ length zs - 1 - i = omega arith in
          let after : suc (length zs - 1 - i) ≡ length zs - i = omega (arith, suc-eq-add-one (length zs - 1 - i)) in
          ap (λ k. drop k zs) here ∙ drop-cons zs (length zs - 1 - i) z (omega (arith, inside)) ∙ ap₂ (λ v w. v ∷ w) (sym is) (ap (λ k. drop k zs) after)
