-- The first class along a chain that declares a name.
use Rattle.std.proofs.Common.{◌≡◌, ℕ, zero, suc, ◌+◌, ◌<◌, ◌≤◌, Bool, true, false, ◌||◌, cond, List, [], ◌∷◌, length, drop, slice_index_or, Option, Some, None, is_some, Bor, refl, sym, ◌∙◌, ap, arith, add-one}
use Rattle.std.specs.List.{list_any}
use Rattle.std.specs.Option.{option_copied}
use Rattle.std.specs.Str.{bytes_eq}
use Rattle.cfj_model.specs.LookUps.{Table, chain, is_subtype, first_some}
use Rattle.cfj_model.specs.declared.class.Class.{Class}
use Rattle.class_table.specs.ByName.{seen}
use Rattle.class_table.proofs.Members.{not_true}

-- the class at a place, and those behind it
drop_here : (ks : List (Bor Class)) (i : ℕ) (k : Bor Class) → i < length ks → k ≡ slice_index_or ks i k → drop i ks ≡ k ∷ drop (i + 1) ks
drop_here ks i k lt at = go ks i lt at ∙ ap (λ n. k ∷ drop n ks) (sym (add-one i))
  where
    go : (ks : List (Bor Class)) (i : ℕ) → i < length ks → k ≡ slice_index_or ks i k → drop i ks ≡ k ∷ drop (suc i) ks
    go [] i lt at = absurd (omega arith)
    go (x ∷ ks) zero lt at = ap (λ z. z ∷ ks) (sym at)
    go (x ∷ ks) (suc i) lt at = go ks i (omega arith) at

module _ {B : Type 0} (of : Class → Option B) (ks : List (Bor Class)) (i : ℕ) where
  -- nothing is there before the place
  abbrev pub IsNearing : Type 0
  IsNearing = first_some of (seen (drop i ks)) ≡ first_some of (seen ks)

  pub nearest_here : (k : Bor Class) (o : Option (Bor B)) → IsNearing → i < length ks → k ≡ slice_index_or ks i k → option_copied o ≡ of k.now → is_some o ≡ true
      → option_copied o ≡ first_some of (seen ks)
  nearest_here k o near lt at found there = go o found there ∙ ap (λ z. first_some of (seen z)) (sym (drop_here ks i k lt at)) ∙ near
    where
      go : (o : Option (Bor B)) → option_copied o ≡ of k.now → is_some o ≡ true → option_copied o ≡ first_some of (seen (k ∷ drop (i + 1) ks))
      go None found there = absurd (not_true (sym there))
      go (Some x) found there = ap (λ o. cond (is_some o) o (first_some of (seen (drop (i + 1) ks)))) found

  pub nearest_on : (k : Bor Class) (o : Option (Bor B)) → IsNearing → i < length ks → k ≡ slice_index_or ks i k → option_copied o ≡ of k.now → is_some o ≡ false
      → first_some of (seen (drop (i + 1) ks)) ≡ first_some of (seen ks)
  nearest_on k o near lt at found none = go o found none ∙ ap (λ z. first_some of (seen z)) (sym (drop_here ks i k lt at)) ∙ near
    where
      go : (o : Option (Bor B)) → option_copied o ≡ of k.now → is_some o ≡ false → first_some of (seen (drop (i + 1) ks)) ≡ first_some of (seen (k ∷ drop (i + 1) ks))
      go None found none = ap (λ o. cond (is_some o) o (first_some of (seen (drop (i + 1) ks)))) found
      go (Some x) found none = absurd (not_true none)

  pub nearest_none : IsNearing → length ks ≤ i → None ≡ first_some of (seen ks)
  nearest_none near le = ap (λ z. first_some of (seen z)) (sym (past ks i le)) ∙ near
    where
      past : (ks : List (Bor Class)) (i : ℕ) → length ks ≤ i → drop i ks ≡ []
      past [] zero le = refl
      past [] (suc i) le = refl
      past (x ∷ ks) zero le = absurd (omega arith)
      past (x ∷ ks) (suc i) le = past ks i (omega arith)

pub any_seen : (f : Class → Bool) (ks : List (Bor Class)) → list_any (λ k. f k.now) ks ≡ list_any f (seen ks)
any_seen f [] = refl
any_seen f (k ∷ ks) = ap (λ b. f k.now || b) (any_seen f ks)

pub subtype_is : (p : Table) (c d : List ℕ) (ks : List (Bor Class)) (b : Bool) → seen ks ≡ chain p c → bytes_eq c d ≡ false
    → b ≡ list_any (λ k. bytes_eq k.now.parent d) ks → b ≡ is_subtype p c d
subtype_is p c d ks b read other is =
    is ∙ any_seen (λ k. bytes_eq k.parent d) ks ∙ ap (list_any (λ k. bytes_eq k.parent d)) read
    ∙ ap (λ r. r || list_any (λ k. bytes_eq k.parent d) (chain p c)) (sym other)
