-- What a look-up of a name by its place tells.
use Rattle.std.proofs.Common.{◌≡◌, refl, sym, ap, ◌∙◌, ℕ, Bool, true, false, cond, nat_lt, List, length, slice_get, slice_index_or, Some, None, position, arith}
use Rattle.std.specs.List.{position_or_len}
use Rattle.std.specs.Str.{bytes_eq}
use Rattle.std.proofs.lemmas.Bool.{ltb-false}
use Rattle.std.proofs.lemmas.List.Folds.{list_any_none}
use Rattle.std.proofs.lemmas.List.Quantifiers.{position-Some}
use Rattle.std.proofs.lemmas.List.Sums.{fails_before_first}
use Rattle.std.proofs.lemmas.Option.{slice_get_read}
use Rattle.std.proofs.lemmas.Slice.Eq.{bytes_eq-Decides}
use Rattle.cfj_words.specs.Names.{is_among}

pub name_at : (features : List (List ℕ)) (name : List ℕ) (place : ℕ) → position (λ f. bytes_eq f name) features ≡ Some place → slice_get features place ≡ Some name
name_at features name place e =
    let found = position-Some (λ f. bytes_eq f name) features place name e in
    slice_get_read features (length features) place name refl found.0 (sym ((bytes_eq-Decides (slice_index_or features place name) name).0 found.1))

pub name_nowhere : (features : List (List ℕ)) (name : List ℕ) → position (λ f. bytes_eq f name) features ≡ None → is_among features name ≡ false
name_nowhere features name e = go (nat_lt place (length features)) refl
  where
    place : ℕ
    place = position_or_len (λ f. bytes_eq f name) features

    go : (b : Bool) → nat_lt place (length features) ≡ b → is_among features name ≡ false
    go true within =
        let found : Some place ≡ None = ap (λ b. cond b (Some place) None) (sym within) ∙ e in
        absurd (let no : ⊥ = cc found in no)
    go false past =
        let le = ltb-false place (length features) past in
        list_any_none (λ f. bytes_eq f name) features (λ k d lt. fails_before_first (λ f. bytes_eq f name) features k d (omega arith))
