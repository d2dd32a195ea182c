-- A reserved word is looked for among those that begin as it does.
use Rattle.std.proofs.Common.{◌≡◌, ℕ, ◌==◌, Bool, true, false, List, [], ◌∷◌, ap, ◌∙◌}
use Rattle.std.specs.List.{filter, list_any}
use Rattle.std.specs.Str.{bytes_eq}
use Rattle.std.proofs.lemmas.Bool.{eq-eqb}
use Rattle.std.proofs.lemmas.Map.Views.{any-filter_same}
use Rattle.std.proofs.lemmas.Slice.Eq.{bytes_eq-Decides}
use Rattle.cfj_words.specs.Names.{first_byte, reserved_words, is_among, is_reserved}

abbrev begins : ℕ → List ℕ → Bool
begins c word = first_byte word == c

pub among_those : (c : ℕ) (text : List ℕ) → first_byte text ≡ c → is_among (filter (begins c) reserved_words) text ≡ is_reserved text
unfolding is_reserved
among_those c text e =
    any-filter_same (λ word. bytes_eq word text) (begins c) true (λ word t. eq-eqb (first_byte word) c (ap first_byte ((bytes_eq-Decides word text).0 t) ∙ e)) reserved_words

-- whether a reserved word begins with this byte
abbrev pub begins_word : ℕ → Bool
begins_word c = list_any (λ k. c == k) (95 ∷ (97 ∷ (98 ∷ (99 ∷ (100 ∷ (101 ∷ (102 ∷ (103 ∷ (105 ∷ (108 ∷ (110 ∷ (112 ∷ (114 ∷ (115 ∷ (116 ∷ (118 ∷ (119 ∷ [])))))))))))))))))

pub of_no_byte : (text : List ℕ) → begins_word (first_byte text) ≡ false → is_reserved text ≡ false
unfolding is_reserved
of_no_byte text e =
    any-filter_same (λ word. bytes_eq word text) (λ word. begins_word (first_byte word)) false
    (λ word t. ap (λ w. begins_word (first_byte w)) ((bytes_eq-Decides word text).0 t) ∙ e) reserved_words
