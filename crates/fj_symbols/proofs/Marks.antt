-- A punctuation text is of one byte, or an arrow.
use Rattle.std.proofs.Common.{arith, ◌≡◌, ℕ, ◌==◌, Bool, true, false, if◌then◌else◌, codes, List, [], ◌∷◌, length, slice_index, refl, sym, ap, ◌∙◌, true≢false}
use Rattle.std.specs.Str.{bytes_eq}
use Rattle.std.proofs.lemmas.Slice.Eq.{bytes_eq-Decides}
use Rattle.cfj_words.specs.Tokens.{mark_token}
use Rattle.fj_symbols.specs.Views.{arrow_token}

other_mark : (m mark : List ℕ) → (length mark == 1) ≡ true → (length m == 1) ≡ false → bytes_eq m mark ≡ false
other_mark m mark one long = go (bytes_eq m mark) refl
  where
    go : (b : Bool) → bytes_eq m mark ≡ b → bytes_eq m mark ≡ false
    go false e = e
    go true e = absurd (true≢false (sym one ∙ ap (λ n. length n == 1) (sym ((bytes_eq-Decides m mark).0 e)) ∙ long))

else_of : {A : Type 0} (b : Bool) (x y z : A) → b ≡ false → y ≡ z → (if b then x else y) ≡ z
else_of true x y z h e = absurd (true≢false h)
else_of false x y z h e = e

pub arrow : (m : List ℕ) → (length m == 1) ≡ false → mark_token m ≡ arrow_token m
unfolding mark_token
arrow m long =
    else_of _ _ _ _ (other_mark m (codes "{") refl long)
    (else_of _ _ _ _ (other_mark m (codes "}") refl long)
    (else_of _ _ _ _ (other_mark m (codes "(") refl long)
    (else_of _ _ _ _ (other_mark m (codes ")") refl long)
    (else_of _ _ _ _ (other_mark m (codes ";") refl long)
    (else_of _ _ _ _ (other_mark m (codes ",") refl long)
    (else_of _ _ _ _ (other_mark m (codes ".") refl long)
    (else_of _ _ _ _ (other_mark m (codes "=") refl long)
    (else_of _ _ _ _ (other_mark m (codes "@") refl long)
    (else_of _ _ _ _ (other_mark m (codes "!") refl long)
    (else_of _ _ _ _ (other_mark m (codes "&") refl long)
    (else_of _ _ _ _ (other_mark m (codes "|") refl long)
    refl)))))))))))

-- a text of one byte
pub single : (m : List ℕ) → length m ≡ 1 → m ≡ slice_index m 0 ∷ []
single [] e = absurd (omega (arith, e))
single (c ∷ []) e = refl
single (c ∷ (d ∷ ds)) e = absurd (omega (arith, e))
