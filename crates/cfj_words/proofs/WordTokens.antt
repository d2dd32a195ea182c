-- A word that isn't reserved is none of the grammar's words.
use Rattle.std.proofs.Common.{◌≡◌, ℕ, Bool, true, false, if◌then◌else◌, codes, List, refl, sym, ap, ◌∙◌, true≢false}
use Rattle.std.specs.Str.{bytes_eq}
use Rattle.std.proofs.lemmas.Slice.Eq.{bytes_eq-Decides}
use Rattle.cfj_words.specs.Names.{is_reserved}
use Rattle.cfj_words.specs.Tokens.{Id, word_token}

other_word : (w keyword : List ℕ) → is_reserved keyword ≡ true → is_reserved w ≡ false → bytes_eq w keyword ≡ false
other_word w keyword is free = go (bytes_eq w keyword) refl
  where
    go : (b : Bool) → bytes_eq w keyword ≡ b → bytes_eq w keyword ≡ false
    go false e = e
    go true e = absurd (true≢false (sym is ∙ ap is_reserved (sym ((bytes_eq-Decides w keyword).0 e)) ∙ free))

else_of : {A : Type 0} (b : Bool) (x y z : A) → b ≡ false → y ≡ z → (if b then x else y) ≡ z
else_of true x y z h e = absurd (true≢false h)
else_of false x y z h e = e

-- its token is an identifier
pub identifier_is : (w : List ℕ) → is_reserved w ≡ false → word_token w ≡ Id w
unfolding word_token is_reserved
identifier_is w free =
    else_of _ _ _ _ (other_word w (codes "class") refl free)
    (else_of _ _ _ _ (other_word w (codes "extends") refl free)
    (else_of _ _ _ _ (other_word w (codes "super") refl free)
    (else_of _ _ _ _ (other_word w (codes "this") refl free)
    (else_of _ _ _ _ (other_word w (codes "new") refl free)
    (else_of _ _ _ _ (other_word w (codes "return") refl free)
    (else_of _ _ _ _ (other_word w (codes "true") refl free)
    (else_of _ _ _ _ (other_word w (codes "false") refl free)
    (else_of _ _ _ _ free refl))))))))
