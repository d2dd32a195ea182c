-- a text with no ASCII character in front
use Rattle.std.proofs.Common.{◌≡◌, ℕ, ◌<◌, Bool, true, false, nat_lt, List, [], ◌∷◌, length, get_or, refl, sym, ap, subst, ◌∙◌, arith}
use Rattle.std.specs.Prelude.{encode_utf8_all}
use Rattle.std.specs.Str.{chars, IsUtf8}
use Rattle.std.proofs.lemmas.Bool.{ltb-true}
use Rattle.std.proofs.lemmas.Str.{chars-nil, chars-encodes, byte_from_char}
use Rattle.fj_lexer.specs.Pieces.{begins_ascii}

not_ascii : (b : Bool) → (b ≡ true → ⊥) → b ≡ false
not_ascii true never = absurd (never refl)
not_ascii false never = refl

decoded : (cs : List ℕ) → (get_or (encode_utf8_all cs) 0 0 < 128 → ⊥) → begins_ascii cs ≡ false
decoded [] wide = refl
decoded (c ∷ cs) wide = not_ascii (nat_lt c 128) (λ t.
    let ascii = ltb-true c 128 t in
    wide (subst (λ b. b < 128) (sym (byte_from_char (encode_utf8_all (c ∷ cs)) (encode_utf8_all cs) c refl ascii)) ascii))

pub begins : (text : List ℕ) → IsUtf8 text → (get_or text 0 0 < 128 → ⊥) → begins_ascii (chars text) ≡ false
begins text (cs, (good, spelled)) wide =
    ap begins_ascii (ap chars (sym spelled) ∙ chars-encodes cs good)
    ∙ decoded cs (subst (λ bs. get_or bs 0 0 < 128 → ⊥) (sym spelled) wide)

none : (bs : List ℕ) → length bs ≡ 0 → begins_ascii (chars bs) ≡ false
none [] e = ap begins_ascii chars-nil
none (b ∷ bs) e = absurd (omega arith)

pub empty : (text bytes : List ℕ) → bytes ≡ text → length bytes ≡ 0 → begins_ascii (chars text) ≡ false
empty text bytes same e = none text (ap length (sym same) ∙ e)
