-- ends of texts and their places
use Rattle.std.proofs.Common.{◌≡◌, ℕ, ◌+◌, ◌-◌, List, ◌++◌, length, take, drop, sym, ap, ◌∙◌, arith, append_assoc, length-append}
use Rattle.std.specs.Prelude.{encode_utf8_all}
use Rattle.std.specs.List.{slice_range}
use Rattle.std.specs.Str.{chars, IsUtf8}
use Rattle.std.proofs.lemmas.List.{take-append-drop, take_at, drop_at}
use Rattle.std.proofs.lemmas.Str.{encodes-chars, encodes-append}
use Rattle.cfj_words.specs.Tokens.{place_of}
use Rattle.fj_lexer.specs.Ends.{IsEndOf}

pub seam : (text front rest : List ℕ) → text ≡ front ++ rest → IsEndOf rest text
seam text front rest e =
    let sizes : length text ≡ length front + length rest = ap length e ∙ length-append front rest in
    record {
      within = omega arith;
      last = ap (λ t. drop (length text - length rest) t) e ∙ drop_at front rest (length text - length rest) (omega arith);
    }

-- a text is what stands before an end of it, and that end
pub parts : (text rest : List ℕ) → IsEndOf rest text → text ≡ take (length text - length rest) text ++ rest
parts text rest e =
    sym (take-append-drop (length text - length rest) text) ∙ ap (λ r. take (length text - length rest) text ++ r) e.last

pub end_of_end : (text middle rest : List ℕ) → IsEndOf middle text → IsEndOf rest middle → IsEndOf rest text
end_of_end text middle rest outer inner =
    let before : List ℕ = take (length text - length middle) text in
    let within : List ℕ = take (length middle - length rest) middle in
    seam text (before ++ within) rest (parts text middle outer ∙ (ap (λ r. before ++ r) (parts middle rest inner) ∙ sym (append_assoc before within rest)))

-- the bytes of a text whose characters are known up to an end of it
pub bytes : (text front rest : List ℕ) → IsUtf8 text → IsUtf8 rest → chars text ≡ front ++ chars rest → text ≡ encode_utf8_all front ++ rest
bytes text front rest whole end e =
    sym (encodes-chars text whole) ∙ (ap encode_utf8_all e ∙ (encodes-append front (chars rest) ∙ ap (λ r. encode_utf8_all front ++ r) (encodes-chars rest end)))

pub place : (text from : List ℕ) → IsUtf8 from → length text - length from ≡ place_of text (chars from)
place text from u = ap (λ b. length text - length b) (sym (encodes-chars from u))

-- what stands at the place of an end
pub slice : (text from part rest : List ℕ) → IsEndOf from text → from ≡ part ++ rest
    → slice_range text (length text - length from) (length text - length from + length part) ≡ part
slice text from part rest end e =
    let at : ℕ = length text - length from in
    let size : at + length part - at ≡ length part = omega arith in
    ap (λ t. take (at + length part - at) t) (end.last ∙ e) ∙ take_at part rest (at + length part - at) (sym size)
