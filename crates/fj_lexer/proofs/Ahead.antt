-- an ASCII byte is a character of its own
use Rattle.std.proofs.Common.{◌≡◌, ℕ, ◌+◌, ◌<◌, ◌≤◌, ◌||◌, ◌==◌, true, false, List, [], ◌∷◌, ◌++◌, length, drop, get_or, refl, sym, ap, subst, ◌∙◌, arith}
use Rattle.std.specs.Char.{is_ascii_alphanumeric}
use Rattle.std.specs.Prelude.{encode_utf8}
use Rattle.std.specs.Str.{chars, IsUtf8}
use Rattle.std.proofs.lemmas.List.{drop_more, at_drop_all}
use Rattle.std.proofs.lemmas.Str.{chars-nil, chars_past_char, IsUtf8-past_char, encode_ascii}
use Rattle.cfj_words.specs.Characters.{IsSplit}
use Rattle.cfj_words.specs.Lexemes.{word_rest}
use Rattle.cfj_words.proofs.AsciiWords.{continues_ascii}

-- this character stands at this place, and the next one a byte further
pub record IsStep (text : List ℕ) (at c : ℕ) : Type 0 where
  pub within : at + 1 ≤ length text
  pub characters : chars (drop at text) ≡ c ∷ chars (drop (at + 1) text)
  pub utf8 : IsUtf8 (drop (at + 1) text)

step_in : (text : List ℕ) (at : ℕ) → at < length text → IsUtf8 (drop at text) → get_or text at 0 < 128 → IsStep text at (get_or text at 0)
step_in text at within u ascii =
    let split : drop at text ≡ encode_utf8 (get_or text at 0) ++ drop (at + 1) text =
    drop_more text at 0 within ∙ ap (λ c. c ++ drop (at + 1) text) (sym (encode_ascii (get_or text at 0) ascii)) in
    record {
      within = omega arith;
      characters = chars_past_char (drop at text) (drop (at + 1) text) (get_or text at 0) u split;
      utf8 = IsUtf8-past_char (drop at text) (drop (at + 1) text) (get_or text at 0) u split;
    }

pub step : (text bytes : List ℕ) (at : ℕ) → bytes ≡ text → at < length bytes → IsUtf8 (drop at text) → get_or bytes at 0 < 128 → IsStep text at (get_or bytes at 0)
step text bytes at same =
    subst (λ bs. at < length bs → IsUtf8 (drop at text) → get_or bs at 0 < 128 → IsStep text at (get_or bs at 0)) (sym same) (step_in text at)

pub word_step : (text : List ℕ) (at c : ℕ) → IsStep text at c → c < 128 → (is_ascii_alphanumeric c || c == 95 || c == 36) ≡ true
    → word_rest (chars (drop at text)) ≡ word_rest (chars (drop (at + 1) text))
unfolding word_rest
word_step text at c s ascii word = rw (s.characters, continues_ascii c ascii, word) refl

pub word_end : (text : List ℕ) (at c : ℕ) → IsStep text at c → c < 128 → (is_ascii_alphanumeric c || c == 95 || c == 36) ≡ false
    → word_rest (chars (drop at text)) ≡ chars (drop at text)
unfolding word_rest
word_end text at c s ascii word = rw (s.characters, continues_ascii c ascii, word) refl

pub word_none : (text bytes : List ℕ) (at : ℕ) → bytes ≡ text → length bytes ≤ at → word_rest (chars (drop at text)) ≡ []
unfolding word_rest
word_none text bytes at same past = at_drop_all (λ bs. word_rest (chars bs)) text at (subst (λ bs. length bs ≤ at) same past) ∙ ap word_rest chars-nil

pub split : (text bytes : List ℕ) → bytes ≡ text → IsUtf8 text → 0 < length bytes → get_or bytes 0 0 < 128 → IsSplit text (get_or bytes 0 0) (drop 1 text)
split text bytes same u some ascii =
    let byte = get_or bytes 0 0 in
    let s : IsStep text 0 byte = step text bytes 0 same some u ascii in
    let parts : text ≡ byte ∷ drop 1 text = subst (λ bs. text ≡ get_or bs 0 0 ∷ drop 1 text) (sym same) (drop_more text 0 0 (subst (λ bs. 0 < length bs) same some)) in
    record {
      bytes = parts ∙ ap (λ c. c ++ drop 1 text) (sym (encode_ascii byte ascii));
      characters = s.characters;
      shorter = let sizes = ap length parts in omega arith;
      utf8 = s.utf8;
    }
