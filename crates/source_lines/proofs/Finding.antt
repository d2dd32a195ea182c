-- The first line of what is left.
use Rattle.std.proofs.Common.{◌≡◌, ℕ, zero, suc, ◌+◌, ◌<◌, ◌≤◌, List, [], ◌∷◌, ◌++◌, length, get_or, take, drop, Bool, true, false, ◌||◌, ◌==◌, Some, None, inl, inr, refl, sym, ap, ap₂, ◌∙◌, subst, arith, append_assoc, length-append, drop-cons}
use Rattle.std.proofs.Math.Seq.{take-add, take_all, take-append_seam}
use Rattle.std.proofs.lemmas.Bool.{eqb-true}
use Rattle.std.proofs.lemmas.List.{take-append-drop, length-take, length-drop, nil_from_length, get_or-drop}
use Rattle.std.proofs.lemmas.List.Folds.{list_any-append}
use Rattle.cide_io.proofs.Pieces.{preceded-nil, preceded-preceded}
use Rattle.cide_io.specs.Known.{Known, preceded, IsAtEnd}
use Rattle.memchr.specs.Find.{Nowhere, NoneBefore, Passes, is_byte}
use Rattle.source_lines.specs.Buffers.{IsFound, IsNewline}
use Rattle.source_lines.specs.LineReads.{has_newline, IsNextLine, IsLong}
use Rattle.source_lines.specs.declared.reads.Found.TheVariants.{Line}

-- ---- newlines

both : (xs ys : List ℕ) → has_newline xs ≡ false → has_newline ys ≡ false → has_newline (xs ++ ys) ≡ false
both xs ys p q = list_any-append (λ byte. byte == 10) xs ys ∙ ap₂ (λ (a b : Bool). a || b) p q

is_false : (b : Bool) → (b ≡ true → ⊥) → b ≡ false
is_false true h = absurd (h refl)
is_false false h = refl

none_before : (xs : List ℕ) (k : ℕ) → ((i : ℕ) → i < k → i < length xs → Passes (is_byte 10) xs i → ⊥) → has_newline (take k xs) ≡ false
none_before [] zero h = refl
none_before [] (suc k) h = refl
none_before (x ∷ xs) zero h = refl
none_before (x ∷ xs) (suc k) h =
    ap₂ (λ (a b : Bool). a || b) (is_false (x == 10) (h 0 (omega arith) (omega arith))) (none_before xs k (λ i below within is. h (suc i) (omega arith) (omega arith) is))

pub found_newline : (bytes hay : List ℕ) (seen at : ℕ) → hay ≡ drop seen bytes → seen ≤ length bytes → has_newline (take seen bytes) ≡ false
    → NoneBefore (Passes (is_byte 10) hay) 0 (length hay) at → Passes (is_byte 10) hay at → IsNewline bytes (Some (seen + at))
found_newline bytes hay seen at e s none first is =
    let end = seen + at in
    let size = ap length e in
    let within : end < length bytes = omega (arith, first.high, length-drop seen bytes) in
    let front : has_newline (take at (drop seen bytes)) ≡ false =
    ap (λ h. has_newline (take at h)) (sym e) ∙ none_before hay at (λ i below within p. first.before i (omega arith) below p) in
    let byte : get_or bytes end 0 ≡ 10 = sym (ap (λ h. get_or h at 0) e ∙ get_or-drop seen bytes at 0) ∙ eqb-true _ _ is in
    let next : suc end ≡ end + 1 = omega arith in (
      within,
      ap has_newline (take-add seen at bytes) ∙ both (take seen bytes) (take at (drop seen bytes)) none front,
      sym (take-append-drop end bytes) ∙ ap (λ r. take end bytes ++ r) (drop-cons bytes end 0 within ∙ ap₂ (λ (b n : ℕ). b ∷ drop n bytes) byte next),
    )

pub found_none : (bytes hay : List ℕ) (seen : ℕ) → hay ≡ drop seen bytes → has_newline (take seen bytes) ≡ false → Nowhere (Passes (is_byte 10) hay) 0 (length hay) → IsNewline bytes None
found_none bytes hay seen e none nowhere =
    let rest : has_newline (drop seen bytes) ≡ false =
    ap has_newline (sym e ∙ sym (take_all (length hay) hay (omega arith))) ∙ none_before hay (length hay) (λ i below within p. nowhere i (omega arith) below p) in
    ap has_newline (sym (take-append-drop seen bytes)) ∙ both (take seen bytes) (drop seen bytes) none rest

-- What stood before more bytes is still their front.
pub none_seen : (old new more : List ℕ) (seen : ℕ) → seen ≡ length old → new ≡ old ++ more → has_newline old ≡ false → has_newline (take seen new) ≡ false
none_seen old new more seen s e none = ap has_newline (ap (take seen) e ∙ ap (λ n. take n (old ++ more)) s ∙ take-append_seam old more) ∙ none

-- ---- lines

pub next_line : (all after : Known) (bytes : List ℕ) (end : ℕ) → all ≡ preceded bytes after → IsNewline bytes (Some end) → IsNextLine all (take end bytes) (preceded (drop (end + 1) bytes) after)
next_line all after bytes end e h =
    let line = take end bytes in
    let rest = drop (end + 1) bytes in
    (h.1, inl (e ∙ ap (λ b. preceded b after) (h.2 ∙ sym (append_assoc line (10 ∷ []) rest)) ∙ sym (preceded-preceded (line ++ 10 ∷ []) rest after)))

pub long_line : (all after : Known) (bytes : List ℕ) (end limit : ℕ) → all ≡ preceded bytes after → IsNewline bytes (Some end) → limit < end → IsLong all limit
long_line all after bytes end limit e h long = (
  take end bytes,
  preceded (drop end bytes) after,
  e ∙ ap (λ b. preceded b after) (sym (take-append-drop end bytes)) ∙ sym (preceded-preceded (take end bytes) (drop end bytes) after),
  h.1,
  omega (arith, length-take end bytes, h.0),
)

-- the rest without a newline, once nothing came behind it
pub last_line : (all before after : Known) (old new more : List ℕ) (limit seen : ℕ) → all ≡ preceded old before → seen ≡ length old → new ≡ old ++ more → length more ≡ 0 → before ≡ preceded more after
    → IsAtEnd before → has_newline old ≡ false → 0 < seen → seen ≤ limit → IsFound all limit new after (Line seen seen)
last_line all before after old new more limit seen e s n z b ends none some within =
    let nothing : more ≡ [] = nil_from_length more z in
    let size : length new ≡ seen = ap length (n ∙ ap (λ m. old ++ m) nothing) ∙ omega (arith, length-append old []) in
    let whole : take seen new ≡ old = ap (take seen) n ∙ ap (λ k. take k (old ++ more)) s ∙ take-append_seam old more in
    let past : drop seen new ≡ [] = nil_from_length (drop seen new) (omega (arith, length-drop seen new)) in
    let later : before ≡ preceded (drop seen new) after = b ∙ ap (λ m. preceded m after) (nothing ∙ sym past) in (
      omega arith,
      omega arith,
      within,
      (
        ap has_newline whole ∙ none,
        inr (
          e ∙ ap₂ preceded (sym whole) later,
          subst IsAtEnd later ends,
          omega (arith, ap length whole),
        ),
      ),
    )

pub at_end : (all before : Known) (old : List ℕ) → all ≡ preceded old before → length old ≡ 0 → IsAtEnd before → IsAtEnd all
at_end all before old e z h = subst IsAtEnd (sym (e ∙ ap (λ o. preceded o before) (nil_from_length old z) ∙ preceded-nil before)) h

pub same_in_all : (all before after : Known) (old new more : List ℕ) → all ≡ preceded old before → new ≡ old ++ more → before ≡ preceded more after → all ≡ preceded new after
same_in_all all before after old new more e n b = e ∙ ap (preceded old) b ∙ preceded-preceded old more after ∙ ap (λ bytes. preceded bytes after) (sym n)
