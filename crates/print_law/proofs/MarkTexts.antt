-- The printed marks of a node give its marks' tokens, and they are within the limits.
use Rattle.std.proofs.Common.{◌≡◌, ℕ, ◌+◌, Bool, true, false, ◌||◌, codes, List, [], ◌∷◌, ◌++◌, length, None, refl, sym, ap, ◌∙◌, true≢false}
use Rattle.std.proofs.Math.Bool.{or-false}
use Rattle.std.specs.List.{list_all, enumerate_from}
use Rattle.std.specs.Str.{bytes_eq}
use Rattle.std.proofs.lemmas.Bool.{and_parts, or_parts}
use Rattle.std.proofs.lemmas.List.Folds.{list_any-append}
use Rattle.cfj_words.specs.Names.{is_among, is_short_identifier}
use Rattle.cfj_logic.specs.Selections.{has_bit}
use Rattle.cfj_logic.specs.Sides.{Sides}
use Rattle.cfj_model.specs.declared.feature_model.Format.{Format}
use Rattle.cfj_model.specs.Coloring.{is_two, Palette, are_known}
use Rattle.cfj_model.specs.Marks.{spell_mark, spell_marks, roles_marks}
use Rattle.cfj_model.specs.Print.{texts, mark_text, marks_text}
use Rattle.cfj_model.specs.ProductLines.{are_new, are_distinct}
use Rattle.cfj_model.specs.Roles.{Role, mark_name, Tally, broken_by, AreWithin}
use Rattle.print_law.proofs.Features.{Split, split, split_more, same_text, or_right, marks_from, marks_of, two_where_signed}
use Rattle.print_law.proofs.FormulaTrees.{as_identifier}
use Rattle.print_law.proofs.Lexing.{Reads, both, none, identifier, blank, at_sign, bang}
use Rattle.print_law.proofs.Limits.{mark_ok, sign_ok}

-- ---- the text

wanted_reads : (f : List ℕ) → is_short_identifier f ≡ true → Reads false false (codes "@" ++ (f ++ codes " ")) (spell_mark (record { off = false; name = f }))
wanted_reads f h = both at_sign (both (identifier f (as_identifier f h)) blank)

unwanted_reads : (f : List ℕ) → is_short_identifier f ≡ true → Reads false false (codes "@!" ++ (f ++ codes " ")) (spell_mark (record { off = true; name = f }))
unwanted_reads f h = both (both at_sign bang) (both (identifier f (as_identifier f h)) blank)

marks_read_from : (colors : Sides) (n : ℕ) (fs : List (List ℕ)) → list_all is_short_identifier fs ≡ true → Reads false false (texts (mark_text colors) (enumerate_from n fs)) (spell_marks (marks_from colors n fs))
marks_read_from colors n [] h = none
marks_read_from colors n (f ∷ fs) h = go (has_bit colors.on n) (has_bit colors.off n) refl refl (marks_read_from colors (n + 1) fs p.1)
  where
    p : (is_short_identifier f ≡ true) × (list_all is_short_identifier fs ≡ true)
    p = and_parts (is_short_identifier f) (list_all is_short_identifier fs) h

    go : (x y : Bool) → has_bit colors.on n ≡ x → has_bit colors.off n ≡ y → Reads false false (texts (mark_text colors) (enumerate_from (n + 1) fs)) (spell_marks (marks_from colors (n + 1) fs))
        → Reads false false (texts (mark_text colors) (enumerate_from n (f ∷ fs))) (spell_marks (marks_from colors n (f ∷ fs)))
    go true y e k r = rw e (both (wanted_reads f p.0) r)
    go false true e k r = rw (e, k) (both (unwanted_reads f p.0) r)
    go false false e k r = rw (e, k) r

-- the marks of a node give their tokens
pub marks_read : (features : List (List ℕ)) (colors : Sides) → list_all is_short_identifier features ≡ true → Reads false false (marks_text features colors) (spell_marks (marks_of features colors))
marks_read features colors h = marks_read_from colors 0 features h

-- ---- the limits

-- what the lines before the constraints say
abbrev pub IsMet : Format → List (List ℕ) → Tally → Type 0
IsMet format features t = ◌≡◌ {A = Format × List (List ℕ)} (t.format, t.features) (format, features)

-- it was met, and no mark
pub record IsMarkable (format : Format) (features : List (List ℕ)) (t : Tally) : Type 0 where
  pub met : IsMet format features t
  pub marks : t.marks ≡ []

has_append : (names : List (List ℕ)) (f w : List ℕ) → is_among (names ++ f ∷ []) w ≡ (is_among names w || bytes_eq f w)
has_append names f w = list_any-append (λ n. bytes_eq n w) names (f ∷ []) ∙ ap (λ b. is_among names w || b) (or-false (bytes_eq f w))

or_from_false : (a b : Bool) → a ≡ false → b ≡ false → (a || b) ≡ false
or_from_false true b h k = absurd (true≢false h)
or_from_false false b h k = k

has_at_seam : (before : List (List ℕ)) (f : List ℕ) (fs : List (List ℕ)) → is_among (before ++ f ∷ fs) f ≡ true
has_at_seam before f fs = list_any-append (λ n. bytes_eq n f) before (f ∷ fs) ∙ or_right (is_among before f) _ (or_left (bytes_eq f f) (is_among fs f) (same_text f))
  where
    or_left : (a b : Bool) → a ≡ true → (a || b) ≡ true
    or_left true b h = refl
    or_left false b h = absurd (true≢false (sym h))

-- what isn't among those before a place isn't among the marks met so far
abbrev AreAmong : List (List ℕ) → List (List ℕ) → Type 0
AreAmong ms before = (w : List ℕ) → is_among before w ≡ false → is_among ms w ≡ false

among_more : (ms before : List (List ℕ)) (f : List ℕ) → AreAmong ms before → AreAmong ms (before ++ f ∷ [])
among_more ms before f a w h = a w (or_parts (is_among before w) (bytes_eq f w) (sym (has_append before f w) ∙ h)).0

among_both : (ms before : List (List ℕ)) (f : List ℕ) → AreAmong ms before → AreAmong (ms ++ f ∷ []) (before ++ f ∷ [])
among_both ms before f a w h =
    let o = or_parts (is_among before w) (bytes_eq f w) (sym (has_append before f w) ∙ h) in
    has_append ms f w ∙ or_from_false (is_among ms w) (bytes_eq f w) (a w o.0) o.1

-- what marks may be among these features
abbrev pub palette_with : Format → List (List ℕ) → Palette
palette_with format features = record { features = length features; format = format }

module _ (format : Format) (features : List (List ℕ)) (colors : Sides) (known : are_known (palette_with format features) colors ≡ true) (rest : List Role) where
  marks_within_from : (before fs : List (List ℕ)) (n : ℕ) (t : Tally) → features ≡ before ++ fs → are_new before fs ≡ true → list_all is_short_identifier fs ≡ true
      → IsMet format features t → AreAmong t.marks before → ((ms : List (List ℕ)) → AreWithin (record t { marks = ms }) rest) → AreWithin t (roles_marks (marks_from colors n fs) rest)
  marks_within_from before [] n t e d h m a w = w t.marks
  marks_within_from before (f ∷ fs) n t e d h m a w =
      go (has_bit colors.on n) (has_bit colors.off n) refl refl
      (marks_within_from (before ++ f ∷ []) fs (n + 1) t (split_more features before f fs e) s.others p.1 m (among_more t.marks before f a) w)
      (marks_within_from (before ++ f ∷ []) fs (n + 1) (record t { marks = t.marks ++ f ∷ [] }) (split_more features before f fs e) s.others p.1 m (among_both t.marks before f a) w)
    where
      s : Split features before f fs
      s = split features before f fs e d

      p : (is_short_identifier f ≡ true) × (list_all is_short_identifier fs ≡ true)
      p = and_parts (is_short_identifier f) (list_all is_short_identifier fs) h

      fine : broken_by t (mark_name f) ≡ None
      fine = mark_ok t f p.0 (ap (λ (m : Format × List (List ℕ)). is_among m.1 f) m ∙ ap (λ fs. is_among fs f) e ∙ has_at_seam before f fs) (a f s.fresh)

      go : (x y : Bool) → has_bit colors.on n ≡ x → has_bit colors.off n ≡ y → AreWithin t (roles_marks (marks_from colors (n + 1) fs) rest)
          → AreWithin (record t { marks = t.marks ++ f ∷ [] }) (roles_marks (marks_from colors (n + 1) fs) rest) → AreWithin t (roles_marks (marks_from colors n (f ∷ fs)) rest)
      go true y c k without with = rw c ((refl, (fine, with)))
      go false true c k without with =
          let two = two_where_signed (palette_with format features) colors n known k in
          let signed = sign_ok t (ap (λ (m : Format × List (List ℕ)). is_two m.0) m ∙ two) in
          rw (c, k) ((refl, (signed, (fine, with))))
      go false false c k without with = rw (c, k) without

-- the marks of a node are within the limits, whatever marks they leave
pub marks_within : (format : Format) (features : List (List ℕ)) (colors : Sides) (t : Tally) (rest : List Role) → are_known (palette_with format features) colors ≡ true → are_distinct features ≡ true → list_all is_short_identifier features ≡ true → IsMarkable format features t
    → ((ms : List (List ℕ)) → AreWithin (record t { marks = ms }) rest) → AreWithin t (roles_marks (marks_of features colors) rest)
marks_within format features colors t rest known d h r w =
    marks_within_from format features colors known rest [] features 0 t refl d h r.met (λ n none. ap (λ ms. is_among ms n) r.marks) w
