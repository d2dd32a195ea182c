-- The colours that marks give, over any features: all are features, none is both wanted and not, and in format One none isn't wanted.
-- And what is known behind marks that break nothing.
use Rattle.std.proofs.Common.{◌≡◌, ℕ, ◌*◌, ◌^◌, ◌<◌, Bool, true, false, ◌&&◌, ◌||◌, ◌==◌, not, List, [], ◌∷◌, ◌++◌, length, refl, ◌∙◌, ap, arith, Some, None, bytes_eq, bit_and, bit_or}
use Rattle.std.specs.Prelude.{nat_lt, if◌then◌else◌}
use Rattle.std.specs.List.{position_or_len}
use Rattle.std.specs.Int.{bit_at}
use Rattle.std.proofs.Math.Pow.{pow-lt, pow_pos}
use Rattle.std.proofs.lemmas.Nat.{and_comm, and_or_apart, or_lt}
use Rattle.std.proofs.lemmas.Nat.Bits.{and_pow, bit_at-lt}
use Rattle.std.proofs.lemmas.Bool.{and_from, and_parts, or_parts, or_left, or_right, ltb-true, lt-ltb, eqb-true, eqb-false, eq-eqb, cond_both}
use Rattle.cfj_logic.specs.Selections.{has_bit}
use Rattle.cfj_logic.specs.Sides.{Sides, is_over}
use Rattle.cfj_words.specs.Names.{is_identifier}
use Rattle.cfj_words.specs.Tokens.{Token, Id}
use Rattle.cfj_model.specs.declared.fault.FaultKind.TheVariants.{Unexpected}
use Rattle.cfj_model.specs.declared.feature_model.Format.{Format}
use Rattle.cfj_model.specs.declared.feature_model.Format.TheVariants.{One, Two}
use Rattle.cfj_model.specs.declared.signed.Signed.{Signed}
use Rattle.cfj_model.specs.Coloring.{Palette, are_known, is_marked, is_two, no_colors, with_mark}
use Rattle.cfj_model.specs.Marks.{spell_sign, spell_marks, roles_sign, roles_marks, marked_at, marked, colored, colors_of}
use Rattle.cfj_model.specs.Roles.{Role, mark_name, sign, Tally, first_of, broken_by, AreWithin}
use Rattle.fj_symbols.specs.Views.{are_read}

-- what marks may be, over these features
abbrev pub palette_over : Format → List (List ℕ) → Palette
palette_over format features = record { features = length features; format = format }

-- a mark with this sign may stand in this format
abbrev pub may_stand : Format → Bool → Bool
may_stand format off = is_two format || not off

-- and each of these marks
abbrev pub are_allowed : Format → List Signed → Bool
are_allowed format [] = true
are_allowed format (m ∷ ms) = may_stand format m.off && are_allowed format ms

-- ---- one more mark

-- a set without a feature shares nothing with the feature's bit
shares_none : (n f : ℕ) → has_bit n f ≡ false → bit_and n (2 ^ f) ≡ 0
shares_none n f h =
    let not_one = eqb-false (bit_at n f) 1 h in
    let small = bit_at-lt n f in
    let zero : bit_at n f ≡ 0 = omega (arith, small, not_one) in
    let none : 0 * 2 ^ f ≡ 0 = omega arith in
    and_pow n f ∙ ap (λ (b : ℕ). b * 2 ^ f) zero ∙ none

-- what `are_known` says, part by part
pub record AreKnown (p : Palette) (c : Sides) : Type 0 where
  pub on_below : c.on < 2 ^ p.features
  pub off_below : c.off < 2 ^ p.features
  pub apart : bit_and c.on c.off ≡ 0
  pub allowed : (is_two p.format || (c.off == 0)) ≡ true

pub known_parts : (p : Palette) (c : Sides) → are_known p c ≡ true → AreKnown p c
known_parts p c h =
    let a = and_parts (is_over p.features c && (bit_and c.on c.off == 0)) (is_two p.format || (c.off == 0)) h in
    let b = and_parts (is_over p.features c) (bit_and c.on c.off == 0) a.0 in
    let d = and_parts (nat_lt c.on (2 ^ p.features)) (nat_lt c.off (2 ^ p.features)) b.0 in
    record {
      on_below = ltb-true c.on (2 ^ p.features) d.0;
      off_below = ltb-true c.off (2 ^ p.features) d.1;
      apart = eqb-true (bit_and c.on c.off) 0 b.1;
      allowed = a.1;
    }

pub known_from : (p : Palette) (c : Sides) → AreKnown p c → are_known p c ≡ true
known_from p c h =
    and_from _ _
    (and_from _ _ (and_from _ _ (lt-ltb c.on (2 ^ p.features) h.on_below) (lt-ltb c.off (2 ^ p.features) h.off_below)) (eq-eqb (bit_and c.on c.off) 0 h.apart))
    h.allowed

-- without marks all is known
pub none_known : (p : Palette) → are_known p no_colors ≡ true
none_known p =
    known_from p no_colors
    (record { on_below = pow_pos p.features; off_below = pow_pos p.features; apart = refl; allowed = or_right (is_two p.format) true refl })

-- what may stand with a `!` stands in format Two
is_two_of : (b : Bool) → (b || false) ≡ true → b ≡ true
is_two_of true h = refl
is_two_of false h = h

-- a feature that isn't marked yet, with either sign
new_known : (p : Palette) (f : ℕ) (off : Bool) (c : Sides) → f < p.features → may_stand p.format off ≡ true → is_marked f c ≡ false → AreKnown p c →
    AreKnown p (with_mark off f c)
new_known p f false c below may new h =
    let bits = or_parts (has_bit c.on f) (has_bit c.off f) new in
    record {
      on_below = or_lt p.features c.on (2 ^ f) h.on_below (pow-lt below);
      off_below = h.off_below;
      apart = and_or_apart c.off c.on (2 ^ f) (and_comm (2 ^ f) c.off ∙ shares_none c.off f bits.1) ∙ h.apart;
      allowed = h.allowed;
    }
new_known p f true c below may new h =
    let bits = or_parts (has_bit c.on f) (has_bit c.off f) new in
    record {
      on_below = h.on_below;
      off_below = or_lt p.features c.off (2 ^ f) h.off_below (pow-lt below);
      apart =
          and_comm c.on (bit_or c.off (2 ^ f)) ∙ and_or_apart c.on c.off (2 ^ f) (and_comm (2 ^ f) c.on ∙ shares_none c.on f bits.0)
          ∙ and_comm c.off c.on ∙ h.apart;
      allowed = or_left (is_two p.format) (bit_or c.off (2 ^ f) == 0) (is_two_of (is_two p.format) may);
    }

-- one more mark of a feature, the first of which counts
pub marked_at_known : (p : Palette) (f : ℕ) (off : Bool) (c : Sides) → f < p.features → may_stand p.format off ≡ true → are_known p c ≡ true →
    are_known p (marked_at (Some f) off c) ≡ true
marked_at_known p f off c below may h = by (is_marked f c) refl
  where
    by : (b : Bool) → is_marked f c ≡ b → are_known p (if b then c else with_mark off f c) ≡ true
    by true e = h
    by false e = known_from p (with_mark off f c) (new_known p f off c below may e (known_parts p c h))

module _ (format : Format) (features : List (List ℕ)) where
  -- One more mark by name keeps what colours may be.
  pub marked_known : (c : Sides) (m : Signed) → may_stand format m.off ≡ true → are_known (palette_over format features) c ≡ true →
      are_known (palette_over format features) (marked features c m) ≡ true
  marked_known c m may h =
      let at : ℕ = position_or_len (λ f. bytes_eq f m.name) features in
      cond_both (nat_lt at (length features)) (Some at) None (λ o. are_known (palette_over format features) (marked_at o m.off c) ≡ true)
      (λ e. marked_at_known (palette_over format features) at m.off c (ltb-true at (length features) e) may h) (λ e. h)

  -- And so do any marks.
  pub colored_known : (c : Sides) (ms : List Signed) → are_allowed format ms ≡ true → are_known (palette_over format features) c ≡ true →
      are_known (palette_over format features) (colored features c ms) ≡ true
  colored_known c [] may h = h
  colored_known c (m ∷ ms) may h =
      let a = and_parts (may_stand format m.off) (are_allowed format ms) may in
      colored_known (marked features c m) ms a.1 (marked_known c m a.0 h)

  -- The colours of a node are known, where its marks may stand.
  pub colors_known : (ms : List Signed) → are_allowed format ms ≡ true → are_known (palette_over format features) (colors_of features ms) ≡ true
  colors_known ms may = colored_known no_colors ms may (none_known (palette_over format features))

-- In format Two all marks may stand.
pub all_allowed : (ms : List Signed) → are_allowed Two ms ≡ true
all_allowed [] = refl
all_allowed (m ∷ ms) = all_allowed ms

-- ---- marks that break nothing

-- A `!` breaks nothing in format Two alone.
pub sign_allowed : (t : Tally) → broken_by t sign ≡ None → is_two t.format ≡ true
sign_allowed t h = by t.format h
  where
    by : (f : Format) → first_of ((not (is_two f), Unexpected) ∷ []) ≡ None → is_two f ≡ true
    by One e = absurd (let no : ⊥ = cc e in no)
    by Two e = refl

-- what is known behind a mark's `@`
record MarkKept (t : Tally) (off : Bool) (w : List ℕ) (rest : List Role) (more : List Token) : Type 0 where
  within : AreWithin (record t { marks = t.marks ++ w ∷ [] }) rest
  read : are_read more ≡ true
  allowed : may_stand t.format off ≡ true

mark_kept : (t : Tally) (off : Bool) (w : List ℕ) (rest : List Role) (more : List Token) → AreWithin t (roles_sign off (mark_name w ∷ rest)) →
    are_read (spell_sign off (Id w ∷ more)) ≡ true → MarkKept t off w rest more
mark_kept t false w rest more h r =
    record { within = h.1; read = (and_parts (is_identifier w) (are_read more) r).1; allowed = or_right (is_two t.format) true refl }
mark_kept t true w rest more h r =
    record { within = h.1.1; read = (and_parts (is_identifier w) (are_read more) r).1; allowed = or_left (is_two t.format) false (sign_allowed t h.0) }

-- What is known behind the marks of a node: its marks may stand, and what follows is within the limits.
pub record MarksKept (t : Tally) (ms : List Signed) (rest : List Role) (more : List Token) : Type 0 where
  pub marks : List (List ℕ)
  pub within : AreWithin (record t { marks = marks }) rest
  pub read : are_read more ≡ true
  pub allowed : are_allowed t.format ms ≡ true

pub marks_kept : (t : Tally) (ms : List Signed) (rest : List Role) (more : List Token) → AreWithin t (roles_marks ms rest) →
    are_read (spell_marks ms more) ≡ true → MarksKept t ms rest more
marks_kept t [] rest more w r = record { marks = t.marks; within = w; read = r; allowed = refl }
marks_kept t (m ∷ ms) rest more w r =
    let a = mark_kept t m.off m.name (roles_marks ms rest) (spell_marks ms more) w.1 r in
    let k = marks_kept (record t { marks = t.marks ++ m.name ∷ [] }) ms rest more a.within a.read in
    record { marks = k.marks; within = k.within; read = k.read; allowed = and_from _ _ a.allowed k.allowed }
