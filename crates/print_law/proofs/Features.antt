-- Marks in declaration order stand for their colours, and a feature's name for its number.
use Rattle.std.proofs.Common.{◌≡◌, ◌≢◌, ℕ, zero, suc, ◌+◌, ◌<◌, ◌≤◌, ◌^◌, ◌==◌, nat_le, nat_lt, min, Bool, true, false, not, ◌&&◌, ◌||◌, cond, if◌then◌else◌, List, [], ◌∷◌, ◌++◌, length, get_or, ◌⊎◌, inl, inr, Some, position, bit_and, bit_or, refl, sym, ap, subst, ◌∙◌, append_assoc, length-append, arith, true≢false}
use Rattle.std.specs.Int.{bit_at}
use Rattle.std.specs.List.{list_any, position_from}
use Rattle.std.specs.Str.{bytes_eq}
use Rattle.std.proofs.lemmas.Bool.{and_parts, eqb-true, ltb-true, not-true, or_from}
use Rattle.std.proofs.lemmas.Bool.Decides.{eqb_tells, leb_tells}
use Rattle.std.proofs.lemmas.Iterator.Adapters.{position_from-zero}
use Rattle.std.proofs.lemmas.List.{append-nil}
use Rattle.std.proofs.lemmas.Nat.Bits.{bit_at-lt, bit_at-zero, bit_at_and, bit_at_or, bit_at_above, bit_at-pow_same, bit_at-pow_other, same_from_bits}
use Rattle.std.proofs.lemmas.Slice.Eq.{bytes_eq-Decides}
use Rattle.cfj_logic.specs.Selections.{has_bit}
use Rattle.cfj_logic.specs.Sides.{Sides, is_over}
use Rattle.cfj_model.specs.Coloring.{no_colors, has_mark, is_marked, with_mark, is_two, Palette, are_known}
use Rattle.cfj_model.specs.Marks.{marked_at, marked, colored, colors_of}
use Rattle.cfj_model.specs.ProductLines.{are_new, are_distinct}
use Rattle.cfj_model.specs.declared.signed.Signed.{Signed}
use Rattle.cfj_words.specs.Names.{is_among}

-- a text is equal to itself
pub same_text : (w : List ℕ) → bytes_eq w w ≡ true
same_text w = (bytes_eq-Decides w w).1 refl

pub or_right : (a b : Bool) → b ≡ true → (a || b) ≡ true
or_right true b h = refl
or_right false b h = h

-- ---- places

at_seam : (p : List ℕ → Bool) (before : List (List ℕ)) (f : List ℕ) (fs : List (List ℕ)) (i : ℕ) → list_any p before ≡ false → p f ≡ true → position_from p i (before ++ f ∷ fs) ≡ Some (i + length before)
at_seam p [] f fs i n h = rw h (ap Some (omega arith))
at_seam p (b ∷ before) f fs i n h = go (p b) refl n (λ m. at_seam p before f fs (i + 1) m h)
  where
    go : (x : Bool) → p b ≡ x → (x || list_any p before) ≡ false → (list_any p before ≡ false → position_from p (i + 1) (before ++ f ∷ fs) ≡ Some (i + 1 + length before))
        → cond (p b) (Some i) (position_from p (i + 1) (before ++ f ∷ fs)) ≡ Some (i + suc (length before))
    go true e m ih = absurd (true≢false m)
    go false e m ih = rw e (ih m ∙ ap Some (omega arith))

-- a name that is new behind others stands at their number
pub place_of_name : (before : List (List ℕ)) (f : List ℕ) (fs : List (List ℕ)) → is_among before f ≡ false → position (λ g. bytes_eq g f) (before ++ f ∷ fs) ≡ Some (length before)
place_of_name before f fs n = position_from-zero (λ g. bytes_eq g f) (before ++ f ∷ fs) ∙ at_seam (λ g. bytes_eq g f) before f fs 0 n (same_text f) ∙ ap Some (omega arith)

-- as a split of the features
pub record Split (features before : List (List ℕ)) (f : List ℕ) (fs : List (List ℕ)) : Type 0 where
  pub whole : features ≡ before ++ f ∷ fs
  pub fresh : is_among before f ≡ false
  pub others : are_new (before ++ f ∷ []) fs ≡ true

pub split : (features before : List (List ℕ)) (f : List ℕ) (fs : List (List ℕ)) → features ≡ before ++ f ∷ fs → are_new before (f ∷ fs) ≡ true → Split features before f fs
split features before f fs e d =
    let p = and_parts (not (is_among before f)) (are_new (before ++ f ∷ []) fs) d in
    record { whole = e; fresh = not-true (is_among before f) p.0; others = p.1 }

pub split_place : (features before : List (List ℕ)) (f : List ℕ) (fs : List (List ℕ)) → Split features before f fs → position (λ g. bytes_eq g f) features ≡ Some (length before)
split_place features before f fs s = ap (position (λ g. bytes_eq g f)) s.whole ∙ place_of_name before f fs s.fresh

pub split_more : (features before : List (List ℕ)) (f : List ℕ) (fs : List (List ℕ)) → features ≡ before ++ f ∷ fs → features ≡ (before ++ f ∷ []) ++ fs
split_more features before f fs e = e ∙ sym (append_assoc before (f ∷ []) fs)

named_at : (features before fs : List (List ℕ)) (i : ℕ) → features ≡ before ++ fs → are_new before fs ≡ true → i < length fs → position (λ g. bytes_eq g (get_or fs i [])) features ≡ Some (length before + i)
named_at features before [] i e d lt = absurd (omega arith)
named_at features before (f ∷ fs) zero e d lt = split_place features before f fs (split features before f fs e d) ∙ ap Some (omega arith)
named_at features before (f ∷ fs) (suc i) e d lt =
    let s = split features before f fs e d in
    let sum = length-append before (f ∷ []) in
    named_at features (before ++ f ∷ []) fs i (split_more features before f fs e) s.others (omega arith) ∙ ap Some (omega (arith, sum))

-- the name of a feature stands for its number
pub named_again : (features : List (List ℕ)) (i : ℕ) → are_distinct features ≡ true → i < length features → position (λ g. bytes_eq g (get_or features i [])) features ≡ Some i
named_again features i d lt = named_at features [] features i refl d lt ∙ ap Some (omega arith)

-- a feature's name is one of the features
pub has_named : (features : List (List ℕ)) (i : ℕ) → i < length features → is_among features (get_or features i []) ≡ true
has_named [] i lt = absurd (omega arith)
has_named (f ∷ fs) zero lt = rw (same_text f) refl
has_named (f ∷ fs) (suc i) lt = or_right (bytes_eq f (get_or fs i [])) _ (has_named fs i (omega arith))

-- ---- marks

-- the mark of a feature with this number and name where it is among the colours, and the marks that follow
abbrev pub mark_before : Sides → ℕ → List ℕ → List Signed → List Signed
mark_before colors n f rest =
    if has_mark false n colors then record { off = false; name = f } ∷ rest else
    if has_mark true n colors then record { off = true; name = f } ∷ rest else rest

-- the marks of these colours, in declaration order, of the features from a number on
abbrev pub marks_from : Sides → ℕ → List (List ℕ) → List Signed
marks_from colors n [] = []
marks_from colors n (f ∷ fs) = mark_before colors n f (marks_from colors (n + 1) fs)

abbrev pub marks_of : List (List ℕ) → Sides → List Signed
marks_of features colors = marks_from colors 0 features

-- what is asked of colours, part by part
pub record ColorsKnown (p : Palette) (colors : Sides) : Type 0 where
  pub on : colors.on < 2 ^ p.features
  pub off : colors.off < 2 ^ p.features
  pub disjoint : bit_and colors.on colors.off ≡ 0
  pub signed : (is_two p.format || (colors.off == 0)) ≡ true

pub colors_known : (p : Palette) (colors : Sides) → are_known p colors ≡ true → ColorsKnown p colors
colors_known p colors h =
    let a = and_parts (is_over p.features colors && (bit_and colors.on colors.off == 0)) (is_two p.format || (colors.off == 0)) h in
    let b = and_parts (is_over p.features colors) (bit_and colors.on colors.off == 0) a.0 in
    let c = and_parts (nat_lt colors.on (2 ^ p.features)) (nat_lt colors.off (2 ^ p.features)) b.0 in
    record {
      on = ltb-true colors.on (2 ^ p.features) c.0;
      off = ltb-true colors.off (2 ^ p.features) c.1;
      disjoint = eqb-true (bit_and colors.on colors.off) 0 b.1;
      signed = a.1;
    }

no_bit_of_none : (n : ℕ) → has_bit 0 n ≡ false
no_bit_of_none n = ap (λ b. b == 1) (bit_at-zero n)

-- a feature that isn't wanted is one in format Two
pub two_where_signed : (p : Palette) (colors : Sides) (n : ℕ) → are_known p colors ≡ true → has_mark true n colors ≡ true → is_two p.format ≡ true
two_where_signed p colors n h marked = go (is_two p.format) (colors.off == 0) (colors_known p colors h).signed
    (λ z. absurd (true≢false (sym marked ∙ ap (λ c. has_bit c n) (eqb-true colors.off 0 z) ∙ no_bit_of_none n)))
  where
    go : (a b : Bool) → (a || b) ≡ true → (b ≡ true → a ≡ true) → a ≡ true
    go true b e f = refl
    go false b e f = f e

-- the features below a number that are among the colours
record IsBelow (n colors acc : ℕ) : Type 0 where
  low : (g : ℕ) → g < n → bit_at acc g ≡ bit_at colors g
  high : (g : ℕ) → n ≤ g → bit_at acc g ≡ 0

same_or_below : (g n : ℕ) → g < n + 1 → (g < n) ⊎ (g ≡ n)
same_or_below g n lt = go (leb_tells n g)
  where
    go : ((nat_le n g ≡ true) × (n ≤ g)) ⊎ ((nat_le n g ≡ false) × (g < n)) → (g < n) ⊎ (g ≡ n)
    go (inl e) = let le = e.1 in inr (omega arith)
    go (inr e) = inl e.1

one_more : (n colors acc : ℕ) → IsBelow n colors acc → has_bit colors n ≡ true → IsBelow (n + 1) colors (bit_or acc (2 ^ n))
one_more n colors acc b h = record {
  low = λ g lt. go g (same_or_below g n lt);
  high = λ g le. let o = bit_at_or acc (2 ^ n) g in let z = bit_at-pow_other n g (λ e. absurd (omega arith)) in let y = b.high g (omega arith) in omega (arith, o, z, y);
}
  where
    go : (g : ℕ) → (g < n) ⊎ (g ≡ n) → bit_at (bit_or acc (2 ^ n)) g ≡ bit_at colors g
    go g (inl lt) = let o = bit_at_or acc (2 ^ n) g in let z = bit_at-pow_other n g (λ e. absurd (omega arith)) in let y = b.low g lt in omega (arith, o, z, y)
    go g (inr e) =
        let o = bit_at_or acc (2 ^ n) n in let z = bit_at-pow_same n in let y = b.high n (omega arith) in let x = eqb-true (bit_at colors n) 1 h in
        let k : bit_at (bit_or acc (2 ^ n)) n ≡ bit_at colors n = omega (arith, o, z, y, x) in
        subst (λ m. bit_at (bit_or acc (2 ^ n)) m ≡ bit_at colors m) (sym e) k

none_more : (n colors acc : ℕ) → IsBelow n colors acc → has_bit colors n ≡ false → IsBelow (n + 1) colors acc
none_more n colors acc b h = record {
  low = λ g lt. go g (same_or_below g n lt);
  high = λ g le. b.high g (omega arith);
}
  where
    no_bit : bit_at colors n ≡ 0
    no_bit = by (eqb_tells (bit_at colors n) 1)
      where
        by : (((bit_at colors n == 1) ≡ true) × (bit_at colors n ≡ 1)) ⊎ (((bit_at colors n == 1) ≡ false) × (bit_at colors n ≢ 1)) → bit_at colors n ≡ 0
        by (inl e) = absurd (true≢false (sym e.0 ∙ h))
        by (inr e) = let l = bit_at-lt colors n in let d = e.1 in omega (arith, l, d)

    go : (g : ℕ) → (g < n) ⊎ (g ≡ n) → bit_at acc g ≡ bit_at colors g
    go g (inl lt) = b.low g lt
    go g (inr e) = subst (λ m. bit_at acc m ≡ bit_at colors m) (sym e) (b.high n (omega arith) ∙ sym no_bit)

-- those of both sides
record AreBelow (n : ℕ) (colors acc : Sides) : Type 0 where
  on : IsBelow n colors.on acc.on
  off : IsBelow n colors.off acc.off

-- the next feature isn't marked yet
unmarked : (n : ℕ) (colors acc : Sides) → AreBelow n colors acc → is_marked n acc ≡ false
unmarked n colors acc b =
    let on = b.on in let off = b.off in
    or_from (has_bit acc.on n) (has_bit acc.off n) (ap (λ b. b == 1) (on.high n (omega arith))) (ap (λ b. b == 1) (off.high n (omega arith)))

-- no feature is on both sides
on_one_side : (on off n : ℕ) → bit_and on off ≡ 0 → has_bit on n ≡ true → has_bit off n ≡ false
on_one_side on off n e h =
    let one : bit_at on n ≡ 1 = eqb-true (bit_at on n) 1 h in
    let least : bit_at (bit_and on off) n ≡ min (bit_at on n) (bit_at off n) = bit_at_and on off n in
    let none : bit_at (bit_and on off) n ≡ 0 = ap (λ c. bit_at c n) e ∙ bit_at-zero n in
    let zero_bit : bit_at off n ≡ 0 = omega (arith, one, least, none) in
    ap (λ b. b == 1) zero_bit

-- the features of a side, all of which are below their number
side_again : (n k side acc : ℕ) → k ≡ n → IsBelow n side acc → side < 2 ^ k → acc ≡ side
side_again n k side acc size b small = same_from_bits acc side (λ g. go g (leb_tells n g))
  where
    go : (g : ℕ) → ((nat_le n g ≡ true) × (n ≤ g)) ⊎ ((nat_le n g ≡ false) × (g < n)) → bit_at acc g ≡ bit_at side g
    go g (inl h) = b.high g h.1 ∙ sym (bit_at_above side k g small (subst (λ m. m ≤ g) (sym size) h.1))
    go g (inr h) = b.low g h.1

module _ (features : List (List ℕ)) (palette : Palette) (sized : palette.features ≡ length features) (colors : Sides) (known : ColorsKnown palette colors) where
  colored_again : (before fs : List (List ℕ)) (n : ℕ) (acc : Sides) → length before ≡ n → features ≡ before ++ fs → are_new before fs ≡ true → AreBelow n colors acc
      → colored features acc (marks_from colors n fs) ≡ colors
  colored_again before [] n acc l e d b =
      ap (λ side. record acc { on = side }) (side_again n palette.features colors.on acc.on size b.on known.on)
      ∙ ap (λ side. record colors { off = side }) (side_again n palette.features colors.off acc.off size b.off known.off)
    where
      size : palette.features ≡ n
      size = sized ∙ ap length (e ∙ append-nil before) ∙ l
  colored_again before (f ∷ fs) n acc l e d b =
      go (has_bit colors.on n) (has_bit colors.off n) refl refl (λ c below. colored_again (before ++ f ∷ []) fs (n + 1) c longer (split_more features before f fs e) s.others below)
    where
      s : Split features before f fs
      s = split features before f fs e d

      longer : length (before ++ f ∷ []) ≡ n + 1
      longer = let sum = length-append before (f ∷ []) in omega (arith, sum, l)

      one : (off : Bool) → marked features acc (record { off = off; name = f }) ≡ with_mark off n acc
      one off =
          ap (λ place. marked_at place off acc) (split_place features before f fs s ∙ ap Some l)
          ∙ ap (λ b. if b then acc else with_mark off n acc) (unmarked n colors acc b)

      go : (x y : Bool) → has_bit colors.on n ≡ x → has_bit colors.off n ≡ y → ((c : Sides) → AreBelow (n + 1) colors c → colored features c (marks_from colors (n + 1) fs) ≡ colors)
          → colored features acc (mark_before colors n f (marks_from colors (n + 1) fs)) ≡ colors
      go true y h k ih =
          rw h
          (ap (λ c. colored features c (marks_from colors (n + 1) fs)) (one false)
          ∙ ih (with_mark false n acc)
          (record { on = one_more n colors.on acc.on b.on h; off = none_more n colors.off acc.off b.off (on_one_side colors.on colors.off n known.disjoint h) }))
      go false true h k ih =
          rw (h, k)
          (ap (λ c. colored features c (marks_from colors (n + 1) fs)) (one true)
          ∙ ih (with_mark true n acc) (record { on = none_more n colors.on acc.on b.on h; off = one_more n colors.off acc.off b.off k }))
      go false false h k ih = rw (h, k) (ih acc (record { on = none_more n colors.on acc.on b.on h; off = none_more n colors.off acc.off b.off k }))

none_below : (side : ℕ) → IsBelow 0 side 0
none_below side = record { low = λ g lt. absurd (omega arith); high = λ g le. bit_at-zero g }

-- the marks of colours stand for them
pub colors_again : (features : List (List ℕ)) (palette : Palette) (colors : Sides) → are_distinct features ≡ true → palette.features ≡ length features → are_known palette colors ≡ true → colors_of features (marks_of features colors) ≡ colors
colors_again features palette colors d sized h =
    colored_again features palette sized colors (colors_known palette colors h) [] features 0 no_colors refl refl d (record { on = none_below colors.on; off = none_below colors.off })
