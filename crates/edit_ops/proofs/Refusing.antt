-- What refuses a new class.
use Rattle.std.proofs.Common.{◌≡◌, ◌+◌, ◌<◌, ◌≤◌, Bool, true, false, [], ◌∷◌, ◌++◌, length, nat_lt, nat_le, is_some, if◌then◌else◌, Option, Some, None, refl, ◌∙◌, ap, arith}
use Rattle.std.proofs.lemmas.Bool.{lt-ltb, le-ltb, le-leb, lt-leb}
use Rattle.std.proofs.lemmas.List.Sums.{sum_by-append, sum_by-cons}
use Rattle.cfj_model.specs.LookUps.{declared}
use Rattle.cfj_model.specs.ProductLines.{ProductLine, class_size, most_classes, most_size, size}
use Rattle.cfj_model.specs.declared.class.Class.{Class}
use Rattle.cfj_model.specs.declared.fault.LimitKind.TheVariants as limit
use Rattle.edit_ops.specs.Changes.{class_refused, size_refused}
use Rattle.edit_ops.specs.declared.refused.EditRefused.{EditRefused}
use Rattle.edit_ops.specs.declared.refused.EditRefused.TheVariants.{Exists, Limit}

pub size_more : (line : ProductLine) (k : Class) → size (line.classes ++ k ∷ []) ≡ size line.classes + class_size k
size_more line k =
    let sum = sum_by-append class_size line.classes (k ∷ []) in
    let one = sum_by-cons class_size k [] in
    omega (arith, sum, one)

pub size_fine : (line : ProductLine) → nat_le (size line.classes) most_size ≡ true → size_refused line ≡ None
size_fine line fits = ap (λ b. if b then None else Some (Limit limit.Size)) fits

pub size_large : (line : ProductLine) → nat_le (size line.classes) most_size ≡ false → size_refused line ≡ Some (Limit limit.Size)
size_large line large = ap (λ b. if b then None else Some (Limit limit.Size)) large

module _ (k : Class) (line : ProductLine) where
  abbrev taken : Bool
  taken = is_some (declared line.classes k.name)

  abbrev by_size : Bool → Option EditRefused
  by_size fits = if fits then None else Some (Limit limit.Size)

  abbrev by_count : Bool → Bool → Option EditRefused
  by_count few fits = if few then by_size fits else Some (Limit limit.Classes)

  abbrev by_name : Bool → Bool → Bool → Option EditRefused
  by_name is few fits = if is then Some (Exists k.name) else by_count few fits

  abbrev few : Bool
  few = nat_lt (length line.classes) most_classes

  abbrev fits : Bool
  fits = nat_le (size (line.classes ++ k ∷ [])) most_size

  pub refused_taken : taken ≡ true → class_refused k line ≡ Some (Exists k.name)
  refused_taken is = ap (λ b. by_name b few fits) is

  pub refused_many : taken ≡ false → most_classes ≤ length line.classes → class_refused k line ≡ Some (Limit limit.Classes)
  refused_many free many = ap (λ b. by_name b few fits) free ∙ ap (λ b. by_count b fits) (le-ltb (length line.classes) most_classes many)

  pub refused_large : taken ≡ false → length line.classes < most_classes → most_size < size (line.classes ++ k ∷ []) → class_refused k line ≡ Some (Limit limit.Size)
  refused_large free below large =
      ap (λ b. by_name b few fits) free
      ∙ ap (λ b. by_count b fits) (lt-ltb (length line.classes) most_classes below)
      ∙ ap by_size (lt-leb (size (line.classes ++ k ∷ [])) most_size large)

  pub not_refused : taken ≡ false → length line.classes < most_classes → size (line.classes ++ k ∷ []) ≤ most_size → class_refused k line ≡ None
  not_refused free below small =
      ap (λ b. by_name b few fits) free
      ∙ ap (λ b. by_count b fits) (lt-ltb (length line.classes) most_classes below)
      ∙ ap by_size (le-leb (size (line.classes ++ k ∷ [])) most_size small)

  -- a class that isn't refused has a name of its own, and there is room for it
  pub record IsFine : Type 0 where
    pub free : taken ≡ false
    pub few : nat_lt (length line.classes) most_classes ≡ true
    pub fits : nat_le (size (line.classes ++ k ∷ [])) most_size ≡ true

  pub fine : class_refused k line ≡ None → IsFine
  fine none = by taken refl few refl fits refl none
    where
      by : (a : Bool) → taken ≡ a → (b : Bool) → nat_lt (length line.classes) most_classes ≡ b → (c : Bool) → nat_le (size (line.classes ++ k ∷ [])) most_size ≡ c
          → by_name a b c ≡ None → IsFine
      by true p b q c r e = absurd (cc e)
      by false p false q c r e = absurd (cc e)
      by false p true q false r e = absurd (cc e)
      by false p true q true r e = record { free = p; few = q; fits = r }
