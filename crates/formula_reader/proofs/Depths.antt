-- The depth of frames as a count.
use Rattle.std.proofs.Common.{◌≡◌, ℕ, ◌+◌, Bool, true, false, if◌then◌else◌, List, refl, arith, count_by, cond}
use Rattle.std.proofs.lemmas.List.Recursion.{is_count_by}
use Rattle.formula_reader.specs.declared.frame.Frame.{Frame}
use Rattle.formula_reader.specs.Machine.{nests, depth}

pub depth_is : (fs : List Frame) → depth fs ≡ count_by nests fs
depth_is fs = is_count_by depth nests refl (λ fr gs. one_more (nests fr) (depth gs)) fs
  where
    one_more : (b : Bool) (n : ℕ) → (if b then n + 1 else n) ≡ cond b (1 + n) n
    one_more true n = omega arith
    one_more false n = refl
