-- How many frames are open.
use Rattle.std.proofs.Common.{◌≡◌, List, [], ◌∷◌, length, reverse, refl, sym, ◌∙◌, ap, arith}
use Rattle.std.proofs.lemmas.List.{length-reverse}
use Rattle.expression_reader.specs.declared.frame.Frame.{Frame}
use Rattle.expression_reader.specs.Machine.{open_frames}

open_is : (fs : List Frame) → open_frames fs ≡ length fs
open_is [] = refl
open_is (f ∷ fs) = let e : open_frames fs ≡ length fs = open_is fs in omega arith

-- as many as the items of the stack
pub open_length : (items fs : List Frame) → reverse items ≡ fs → length items ≡ open_frames fs
open_length items fs e = let l : length (reverse items) ≡ length items = length-reverse items in sym l ∙ ap length e ∙ sym (open_is fs)
