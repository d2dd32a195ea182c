-- What reading an input to its end, or past the limit, tells of it.
use Rattle.std.proofs.Common.{Vec, ◌≡◌, ℕ, ◌<◌, List, ◌++◌, length, Some, None, Result, Ok, Err, refl, sym, ap, subst, ◌∙◌, arith, append-nil}
use Rattle.std.proofs.lemmas.List.{length-append}
use Rattle.std.specs.declared.alloc.Global.{Global}
use Rattle.cide_io.specs.declared.faults.ReadAll.{ReadAll}
use Rattle.cide_io.specs.declared.faults.ReadAll.TheVariants.{TooLong, ReadFault, NoMemory}
use Rattle.cide_io.specs.Known.{Known, preceded, IsAtEnd, IsReadAll}
use Rattle.cide_tool.specs.ProjectTexts.{most_bytes, IsAllOf, IsProjectText, IsTooLong}
use Rattle.cide_tool.specs.Refusals.{IsInput}

same_bytes : (a b : List ℕ) → Some a ≡ Some b → a ≡ b
same_bytes a b e = cc e

all_read : (old new : Known) (text : List ℕ) → old ≡ preceded text new → IsAtEnd new → IsAllOf old text
all_read None new text e end = tt
all_read (Some bytes) None text e end = absurd (let no : ⊥ = cc e in no)
all_read (Some bytes) (Some rest) text e end =
    sym (same_bytes _ _ e ∙ ap (λ r. text ++ r) end ∙ append-nil text)

longer_still : (bytes came rest : List ℕ) → bytes ≡ came ++ rest → most_bytes < length came → most_bytes < length bytes
longer_still bytes came rest e h = let size = ap length e ∙ length-append came rest in omega arith

too_long : (old new : Known) (came : List ℕ) → old ≡ preceded came new → most_bytes < length came → IsTooLong old
too_long None new came e h = record { text = came; all = tt; longer = h }
too_long (Some bytes) None came e h = absurd (let no : ⊥ = cc e in no)
too_long (Some bytes) (Some rest) came e h = record { text = bytes; all = refl; longer = longer_still bytes came rest (same_bytes _ _ e) h }

input_read : (old new : Known) (r : Result (Vec ℕ Global) ReadAll) → IsReadAll most_bytes old new r → IsInput old r
input_read old new (Ok text) h = record { all = all_read old new text.items h.0 h.1; short = h.2 }
input_read old new (Err TooLong) h = too_long old new h.0 h.1 h.2
input_read old new (Err ReadFault) h = tt
input_read old new (Err NoMemory) h = tt

pub named_input_read : (input old new : Known) (r : Result (Vec ℕ Global) ReadAll) → old ≡ input → IsReadAll most_bytes old new r → IsInput input r
named_input_read input old new r e h = subst (λ i. IsInput i r) e (input_read old new r h)

-- the project's text, told by equals
pub text_as : (inputs : List ℕ → Known) (name other text items : List ℕ) → IsProjectText (inputs name) items → other ≡ name → text ≡ items → IsProjectText (inputs other) text
text_as inputs name other text items h named same =
    subst (λ (n : List ℕ). IsProjectText (inputs n) text) (sym named) (subst (λ (t : List ℕ). IsProjectText (inputs name) t) (sym same) h)
