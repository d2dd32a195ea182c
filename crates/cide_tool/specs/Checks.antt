-- What a check finds of a product line.
use Rattle.std.specs.Prelude.{◌≡◌, ℕ, ◌^◌, ◌≤◌, true, if◌then◌else◌, List, [], length}
use Rattle.std.specs.List.{list_any}
use Rattle.cfj_model.specs.ProductLines.{ProductLine}
use Rattle.cfj_model.specs.Projection.{projected}
use Rattle.cfj_logic.specs.Selections.{Chosen}
use Rattle.cfj_model.specs.Typing.{IsWellTyped}
use Rattle.unit_facts.specs.Diagnostics.{IsChecked, IsValidFor, are_decided, is_broken}
use Rattle.unit_facts.specs.declared.entry.Entry.{Entry}
use Rattle.unit_facts.specs.declared.entry.Verdict.{Verdict}

-- the status that findings give: 1 where an entry is broken, else 2 where an entry or the verdict is undecided, else 0
abbrev pub findings_status : Verdict → List Entry → ℕ
findings_status v es = if list_any is_broken es then 1 else (if are_decided v es then 0 else 2)

-- under every valid selection the variant is well typed
abbrev pub AreWellTyped : ProductLine → Type 0
AreWellTyped line = (s : Chosen) → IsValidFor line s → IsWellTyped (projected s line).classes

-- A verdict and entries that are checked for a product line and a budget. Without an entry the variant of every
-- valid selection is well typed. Nothing is undecided where the budget is at least 3 ^ n for n features: no more
-- clauses hold each feature at most once.
pub record IsFound (line : ProductLine) (budget : ℕ) (v : Verdict) (es : List Entry) : Type 0 where
  pub checked : IsChecked line budget v es
  pub clean : es ≡ [] → AreWellTyped line
  pub decided : 3 ^ length line.model.features ≤ budget → are_decided v es ≡ true
