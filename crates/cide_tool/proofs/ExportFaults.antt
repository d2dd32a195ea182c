-- What an export that failed tells of the selection, by its fault.
use Rattle.std.proofs.Common.{◌≡◌, ℕ, List, [], Result, Ok, Err, ap, subst, ◌∙◌}
use Rattle.cfj_logic.specs.Selections.{Chosen}
use Rattle.cfj_logic.specs.Validity.{IsValid, IsFirstFalse}
use Rattle.cfj_model.specs.ProductLines.{ProductLine}
use Rattle.cide_io.specs.declared.faults.Failed.{Failed}
use Rattle.variant_export.specs.Exports.{IsExport, variant_text}
use Rattle.variant_export.specs.declared.variant.ExportFault.{ExportFault}
use Rattle.variant_export.specs.declared.variant.ExportFault.TheVariants.{InvalidSelection, WriteFault}

module _ (line : ProductLine) (s : Chosen) (Puts : List ℕ → Result Unit Failed → Type 0) (result : Result Unit ExportFault) (fault : ExportFault) where
  pub false_of : (at : ℕ) → IsExport line s Puts result → result ≡ Err fault → fault ≡ InvalidSelection at → IsFirstFalse line.model.constraints s at × Puts [] (Ok tt)
  false_of at h e f = subst (IsExport line s Puts) (e ∙ ap Err f) h

  pub cut_of : IsExport line s Puts result → result ≡ Err fault → fault ≡ WriteFault → IsValid line.model.constraints s × (cut : Failed) × Puts (variant_text line s) (Err cut)
  cut_of h e f = subst (IsExport line s Puts) (e ∙ ap Err f) h
