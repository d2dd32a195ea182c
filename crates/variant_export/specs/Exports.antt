-- What an export of a variant comes to.
use Rattle.std.specs.Prelude.{ℕ, List, [], Result, Ok, Err}
use Rattle.cfj_model.specs.Print.{plain_printed}
use Rattle.cfj_model.specs.ProductLines.{ProductLine}
use Rattle.cfj_model.specs.Projection.{projected}
use Rattle.cfj_logic.specs.Selections.{Chosen}
use Rattle.cfj_logic.specs.Validity.{IsValid, IsFirstFalse}
use Rattle.cide_io.specs.declared.faults.Failed.{Failed}
use Rattle.variant_export.specs.declared.variant.ExportFault.{ExportFault}
use Rattle.variant_export.specs.declared.variant.ExportFault.TheVariants.{InvalidSelection, WriteFault}

-- what is printed of a product line under a selection
abbrev pub variant_text : ProductLine → Chosen → List ℕ
variant_text line s = plain_printed (projected s line).classes

-- A valid selection's variant was printed, or a proper prefix of its print; or the first constraint that is false was told, and nothing
-- was printed. `Puts text result` says that this text was put or, after a failure, a proper prefix of it.
abbrev pub IsExport : ProductLine → Chosen → (List ℕ → Result Unit Failed → Type 0) → Result Unit ExportFault → Type 0
IsExport line s Puts (Ok u) = IsValid line.model.constraints s × Puts (variant_text line s) (Ok tt)
IsExport line s Puts (Err (InvalidSelection at)) = IsFirstFalse line.model.constraints s at × Puts [] (Ok tt)
IsExport line s Puts (Err WriteFault) =
    IsValid line.model.constraints s × (fault : Failed) × Puts (variant_text line s) (Err fault)
