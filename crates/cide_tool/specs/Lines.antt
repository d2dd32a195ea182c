-- The lines that tell on standard error why a run ended.
use Rattle.std.specs.Prelude.{ℕ, List, [], ◌++◌, codes, slice_index_or}
use Rattle.std.specs.Fmt.{decimal}
use Rattle.cfj_model.specs.declared.fault.FaultKind.{FaultKind}
use Rattle.cfj_model.specs.FaultTexts.{kind_text}
use Rattle.cfj_model.specs.Print.{line_end}
use Rattle.feature_model.specs.declared.names.NameFault.{NameFault}
use Rattle.feature_model.specs.declared.names.NameFault.TheVariants.{NoFeature, Twice}

-- `refused at AT: KIND`
abbrev pub fault_line : ℕ → FaultKind → List ℕ
fault_line at kind = codes "refused at " ++ (decimal at ++ (codes ": " ++ (kind_text kind ++ line_end)))

-- the text of a bad name
abbrev pub bad_name : List (List ℕ) → ℕ → List ℕ
bad_name names at = slice_index_or names at []

-- `refused names: NoFeature X`, or `refused names: Twice X`
abbrev pub names_line : List (List ℕ) → NameFault → List ℕ
names_line names (NoFeature at) = codes "refused names: NoFeature " ++ (bad_name names at ++ line_end)
names_line names (Twice at) = codes "refused names: Twice " ++ (bad_name names at ++ line_end)

abbrev pub usage_line : List ℕ
usage_line = codes "usage: cide check|export|view|script|serve|audit|certify|verify|sample" ++ line_end

abbrev pub read_fault_line : List ℕ
read_fault_line = codes "read fault" ++ line_end

abbrev pub write_fault_line : List ℕ
write_fault_line = codes "write fault" ++ line_end

abbrev pub no_memory_line : List ℕ
no_memory_line = codes "no memory" ++ line_end

-- `invalid selection: constraint I`
abbrev pub invalid_line : ℕ → List ℕ
invalid_line at = codes "invalid selection: constraint " ++ (decimal at ++ line_end)

abbrev pub limit_line : List ℕ
limit_line = codes "limit" ++ line_end
