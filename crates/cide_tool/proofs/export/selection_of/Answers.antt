use Rattle.std.proofs.Common.{◌≡◌}
use Rattle.cide_tool.specs.declared.refusal.Refusal.TheVariants as refusal
use Rattle.cide_tool.proofs.Runs.{err_gives, err_maps, memory_refused}
use Rattle.cide_tool.proofs.export.selection_of.Goals as goal

pub returns-in_err-parts-clause-refused : goal.returns-in_err-parts-clause-refused
returns-in_err-parts-clause-refused c =
    err_gives c.from_residual.result (λ r. r ≡ refusal.NoMemory) _ c.from_residual.ensures.1 (λ r e inputs name stands. memory_refused inputs ⊥ _ r e)

pub returns-clause-refused : goal.returns-clause-refused
returns-clause-refused c =
    err_maps c.selection_of_parts.result _ _ c.selection_of_parts.ensures.refused (λ r h inputs name stands.
    h inputs name c.args.names.now (rw c.as_slice.ensures.value c.in_ok-parts.ensures) stands)
