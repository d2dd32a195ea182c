use Rattle.std.proofs.Common.{◌≡◌}
use Rattle.cide_tool.specs.declared.refusal.Refusal.TheVariants as refusal
use Rattle.cide_tool.proofs.Runs.{err_gives, err_is, memory_refused}
use Rattle.cide_tool.proofs.export.selection_of_parts.Goals as goal

pub returns-in-Err-clause-refused : goal.returns-in-Err-clause-refused
returns-in-Err-clause-refused c = λ inputs name names parts stands.
    let first = err_is c.in_ok-selection.field-0 c.in-Err.fault _ c.in-Err.is c.in_ok-selection.ensures.fault in
    c.bad_name.ensures inputs name names c.args.project.now stands parts (rw (← parts, ← c.model.ensures.model) first)

pub returns-in_err-selection-clause-refused : goal.returns-in_err-selection-clause-refused
returns-in_err-selection-clause-refused c =
    err_gives c.from_residual.result (λ r. r ≡ refusal.NoMemory) _ c.from_residual.ensures.1 (λ r e inputs name names parts stands. memory_refused inputs ⊥ _ r e)
