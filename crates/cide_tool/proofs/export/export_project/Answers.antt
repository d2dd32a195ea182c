use Rattle.std.proofs.Common.{refl}
use Rattle.cide_io.proofs.Gaining.{gains_nothing}
use Rattle.cide_io.specs.Changes.{Gains}
use Rattle.variant_export.specs.Exports.{variant_text}
use Rattle.cide_tool.specs.Endings.{Ends, done}
use Rattle.cide_tool.specs.declared.refusal.Refusal.TheVariants as refusal
use Rattle.cide_tool.proofs.BadNames.{of_its_features}
use Rattle.cide_tool.proofs.ExportFaults.{cut_of, false_of}
use Rattle.cide_tool.proofs.Runs.{done_answers, passed_on, refusal_answers, write_refused}
use Rattle.cide_tool.proofs.export.export_project.Goals as goal

pub export-requires : goal.export-requires
export-requires g c = of_its_features _ _ _ c.in_ok-selection.ensures.spelled

pub returns-in_err-selection : goal.returns-in_err-selection
returns-in_err-selection g c = λ inputs name stands.
    passed_on _ _ _ _ c.from_residual.result c.in_err-selection.field-0.0 c.from_residual.ensures.1 (gains_nothing g.O.Sink c.args.out.now)
    (c.in_err-selection.ensures.refused inputs name stands)

pub returns-in-Ok : goal.returns-in-Ok
returns-in-Ok g c = λ inputs name stands.
    let line = c.args.project.now in
    let s = c.in_ok-selection.selection in
    done_answers 0 0 (variant_text line s)
    (Ends.exported name c.args.names.now line s stands c.in_ok-selection.ensures.spelled c.in-Ok.ensures.0) refl c.in-Ok.ensures.1

pub returns-in-Err-InvalidSelection : goal.returns-in-Err-InvalidSelection
returns-in-Err-InvalidSelection g c = λ inputs name stands.
    let line = c.args.project.now in
    let s = c.in_ok-selection.selection in
    let why = c.in-Err-InvalidSelection in
    let h = false_of line s (Gains g.O.Sink c.args.out.now c.export.new.sink) c.export.result why.field-0 why.at c.export.ensures why.is why.field-0-is in
    refusal_answers h.1 (c.invalid.ensures inputs name c.args.names.now line s stands c.in_ok-selection.ensures.spelled h.0)

pub returns-in-Err-WriteFault : goal.returns-in-Err-WriteFault
returns-in-Err-WriteFault g c = λ inputs name stands.
    let line = c.args.project.now in
    let s = c.in_ok-selection.selection in
    let why = c.in-Err-WriteFault in
    let h = cut_of line s (Gains g.O.Sink c.args.out.now c.export.new.sink) c.export.result why.field-0 c.export.ensures why.is why.field-0-is in
    write_refused (done 0 (variant_text line s)) h.1 refusal.WriteFault
    (Ends.exported name c.args.names.now line s stands c.in_ok-selection.ensures.spelled h.0) h.2 refl
