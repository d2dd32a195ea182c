use Rattle.std.proofs.Common.{◌≡◌, Ok, Err, ap, ◌∙◌, subst}
use Rattle.cide_io.proofs.Gaining.{gains_as}
use Rattle.unit_facts.specs.Diagnostics.{IsChecked}
use Rattle.unit_facts.specs.Findings.{findings}
use Rattle.cide_tool.specs.Checks.{IsFound, findings_status}
use Rattle.cide_tool.specs.Endings.{Ends, done}
use Rattle.cide_tool.specs.declared.refusal.Refusal.TheVariants as refusal
use Rattle.cide_tool.proofs.Runs.{done_answers, err_answers, write_refused}
use Rattle.cide_tool.proofs.check.put_text.Goals as goal

pub returns-in_err-put_all : goal.returns-in_err-put_all
returns-in_err-put_all g c = λ inputs name stands.
    let line = c.args.project.now in
    let v = c.args.found.now.verdict in
    let es = c.args.found.now.entries in
    let found : IsFound line c.args.budget v es = record {
      checked = c.requires.checked;
      clean = λ none. c.clean_variants.ensures c.args.budget v (subst (IsChecked line c.args.budget v) none c.requires.checked);
      decided = c.decides_few_features.ensures line c.args.budget v es c.requires.checked;
    } in
    err_answers _ _ _ _ c.from_residual.result (λ r. r ≡ refusal.WriteFault) c.from_residual.ensures.1 (λ r e.
    write_refused (done (findings_status v es) (findings line.model.features v es)) c.in_err-put_all.field-0.0 r
    (Ends.checked name c.args.budget line v es stands found)
    (gains_as g.O.Sink c.args.out.now c.put_all.new.sink c.as_bytes.result.now (findings line.model.features v es) (Err c.in_err-put_all.field-0.0)
    (c.as_bytes.ensures.value ∙ c.requires.text) c.in_err-put_all.ensures) e)

pub returns : goal.returns
returns g c = λ inputs name stands.
    let line = c.args.project.now in
    let v = c.args.found.now.verdict in
    let es = c.args.found.now.entries in
    let found : IsFound line c.args.budget v es = record {
      checked = c.requires.checked;
      clean = λ none. c.clean_variants.ensures c.args.budget v (subst (IsChecked line c.args.budget v) none c.requires.checked);
      decided = c.decides_few_features.ensures line c.args.budget v es c.requires.checked;
    } in
    done_answers (findings_status v es) c.status_of.result (findings line.model.features v es)
    (Ends.checked name c.args.budget line v es stands found) (c.status_of.ensures ∙ ap (findings_status v) c.slice.ensures)
    (gains_as g.O.Sink c.args.out.now c.put_all.new.sink c.as_bytes.result.now (findings line.model.features v es) (Ok tt)
    (c.as_bytes.ensures.value ∙ c.requires.text) c.in_ok-put_all.ensures)
