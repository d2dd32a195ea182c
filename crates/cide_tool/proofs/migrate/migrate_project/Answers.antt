use Rattle.std.proofs.Common.{◌≡◌, refl}
use Rattle.cfj_model.specs.Print.{printed}
use Rattle.cfj_model.specs.ProductLines.{in_format_two}
use Rattle.cide_tool.specs.Endings.{Ends, done}
use Rattle.cide_tool.specs.declared.refusal.Refusal.TheVariants as refusal
use Rattle.cide_tool.proofs.Runs.{done_answers, err_answers, write_refused}
use Rattle.cide_tool.proofs.migrate.migrate_project.Goals as goal

pub returns-in_err-print_migrated : goal.returns-in_err-print_migrated
returns-in_err-print_migrated g c = λ inputs name stands.
    let text = printed (in_format_two c.args.project.now) in
    err_answers _ _ _ _ c.from_residual.result (λ r. r ≡ refusal.WriteFault) c.from_residual.ensures.1 (λ r e.
    write_refused (done 0 text) c.in_err-print_migrated.field-0.0 r (Ends.migrated name c.args.project.now stands) c.in_err-print_migrated.ensures e)

pub returns : goal.returns
returns g c = λ inputs name stands.
    done_answers 0 0 (printed (in_format_two c.args.project.now)) (Ends.migrated name c.args.project.now stands) refl c.in_ok-print_migrated.ensures
