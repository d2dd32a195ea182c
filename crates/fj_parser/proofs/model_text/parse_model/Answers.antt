use Rattle.std.proofs.Common.{[]}
use Rattle.std.proofs.lemmas.Result.{IfOk-weaker}
use Rattle.cfj_model.specs.declared.feature_model.Format.TheVariants.{One}
use Rattle.cfj_model.specs.Languages.{IsTextOf}
use Rattle.cfj_model.specs.PartLanguages.{models}
use Rattle.fj_parser.specs.Goals.{reader_for}
use Rattle.fj_machine.specs.Machine.{unnamed}
use Rattle.fj_parser.specs.declared.goal.Goal.TheVariants as reads
use Rattle.fj_parser.proofs.ModelLaw.{model_laws}
use Rattle.fj_parser.proofs.Exact.{only_read, only_told}
use Rattle.cfj_model.specs.Parts.{IsModel}
use Rattle.fj_parser.proofs.TextsKept.{model_text_kept}
use Rattle.fj_parser.proofs.model_text.parse_model.Goals as goal

pub returns-clause-only : goal.returns-clause-only
returns-clause-only c =
    only_read models (reader_for reads.Model One [] unnamed) model_laws c.args.text.now c.read_model.result c.read_model.ensures.read c.read_model.ensures.fault

pub returns-clause-first : goal.returns-clause-first
returns-clause-first c =
    only_told models (reader_for reads.Model One [] unnamed) model_laws c.args.text.now c.read_model.result c.read_model.ensures.read c.read_model.ensures.fault

pub returns-clause-kept : goal.returns-clause-kept
returns-clause-kept c = IfOk-weaker c.read_model.result (IsTextOf models c.args.text.now) IsModel (model_text_kept c.args.text.now) c.read_model.ensures.read
