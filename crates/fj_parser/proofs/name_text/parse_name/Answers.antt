use Rattle.std.proofs.Common.{◌≡◌, [], true}
use Rattle.std.proofs.lemmas.Result.{IfOk-weaker}
use Rattle.cfj_model.specs.declared.feature_model.Format.TheVariants.{One}
use Rattle.cfj_model.specs.Languages.{IsTextOf}
use Rattle.cfj_words.specs.Names.{is_short_identifier}
use Rattle.cfj_model.specs.PartLanguages.{names}
use Rattle.fj_parser.specs.Goals.{reader_for}
use Rattle.fj_machine.specs.Machine.{unnamed}
use Rattle.fj_parser.specs.declared.goal.Goal.TheVariants as reads
use Rattle.fj_parser.proofs.NameLaw.{name_laws}
use Rattle.fj_parser.proofs.Exact.{only_read, only_told}
use Rattle.fj_parser.proofs.TextsKept.{name_text_kept}
use Rattle.fj_parser.proofs.name_text.parse_name.Goals as goal

pub returns-clause-only : goal.returns-clause-only
returns-clause-only c =
    only_read names (reader_for reads.Name One [] unnamed) name_laws c.args.text.now c.read_name.result c.read_name.ensures.read c.read_name.ensures.fault

pub returns-clause-first : goal.returns-clause-first
returns-clause-first c =
    only_told names (reader_for reads.Name One [] unnamed) name_laws c.args.text.now c.read_name.result c.read_name.ensures.read c.read_name.ensures.fault

pub returns-clause-kept : goal.returns-clause-kept
returns-clause-kept c = IfOk-weaker c.read_name.result (λ name. IsTextOf names c.args.text.now name) (λ name. is_short_identifier name ≡ true) (name_text_kept c.args.text.now) c.read_name.ensures.read
