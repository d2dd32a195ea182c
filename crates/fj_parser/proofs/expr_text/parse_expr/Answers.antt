use Rattle.std.proofs.Common.{◌≡◌, [], true}
use Rattle.std.proofs.lemmas.Result.{IfOk-weaker}
use Rattle.cfj_model.specs.Coloring.{Palette}
use Rattle.cfj_model.specs.Expressions.{slots}
use Rattle.cfj_model.specs.declared.feature_model.Format.TheVariants.{One}
use Rattle.cfj_model.specs.Languages.{IsTextOf}
use Rattle.cfj_model.specs.Numbered.{run_from}
use Rattle.cfj_model.specs.ProductLines.{is_body}
use Rattle.cfj_model.specs.PartLanguages.{expressions}
use Rattle.fj_parser.specs.Goals.{reader_for}
use Rattle.fj_machine.specs.Machine.{unnamed}
use Rattle.fj_parser.specs.declared.goal.Goal.TheVariants as reads
use Rattle.fj_parser.proofs.ExpressionLaw.{expression_laws}
use Rattle.fj_parser.proofs.Exact.{only_read, only_told}
use Rattle.fj_parser.proofs.TextsKept.{expression_text_kept, expression_text_numbered}
use Rattle.fj_parser.proofs.expr_text.parse_expr.Goals as goal

pub returns-clause-only : goal.returns-clause-only
returns-clause-only c =
    only_read expressions (reader_for reads.Expression One [] unnamed) expression_laws c.args.text.now c.read_expr.result c.read_expr.ensures.read c.read_expr.ensures.fault

pub returns-clause-first : goal.returns-clause-first
returns-clause-first c =
    only_told expressions (reader_for reads.Expression One [] unnamed) expression_laws c.args.text.now c.read_expr.result c.read_expr.ensures.read c.read_expr.ensures.fault

pub returns-clause-kept : goal.returns-clause-kept
returns-clause-kept c = IfOk-weaker c.read_expr.result (IsTextOf expressions c.args.text.now) (λ expr. (palette : Palette) → is_body palette expr ≡ true) (expression_text_kept c.args.text.now) c.read_expr.ensures.read

pub returns-clause-numbered : goal.returns-clause-numbered
returns-clause-numbered c = IfOk-weaker c.read_expr.result (IsTextOf expressions c.args.text.now) (λ expr. run_from 0 (slots expr) ≡ true) (expression_text_numbered c.args.text.now) c.read_expr.ensures.read
