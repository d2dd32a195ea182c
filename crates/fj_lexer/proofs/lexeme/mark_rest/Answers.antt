use Rattle.std.proofs.Common.{rules}
use Rattle.std.specs.Str.{chars}
use Rattle.std.proofs.lemmas.Bool.{ne_eqb}
use Rattle.fj_lexer.proofs.Marks.{single, dash, less, less_alone, at_other}
use Rattle.fj_lexer.proofs.lexeme.mark_rest.Goals as goal

pub returns-then-is_single_mark : goal.returns-then-is_single_mark
returns-then-is_single_mark c = single c.args.first c.args.after.now c.utf8.after c.requires (search rules)

pub returns-in-45 : goal.returns-in-45
returns-in-45 c = dash c.args.first c.args.after.now c.behind.result (record { word = c.requires; mark = search rules }) c.in-45.is c.behind.ensures

pub returns-in_ok-behind-in-60 : goal.returns-in_ok-behind-in-60
returns-in_ok-behind-in-60 c = less c.args.first c.args.after.now c.in_ok-behind-in-60.field-0.now c.behind-in-60-2.result (record { word = c.requires; mark = search rules }) c.in-60.is c.in_ok-behind-in-60.ensures c.behind-in-60-2.ensures

pub returns-in_err-behind-in-60 : goal.returns-in_err-behind-in-60
returns-in_err-behind-in-60 c =
    rw c.from_residual.ensures (less_alone c.args.first c.args.after.now (record { word = c.requires; mark = search rules }) c.in-60.is c.in_err-behind-in-60.ensures)

pub returns-in_default : goal.returns-in_default
returns-in_default c = at_other c.args.first (chars c.args.after.now) (record { word = c.requires; mark = search rules }) (ne_eqb c.args.first 45 (λ e. search rules)) (ne_eqb c.args.first 60 (λ e. search rules))
