use Rattle.std.proofs.Common.{sym, ◌∙◌, lit<, true≢false}
use Rattle.std.proofs.lemmas.Str.Pattern.{starts_char}
use Rattle.cfj_model.proofs.Paths.{signed, number_is}
use Rattle.cfj_model.proofs.path.read_number.Goals as goal

pub returns-then-starts_with : goal.returns-then-starts_with
returns-then-starts_with c =
    let starts = starts_char 43 c.args.text.now c.starts_with.result c.starts_with.ensures.cases (lit< tt) (lit< tt) in
    sym (signed c.args.text.now (starts.0 c.if-starts_with.true))

pub returns : goal.returns
returns c =
    let starts = starts_char 43 c.args.text.now c.starts_with.result c.starts_with.ensures.cases (lit< tt) (lit< tt) in
    c.ok.ensures.value ∙ number_is c.args.text.now c.parse.result c.parse.ensures.value.0 (λ e. true≢false (sym (starts.1 e) ∙ c.if-starts_with.false))
