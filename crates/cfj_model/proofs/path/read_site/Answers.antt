use Rattle.std.proofs.Common.{rules}
use Rattle.cfj_model.proofs.Paths.{missed, differs}
use Rattle.cfj_model.proofs.path.read_site.Goals as goal

pub returns-in_default-clause-none : goal.returns-in_default-clause-none
returns-in_default-clause-none c = missed c.args.text.now c.utf8.text (search rules)

pub returns-clause-none : goal.returns-clause-none
returns-clause-none c = differs c.args.text.now c.in-Some.site c.then_some.result c.utf8.text (search rules) (λ e. search (rules, e))
