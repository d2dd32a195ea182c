use Rattle.std.proofs.Common.{ap, not, ◌∙◌}
use Rattle.cfj_words.specs.Names.{is_among}
use Rattle.fj_tally.proofs.MetNames.{has-map}
use Rattle.fj_tally.proofs.met.Met.add.Goals as goal

pub returns-clause-fresh : goal.returns-clause-fresh
returns-clause-fresh c = c.in_ok-insert.ensures.added ∙ ap not (has-map c.self.inside.names.keys c.args.name.now ∙ ap (λ names. is_among names c.args.name.now) c.self.view_is)
