use Rattle.std.proofs.Common.{ap, ◌∙◌}
use Rattle.cfj_words.specs.Names.{is_among}
use Rattle.fj_tally.proofs.MetNames.{has-map}
use Rattle.fj_tally.proofs.met.Met.has.Goals as goal

pub returns : goal.returns
returns c = c.contains.ensures ∙ has-map c.self.inside.names.keys c.args.name.now ∙ ap (λ names. is_among names c.args.name.now) c.self.view_is
