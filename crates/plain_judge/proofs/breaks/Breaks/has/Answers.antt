use Rattle.std.proofs.Common.{List, IsTrue, subst}
use Rattle.std.specs.Prelude.{◌↔◌}
use Rattle.cfj_model.specs.Judging.{Pair}
use Rattle.cfj_words.specs.Lists.{Has}
use Rattle.plain_judge.proofs.LookedUp.{looked_up}
use Rattle.plain_judge.proofs.breaks.Breaks.has.Goals as goal

pub returns-then-not-is_empty : goal.returns-then-not-is_empty
returns-then-not-is_empty c =
    subst (λ (ps : List Pair). IsTrue c.contains.result ↔ Has ps (c.args.site.now, c.args.rule)) c.self.view_is
    (looked_up c.self.inside.pairs.now c.self.inside.by_parts.keys c.of.result (c.args.site.now, c.args.rule) c.contains.result c.self.invariant c.of.ensures c.contains.ensures)
