use Rattle.std.proofs.Common.{sym, ◌∙◌}
use Rattle.std.proofs.lemmas.Bool.{le-leb, lt-ltb}
use Rattle.plain_judge.proofs.Limits.{many_selections}
use Rattle.plain_judge.proofs.judge.is_limited.Goals as goal

pub returns-then-features-ge15 : goal.returns-then-features-ge15
returns-then-features-ge15 c =
    le-leb 15 c.args.features c.if-features-ge15.true ∙ sym (lt-ltb c.args.budget _ (many_selections c.args.features c.args.budget c.if-features-ge15.true c.requires))
