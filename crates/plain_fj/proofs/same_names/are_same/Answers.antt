use Rattle.plain_fj.proofs.SameNames.{same_differ}
use Rattle.plain_fj.proofs.same_names.are_same.Goals as goal

pub returns-then-some-others : goal.returns-then-some-others
returns-then-some-others c = same_differ c.args.some.now c.args.others.now c.if-some-others.true
