use Rattle.unit_propagation.proofs.Listing.{more_on, more_off}
use Rattle.unit_propagation.proofs.lists.Lists.enlist.Goals as goal

pub returns-then-literal-clause-more : goal.returns-then-literal-clause-more
returns-then-literal-clause-more c = more_on c.args.self.now c.enlist.new.lists c.enlist.ensures.kept c.enlist.ensures.longer

pub returns-else-literal-clause-more : goal.returns-else-literal-clause-more
returns-else-literal-clause-more c = more_off c.args.self.now c.enlist-else-literal.new.lists c.enlist-else-literal.ensures.kept c.enlist-else-literal.ensures.longer
