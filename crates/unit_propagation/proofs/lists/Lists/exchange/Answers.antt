use Rattle.unit_propagation.proofs.Listing.{in_on, in_off}
use Rattle.unit_propagation.proofs.lists.Lists.exchange.Goals as goal

pub returns-then-literal-clause-put : goal.returns-then-literal-clause-put
returns-then-literal-clause-put c = λ k h. in_on c.args.self.now c.exchange.new.lists c.args.literal k c.if-literal.true (c.exchange.ensures.back k h)

pub returns-else-literal-clause-put : goal.returns-else-literal-clause-put
returns-else-literal-clause-put c = λ k h. in_off c.args.self.now c.exchange-else-literal.new.lists c.args.literal k c.if-literal.false (c.exchange-else-literal.ensures.back k h)
