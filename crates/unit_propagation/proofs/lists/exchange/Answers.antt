use Rattle.unit_propagation.proofs.Listing.{exchanged}
use Rattle.unit_propagation.proofs.lists.exchange.Goals as goal

pub returns : goal.returns
returns c =
    rw (c.replace.ensures.value, c.replace.ensures.after)
    (exchanged c.args.lists.now.items c.args.var c.index_mut.result.now c.args.list c.requires c.index_mut.ensures.value)
