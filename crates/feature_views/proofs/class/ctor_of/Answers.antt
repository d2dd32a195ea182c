use Rattle.feature_views.proofs.Presence.{ctor_is}
use Rattle.feature_views.proofs.class.ctor_of.Goals as goal

pub returns : goal.returns
returns c = ctor_is c.args.selection.now c.args.class.now.colors c.args.class.now.ctor _ _ _ c.requires c.in_ok-selected.ensures c.in_ok-selected-2.ensures c.in_ok-selected-3.ensures
