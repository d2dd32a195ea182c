use Rattle.feature_views.proofs.Presence.{class_is}
use Rattle.feature_views.proofs.class.class_of.Goals as goal

pub returns : goal.returns
returns c =
    class_is c.args.selection.now c.args.class.now _ _ _ _ _ _ c.requires c.in_ok-copy.ensures c.empty.ensures c.in_ok-copy-2.ensures c.in_ok-selected.ensures
    c.in_ok-ctor_of.ensures c.in_ok-selected-2.ensures
