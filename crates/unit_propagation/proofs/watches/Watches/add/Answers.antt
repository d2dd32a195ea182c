use Rattle.std.proofs.Common.{inl, inr, length, refl, ◌∙◌}
use Rattle.unit_propagation.specs.Lists.{IsListed}
use Rattle.unit_propagation.proofs.Adding.{more_then, fits_kept, fits_longer, fits_added, taken_size}
use Rattle.unit_propagation.proofs.watches.Watches.add.Goals as goal

pub returns-in_err-enlist-clause-same : goal.returns-in_err-enlist-clause-same
returns-in_err-enlist-clause-same c =
    fits_kept c.args.clauses.now c.args.self.now.pairs.items c.args.self.now.pairs.items c.args.self.now.lists c.enlist.new.self (inl refl) c.enlist.ensures.more c.requires

pub returns-in_err-enlist-2-clause-same : goal.returns-in_err-enlist-2-clause-same
returns-in_err-enlist-2-clause-same c =
    fits_kept c.args.clauses.now c.args.self.now.pairs.items c.args.self.now.pairs.items c.args.self.now.lists c.enlist-2.new.self (inl refl)
    (more_then c.args.self.now.lists c.enlist.new.self c.enlist-2.new.self c.enlist.ensures.more c.enlist-2.ensures.more) c.requires

pub returns-in_err-push-clause-same : goal.returns-in_err-push-clause-same
returns-in_err-push-clause-same c =
    fits_kept c.args.clauses.now c.args.self.now.pairs.items c.push.new.self.items c.args.self.now.lists c.enlist-2.new.self (inr (c.in_err-push.ensures.items ∙ c.truncate.ensures.items))
    (more_then c.args.self.now.lists c.enlist.new.self c.enlist-2.new.self c.enlist.ensures.more c.enlist-2.ensures.more) c.requires

pub returns-clause-same : goal.returns-clause-same
returns-clause-same c =
    fits_longer c.args.clauses.now c.truncate.new.self.items c.push.new.self.items c.args.pair (IsListed c.enlist-2.new.self) c.in_ok-push.ensures.items
    (fits_kept c.args.clauses.now c.args.self.now.pairs.items c.truncate.new.self.items c.args.self.now.lists c.enlist-2.new.self (inr c.truncate.ensures.items)
    (more_then c.args.self.now.lists c.enlist.new.self c.enlist-2.new.self c.enlist.ensures.more c.enlist-2.ensures.more) c.requires)

pub returns-clause-added : goal.returns-clause-added
returns-clause-added c = λ d two.
    fits_added c.args.clauses.now c.truncate.new.self.items c.push.new.self.items c.enlist-2.new.self d c.args.pair
    (taken_size c.args.clauses.now c.args.self.now.pairs.items c.truncate.new.self.items (IsListed c.args.self.now.lists) c.truncate.ensures.items c.requires) c.in_ok-push.ensures.items two
    (c.enlist-2.ensures.more.kept c.args.pair.first (length c.args.clauses.now) c.in_ok-enlist.ensures.there) c.in_ok-enlist-2.ensures.there
    (fits_kept c.args.clauses.now c.args.self.now.pairs.items c.truncate.new.self.items c.args.self.now.lists c.enlist-2.new.self (inr c.truncate.ensures.items)
    (more_then c.args.self.now.lists c.enlist.new.self c.enlist-2.new.self c.enlist.ensures.more c.enlist-2.ensures.more) c.requires)
