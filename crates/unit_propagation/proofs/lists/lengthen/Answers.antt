use Rattle.std.proofs.Common.{length, sym, subst}
use Rattle.unit_propagation.specs.Lists.{IsIn}
use Rattle.unit_propagation.proofs.Listing.{in_longer, longer_by}
use Rattle.unit_propagation.proofs.lists.lengthen.Goals as goal

pub lists-preserved : goal.lists-preserved
lists-preserved c = record {
  kept = λ x k h. subst (λ w. IsIn w x k) (sym c.in_ok-push.ensures.items) (in_longer c.lists.lists.items c.new.result x k (c.lists.invariant.kept x k h));
  longer = longer_by (length c.args.lists.now.items) c.lists.lists.items c.push.new.self.items c.new.result c.in_ok-push.ensures.items c.lists.invariant.longer;
}

pub returns-in_err-push-clause-kept : goal.returns-in_err-push-clause-kept
returns-in_err-push-clause-kept c = λ x k h. subst (λ w. IsIn w x k) (sym c.in_err-push.ensures.items) (c.lists.invariant.kept x k h)
