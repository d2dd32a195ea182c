use Rattle.std.proofs.Common.{[], ◌∷◌, refl, sym, subst}
use Rattle.cfj_words.specs.Lists.{Has}
use Rattle.unit_propagation.proofs.Listing.{in_changed, in_here}
use Rattle.unit_propagation.proofs.Members.{has_left, has_right}
use Rattle.unit_propagation.proofs.lists.enlist.Goals as goal

pub returns-in_err-push-clause-kept : goal.returns-in_err-push-clause-kept
returns-in_err-push-clause-kept c = λ x k h.
    in_changed c.lengthen.new.lists.items c.args.var c.index_mut.result.now c.push.new.self c.in_ok-lengthen.ensures.long c.index_mut.ensures.value
    (λ j g. subst (λ w. Has w j) (sym c.in_err-push.ensures.items) g) x k (c.lengthen.ensures.kept x k h)

pub returns-clause-kept : goal.returns-clause-kept
returns-clause-kept c = λ x k h.
    in_changed c.lengthen.new.lists.items c.args.var c.index_mut.result.now c.push.new.self c.in_ok-lengthen.ensures.long c.index_mut.ensures.value
    (λ j g. subst (λ w. Has w j) (sym c.in_ok-push.ensures.items) (has_left c.index_mut.result.now.items (c.args.place ∷ []) j g)) x k (c.lengthen.ensures.kept x k h)

pub returns-clause-there : goal.returns-clause-there
returns-clause-there c =
    in_here c.lengthen.new.lists.items c.args.var c.args.place c.push.new.self c.in_ok-lengthen.ensures.long
    (subst (λ w. Has w c.args.place) (sym c.in_ok-push.ensures.items) (has_right c.index_mut.result.now.items (c.args.place ∷ []) c.args.place (0, refl)))
