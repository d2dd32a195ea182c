use Rattle.std.proofs.Common.{◌≡◌, ◌||◌, IfOk, subst}
use Rattle.cond_circuit.specs.Folding as fold
use Rattle.cond_circuit.specs.Gates.{value}
use Rattle.cond_circuit.proofs.FoldLemmas.{or_for, placed_worth}
use Rattle.cond_circuit.proofs.circuit.Circuit.or.Goals as goal

pub returns-clause-worth : goal.returns-clause-worth
returns-clause-worth c =
    let old = c.args.self.now in
    placed_worth c.place.result old c.place.new.self (λ s. value s old.parts c.args.left || value s old.parts c.args.right) (fold.fold_or c.args.left c.args.right) c.features-features.ensures.kept
    (or_for old c.args.left c.args.right c.features-features.ensures.kept c.requires.left c.requires.right)
    (subst (λ w. IfOk c.place.result (λ g. (c.place.new.self, g) ≡ fold.placed old w)) c.fold_or.ensures c.place.ensures.placed)
