use mathlib.Core.Path.{fun_ext}
use Rattle.std.proofs.Common.{◌≡◌, Some, cond, refl, subst}
use Rattle.std.specs.BTreeMap.{get}
use Rattle.std.specs.Ordering.{is_eq}
use Rattle.std.specs.declared.cmp.Ordering.{Ordering}
use Rattle.cond_circuit.specs.declared.part.Part.{Part}
use Rattle.cond_circuit.specs.declared.part.Part.TheVariants.{Zero, One, Feat, Not, And, Or}
use Rattle.cond_circuit.specs.contracts.part.PartOrd.TheImpl as derived
use Rattle.cond_circuit.specs.Indexes.{part_cmp}
use Rattle.cond_circuit.proofs.index.insert.Goals as goal

-- the derived order is `part_cmp`
same_order : (p q : Part) → derived.cmp-value.it p q ≡ part_cmp p q
same_order Zero Zero = refl
same_order Zero One = refl
same_order Zero (Feat b) = refl
same_order Zero (Not b) = refl
same_order Zero (And b b') = refl
same_order Zero (Or b b') = refl
same_order One Zero = refl
same_order One One = refl
same_order One (Feat b) = refl
same_order One (Not b) = refl
same_order One (And b b') = refl
same_order One (Or b b') = refl
same_order (Feat a) Zero = refl
same_order (Feat a) One = refl
same_order (Feat a) (Feat b) = refl
same_order (Feat a) (Not b) = refl
same_order (Feat a) (And b b') = refl
same_order (Feat a) (Or b b') = refl
same_order (Not a) Zero = refl
same_order (Not a) One = refl
same_order (Not a) (Feat b) = refl
same_order (Not a) (Not b) = refl
same_order (Not a) (And b b') = refl
same_order (Not a) (Or b b') = refl
same_order (And a a') Zero = refl
same_order (And a a') One = refl
same_order (And a a') (Feat b) = refl
same_order (And a a') (Not b) = refl
same_order (And a a') (And b b') = refl
same_order (And a a') (Or b b') = refl
same_order (Or a a') Zero = refl
same_order (Or a a') One = refl
same_order (Or a a') (Feat b) = refl
same_order (Or a a') (Not b) = refl
same_order (Or a a') (And b b') = refl
same_order (Or a a') (Or b b') = refl

pub returns-clause-found : goal.returns-clause-found
returns-clause-found c = λ q.
    subst (λ (order : Part → Part → Ordering). get order c.insert.new.self q ≡ cond (is_eq (order c.args.part q)) (Some c.args.gate) (get order c.args.index.now q))
    (fun_ext (λ p. fun_ext (same_order p))) (c.in_ok-insert.ensures.updates.0 q)
