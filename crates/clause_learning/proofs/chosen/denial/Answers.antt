use Rattle.std.proofs.Common.{refl, sym, subst}
use Rattle.cfj_logic.proofs.FeatureBits.{apart}
use Rattle.clause_learning.specs.Denials.{IsDenial, marked_value}
use Rattle.clause_learning.proofs.Choosing.{both_values, denial_found}
use Rattle.clause_learning.proofs.chosen.denial.Goals as goal

pub of-requires : goal.of-requires
of-requires c =
    let w = marked_value c.args.marks.now c.args.values.now in
    apart c.marked_as-on.result c.marked_as-off.result (λ f x y. both_values c.marked_as-on.result c.marked_as-off.result c.args.features f w c.marked_as-on.ensures.gathers c.marked_as-off.ensures.gathers x y)

pub returns : goal.returns
returns c =
    subst (IsDenial c.args.features c.args.values.now c.args.marks.now) (sym c.of.ensures)
    (denial_found c.args.features c.args.features c.args.values.now c.args.marks.now c.marked_as-on.result c.marked_as-off.result c.requires.few refl
    c.marked_as-on.ensures.gathers c.marked_as-off.ensures.gathers c.marked_as-on.ensures.small c.marked_as-off.ensures.small)
