use Rattle.std.proofs.Common.{◌∙◌, ap}
use Rattle.cfj_logic.specs.Selections.{has_bit}
use Rattle.cfj_logic.proofs.SetBits.{tests_bit}
use Rattle.cfj_logic.proofs.feature_set.FeatureSet.has.Goals as goal

pub returns-clause-member : goal.returns-clause-member
returns-clause-member c = tests_bit c.self.inside.bits c.args.feature c.requires ∙ ap (λ n. has_bit n c.args.feature) c.self.view_is
