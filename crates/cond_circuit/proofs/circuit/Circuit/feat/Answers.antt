use Rattle.cfj_logic.specs.Selections.{is_on}
use Rattle.cond_circuit.specs.declared.folding.Folded.TheVariants.{New}
use Rattle.cond_circuit.specs.declared.part.Part.TheVariants.{Feat}
use Rattle.cond_circuit.proofs.FoldLemmas.{feat_for, placed_worth}
use Rattle.cond_circuit.proofs.circuit.Circuit.feat.Goals as goal

pub returns-clause-worth : goal.returns-clause-worth
returns-clause-worth c =
    let old = c.args.self.now in
    placed_worth c.place.result old c.place.new.self (λ s. is_on s c.args.feature) (New (Feat c.args.feature)) c.place.ensures.kept (feat_for old c.args.feature c.requires) c.place.ensures.placed
