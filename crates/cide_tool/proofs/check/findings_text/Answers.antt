use Rattle.unit_facts.proofs.OfModel.{checked_of_model}
use Rattle.cide_tool.proofs.check.findings_text.Goals as goal

pub findings_of-requires : goal.findings_of-requires
findings_of-requires c = rw (c.model.ensures.model, c.slice.ensures) (checked_of_model _ _ _ _ c.requires)

pub returns : goal.returns
returns c = rw (← c.model.ensures.model, ← c.slice.ensures) c.findings_of.ensures
