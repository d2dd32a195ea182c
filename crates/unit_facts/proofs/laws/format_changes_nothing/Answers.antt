use Rattle.cfj_model.specs.ProductLines.{in_format_two}
use Rattle.unit_facts.proofs.Alike.{checked_alike, from_two, to_two}
use Rattle.unit_facts.proofs.laws.format_changes_nothing.Goals as goal

pub returns : goal.returns
returns c = λ line budget v es. (checked_alike line (in_format_two line) (to_two line) budget v es, checked_alike (in_format_two line) line (from_two line) budget v es)
