-- What the type of judgements keeps.
use Rattle.std.specs.Prelude.{◌≡◌, Bool, true, false, List, is_some}
use Rattle.cfj_model.specs.declared.feature_model.FeatureModel.{FeatureModel}
use Rattle.cfj_words.specs.Lists.{Has}
use Rattle.unit_facts.specs.Facts.{Contents, model_is}
use Rattle.unit_facts.specs.Judgements.{IsHonest, Judgement}
use Rattle.unit_facts.specs.declared.unit.Key.{Key}
use Rattle.unit_facts.specs.declared.unit.Key.TheVariants as key
use Rattle.unit_facts.specs.declared.unit.Unit.{Unit}
use Rattle.unit_facts.specs.declared.unit.Unit.TheVariants as unit

-- the unit is the feature model's
abbrev pub is_of_model : Unit → Bool
is_of_model unit.Model = true
is_of_model (unit.Class c) = false
is_of_model (unit.Method c m alt) = false

-- a feature model is among the facts, at its key
abbrev pub ListsModel : List (Key × Contents) → Type 0
ListsModel facts = (m : FeatureModel) × Has facts (key.Model, model_is m)

-- honest, with a verdict exactly where the unit is the model's, and with the model among its facts
pub record IsKept (j : Judgement) : Type 0 where
  pub honest : IsHonest j
  pub verdict : is_some j.verdict ≡ is_of_model j.unit
  pub model : ListsModel j.facts
