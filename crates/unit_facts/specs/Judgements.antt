-- Judgements of units, and when one is honest: right for every project that has its facts.
use Rattle.std.specs.Prelude.{◌≡◌, ℕ, List, [], ◌∷◌, ◌++◌, map, Option, Some, None}
use Rattle.cfj_logic.specs.Selections.{Chosen}
use Rattle.cfj_model.specs.ProductLines.{IsProject, ProductLine}
use Rattle.cfj_model.specs.Projection.{projected}
use Rattle.unit_facts.specs.Diagnostics.{AreExact, IsRight}
use Rattle.unit_facts.specs.Facts.{Contents, HasFacts, fact}
use Rattle.unit_facts.specs.Reach.{InReach, IsReach}
use Rattle.unit_facts.specs.Units.{IsUnit, unit_judged, unit_pairs}
use Rattle.unit_facts.specs.declared.entry.Entry.{Entry}
use Rattle.unit_facts.specs.declared.entry.Verdict.{Verdict}
use Rattle.unit_facts.specs.declared.unit.Key.{Key}
use Rattle.unit_facts.specs.declared.unit.Unit.{Unit}
use Rattle.unit_facts.specs.declared.unit.Unit.TheVariants as unit

-- ---- exact for a unit

-- a verdict is there for the model's unit alone
abbrev pub IsVerdictFor : ProductLine → ℕ → Unit → Option Verdict → Type 0
IsVerdictFor line budget unit.Model None = ⊥
IsVerdictFor line budget unit.Model (Some v) = IsRight line budget v
IsVerdictFor line budget (unit.Class c) v = v ≡ None
IsVerdictFor line budget (unit.Method c m alt) v = v ≡ None

-- entries for the pairs of the unit, and the verdict where it is the model's
pub record IsExactFor (line : ProductLine) (budget : ℕ) (u : Unit) (es : List Entry) (v : Option Verdict) : Type 0 where
  pub entries : AreExact line budget (unit_pairs line.classes u) es
  pub verdict : IsVerdictFor line budget u v

-- the verdict of a line, at the model's unit alone
abbrev pub verdict_at : Verdict → Unit → Option Verdict
verdict_at v unit.Model = Some v
verdict_at v (unit.Class c) = None
verdict_at v (unit.Method c m alt) = None

-- entries that are lists joined in the order of these units, each exact for its unit
pub data AreExactByUnits (line : ProductLine) (budget : ℕ) (v : Verdict) : List Unit → List Entry → Type 0 where
  no_units : AreExactByUnits line budget v [] []
  one_unit : (u : Unit) (us : List Unit) (es fs : List Entry) → IsExactFor line budget u es (verdict_at v u)
      → AreExactByUnits line budget v us fs
      → AreExactByUnits line budget v (u ∷ us) (es ++ fs)

-- ---- judgements

-- what is said of a unit within a budget, and the facts that it rests on
pub record Judgement : Type 0 where
  pub unit : Unit
  pub budget : ℕ
  pub facts : List (Key × Contents)
  pub entries : List Entry
  pub verdict : Option Verdict

-- its facts are those of the unit's reach, and it is exact
pub record IsRightFor (j : Judgement) (q : ProductLine) : Type 0 where
  pub reach : IsReach q j.unit (map (λ f. f.0) j.facts)
  pub exact : IsExactFor q j.budget j.unit j.entries j.verdict

-- it is right for every project that has its facts
abbrev pub IsHonest : Judgement → Type 0
IsHonest j = (q : ProductLine) → IsProject q → HasFacts q j.facts → IsRightFor j q

-- it is of this unit of the project, within this budget
pub record IsOf (q : ProductLine) (u : Unit) (most : ℕ) (j : Judgement) : Type 0 where
  pub unit : j.unit ≡ u
  pub budget : j.budget ≡ most
  pub facts : HasFacts q j.facts

-- ---- the law

-- the projects have the same facts at what the unit reaches in the first
abbrev pub SameFacts : ProductLine → ProductLine → Unit → Type 0
SameFacts q r u = (k : Key) → InReach q u k → fact q k ≡ fact r k

-- The unit is the same in both: the model, what it reaches, its pairs, and in each variant what breaks of them.
pub record IsSameFor (q r : ProductLine) (u : Unit) : Type 0 where
  pub model : q.model ≡ r.model
  pub there : (k : Key) → InReach q u k → InReach r u k
  pub back : (k : Key) → InReach r u k → InReach q u k
  pub pairs : unit_pairs q.classes u ≡ unit_pairs r.classes u
  pub judged : (s : Chosen) → unit_judged (projected s q).classes u ≡ unit_judged (projected s r).classes u

-- Locality: a unit is the same in two projects that have the same facts at its reach in one of them.
abbrev pub IsLocal : Type 0
IsLocal = (q r : ProductLine) → IsProject q → IsProject r → (u : Unit) → IsUnit q u → SameFacts q r u → IsSameFor q r u
