-- Whether a falsified clause was found.
use Rattle.std.proofs.Common.{◌≡◌, ℕ, Bool, true, false, List, Option, Some, None, refl, sym, is_some}
use Rattle.std.specs.Prelude.{IfSome, IfNone, IsTrue}
use Rattle.cfj_logic.specs.declared.clauses.Literal.{Literal}
use Rattle.cfj_logic.specs.UnitClauses.{Values, Reaches, Leads}
use Rattle.unit_propagation.specs.Standings.{AreOpen}
use Rattle.unit_propagation.specs.Falsified.{IsFalsifiedAt}
use Rattle.unit_propagation.proofs.UnitSteps.{reaches_within, stuck}

pub falsified_leads : (cs : List (List Literal)) (vs ws : Values) (i : ℕ) → Reaches cs vs ws → IsFalsifiedAt cs ws i → Leads cs vs
falsified_leads cs vs ws i r f = record { end = ws; reached = r; clause = f.clause; has = (i, f.there); falsified = f.falsified }

-- a falsified clause was found
pub found_leads : (cs : List (List Literal)) (vs ws : Values) (o : Option ℕ) → Reaches cs vs ws → IfSome o (λ i. IsFalsifiedAt cs ws i) → is_some o ≡ true → Leads cs vs
found_leads cs vs ws None r f e = absurd (let no : ⊥ = cc e in no)
found_leads cs vs ws (Some i) r f e = falsified_leads cs vs ws i r f

-- where none was found, all clauses are open
pub open_stuck : (cs : List (List Literal)) (vs ws : Values) (o : Option ℕ) → Reaches cs vs ws → IfNone o (AreOpen cs ws) → is_some o ≡ false → Leads cs vs → ⊥
open_stuck cs vs ws None r all e = stuck cs vs ws all (reaches_within cs vs ws r)
open_stuck cs vs ws (Some i) r all e = absurd (let no : ⊥ = cc e in no)

-- the answer is whether a falsified clause was found
pub tells : (cs : List (List Literal)) (vs ws : Values) (o : Option ℕ) (b : Bool) → Reaches cs vs ws → IfSome o (λ i. IsFalsifiedAt cs ws i) → IfNone o (AreOpen cs ws) → b ≡ is_some o → (IsTrue b → Leads cs vs) × (Leads cs vs → IsTrue b)
tells cs vs ws o true r f all e = (λ _. found_leads cs vs ws o r f (sym e), λ _. refl)
tells cs vs ws o false r f all e = (λ t. absurd (let no : ⊥ = cc t in no), λ leads. absurd (open_stuck cs vs ws o r all (sym e) leads))
