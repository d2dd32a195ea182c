-- What is answered is the only answer: a text stands for one value, or has one first fault.
use Rattle.std.proofs.Common.{◌≡◌, ℕ, List, Result, Ok, Err, IfOk, refl}
use Rattle.cfj_model.specs.declared.fault.FaultKind.{FaultKind}
use Rattle.cfj_model.specs.declared.fault.ParseFault.{ParseFault}
use Rattle.cfj_model.specs.declared.fault.ParseFault.TheVariants.{At, NoMemory}
use Rattle.cfj_model.specs.Faults.{IsFirstFault}
use Rattle.cfj_model.specs.Languages.{Language, IsTextOf}
use Rattle.fj_parser.specs.Answers.{IsRead, IsReadAs, IsRefusedAs}
use Rattle.fj_parser.specs.Laws.{Reads}
use Rattle.fj_machine.specs.Readers.{Reader}
use Rattle.fj_parser.proofs.FirstFault.{one_value, no_fault, one_fault}

module _ {V : Type 0} (l : Language V) (m : Reader) (laws : Reads l m) where
  -- a fault that is told is the first
  abbrev pub TellsFirst : {W : Type 0} → List ℕ → Result W ParseFault → Type 0
  TellsFirst text r = (at : ℕ) (kind : FaultKind) → r ≡ Err (At at kind) → IsFirstFault l text at kind

  pub only_read : (text : List ℕ) (r : Result V ParseFault) → IfOk r (λ p. IsTextOf l text p) → TellsFirst text r → (v : V) → IsTextOf l text v → IsReadAs v r
  only_read text (Ok read) h f v is = one_value l m laws text read v h is
  only_read text (Err NoMemory) h f v is = tt
  only_read text (Err (At at kind)) h f v is = no_fault l m laws text v at kind is (f at kind refl)

  pub only_told : (text : List ℕ) (r : Result V ParseFault) → IfOk r (λ p. IsTextOf l text p) → TellsFirst text r → (at : ℕ) (kind : FaultKind) → IsFirstFault l text at kind → IsRefusedAs at kind r
  only_told text (Ok read) h f at kind is = no_fault l m laws text read at kind h is
  only_told text (Err NoMemory) h f at kind is = tt
  only_told text (Err (At place found)) h f at kind is = one_fault l m laws text place at found kind (f place found refl) is

  -- ---- where something else than the value is told of the text

  pub something_read : {W : Type 0} (text : List ℕ) (r : Result W ParseFault) → TellsFirst text r → (v : V) → IsTextOf l text v → IsRead r
  something_read text (Ok read) f v is = tt
  something_read text (Err NoMemory) f v is = tt
  something_read text (Err (At at kind)) f v is = no_fault l m laws text v at kind is (f at kind refl)

  pub fault_told : {W : Type 0} (text : List ℕ) (r : Result W ParseFault) → IfOk r (λ read. (v : V) × IsTextOf l text v) → TellsFirst text r → (at : ℕ) (kind : FaultKind) → IsFirstFault l text at kind → IsRefusedAs at kind r
  fault_told text (Ok read) h f at kind is = no_fault l m laws text h.0 at kind h.1 is
  fault_told text (Err NoMemory) h f at kind is = tt
  fault_told text (Err (At place found)) h f at kind is = one_fault l m laws text place at found kind (f place found refl) is
