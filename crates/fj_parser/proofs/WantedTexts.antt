-- What is answered of a member that is wanted is the only answer.
use Rattle.std.proofs.Common.{◌≡◌, ℕ, List, Result, Err, IfOk}
use Rattle.cfj_model.specs.declared.feature_model.Format.{Format}
use Rattle.cfj_model.specs.declared.fault.FaultKind.{FaultKind}
use Rattle.cfj_model.specs.declared.fault.ParseFault.{ParseFault}
use Rattle.cfj_model.specs.declared.fault.ParseFault.TheVariants.{At}
use Rattle.cfj_model.specs.declared.member.Member.{Member}
use Rattle.cfj_model.specs.declared.member.Member.TheVariants as member
use Rattle.cfj_model.specs.Faults.{IsFirstFault}
use Rattle.cfj_model.specs.Languages.{IsTextOf}
use Rattle.fj_parser.specs.Answers.{IsReadAs, IsRefusedAs}
use Rattle.fj_parser.specs.Goals.{reader_for}
use Rattle.cfj_model.specs.PartLanguages.{single_fields, single_methods, single_members}
use Rattle.fj_machine.specs.Machine.{unnamed}
use Rattle.cfj_model.specs.PartLanguages.{members_wanted, standing_for}
use Rattle.fj_parser.specs.declared.goal.Goal.TheVariants as goal
use Rattle.cfj_model.specs.declared.want.Want.{Want}
use Rattle.cfj_model.specs.declared.want.Want.TheVariants.{Any, Field, Method}
use Rattle.fj_parser.proofs.Exact.{only_read, only_told}
use Rattle.fj_parser.proofs.FieldLaw.{field_laws}
use Rattle.fj_parser.proofs.MemberLaw.{member_laws}
use Rattle.fj_parser.proofs.MethodLaw.{method_laws}
use Rattle.fj_parser.proofs.StandingFor.{laws_for}

-- what is read is a text's value, and what is told its first fault
abbrev pub IsAnswer : Want → Format → List (List ℕ) → List ℕ → Result Member ParseFault → Type 0
IsAnswer want format features text r = IfOk r (λ m. IsTextOf (members_wanted want format features) text m) × ((at : ℕ) (kind : FaultKind) → r ≡ Err (At at kind) → IsFirstFault (members_wanted want format features) text at kind)

pub only_wanted : (want : Want) (format : Format) (features : List (List ℕ)) (text : List ℕ) (r : Result Member ParseFault) → IsAnswer want format features text r → (m : Member) → IsTextOf (members_wanted want format features) text m → IsReadAs m r
only_wanted Any format features text r h = only_read (single_members format features) (reader_for goal.Member format features unnamed) (member_laws format features) text r h.0 h.1
only_wanted Field format features text r h = only_read (standing_for member.Field (single_fields format features)) (reader_for goal.Field format features unnamed) (laws_for member.Field (single_fields format features) (reader_for goal.Field format features unnamed) (field_laws format features)) text r h.0 h.1
only_wanted Method format features text r h = only_read (standing_for member.Method (single_methods format features)) (reader_for goal.Method format features unnamed) (laws_for member.Method (single_methods format features) (reader_for goal.Method format features unnamed) (method_laws format features)) text r h.0 h.1

pub first_wanted : (want : Want) (format : Format) (features : List (List ℕ)) (text : List ℕ) (r : Result Member ParseFault) → IsAnswer want format features text r → (at : ℕ) (kind : FaultKind) → IsFirstFault (members_wanted want format features) text at kind → IsRefusedAs at kind r
first_wanted Any format features text r h = only_told (single_members format features) (reader_for goal.Member format features unnamed) (member_laws format features) text r h.0 h.1
first_wanted Field format features text r h = only_told (standing_for member.Field (single_fields format features)) (reader_for goal.Field format features unnamed) (laws_for member.Field (single_fields format features) (reader_for goal.Field format features unnamed) (field_laws format features)) text r h.0 h.1
first_wanted Method format features text r h = only_told (standing_for member.Method (single_methods format features)) (reader_for goal.Method format features unnamed) (laws_for member.Method (single_methods format features) (reader_for goal.Method format features unnamed) (method_laws format features)) text r h.0 h.1
