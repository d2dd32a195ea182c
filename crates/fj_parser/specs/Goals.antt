-- No public contract cites this: it serves the proofs. The machine where it reads a part of a project by itself:
-- where it starts, and which tokens it takes there and at the part's end.
use Rattle.std.specs.Prelude.{ℕ, Bool, true, false, ◌&&◌, if◌then◌else◌, List, [], ◌∷◌, Option, Some, None}
use Rattle.std.specs.Str.{bytes_eq}
use Rattle.cfj_model.specs.declared.class.Class.{Class}
use Rattle.cfj_model.specs.declared.class.Field.{Field}
use Rattle.cfj_model.specs.declared.class.Method.{Method}
use Rattle.cfj_model.specs.declared.feature_model.Format.{Format}
use Rattle.cfj_words.specs.Names.{is_identifier}
use Rattle.cfj_words.specs.Tokens.{Token, Id, ClassWord, OpenParen, Semicolon, At, End}
use Rattle.fj_machine.specs.Readers.{Reader}
use Rattle.fj_machine.specs.Machine.{State, behind, start, step_in, emitted, pending, takes_name_in, to, with_single_field}
use Rattle.fj_parser.specs.declared.goal.Goal.{Goal}
use Rattle.fj_parser.specs.declared.goal.Goal.TheVariants as goal
use Rattle.fj_machine.specs.declared.mode.Mode.{Mode}
use Rattle.fj_machine.specs.declared.mode.Mode.TheVariants.{Begin, Start, BetweenClasses, InMembers, AfterType, InMethods, AfterMethodName, InExpression, AfterBody, AtEnd}

-- Before the first token: of a class or a member in this format and with these features, of a constructor of the
-- class of this name too.
abbrev pub start_for : Goal → Format → List (List ℕ) → List ℕ → State
start_for goal.Project format features class = start
start_for goal.Model format features class = start
start_for goal.Class format features class = behind format features [] []
start_for goal.Constructor format features class = record (behind format features [] []) { mode = InMembers; name = class }
start_for goal.Field format features class = record (behind format features [] []) { mode = InMembers }
start_for goal.Method format features class = record (behind format features [] []) { mode = InMethods }
start_for goal.Member format features class = record (behind format features [] []) { mode = InMethods }
start_for goal.Name format features class = record (behind format features [] []) { mode = InMembers }
start_for goal.Expression format features class = record (behind format features [] []) { mode = InExpression }

-- a member that begins: a mark or a type
abbrev pub begins_member : Mode → State → Token → Option State
begins_member m s At = step_in m s At
begins_member m s (Id w) = step_in m s (Id w)
begins_member m s t = None

-- behind the whole part nothing stands
abbrev pub ends : State → Token → Option State
ends s End = to AtEnd s
ends s t = None

-- the one class, field or method
abbrev pub class_or_end : List Class → State → Token → Option State
class_or_end [] s End = None
class_or_end [] s t = step_in BetweenClasses s t
class_or_end (k ∷ ks) s t = ends s t

abbrev pub field_or_end : List Field → State → Token → Option State
field_or_end [] s t = begins_member InMembers s t
field_or_end (f ∷ fs) s t = ends s t

abbrev pub method_or_end : List Method → State → Token → Option State
method_or_end [] s t = begins_member InMethods s t
method_or_end (m ∷ ms) s t = ends s t

abbrev pub member_or_end : List Field → List Method → State → Token → Option State
member_or_end [] ms s t = method_or_end ms s t
member_or_end (f ∷ fs) ms s t = ends s t

abbrev pub step_for : Goal → Mode → State → Token → Option State
step_for goal.Model Begin s At = None
step_for goal.Model Begin s ClassWord = None
step_for goal.Model Start s At = None
step_for goal.Model Start s ClassWord = None
step_for goal.Class BetweenClasses s t = class_or_end s.classes s t
step_for goal.Constructor InMembers s (Id w) = if bytes_eq w s.name then step_in InMembers s (Id w) else None
step_for goal.Constructor InMembers s t = None
step_for goal.Constructor AfterType s (Id w) = None
step_for goal.Constructor InMethods s t = ends s t
step_for goal.Field InMembers s t = field_or_end s.fields s t
step_for goal.Field AfterType s OpenParen = None
step_for goal.Method InMethods s t = method_or_end s.methods s t
step_for goal.Member InMethods s t = member_or_end s.fields s.methods s t
step_for goal.Member AfterMethodName s Semicolon = Some (with_single_field s)
step_for goal.Name InMembers s At = None
step_for goal.Name AfterType s t = ends s t
step_for goal.Expression InExpression s At = None
step_for goal.Expression InExpression s Semicolon = None
step_for goal.Expression InExpression s End = step_in InExpression s Semicolon
step_for goal.Expression AfterBody s t = None
step_for g m s t = step_in m s t

abbrev pub none_yet : {A : Type 0} → List A → Bool
none_yet [] = true
none_yet (x ∷ xs) = false

-- some identifier could stand next
abbrev pub takes_name_for : Goal → Mode → State → Bool
takes_name_for goal.Constructor InMembers s = is_identifier s.name
takes_name_for goal.Constructor AfterType s = false
takes_name_for goal.Constructor InMethods s = false
takes_name_for goal.Field InMembers s = none_yet s.fields
takes_name_for goal.Method InMethods s = none_yet s.methods
takes_name_for goal.Member InMethods s = none_yet s.fields && none_yet s.methods
takes_name_for goal.Name AfterType s = false
takes_name_for g m s = takes_name_in m s

abbrev pub reader_for : Goal → Format → List (List ℕ) → List ℕ → Reader
reader_for g format features class =
    record { State = State; start = start_for g format features class; step = λ s t. step_for g s.mode s t; emitted = emitted; pending = pending; takes_name = λ s. takes_name_for g s.mode s }
