-- What the reading of a part's text says by the laws of its goal's machine.
use Rattle.std.proofs.Common.{◌≡◌, ℕ, List, sym, subst}
use Rattle.std.specs.Str.{IsUtf8}
use Rattle.cfj_model.specs.declared.fault.FaultKind.{FaultKind}
use Rattle.cfj_model.specs.Faults.{IsFirstFault}
use Rattle.cfj_model.specs.Languages.{Language, IsTextOf}
use Rattle.fj_parser.specs.Ending.{IsReadTo, IsStopped}
use Rattle.fj_parser.specs.Goals.{reader_for}
use Rattle.fj_parser.specs.GoalViews.{met_of, reader_of, IsPart}
use Rattle.cfj_model.specs.Languages.{with_features}
use Rattle.cfj_model.specs.declared.feature_model.Format.{Format}
use Rattle.fj_parser.specs.Laws.{Reads}
use Rattle.fj_machine.specs.Machine.{State}
use Rattle.fj_machine.specs.Readers.{SettlesEach}
use Rattle.fj_parser.specs.declared.goal.Goal.{Goal}
use Rattle.fj_parser.specs.declared.part.Part.{Part}
use Rattle.fj_parser.proofs.Endings.{whole_text, stops_first}
use Rattle.fj_parser.proofs.Readers.{settles_each}

-- what holds of a part holds of its goal, format, features and class, and the other way
abbrev pub Fact : Type 1
Fact = Goal → Format → List (List ℕ) → List ℕ → Type 0

pub to_goal : (P : Fact) (p : Part) (g : Goal) (format : Format) (features : List (List ℕ)) (class : List ℕ) → IsPart p g format features class → P p.goal p.format p.features.now p.class.now → P g format features class
to_goal P p g format features class is h =
    subst (λ x. P g format features x) is.class
    (subst (λ x. P g format x p.class.now) is.features
    (subst (λ x. P g x p.features.now p.class.now) is.format
    (subst (λ x. P x p.format p.features.now p.class.now) is.goal h)))

to_part : (P : Fact) (p : Part) (g : Goal) (format : Format) (features : List (List ℕ)) (class : List ℕ) → IsPart p g format features class → P g format features class → P p.goal p.format p.features.now p.class.now
to_part P p g format features class is h =
    subst (λ x. P x p.format p.features.now p.class.now) (sym is.goal)
    (subst (λ x. P g x p.features.now p.class.now) (sym is.format)
    (subst (λ x. P g format x p.class.now) (sym is.features)
    (subst (λ x. P g format features x) (sym is.class) h)))

-- the goal's machine reads the part's text
pub read_by_goal : (p : Part) (g : Goal) (format : Format) (features : List (List ℕ)) (class : List ℕ) → IsPart p g format features class → (text : List ℕ) (n : State) → IsReadTo (met_of p) (reader_of p) text n
    → IsReadTo (with_features format features) (reader_for g format features class) text n
read_by_goal p g format features class is text n h = to_goal (λ x f y z. IsReadTo (with_features f y) (reader_for x f y z) text n) p g format features class is h

module _ {V : Type 0} (p : Part) (g : Goal) (format : Format) (features : List (List ℕ)) (class : List ℕ) (is : IsPart p g format features class) (l : Language V) (laws : Reads l (reader_for g format features class)) where
  pub part_settles : SettlesEach (reader_of p)
  part_settles = to_part (λ x f y z. SettlesEach (reader_for x f y z)) p g format features class is (settles_each l (reader_for g format features class) laws)

  pub part_text : l.met ≡ with_features format features → (text : List ℕ) (n : State) → IsUtf8 text → IsReadTo (met_of p) (reader_of p) text n → IsTextOf l text (laws.stands_for n)
  part_text met text n utf8 h =
      whole_text l (reader_for g format features class) laws text n utf8 (subst (λ t. IsReadTo t (reader_for g format features class) text n) (sym met) (read_by_goal p g format features class is text n h))

  pub part_fault : l.met ≡ with_features format features → (text : List ℕ) (at : ℕ) (kind : FaultKind) → IsUtf8 text → IsStopped (met_of p) (reader_of p) text at kind → IsFirstFault l text at kind
  part_fault met text at kind utf8 h =
      stops_first l (reader_for g format features class) laws text at kind utf8
      (subst (λ t. IsStopped t (reader_for g format features class) text at kind) (sym met) (to_goal (λ x f y z. IsStopped (with_features f y) (reader_for x f y z) text at kind) p g format features class is h))
