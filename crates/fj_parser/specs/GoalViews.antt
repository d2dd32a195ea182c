-- No public contract cites this: it serves the proofs.
-- How the machine goes on for a goal.
use Rattle.std.specs.Prelude.{◌≡◌, ℕ, Bool, true, false, List, Some, None}
use Rattle.cfj_words.specs.Tokens.{Token, Semicolon, End}
use Rattle.cfj_model.specs.Roles.{Tally}
use Rattle.fj_parser.specs.Goals.{step_for, reader_for}
use Rattle.cfj_model.specs.Languages.{with_features}
use Rattle.cfj_model.specs.declared.feature_model.Format.{Format}
use Rattle.fj_machine.specs.Machine.{State, step_in, to, with_single_field}
use Rattle.fj_parser.specs.declared.goal.Goal.{Goal}
use Rattle.fj_machine.specs.declared.mode.Mode.{Mode}
use Rattle.fj_machine.specs.declared.mode.Mode.TheVariants.{AtEnd}
use Rattle.fj_machine.specs.Readers.{Reader}
use Rattle.fj_parser.specs.declared.part.Part.{Part}
use Rattle.fj_parser.specs.declared.passage.Passage.{Passage}
use Rattle.fj_parser.specs.declared.passage.Passage.TheVariants.{Stops, Ends, EndsField, EndsExpression, Steps}

-- what a token does in this mode
abbrev pub DoesIn : Mode → Passage → Goal → State → Token → Type 0
DoesIn m Stops g s t = step_for g m s t ≡ None
DoesIn m Ends g s t = step_for g m s t ≡ to AtEnd s
DoesIn m EndsField g s t = step_for g m s t ≡ Some (with_single_field s)
DoesIn m EndsExpression g s t = (t ≡ End) × (step_for g m s t ≡ step_in m s Semicolon)
DoesIn m Steps g s t = step_for g m s t ≡ step_in m s t

abbrev pub Does : Passage → Goal → State → Token → Type 0
Does p g s t = DoesIn s.mode p g s t

-- the machine went on, or could not
abbrev pub GoesFor : Goal → Bool → State → Token → State → Type 0
GoesFor g true old t new = step_for g old.mode old t ≡ Some new
GoesFor g false old t new = step_for g old.mode old t ≡ None

-- the machine that reads a part, and what counts as met before it
abbrev pub reader_of : Part → Reader
reader_of p = reader_for p.goal p.format p.features.now p.class.now

abbrev pub met_of : Part → Tally
met_of p = with_features p.format p.features.now

-- the part is read for this goal, in this format, with these features and for the class of this name
pub record IsPart (p : Part) (g : Goal) (f : Format) (fs : List (List ℕ)) (c : List ℕ) : Type 0 where
  pub goal : p.goal ≡ g
  pub format : p.format ≡ f
  pub features : p.features.now ≡ fs
  pub class : p.class.now ≡ c
