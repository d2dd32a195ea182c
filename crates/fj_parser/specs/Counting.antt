-- No public contract cites this: it serves the proofs.
-- What is in hand against what was counted.
use Rattle.std.specs.Prelude.{◌≡◌, ℕ, ◌+◌, ◌≤◌, length}
use Rattle.cfj_model.specs.ProductLines.{most_features, most_in_ctor, most_nodes, most_params}
use Rattle.cfj_model.specs.Roles.{Tally}
use Rattle.expression_reader.specs.Reading.{owed}
use Rattle.fj_machine.specs.Machine.{State}
use Rattle.fj_machine.specs.declared.mode.Node.TheVariants as node
use Rattle.fj_machine.specs.declared.mode.Mode.{Mode}
use Rattle.fj_machine.specs.declared.mode.Mode.TheVariants.{Begin, AfterFormat, AfterFeatures, AfterFeature, AfterFeatureComma, Start, InConstraint, BetweenClasses, AfterAt, AfterMark, AfterClass, InMethods, AfterResult, AfterMethodName, InExpression, AfterBody, AtEnd}

-- The places of a text, by what may be in hand there: before a class's name nothing of a class; behind a constructor, before a
-- method's parameters, no parameters; before a method's body no expression; and in it, or at the end of the text, anything.
pub data Place : Type 0 where
  before_class : Place
  before_method : Place
  before_body : Place
  in_body : Place

-- the place where a mode stands
abbrev pub place_of : Mode → Place
place_of Begin = before_class
place_of AfterFormat = before_class
place_of AfterFeatures = before_class
place_of AfterFeature = before_class
place_of AfterFeatureComma = before_class
place_of Start = before_class
place_of InConstraint = before_class
place_of BetweenClasses = before_class
place_of (AfterAt node.Class off) = before_class
place_of (AfterMark node.Class) = before_class
place_of AfterClass = before_class
place_of InMethods = before_method
place_of (AfterAt node.Method off) = before_method
place_of (AfterMark node.Method) = before_method
place_of AfterResult = before_method
place_of AfterMethodName = before_method
place_of AfterBody = before_method
place_of InExpression = in_body
place_of AtEnd = in_body
place_of _ = before_body

-- How much is in hand: features, parameters, names that are sent, assignments, and the slots that nodes of an expression took,
-- with the one that is still to be taken.
pub record InHand : Type 0 where
  pub features : ℕ
  pub params : ℕ
  pub sends : ℕ
  pub assigns : ℕ
  pub slots : ℕ

abbrev pub in_hand : State → InHand
in_hand s =
    record {
      features = length s.features;
      params = length s.params;
      sends = length s.sends;
      assigns = length s.assigns;
      slots = s.expression.slot + owed s.expression.mode;
    }

-- what can't be in hand at a place isn't
abbrev pub IsEmptyAt : Place → InHand → Type 0
IsEmptyAt before_class n = (n.params ≡ 0) × (n.sends ≡ 0) × (n.assigns ≡ 0) × (n.slots ≡ 0)
IsEmptyAt before_method n = (n.params ≡ 0) × (n.slots ≡ 0)
IsEmptyAt before_body n = n.slots ≡ 0
IsEmptyAt in_body n = Unit {0}

-- At a place there is no more in hand than what was counted, which is within the limits. The parameters in hand are a constructor's
-- or a method's, and these are counted each by itself.
pub record IsCounted (place : Place) (n : InHand) (t : Tally) : Type 0 where
  pub empty : IsEmptyAt place n
  pub features : n.features ≤ length t.features
  pub params : n.params ≤ t.params + length t.param_names
  pub sends : n.sends ≤ t.sends
  pub assigns : n.assigns ≤ t.assigns
  pub slots : n.slots ≤ t.nodes
  pub few_features : length t.features ≤ most_features
  pub few_params : t.params ≤ most_in_ctor
  pub few_param_names : length t.param_names ≤ most_params
  pub few_sends : t.sends ≤ most_in_ctor
  pub few_assigns : t.assigns ≤ most_in_ctor
  pub few_nodes : t.nodes ≤ most_nodes

-- no more is in hand than what was counted
abbrev pub Counted : State → Tally → Type 0
Counted s t = IsCounted (place_of s.mode) (in_hand s) t
