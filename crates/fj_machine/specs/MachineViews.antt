-- The machine's own type, as the state that it stands for.
use Rattle.std.specs.Prelude.{◌≡◌, ◌^◌, ◌<◌, ◌≤◌, Bool, true, false, length, Some, None}
use Rattle.cfj_words.specs.Tokens.{Token}
use Rattle.fj_machine.specs.declared.mode.Mode.{Mode}
use Rattle.fj_machine.specs.declared.mode.Mode.TheVariants.{InExpression}
use Rattle.fj_machine.specs.declared.machine.Machine.{Machine}
use Rattle.expression_reader.specs.Views as expression
use Rattle.expression_reader.specs.Views.{reader_seen, settles_short}
use Rattle.fj_symbols.specs.Views.{is_name_token}
use Rattle.fj_machine.specs.Machine.{State, step_in}

abbrev pub machine_seen : Machine → State
machine_seen m =
    record {
      mode = m.mode;
      format = m.format;
      features = m.features;
      constraints = m.constraints.items;
      formula = m.formula;
      classes = m.classes.items;
      class_colors = m.class_colors;
      name = m.name.now;
      parent = m.parent.now;
      fields = m.fields.items;
      params = m.params.items;
      sends = m.sends.items;
      assigns = m.assigns.items;
      ctor = m.ctor;
      methods = m.methods.items;
      method_colors = m.method_colors;
      result_type = m.result_type.now;
      method = m.method.now;
      expression = reader_seen m.expression;
      colors = m.colors;
      of = m.of.now;
      last = m.last.now;
    }

-- the machine went on in this mode, or could not
abbrev pub GoesIn : Mode → Bool → State → Token → State → Type 0
GoesIn mode true old t new = step_in mode old t ≡ Some new
GoesIn mode false old t new = step_in mode old t ≡ None

-- each feature has a bit, and one more item, or two more nodes, a slot
pub record IsRoomy (s : State) : Type 0 where
  pub features : length s.features ≤ 128
  pub params : length s.params < 2 ^ 16
  pub sends : length s.sends < 2 ^ 16
  pub assigns : length s.assigns < 2 ^ 16
  pub nodes : expression.IsRoomy s.expression

-- the names that a token settles here are short
abbrev pub names_fit_in : Mode → State → Token → Bool
names_fit_in InExpression s t = settles_short s.expression.mode t
names_fit_in m s t = is_name_token t

-- the machine went on, or could not
abbrev pub Goes : Bool → State → Token → State → Type 0
Goes went old = GoesIn old.mode went old
