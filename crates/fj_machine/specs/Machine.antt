-- The machine that reads one token at a time: how it goes on, and the role that it gives each token.
use Rattle.std.specs.Prelude.{ℕ, Bool, true, false, not, ◌&&◌, if◌then◌else◌, List, [], ◌∷◌, ◌++◌, length, codes, Option, Some, None}
use Rattle.std.specs.Str.{bytes_eq}
use Rattle.cfj_model.specs.declared.class.Field.{Field}
use Rattle.cfj_model.specs.declared.class.Param.{Param}
use Rattle.cfj_model.specs.declared.class.Sent.{Sent}
use Rattle.cfj_model.specs.declared.class.Constructor.{Constructor}
use Rattle.cfj_model.specs.declared.class.Method.{Method}
use Rattle.cfj_model.specs.declared.class.Class.{Class}
use Rattle.cfj_model.specs.declared.expr.Expr.{Expr}
use Rattle.cfj_logic.specs.declared.formula.Formula.{Formula}
use Rattle.cfj_model.specs.Grammar.{constraint_word, features_word, format_word}
use Rattle.cfj_model.specs.ProductLines.{ProductLine}
use Rattle.cfj_model.specs.Marks.{marked}
use Rattle.cfj_model.specs.Coloring.{is_two, no_colors}
use Rattle.cfj_model.specs.declared.feature_model.Format.{Format}
use Rattle.cfj_model.specs.declared.feature_model.Format.TheVariants.{One, Two}
use Rattle.cfj_logic.specs.Sides.{Sides}
use Rattle.cfj_model.specs.Members.{numbered_fields, numbered_methods}
use Rattle.cfj_words.specs.Tokens.{Token, Id, ClassWord, ExtendsWord, SuperWord, ThisWord, ReturnWord, OpenBrace, CloseBrace, OpenParen, CloseParen, Semicolon, Comma, Dot, Equals, At, Bang, End}
use Rattle.cfj_model.specs.Roles.{Role, format_line, sign, feature_name, mark_name, class_name, field_name, method_name, param_name, method_param_name, sent_name, assigned_name, used_name, other_token}
use Rattle.formula_reader.specs.Machine as formula
use Rattle.expression_reader.specs.Machine as expression
use Rattle.expression_reader.specs.declared.roles.Settling.{Settling}
use Rattle.expression_reader.specs.declared.roles.Settling.TheVariants.{Stays}
use Rattle.fj_machine.specs.Readers.{Reader, Run, run_of}
use Rattle.fj_machine.specs.declared.mode.Owner.{Owner}
use Rattle.fj_machine.specs.declared.mode.Owner.TheVariants as owner
use Rattle.fj_machine.specs.declared.mode.Node.{Node}
use Rattle.fj_machine.specs.declared.mode.Node.TheVariants as node
use Rattle.fj_machine.specs.declared.mode.Mode.{Mode}
use Rattle.fj_machine.specs.declared.mode.Mode.TheVariants.{Begin, AfterFormat, AfterFeatures, AfterFeature, AfterFeatureComma, Start, InConstraint, BetweenClasses, AfterAt, AfterMark, AfterMarkedType, AfterClass, AfterClassName, AfterExtends, AfterParent, InMembers, AfterType, AfterFieldName, InParams, AfterParamComma, AfterParamType, AfterParam, AfterParams, InBody, AfterSuper, InSends, AfterSendComma, AfterSend, AfterSends, InAssigns, AfterThis, AfterThisDot, AfterAssigned, AfterEquals, AfterSecondName, InMethods, AfterResult, AfterMethodName, InMethodBody, InExpression, AfterBody, AtEnd}

-- what stands for a name that isn't in hand
abbrev pub unnamed : List ℕ
unnamed = codes "this"

-- the constructor of a class that isn't in hand
abbrev pub no_ctor : Constructor
no_ctor = record { params = []; sends = []; assigns = [] }

-- The format, features, constraints and classes that are read, the formula in hand, the class in hand with its
-- colours, the lists in hand of its constructor or of a method, the constructor that is read, the method in hand with
-- its colours and the expression in hand, the colours of the marks in hand, the type and the name that were read
-- last, and the mode. A list or a set that isn't in hand is empty, a name is `unnamed`, and a formula or an
-- expression is before its first token.
pub record State : Type 0 where
  pub mode : Mode
  pub format : Format
  pub features : List (List ℕ)
  pub constraints : List Formula
  pub formula : formula.State
  pub classes : List Class
  pub class_colors : Sides
  pub name : List ℕ
  pub parent : List ℕ
  pub fields : List Field
  pub params : List Param
  pub sends : List Sent
  pub assigns : List Sent
  pub ctor : Constructor
  pub methods : List Method
  pub method_colors : Sides
  pub result_type : List ℕ
  pub method : List ℕ
  pub expression : expression.State
  pub colors : Sides
  pub of : List ℕ
  pub last : List ℕ

-- behind these features, constraints and classes, in this format
abbrev pub behind : Format → List (List ℕ) → List Formula → List Class → State
behind format features constraints classes =
    record {
      mode = BetweenClasses;
      format = format;
      features = features;
      constraints = constraints;
      formula = formula.start;
      classes = classes;
      class_colors = no_colors;
      name = unnamed;
      parent = unnamed;
      fields = [];
      params = [];
      sends = [];
      assigns = [];
      ctor = no_ctor;
      methods = [];
      method_colors = no_colors;
      result_type = unnamed;
      method = unnamed;
      expression = expression.start;
      colors = no_colors;
      of = unnamed;
      last = unnamed;
    }

-- behind these features and constraints, before all classes
abbrev pub before_classes : Format → List (List ℕ) → List Formula → State
before_classes format features constraints = record (behind format features constraints []) { mode = Start }

-- before the first token
abbrev pub start : State
start = record (behind One [] [] []) { mode = Begin }

-- the state with another mode
abbrev pub to : Mode → State → Option State
to m s = Some (record s { mode = m })

abbrev pub with_feature : State → List ℕ → State
with_feature s w = record s { mode = AfterFeature; features = s.features ++ w ∷ [] }

-- behind the line for format Two
abbrev pub with_format : State → State
with_format s = record s { mode = Begin; format = Two }

-- one more mark of a node, without a `!` or with one
abbrev pub with_mark : Node → Bool → State → List ℕ → State
with_mark n off s w = record s { mode = AfterMark n; colors = marked s.features s.colors (record { off = off; name = w }) }

-- the `!` of a mark stands directly behind its `@`
abbrev pub signed : Node → Bool → State → Option State
signed n false s = to (AfterAt n true) s
signed n true s = None

-- the marks in hand are the class's
abbrev pub with_class_colors : State → State
with_class_colors s = record s { mode = AfterClass; class_colors = s.colors; colors = no_colors }

-- the field in hand
abbrev pub field_of : State → Field
field_of s = record { alt = 0; colors = s.colors; of = s.of; name = s.last }

abbrev pub with_field : State → State
with_field s = record s { mode = InMembers; fields = s.fields ++ field_of s ∷ []; colors = no_colors; of = unnamed; last = unnamed }

-- the head of a member was a field's
abbrev pub with_single_field : State → State
with_single_field s =
    record s {
      mode = InMethods;
      fields = record { alt = 0; colors = s.method_colors; of = s.result_type; name = s.method } ∷ [];
      method_colors = no_colors;
      result_type = unnamed;
      method = unnamed;
    }

-- a parameter of the type in hand
abbrev pub with_param : Owner → State → List ℕ → State
with_param o s w = record s { mode = AfterParam o; params = s.params ++ record { slot = length s.params; colors = s.colors; of = s.of; name = w } ∷ []; colors = no_colors; of = unnamed }

abbrev pub with_sent : State → List ℕ → State
with_sent s w = record s { mode = AfterSend; sends = s.sends ++ record { slot = length s.sends; colors = s.colors; name = w } ∷ []; colors = no_colors }

abbrev pub with_assign : State → List ℕ → State
with_assign s w = record s { mode = AfterAssigned; assigns = s.assigns ++ record { slot = length s.assigns; colors = s.colors; name = w } ∷ []; colors = no_colors; last = w }

-- the constructor in hand is whole
abbrev pub with_ctor : State → State
with_ctor s = record s { mode = InMethods; ctor = record { params = s.params; sends = s.sends; assigns = s.assigns }; params = []; sends = []; assigns = [] }

-- the head of a method: the marks and the type in hand are the method's
abbrev pub with_head : State → List ℕ → State
with_head s w = record s { mode = AfterMethodName; method_colors = s.colors; result_type = s.of; method = w; colors = no_colors; of = unnamed }

-- the method in hand, with this body
abbrev pub method_of : State → Expr → Method
method_of s x = record { alt = 0; colors = s.method_colors; result = s.result_type; name = s.method; params = s.params; body = x }

abbrev pub with_method : State → Expr → State
with_method s x = record s { mode = AfterBody; methods = s.methods ++ method_of s x ∷ []; params = []; method_colors = no_colors; result_type = unnamed; method = unnamed; expression = expression.start }

-- the class in hand
abbrev pub class_of : State → Class
class_of s =
    record {
      name = s.name;
      colors = s.class_colors;
      parent = s.parent;
      fields = numbered_fields s.fields;
      ctor = s.ctor;
      methods = numbered_methods s.methods;
    }

-- the class in hand is whole
abbrev pub with_class : State → State
with_class s = record (behind s.format s.features s.constraints (s.classes ++ class_of s ∷ [])) { formula = s.formula; expression = s.expression }

-- a formula that is read so far, or whole
abbrev pub after_formula : State → formula.State → Option Formula → State
after_formula s f None = record s { formula = f }
after_formula s f (Some x) = record s { mode = Start; constraints = s.constraints ++ x ∷ []; formula = formula.start }

abbrev pub in_formula : State → Option formula.State → Option State
in_formula s None = None
in_formula s (Some f) = Some (after_formula s f (formula.formula_of f))

-- an expression that is read so far, or whole
abbrev pub after_expression : State → expression.State → Option Expr → State
after_expression s n None = record s { expression = n }
after_expression s n (Some x) = with_method s x

abbrev pub in_expression : State → Option expression.State → Option State
in_expression s None = None
in_expression s (Some n) = Some (after_expression s n (expression.expression n))

-- a word that begins a constraint
abbrev pub opens_constraint : State → List ℕ → Option State
opens_constraint s w = if bytes_eq w constraint_word then to InConstraint s else None

-- the word of the line for format Two, before which no such line stands
abbrev pub opens_format : State → List ℕ → Bool
opens_format s w = bytes_eq w format_word && not (is_two s.format)

-- a word that begins a line of the model
abbrev pub opens_model : State → List ℕ → Option State
opens_model s w =
    if opens_format s w then to AfterFormat s else
    if bytes_eq w features_word then to AfterFeatures s else opens_constraint s w

abbrev pub step_in : Mode → State → Token → Option State
step_in Begin s (Id w) = opens_model s w
step_in Begin s At = to (AfterAt node.Class false) s
step_in Begin s ClassWord = to AfterClass s
step_in Begin s End = to AtEnd s
step_in AfterFormat s Semicolon = Some (with_format s)
step_in AfterFeatures s (Id w) = Some (with_feature s w)
step_in AfterFeature s Comma = to AfterFeatureComma s
step_in AfterFeature s Semicolon = to Start s
step_in AfterFeatureComma s (Id w) = Some (with_feature s w)
step_in Start s (Id w) = opens_constraint s w
step_in Start s At = to (AfterAt node.Class false) s
step_in Start s ClassWord = to AfterClass s
step_in Start s End = to AtEnd s
step_in InConstraint s t = in_formula s (formula.step s.features s.formula t)
step_in BetweenClasses s At = to (AfterAt node.Class false) s
step_in BetweenClasses s ClassWord = to AfterClass s
step_in BetweenClasses s End = to AtEnd s
step_in (AfterAt n off) s (Id w) = Some (with_mark n off s w)
step_in (AfterAt n off) s Bang = signed n off s
step_in (AfterMark node.Class) s At = to (AfterAt node.Class false) s
step_in (AfterMark node.Class) s ClassWord = Some (with_class_colors s)
step_in (AfterMark node.Member) s At = to (AfterAt node.Member false) s
step_in (AfterMark node.Member) s (Id w) = Some (record s { mode = AfterMarkedType; of = w })
step_in (AfterMark node.Method) s At = to (AfterAt node.Method false) s
step_in (AfterMark node.Method) s (Id w) = Some (record s { mode = AfterResult; of = w })
step_in (AfterMark (node.Param o)) s At = to (AfterAt (node.Param o) false) s
step_in (AfterMark (node.Param o)) s (Id w) = Some (record s { mode = AfterParamType o; of = w })
step_in (AfterMark node.Send) s At = to (AfterAt node.Send false) s
step_in (AfterMark node.Send) s (Id w) = Some (with_sent s w)
step_in (AfterMark node.Assign) s At = to (AfterAt node.Assign false) s
step_in (AfterMark node.Assign) s ThisWord = to AfterThis s
step_in AfterClass s (Id w) = Some (record s { mode = AfterClassName; name = w })
step_in AfterClassName s ExtendsWord = to AfterExtends s
step_in AfterExtends s (Id w) = Some (record s { mode = AfterParent; parent = w })
step_in AfterParent s OpenBrace = to InMembers s
step_in InMembers s At = to (AfterAt node.Member false) s
step_in InMembers s (Id w) = Some (record s { mode = AfterType; of = w })
step_in AfterType s (Id w) = Some (record s { mode = AfterFieldName; last = w })
step_in AfterType s OpenParen = if bytes_eq s.of s.name then Some (record s { mode = InParams owner.Constructor; of = unnamed }) else None
step_in AfterMarkedType s (Id w) = Some (record s { mode = AfterFieldName; last = w })
step_in AfterFieldName s Semicolon = Some (with_field s)
step_in (InParams o) s At = to (AfterAt (node.Param o) false) s
step_in (InParams o) s (Id w) = Some (record s { mode = AfterParamType o; of = w })
step_in (InParams o) s CloseParen = to (AfterParams o) s
step_in (AfterParamComma o) s At = to (AfterAt (node.Param o) false) s
step_in (AfterParamComma o) s (Id w) = Some (record s { mode = AfterParamType o; of = w })
step_in (AfterParamType o) s (Id w) = Some (with_param o s w)
step_in (AfterParam o) s Comma = to (AfterParamComma o) s
step_in (AfterParam o) s CloseParen = to (AfterParams o) s
step_in (AfterParams owner.Constructor) s OpenBrace = to InBody s
step_in (AfterParams owner.Method) s OpenBrace = to InMethodBody s
step_in InBody s SuperWord = to AfterSuper s
step_in AfterSuper s OpenParen = to InSends s
step_in InSends s At = to (AfterAt node.Send false) s
step_in InSends s (Id w) = Some (with_sent s w)
step_in InSends s CloseParen = to AfterSends s
step_in AfterSendComma s At = to (AfterAt node.Send false) s
step_in AfterSendComma s (Id w) = Some (with_sent s w)
step_in AfterSend s Comma = to AfterSendComma s
step_in AfterSend s CloseParen = to AfterSends s
step_in AfterSends s Semicolon = to InAssigns s
step_in InAssigns s At = to (AfterAt node.Assign false) s
step_in InAssigns s ThisWord = to AfterThis s
step_in InAssigns s CloseBrace = Some (with_ctor s)
step_in AfterThis s Dot = to AfterThisDot s
step_in AfterThisDot s (Id w) = Some (with_assign s w)
step_in AfterAssigned s Equals = to AfterEquals s
step_in AfterEquals s (Id w) = if bytes_eq w s.last then Some (record s { mode = AfterSecondName; last = unnamed }) else None
step_in AfterSecondName s Semicolon = to InAssigns s
step_in InMethods s At = to (AfterAt node.Method false) s
step_in InMethods s (Id w) = Some (record s { mode = AfterResult; of = w })
step_in InMethods s CloseBrace = Some (with_class s)
step_in AfterResult s (Id w) = Some (with_head s w)
step_in AfterMethodName s OpenParen = to (InParams owner.Method) s
step_in InMethodBody s ReturnWord = to InExpression s
step_in InExpression s t = in_expression s (expression.step s.features s.expression t)
step_in AfterBody s CloseBrace = to InMethods s
step_in _ s t = None

-- the product line in this format, with these features, constraints and classes
abbrev pub of_parts : Format → List (List ℕ) → List Formula → List Class → ProductLine
of_parts format features constraints classes =
    record { model = record { format = format; features = features; constraints = constraints }; classes = classes }

-- what a state stands for
abbrev pub stands_for : State → ProductLine
stands_for s = of_parts s.format s.features s.constraints s.classes

-- the next state; none where the token can't go on
abbrev pub step : State → Token → Option State
step s t = step_in s.mode s t

-- what an identifier is in a mode
abbrev pub name_role : Mode → List ℕ → Role
name_role Begin w = if bytes_eq w format_word then format_line else used_name w
name_role AfterFeatures w = feature_name w
name_role AfterFeatureComma w = feature_name w
name_role (AfterAt n off) w = mark_name w
name_role AfterClass w = class_name w
name_role AfterType w = field_name w
name_role AfterMarkedType w = field_name w
name_role (AfterParamType owner.Constructor) w = param_name w
name_role (AfterParamType owner.Method) w = method_param_name w
name_role InSends w = sent_name w
name_role AfterSendComma w = sent_name w
name_role (AfterMark node.Send) w = sent_name w
name_role AfterThisDot w = assigned_name w
name_role AfterResult w = method_name w
name_role _ w = used_name w

-- what a token is behind what was read last
abbrev pub token_role : Mode → Token → Role
token_role m (Id w) = name_role m w
token_role m Bang = sign
token_role m _ = other_token

abbrev pub role_in : Mode → State → Token → Role
role_in InConstraint s t = formula.role s.formula t
role_in InExpression s t = expression.role s.expression t
role_in m s t = token_role m t

-- the role of a token at this state; where it waits, that of a bracket's
abbrev pub role : State → Token → Role
role s t = role_in s.mode s t

-- some identifier could stand next, outside of formulas and expressions
abbrev pub takes_name : Mode → Bool
takes_name Begin = true
takes_name Start = true
takes_name AfterFeatures = true
takes_name AfterFeatureComma = true
takes_name (AfterAt n off) = true
takes_name (AfterMark node.Member) = true
takes_name (AfterMark node.Method) = true
takes_name (AfterMark (node.Param o)) = true
takes_name (AfterMark node.Send) = true
takes_name AfterMarkedType = true
takes_name AfterClass = true
takes_name AfterExtends = true
takes_name InMembers = true
takes_name AfterType = true
takes_name (InParams o) = true
takes_name (AfterParamComma o) = true
takes_name (AfterParamType o) = true
takes_name InSends = true
takes_name AfterSendComma = true
takes_name AfterThisDot = true
takes_name AfterEquals = true
takes_name InMethods = true
takes_name AfterResult = true
takes_name _ = false

abbrev pub takes_name_in : Mode → State → Bool
takes_name_in InConstraint s = formula.takes_name s.formula
takes_name_in InExpression s = expression.takes_name s.expression
takes_name_in m s = takes_name m

-- the roles of the tokens that wait, as a bracket's
abbrev pub pending_in : Mode → State → List Role
pending_in InExpression s = expression.pending s.expression
pending_in m s = []

abbrev pub pending : State → List Role
pending s = pending_in s.mode s

-- what becomes of them by a token
abbrev pub settles_in : Mode → State → Token → Settling
settles_in InExpression s t = expression.settles s.expression t
settles_in m s t = Stays

abbrev pub settles : State → Token → Settling
settles s t = settles_in s.mode s t

-- whether a token itself waits
abbrev pub waits_in : Mode → State → Token → Bool
waits_in InExpression s t = expression.waits s.expression t
waits_in m s t = false

abbrev pub waits : State → Token → Bool
waits s t = waits_in s.mode s t

-- the roles that a token settles, in the order of their tokens; outside of an expression its own
abbrev pub emitted : State → Token → List Role
emitted s t = expression.settled (settles s t) (pending s) ++ expression.unless (waits s t) (role s t)

-- the machine as a reader
abbrev pub reader : Reader
reader = record { State = State; start = start; step = step; emitted = emitted; pending = pending; takes_name = λ s. takes_name_in s.mode s }

abbrev pub run : List Token → State → Run State
run = run_of reader
