-- The roles of tokens, what a token in each role adds to what was met, and which rule or limit it breaks.
use Rattle.std.specs.Prelude.{◌≡◌, ℕ, ◌+◌, Bool, true, ◌&&◌, not, nat_lt, nat_le, if◌then◌else◌, List, [], ◌∷◌, ◌++◌, length, Option, Some, None}
use Rattle.std.specs.Str.{bytes_eq}
use Rattle.cfj_model.specs.declared.fault.FaultKind.{FaultKind}
use Rattle.cfj_model.specs.declared.fault.FaultKind.TheVariants.{Reserved, NoFeature, Twice, Limit, Unexpected}
use Rattle.cfj_model.specs.declared.fault.LimitKind.{LimitKind}
use Rattle.cfj_model.specs.declared.fault.LimitKind.TheVariants as limit
use Rattle.cfj_model.specs.declared.feature_model.Format.{Format}
use Rattle.cfj_model.specs.declared.feature_model.Format.TheVariants.{One, Two}
use Rattle.cfj_model.specs.Coloring.{is_two}
use Rattle.cfj_words.specs.Names.{is_among, most_name_bytes}
use Rattle.cfj_model.specs.ProductLines.{object, most_features, most_classes, most_fields, most_methods, most_params, most_in_ctor, most_formula_nodes, most_nest, most_nodes, most_size}

-- What a token is. The word of the line for format Two. Names: of a declared feature, in a mark, in a formula, of a
-- feature elsewhere, of a class, a field, a method, a parameter of a constructor, one of a method, sent, the first of
-- an assignment, of a variable, and any other. The `!` of a mark. In formulas: a constant or a connective, and one
-- that is open over what follows. Brackets that open: of a cast, and of anything else that nests; with the number
-- that is open with it. The own token of an expression's node that is no name, and any other token.
pub data Role : Type 0 where
  format_line : Role
  feature_name : List ℕ → Role
  mark_name : List ℕ → Role
  formula_name : List ℕ → Role
  known_name : List ℕ → Role
  class_name : List ℕ → Role
  field_name : List ℕ → Role
  method_name : List ℕ → Role
  param_name : List ℕ → Role
  method_param_name : List ℕ → Role
  sent_name : List ℕ → Role
  assigned_name : List ℕ → Role
  var_name : List ℕ → Role
  used_name : List ℕ → Role
  sign : Role
  formula_node : Role
  formula_opens : ℕ → Role
  opens : ℕ → Role
  casts : ℕ → Role
  node : Role
  other_token : Role

-- What has been met before a place: the format, the features, the nodes of all formulas, the marks of the node in
-- hand, all class names, how many members, parameters, sent names and assignments the class in hand has, the names of
-- the parameters of the method in hand, the nodes of the body in hand, and the size. Marks end at a name that is
-- declared or used, at a bracket that opens and at the own token of an expression's node: what else stands between,
-- as `class` or `this`, ends none.
pub record Tally : Type 0 where
  pub format : Format
  pub features : List (List ℕ)
  pub formula_nodes : ℕ
  pub marks : List (List ℕ)
  pub classes : List (List ℕ)
  pub fields : ℕ
  pub methods : ℕ
  pub params : ℕ
  pub sends : ℕ
  pub assigns : ℕ
  pub param_names : List (List ℕ)
  pub nodes : ℕ
  pub size : ℕ

-- nothing was met
abbrev pub nothing : Tally
nothing =
    record {
      format = One;
      features = [];
      formula_nodes = 0;
      marks = [];
      classes = [];
      fields = 0;
      methods = 0;
      params = 0;
      sends = 0;
      assigns = 0;
      param_names = [];
      nodes = 0;
      size = 0;
    }

-- one more node of an expression
abbrev pub with_node : Tally → Tally
with_node t = record t { marks = []; nodes = t.nodes + 1; size = t.size + 1 }

-- one more token, in this role
abbrev pub counted : Tally → Role → Tally
counted t format_line = record t { format = Two }
counted t (feature_name w) = record t { features = t.features ++ w ∷ [] }
counted t (mark_name w) = record t { marks = t.marks ++ w ∷ [] }
counted t (formula_name w) = record t { formula_nodes = t.formula_nodes + 1 }
counted t (known_name w) = t
counted t (class_name w) =
    record t {
      marks = [];
      classes = t.classes ++ w ∷ [];
      fields = 0;
      methods = 0;
      params = 0;
      sends = 0;
      assigns = 0;
      param_names = [];
      nodes = 0;
      size = t.size + 1;
    }
counted t (field_name w) = record t { marks = []; fields = t.fields + 1; size = t.size + 1 }
counted t (method_name w) = record t { marks = []; methods = t.methods + 1; param_names = []; nodes = 0; size = t.size + 1 }
counted t (param_name w) = record t { marks = []; params = t.params + 1; size = t.size + 1 }
counted t (method_param_name w) = record t { marks = []; param_names = t.param_names ++ w ∷ []; size = t.size + 1 }
counted t (sent_name w) = record t { marks = []; sends = t.sends + 1; size = t.size + 1 }
counted t (assigned_name w) = record t { marks = []; assigns = t.assigns + 1; size = t.size + 1 }
counted t (var_name w) = with_node t
counted t (used_name w) = record t { marks = [] }
counted t sign = t
counted t formula_node = record t { formula_nodes = t.formula_nodes + 1 }
counted t (formula_opens n) = record t { formula_nodes = t.formula_nodes + 1 }
counted t (opens n) = record t { marks = [] }
counted t (casts n) = with_node t
counted t node = with_node t
counted t other_token = t

abbrev pub tallied : Tally → List Role → Tally
tallied t [] = t
tallied t (r ∷ rs) = tallied (counted t r) rs

-- the first fault whose test holds
abbrev pub first_of : List (Bool × FaultKind) → Option FaultKind
first_of [] = None
first_of (f ∷ fs) = if f.0 then Some f.1 else first_of fs

-- ---- Each rule and each limit: the test of what breaks it, and the fault that tells it.

-- the name has too many bytes
abbrev pub is_long : List ℕ → Bool
is_long w = nat_lt most_name_bytes (length w)

abbrev pub too_long : List ℕ → Bool × FaultKind
too_long w = (is_long w, Limit limit.Name)

-- a class that is named as the class above all is
abbrev pub is_object : List ℕ → Bool × FaultKind
is_object w = (bytes_eq w object, Reserved)

-- the name was declared before, or marks the node already
abbrev pub is_repeated : List (List ℕ) → List ℕ → Bool × FaultKind
is_repeated names w = (is_among names w, Twice w)

-- the name is no declared feature's
abbrev pub is_no_feature : Tally → List ℕ → Bool × FaultKind
is_no_feature t w = (not (is_among t.features w), NoFeature w)

-- marks have a `!` in format Two alone
abbrev pub is_unsigned : Tally → Bool × FaultKind
is_unsigned t = (not (is_two t.format), Unexpected)

-- as many are there as may be, so one more is too many
abbrev pub is_past : ℕ → ℕ → LimitKind → Bool × FaultKind
is_past most count kind = (nat_le most count, Limit kind)

abbrev pub past_formula : Tally → Bool × FaultKind
past_formula t = is_past most_formula_nodes t.formula_nodes limit.Formula

-- so many are open at once
abbrev pub past_nest : ℕ → Bool × FaultKind
past_nest n = (nat_lt most_nest n, Limit limit.Nest)

abbrev pub past_nodes : Tally → Bool × FaultKind
past_nodes t = is_past most_nodes t.nodes limit.Nodes

abbrev pub past_size : Tally → Bool × FaultKind
past_size t = is_past most_size t.size limit.Size

-- one more in a list of a constructor
abbrev pub past_ctor : ℕ → Bool × FaultKind
past_ctor count = is_past most_in_ctor count limit.Ctor

-- Which rule or limit a token in this role breaks behind these, the first of them in the order of the faults of one
-- token.
abbrev pub broken_by : Tally → Role → Option FaultKind
broken_by t format_line = None
broken_by t (feature_name w) = first_of (too_long w ∷ is_repeated t.features w ∷ is_past most_features (length t.features) limit.Features ∷ [])
broken_by t (mark_name w) = first_of (too_long w ∷ is_no_feature t w ∷ is_repeated t.marks w ∷ [])
broken_by t (formula_name w) = first_of (too_long w ∷ is_no_feature t w ∷ past_formula t ∷ [])
broken_by t (known_name w) = first_of (too_long w ∷ is_no_feature t w ∷ [])
broken_by t (class_name w) =
    first_of (is_object w ∷ too_long w ∷ is_repeated t.classes w ∷ is_past most_classes (length t.classes) limit.Classes ∷ past_size t ∷ [])
broken_by t (field_name w) =
    first_of (too_long w ∷ is_past most_fields t.fields limit.Fields ∷ past_size t ∷ [])
broken_by t (method_name w) =
    first_of (too_long w ∷ is_past most_methods t.methods limit.Methods ∷ past_size t ∷ [])
broken_by t (param_name w) = first_of (too_long w ∷ past_ctor t.params ∷ past_size t ∷ [])
broken_by t (method_param_name w) =
    first_of (too_long w ∷ is_repeated t.param_names w ∷ is_past most_params (length t.param_names) limit.Params ∷ past_size t ∷ [])
broken_by t (sent_name w) = first_of (too_long w ∷ past_ctor t.sends ∷ past_size t ∷ [])
broken_by t (assigned_name w) = first_of (too_long w ∷ past_ctor t.assigns ∷ past_size t ∷ [])
broken_by t (var_name w) = first_of (too_long w ∷ past_nodes t ∷ past_size t ∷ [])
broken_by t (used_name w) = first_of (too_long w ∷ [])
broken_by t sign = first_of (is_unsigned t ∷ [])
broken_by t formula_node = first_of (past_formula t ∷ [])
broken_by t (formula_opens n) = first_of (past_formula t ∷ past_nest n ∷ [])
broken_by t (opens n) = first_of (past_nest n ∷ [])
broken_by t (casts n) = first_of (past_nest n ∷ past_nodes t ∷ past_size t ∷ [])
broken_by t node = first_of (past_nodes t ∷ past_size t ∷ [])
broken_by t other_token = None

-- no token of these breaks a rule or a limit
abbrev pub AreWithin : Tally → List Role → Type 0
AreWithin t [] = Unit {0}
AreWithin t (r ∷ rs) = (broken_by t r ≡ None) × AreWithin (counted t r) rs

-- A bracket is a cast's only where three tokens stand behind it: a name, the bracket that closes, and one that begins
-- an operand.
abbrev pub is_settled : Role → List Role → Bool
is_settled (casts n) rs = nat_le 3 (length rs)
is_settled _ rs = true

abbrev pub are_settled : List Role → Bool
are_settled [] = true
are_settled (r ∷ rs) = is_settled r rs && are_settled rs
