-- The ops of requests, their names, and the fields that each of them has.
use Rattle.std.specs.Prelude.{ℕ, List, [], ◌∷◌, codes}
use Rattle.session_requests.specs.declared.op.EditOp.{EditOp}
use Rattle.session_requests.specs.declared.op.EditOp.TheVariants as edit
use Rattle.session_requests.specs.declared.op.Op.{Op}
use Rattle.session_requests.specs.declared.op.Op.TheVariants as op
use Rattle.session_requests.specs.declared.field.Field.{Field}
use Rattle.session_requests.specs.declared.field.Field.TheVariants as field

-- the name of the op of an edit
abbrev pub edit_text : EditOp → List ℕ
edit_text edit.AddClass = codes "add_class"
edit_text edit.RemoveClass = codes "remove_class"
edit_text edit.AddMember = codes "add_member"
edit_text edit.ReplaceMember = codes "replace_member"
edit_text edit.RemoveMember = codes "remove_member"
edit_text edit.SetSuper = codes "set_super"
edit_text edit.SetConstructor = codes "set_constructor"
edit_text edit.SetColors = codes "set_colors"
edit_text edit.SetModel = codes "set_model"

-- the name of an op
abbrev pub op_text : Op → List ℕ
op_text (op.Edit e) = edit_text e
op_text op.Refresh = codes "refresh"
op_text op.Read = codes "read"
op_text op.Entries = codes "entries"
op_text op.Source = codes "source"
op_text op.Export = codes "export"
op_text op.View = codes "view"
op_text op.Done = codes "done"

-- the key of a field's member
abbrev pub key : Field → List ℕ
key field.Base = codes "base"
key field.Class = codes "class"
key field.Member = codes "path"
key field.Path = codes "path"
key field.Text = codes "text"
key field.Super = codes "super"
key field.Colors = codes "colors"
key field.Select = codes "select"
key field.Feature = codes "feature"

-- the fields of an edit behind its base, in order
abbrev pub edit_fields : EditOp → List Field
edit_fields edit.AddClass = field.Text ∷ []
edit_fields edit.RemoveClass = field.Class ∷ []
edit_fields edit.AddMember = field.Class ∷ field.Text ∷ []
edit_fields edit.ReplaceMember = field.Member ∷ field.Text ∷ []
edit_fields edit.RemoveMember = field.Member ∷ []
edit_fields edit.SetSuper = field.Class ∷ field.Super ∷ []
edit_fields edit.SetConstructor = field.Class ∷ field.Text ∷ []
edit_fields edit.SetColors = field.Path ∷ field.Colors ∷ []
edit_fields edit.SetModel = field.Text ∷ []

-- the fields of an op, in order, beside `op` itself
abbrev pub fields : Op → List Field
fields (op.Edit e) = field.Base ∷ edit_fields e
fields op.Refresh = []
fields op.Read = []
fields op.Entries = []
fields op.Source = []
fields op.Export = field.Select ∷ []
fields op.View = field.Feature ∷ []
fields op.Done = []
