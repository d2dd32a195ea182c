-- Which request an object is.
use Rattle.std.specs.Prelude.{◌≡◌, None}
use Rattle.cfj_model.specs.declared.edit.Edit.{Edit}
use Rattle.cfj_model.specs.declared.edit.Edit.TheVariants as edit
use Rattle.serde_json.specs.Data.{Data}
use Rattle.session_requests.specs.Fields.{HasNumber, HasText, HasName, HasSite, HasMember, HasNames, HasMarks}
use Rattle.session_requests.specs.BadLines.{HasOp, first_extra}
use Rattle.session_requests.specs.declared.field.Field.TheVariants.{Base, Class, Member, Path, Text}
use Rattle.session_requests.specs.declared.field.Field.TheVariants.{Super, Colors, Select, Feature}
use Rattle.session_requests.specs.declared.op.EditOp.{EditOp}
use Rattle.session_requests.specs.declared.op.EditOp.TheVariants as edit_op
use Rattle.session_requests.specs.declared.op.Op.{Op}
use Rattle.session_requests.specs.declared.op.Op.TheVariants as op
use Rattle.session_requests.specs.declared.request.Request.{Request}
use Rattle.session_requests.specs.declared.request.Request.TheVariants as request

-- the op of an edit
abbrev pub edit_op_of : Edit → EditOp
edit_op_of (edit.AddClass text) = edit_op.AddClass
edit_op_of (edit.RemoveClass c) = edit_op.RemoveClass
edit_op_of (edit.AddMember c text) = edit_op.AddMember
edit_op_of (edit.ReplaceMember m text) = edit_op.ReplaceMember
edit_op_of (edit.RemoveMember m) = edit_op.RemoveMember
edit_op_of (edit.SetSuper c text) = edit_op.SetSuper
edit_op_of (edit.SetConstructor c text) = edit_op.SetConstructor
edit_op_of (edit.SetColors s marks) = edit_op.SetColors
edit_op_of (edit.SetModel text) = edit_op.SetModel

-- the op of a request
abbrev pub op_of : Request → Op
op_of (request.Edit base e) = op.Edit (edit_op_of e)
op_of request.Refresh = op.Refresh
op_of request.Read = op.Read
op_of request.Entries = op.Entries
op_of request.Source = op.Source
op_of (request.Export select) = op.Export
op_of (request.View feature) = op.View
op_of request.Done = op.Done

-- the object has the fields of this edit
abbrev pub HasEdit : Data → Edit → Type 0
HasEdit d (edit.AddClass text) = HasText d Text text
HasEdit d (edit.RemoveClass c) = HasName d Class c
HasEdit d (edit.AddMember c text) = HasName d Class c × HasText d Text text
HasEdit d (edit.ReplaceMember m text) = HasMember d Member m × HasText d Text text
HasEdit d (edit.RemoveMember m) = HasMember d Member m
HasEdit d (edit.SetSuper c text) = HasName d Class c × HasText d Super text
HasEdit d (edit.SetConstructor c text) = HasName d Class c × HasText d Text text
HasEdit d (edit.SetColors s marks) = HasSite d Path s × HasMarks d Colors marks
HasEdit d (edit.SetModel text) = HasText d Text text

-- this is the edit with that op whose fields the object has
abbrev pub IsEditOf : Data → EditOp → Edit → Type 0
IsEditOf d op e = (edit_op_of e ≡ op) × HasEdit d e

-- the object has the fields of this request
abbrev pub HasFields : Data → Request → Type 0
HasFields d (request.Edit base e) = HasNumber d Base base × HasEdit d e
HasFields d request.Refresh = Unit {0}
HasFields d request.Read = Unit {0}
HasFields d request.Entries = Unit {0}
HasFields d request.Source = Unit {0}
HasFields d (request.Export select) = HasNames d Select select
HasFields d (request.View feature) = HasText d Feature feature
HasFields d request.Done = Unit {0}

-- What was read from a line is this request: an object with its op, its fields and no others.
pub record IsRequest (d : Data) (r : Request) : Type 0 where
  pub op : HasOp d (op_of r)
  pub fields : HasFields d r
  pub no_more : first_extra (op_of r) d ≡ None

-- this is the request with that op whose fields the object has
abbrev pub IsRequestOf : Data → Op → Request → Type 0
IsRequestOf d op r = (op_of r ≡ op) × HasFields d r
