-- The first cause for which data is no request, and the request that it is.
use Rattle.std.proofs.Common.{◌≡◌, ℕ, List, Some, None, sym, subst}
use Rattle.serde_json.specs.Data.{Data}
use Rattle.cfj_model.specs.declared.edit.Edit.{Edit}
use Rattle.cfj_model.specs.declared.edit.Edit.TheVariants as edit
use Rattle.session_requests.specs.BadLines.{HasOp, IsBad, first_missing, first_extra}
use Rattle.session_requests.specs.Fields.{HasAllRight}
use Rattle.session_requests.specs.Ops.{fields, edit_fields}
use Rattle.session_requests.specs.Refusals.{IsWrongAmong, IsExtra, IsRefused}
use Rattle.session_requests.specs.Requests.{HasEdit, HasFields, IsRequestOf, IsRequest, op_of, edit_op_of}
use Rattle.session_requests.specs.declared.bad_line.BadLine.{BadLine}
use Rattle.session_requests.specs.declared.op.Op.{Op}
use Rattle.session_requests.specs.declared.request.Request.{Request}
use Rattle.session_requests.specs.declared.request.Request.TheVariants as request
use Rattle.session_requests.specs.declared.unread.Unread.{Unread}
use Rattle.session_requests.specs.declared.unread.Unread.TheVariants.{Bad, NoMemory}

pub wrong_refused : (d : Data) (o : Op) (e : Unread) → HasOp d o → None ≡ first_missing (fields o) d → IsWrongAmong (fields o) d e → IsRefused d e
wrong_refused d o (Bad bad) has none h = subst (λ (b : BadLine). IsBad d b) (sym h.1) (o, has, sym none, h.2)
wrong_refused d o NoMemory has none h = tt

edit_right : (d : Data) (e : Edit) → HasEdit d e → HasAllRight (edit_fields (edit_op_of e)) d
edit_right d (edit.AddClass text) h = ((text, h), tt)
edit_right d (edit.RemoveClass c) h = ((c, h), tt)
edit_right d (edit.AddMember c text) h = ((c, h.0), ((text, h.1), tt))
edit_right d (edit.ReplaceMember m text) h = ((m, h.0), ((text, h.1), tt))
edit_right d (edit.RemoveMember m) h = ((m, h), tt)
edit_right d (edit.SetSuper c text) h = ((c, h.0), ((text, h.1), tt))
edit_right d (edit.SetConstructor c text) h = ((c, h.0), ((text, h.1), tt))
edit_right d (edit.SetColors s marks) h = ((s, h.0), ((marks, h.1), tt))
edit_right d (edit.SetModel text) h = ((text, h), tt)

all_right : (d : Data) (r : Request) → HasFields d r → HasAllRight (fields (op_of r)) d
all_right d (request.Edit base e) h = ((base, h.0), edit_right d e h.1)
all_right d request.Refresh h = tt
all_right d request.Read h = tt
all_right d request.Entries h = tt
all_right d request.Source h = tt
all_right d (request.Export select) h = ((select, h), tt)
all_right d (request.View feature) h = ((feature, h), tt)
all_right d request.Done h = tt

pub extra_refused : (d : Data) (o : Op) (r : Request) (k : List ℕ) (e : Unread) → HasOp d o → IsRequestOf d o r → Some k ≡ first_extra o d → IsExtra k e → IsRefused d e
extra_refused d o r k (Bad bad) has asked extra h =
    let right = subst (λ (o : Op). HasAllRight (fields o) d) asked.0 (all_right d r asked.1) in
    subst (λ (b : BadLine). IsBad d b) (sym h) (o, has, right, sym extra)
extra_refused d o r k NoMemory has asked extra h = tt

pub is_request : (d : Data) (o : Op) (r : Request) → HasOp d o → IsRequestOf d o r → None ≡ first_extra o d → IsRequest d r
is_request d o r has asked none = record {
  op = subst (λ (o : Op). HasOp d o) (sym asked.0) has;
  fields = asked.1;
  no_more = subst (λ (o : Op). first_extra o d ≡ None) (sym asked.0) (sym none);
}
