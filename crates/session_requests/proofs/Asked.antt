-- What is written for an edit is the request that asks for it.
use Rattle.std.proofs.Common.{ℕ, ◌<◌, ◌^◌, refl}
use Rattle.cfj_model.specs.declared.edit.Edit.{Edit}
use Rattle.cfj_model.specs.declared.edit.Edit.TheVariants as edit
use Rattle.session_requests.specs.Requests.{IsRequest}
use Rattle.session_requests.specs.Written.{IsAskable, edit_data}
use Rattle.session_requests.specs.declared.request.Request.TheVariants as request

pub written_asked : (base : ℕ) (e : Edit) → base < 2 ^ 32 → IsAskable e → IsRequest (edit_data base e) (request.Edit base e)
written_asked base (edit.AddClass text) small fine = record { op = refl; fields = ((refl, small), refl); no_more = refl }
written_asked base (edit.RemoveClass c) small fine = record { op = refl; fields = ((refl, small), (refl, fine)); no_more = refl }
written_asked base (edit.AddMember c text) small fine = record { op = refl; fields = ((refl, small), ((refl, fine), refl)); no_more = refl }
written_asked base (edit.ReplaceMember m text) small fine = record { op = refl; fields = ((refl, small), ((refl, fine), refl)); no_more = refl }
written_asked base (edit.RemoveMember m) small fine = record { op = refl; fields = ((refl, small), (refl, fine)); no_more = refl }
written_asked base (edit.SetSuper c text) small fine = record { op = refl; fields = ((refl, small), ((refl, fine), refl)); no_more = refl }
written_asked base (edit.SetConstructor c text) small fine = record { op = refl; fields = ((refl, small), ((refl, fine), refl)); no_more = refl }
written_asked base (edit.SetColors s marks) small fine = record { op = refl; fields = ((refl, small), ((refl, fine.0), (refl, fine.1))); no_more = refl }
written_asked base (edit.SetModel text) small fine = record { op = refl; fields = ((refl, small), refl); no_more = refl }
