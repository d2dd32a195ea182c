-- No reply has a float.
use Rattle.std.proofs.Common.{◌≡◌, ℕ, List, [], ◌∷◌, false, refl, codes}
use Rattle.edit_replies.specs.declared.edit_reply.EditReply.{EditReply}
use Rattle.edit_replies.specs.declared.edit_reply.EditReply.TheVariants.{Accepted, Refused}
use Rattle.edit_replies.specs.declared.edit_reply.Reason.TheVariants as reason
use Rattle.serde_json.specs.Data.{object}
use Rattle.serde_json.specs.Written.{has_float, items_have_float}
use Rattle.session_requests.specs.Fields.{text_items}
use Rattle.session_requests.specs.declared.bad_line.BadLine.{BadLine}
use Rattle.session_requests.specs.declared.bad_line.BadLine.TheVariants as bad
use Rattle.session_replies.specs.ReplyData.{reply_data, edit_reply_data, bad_line_members, lines_data}
use Rattle.session_replies.specs.declared.reply.Reply.{Reply}
use Rattle.session_replies.specs.declared.reply.Reply.TheVariants as reply

texts : (ts : List (List ℕ)) → items_have_float (text_items (λ line. line) ts) ≡ false
texts [] = refl
texts (t ∷ ts) = texts ts

lines : (edition : ℕ) (ts : List (List ℕ)) (word : List ℕ) (version : ℕ) → has_float (lines_data edition ts word version) ≡ false
lines edition ts word version = rw (texts ts) refl

edit_reply : (r : EditReply) → has_float (edit_reply_data r) ≡ false
edit_reply (Accepted place version) = refl
edit_reply (Refused place (reason.NoVersion now)) = refl
edit_reply (Refused place (reason.NoSuch site)) = refl
edit_reply (Refused place (reason.Changed at)) = refl
edit_reply (Refused place (reason.BadText at kind)) = refl
edit_reply (Refused place (reason.NotOptional site)) = refl
edit_reply (Refused place (reason.NoFeature name)) = refl
edit_reply (Refused place (reason.Exists name)) = refl
edit_reply (Refused place (reason.InUse site)) = refl
edit_reply (Refused place (reason.Limit limit)) = refl

bad_line : (b : BadLine) → has_float (object (bad_line_members b)) ≡ false
bad_line bad.NotJson = refl
bad_line bad.NotObject = refl
bad_line bad.NoOp = refl
bad_line bad.UnknownOp = refl
bad_line (bad.MissingField f) = refl
bad_line (bad.WrongField f) = refl
bad_line (bad.ExtraField k) = refl

pub no_float : (r : Reply) → has_float (reply_data r) ≡ false
no_float (reply.Edit answer) = edit_reply answer
no_float reply.Full = refl
no_float (reply.Published edition version) = refl
no_float (reply.Already edition version) = refl
no_float (reply.Read broken edition undecided verdict version) = refl
no_float (reply.Entries edition ls version) = lines edition ls (codes "entries") version
no_float (reply.View edition ls version) = lines edition ls (codes "view") version
no_float (reply.Source bytes edition version) = refl
no_float (reply.Variant bytes edition version) = refl
no_float (reply.Invalid constraint edition version) = refl
no_float (reply.BadNames edition name reason version) = refl
no_float (reply.BadLine bad) = bad_line bad
no_float reply.Done = refl
