-- The objects that replies are written as, their keys in byte order.
use Rattle.std.specs.Prelude.{ℕ, List, codes}
use Rattle.cfj_model.specs.FaultTexts.{kind_text, limit_text}
use Rattle.cfj_model.specs.Sites.{site_text}
use Rattle.edit_replies.specs.declared.edit_reply.EditReply.{EditReply}
use Rattle.edit_replies.specs.declared.edit_reply.EditReply.TheVariants.{Accepted, Refused}
use Rattle.edit_replies.specs.declared.edit_reply.Reason.{Reason}
use Rattle.edit_replies.specs.declared.edit_reply.Reason.TheVariants as reason
use Rattle.serde_json.specs.Data.{Data, number, unsigned, string, array, object, Members, no_members, member}
use Rattle.session_requests.specs.Fields.{text_items}
use Rattle.session_requests.specs.Ops.{key}
use Rattle.session_requests.specs.declared.bad_line.BadLine.{BadLine}
use Rattle.session_requests.specs.declared.bad_line.BadLine.TheVariants as bad
use Rattle.session_replies.specs.declared.reply.Reply.{Reply}
use Rattle.session_replies.specs.declared.reply.Reply.TheVariants as reply
use Rattle.session_replies.specs.declared.reply.VerdictWord.{VerdictWord}
use Rattle.session_replies.specs.declared.reply.VerdictWord.TheVariants as verdict
use Rattle.session_replies.specs.declared.reply.NameReason.{NameReason}
use Rattle.session_replies.specs.declared.reply.NameReason.TheVariants as name

-- a member with a number, and one with a text
abbrev pub has_number : List ℕ → ℕ → Members → Members
has_number k n more = member k (number (unsigned n)) more

abbrev pub has_text : List ℕ → List ℕ → Members → Members
has_text k text more = member k (string text) more

abbrev pub verdict_text : VerdictWord → List ℕ
verdict_text verdict.Valid = codes "valid"
verdict_text verdict.Void = codes "void"
verdict_text verdict.Undecided = codes "undecided"

abbrev pub name_reason_text : NameReason → List ℕ
name_reason_text name.NoFeature = codes "NoFeature"
name_reason_text name.Twice = codes "Twice"

-- the end of a reply with a version
abbrev pub reply_and_version : List ℕ → ℕ → Members
reply_and_version word version = has_text (codes "reply") word (has_number (codes "version") version no_members)

-- the end of a refusal
abbrev pub refused : List ℕ → Members
refused reason = has_text (codes "reason") reason (has_text (codes "reply") (codes "refused") no_members)

-- the members of an edit's refusal at a place
abbrev pub refusal_members : ℕ → Reason → Members
refusal_members place (reason.NoVersion now) =
    has_number (codes "now") now (has_number (codes "place") place (refused (codes "NoVersion")))
refusal_members place (reason.NoSuch site) =
    has_text (codes "path") (site_text site) (has_number (codes "place") place (refused (codes "NoSuch")))
refusal_members place (reason.Changed at) =
    has_number (codes "at") at (has_number (codes "place") place (refused (codes "Changed")))
refusal_members place (reason.BadText at kind) =
    has_number (codes "at") at (has_text (codes "fault") (kind_text kind) (has_number (codes "place") place
    (refused (codes "BadText"))))
refusal_members place (reason.NotOptional site) =
    has_text (codes "path") (site_text site) (has_number (codes "place") place (refused (codes "NotOptional")))
refusal_members place (reason.NoFeature name) =
    has_text (codes "name") name (has_number (codes "place") place (refused (codes "NoFeature")))
refusal_members place (reason.Exists name) =
    has_text (codes "name") name (has_number (codes "place") place (refused (codes "Exists")))
refusal_members place (reason.InUse site) =
    has_text (codes "path") (site_text site) (has_number (codes "place") place (refused (codes "InUse")))
refusal_members place (reason.Limit limit) =
    has_text (codes "limit") (limit_text limit) (has_number (codes "place") place (refused (codes "Limit")))

-- the object of what is answered to an edit
abbrev pub edit_reply_data : EditReply → Data
edit_reply_data (Accepted place version) =
    object (has_number (codes "place") place (reply_and_version (codes "accepted") version))
edit_reply_data (Refused place why) = object (refusal_members place why)

-- the end of what is told of a bad line
abbrev pub badline : Members
badline = has_text (codes "reply") (codes "badline") no_members

-- the members of what is told of a bad line
abbrev pub bad_line_members : BadLine → Members
bad_line_members bad.NotJson = has_text (codes "kind") (codes "NotJson") badline
bad_line_members bad.NotObject = has_text (codes "kind") (codes "NotObject") badline
bad_line_members bad.NoOp = has_text (codes "kind") (codes "NoOp") badline
bad_line_members bad.UnknownOp = has_text (codes "kind") (codes "UnknownOp") badline
bad_line_members (bad.MissingField f) =
    has_text (codes "kind") (codes "MissingField") (has_text (codes "name") (key f) badline)
bad_line_members (bad.WrongField f) =
    has_text (codes "kind") (codes "WrongField") (has_text (codes "name") (key f) badline)
bad_line_members (bad.ExtraField k) = has_text (codes "kind") (codes "ExtraField") (has_text (codes "name") k badline)

-- a reply of one word
abbrev pub word_data : List ℕ → Data
word_data word = object (has_text (codes "reply") word no_members)

-- a reply with the number and the version of an edition alone
abbrev pub edition_data : ℕ → List ℕ → ℕ → Data
edition_data edition word version = object (has_number (codes "edition") edition (reply_and_version word version))

-- a reply with lines
abbrev pub lines_data : ℕ → List (List ℕ) → List ℕ → ℕ → Data
lines_data edition lines word version =
    object (has_number (codes "edition") edition
    (member (codes "lines") (array (text_items (λ line. line) lines)) (reply_and_version word version)))

-- a reply that bytes follow
abbrev pub bytes_data : ℕ → ℕ → List ℕ → ℕ → Data
bytes_data bytes edition word version =
    object (has_number (codes "bytes") bytes (has_number (codes "edition") edition (reply_and_version word version)))

-- the object of a reply
abbrev pub reply_data : Reply → Data
reply_data (reply.Edit answer) = edit_reply_data answer
reply_data reply.Full = word_data (codes "full")
reply_data (reply.Published edition version) = edition_data edition (codes "published") version
reply_data (reply.Already edition version) = edition_data edition (codes "already") version
reply_data (reply.Read broken edition undecided verdict version) =
    object (has_number (codes "broken") broken (has_number (codes "edition") edition
    (has_text (codes "reply") (codes "read")
    (has_number (codes "undecided") undecided (has_text (codes "verdict") (verdict_text verdict)
    (has_number (codes "version") version no_members))))))
reply_data (reply.Entries edition lines version) = lines_data edition lines (codes "entries") version
reply_data (reply.View edition lines version) = lines_data edition lines (codes "view") version
reply_data (reply.Source bytes edition version) = bytes_data bytes edition (codes "source") version
reply_data (reply.Variant bytes edition version) = bytes_data bytes edition (codes "variant") version
reply_data (reply.Invalid constraint edition version) =
    object (has_number (codes "constraint") constraint (has_number (codes "edition") edition
    (reply_and_version (codes "invalid") version)))
reply_data (reply.BadNames edition name reason version) =
    object (has_number (codes "edition") edition (has_text (codes "name") name
    (has_text (codes "reason") (name_reason_text reason)
    (reply_and_version (codes "badnames") version))))
reply_data (reply.BadLine bad) = object (bad_line_members bad)
reply_data reply.Done = word_data (codes "done")
