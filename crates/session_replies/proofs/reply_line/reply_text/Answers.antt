use Rattle.std.proofs.Common.{ap, ◌∙◌}
use Rattle.serde_json.specs.Written.{has_float}
use Rattle.session_replies.proofs.NoFloats.{no_float}
use Rattle.session_replies.proofs.reply_line.reply_text.Goals as goal

pub line_of-requires : goal.line_of-requires
line_of-requires c = ap has_float c.in_ok-value.ensures ∙ no_float c.args.reply.now
