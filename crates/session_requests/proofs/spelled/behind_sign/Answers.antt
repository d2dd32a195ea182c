use Rattle.std.proofs.Common.{lit<}
use Rattle.std.proofs.lemmas.Str.Pattern.{strip_prefix_char}
use Rattle.session_requests.proofs.spelled.behind_sign.Goals as goal

pub returns : goal.returns
returns c = strip_prefix_char 33 c.args.text.now c.strip_prefix.result c.strip_prefix.ensures.cases (lit< tt)
