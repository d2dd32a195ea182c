use Rattle.std.proofs.Common.{◌≡◌, Some, true, false, string_bytes, sym, ap, ◌∙◌}
use Rattle.serde_json.specs.View.{view, members_view}
use Rattle.serde_json.proofs.Views.{Entry}
use Rattle.session_requests.specs.BadLines.{extra_among, may_have}
use Rattle.session_requests.proofs.Extra.{extra_here, extra_later}
use Rattle.session_requests.proofs.reading.extra_key.Goals as goal

pub returns-then-not-may_have : goal.returns-then-not-may_have
returns-then-not-may_have c =
    let e : Entry = (c.in-Some.key.now, c.in-Some._member.now) in
    let here = c.loop-key.invariant ∙ ap (λ es. extra_among c.args.op (members_view es)) c.in-Some.ensures.steps in
    let key : c.as_str.result.now ≡ string_bytes e.0 = c.as_str.ensures.value in
    let extra : may_have c.args.op (string_bytes e.0) ≡ false = sym (c.may_have.ensures ∙ ap (may_have c.args.op) key) ∙ c.if-not-may_have.true in
    ap Some c.as_str-then-not-may_have.ensures.value ∙ sym (here ∙ extra_here c.args.op (string_bytes e.0) (view e.1) (members_view c.next.new.self) extra)

pub loop-key-preserved : goal.loop-key-preserved
loop-key-preserved c =
    let e : Entry = (c.in-Some.key.now, c.in-Some._member.now) in
    let here = c.loop-key.invariant ∙ ap (λ es. extra_among c.args.op (members_view es)) c.in-Some.ensures.steps in
    let key : c.as_str.result.now ≡ string_bytes e.0 = c.as_str.ensures.value in
    let known : may_have c.args.op (string_bytes e.0) ≡ true = sym (c.may_have.ensures ∙ ap (may_have c.args.op) key) ∙ c.if-not-may_have.false in
    here ∙ extra_later c.args.op (string_bytes e.0) (view e.1) (members_view c.next.new.self) known
