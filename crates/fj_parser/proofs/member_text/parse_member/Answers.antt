use Rattle.std.proofs.Common.{◌≡◌, true}
use Rattle.std.proofs.lemmas.Result.{IfOk-weaker}
use Rattle.cfj_model.specs.Coloring.{palette_of}
use Rattle.cfj_model.specs.Languages.{IsTextOf}
use Rattle.cfj_model.specs.Parts.{is_member, is_numbered_member}
use Rattle.cfj_model.specs.PartLanguages.{members_wanted}
use Rattle.fj_parser.proofs.WantedTexts.{only_wanted, first_wanted}
use Rattle.fj_parser.proofs.TextsKept.{member_text_kept, member_text_numbered}
use Rattle.fj_parser.proofs.member_text.parse_member.Goals as goal

pub returns-clause-only : goal.returns-clause-only
returns-clause-only c = only_wanted c.args.want c.args.model.now.format c.args.model.now.features c.args.text.now c.read_wanted.result (c.read_wanted.ensures.read, c.read_wanted.ensures.fault)

pub returns-clause-first : goal.returns-clause-first
returns-clause-first c = first_wanted c.args.want c.args.model.now.format c.args.model.now.features c.args.text.now c.read_wanted.result (c.read_wanted.ensures.read, c.read_wanted.ensures.fault)

pub returns-clause-kept : goal.returns-clause-kept
returns-clause-kept c =
    let format = c.args.model.now.format in
    let features = c.args.model.now.features in
    IfOk-weaker c.read_wanted.result (IsTextOf (members_wanted c.args.want format features) c.args.text.now) (λ member. is_member (palette_of c.args.model.now) member ≡ true) (member_text_kept c.args.want format features c.args.text.now) c.read_wanted.ensures.read

pub returns-clause-numbered : goal.returns-clause-numbered
returns-clause-numbered c =
    let format = c.args.model.now.format in
    let features = c.args.model.now.features in
    IfOk-weaker c.read_wanted.result (IsTextOf (members_wanted c.args.want format features) c.args.text.now) (λ member. is_numbered_member member ≡ true) (member_text_numbered c.args.want format features c.args.text.now) c.read_wanted.ensures.read
