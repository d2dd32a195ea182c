use Rattle.std.proofs.Common.{length, ◌∙◌, ap}
use Rattle.member_alts.specs.Numbers.{with_alts}
use Rattle.member_alts.proofs.Counting.{length-found, with_alts-found}
use Rattle.member_alts.proofs.alts.number.Goals as goal

pub write_alts-requires : goal.write_alts-requires
write_alts-requires g c = ap length (c.deref.ensures.value ∙ c.in_ok-alts.ensures) ∙ length-found g.M.Member.name_of c.args.members.now

pub returns : goal.returns
returns g c =
    c.write_alts.ensures ∙ ap (with_alts g.M.Member.with_alt c.args.members.now) (c.deref.ensures.value ∙ c.in_ok-alts.ensures)
    ∙ with_alts-found g.M.Member.name_of g.M.Member.with_alt c.args.members.now
