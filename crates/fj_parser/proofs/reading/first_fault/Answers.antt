use Rattle.std.proofs.Common.{None, subst}
use Rattle.fj_parser.specs.Accepting.{AreCounted, of_waiting}
use Rattle.fj_parser.specs.Waiting.{waiting_places, waiting_roles}
use Rattle.fj_tally.specs.Views.{tally_seen}
use Rattle.fj_parser.proofs.TokenReads.{lexical_told}
use Rattle.fj_parser.proofs.reading.first_fault.Goals as goal

pub returns-in-Some : goal.returns-in-Some
returns-in-Some c =
    let told = AreCounted (tally_seen c.args.tally.now) (waiting_roles c.args.waiting) (waiting_places c.args.waiting) (tally_seen c.settle.new.tally) in
    of_waiting c.in-Some.refusal.at c.in-Some.refusal.kind (subst told c.in-Some.is c.in_ok-refusal.ensures)

pub returns-in-None : goal.returns-in-None
returns-in-None c =
    let t = tally_seen c.args.tally.now in
    let rs = waiting_roles c.args.waiting in
    let places = waiting_places c.args.waiting in
    let u = tally_seen c.settle.new.tally in
    let fine : AreCounted t rs places u None = subst (AreCounted t rs places u) c.in-None.is c.in_ok-refusal.ensures in
    lexical_told t rs places c.args.fault c.lexical.result.at c.lexical.result.kind c.lexical.ensures.place c.lexical.ensures.kind fine.0
