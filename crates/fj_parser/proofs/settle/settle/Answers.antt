use denote.Enum.Bare.{sameb}
use Rattle.std.proofs.Common.{◌≡◌, false, subst, sym}
use Rattle.std.proofs.lemmas.Bool.{true≢false}
use Rattle.std.proofs.lemmas.Result.{IfOk-weaker}
use Rattle.expression_reader.specs.Machine.{settled}
use Rattle.expression_reader.specs.contracts.roles.Settling.{the_type}
use Rattle.expression_reader.specs.declared.roles.Settling.TheVariants.{Stays}
use Rattle.fj_tally.specs.Views.{tally_seen}
use Rattle.fj_parser.specs.Accepting.{AreCounted}
use Rattle.fj_parser.specs.Waiting.{waiting_places, waiting_roles}
use Rattle.fj_parser.proofs.CountedRoles.{closed_settled}
use Rattle.fj_parser.proofs.settle.settle.Goals as goal

pub returns-in-Closed : goal.returns-in-Closed
returns-in-Closed c =
    let t = tally_seen c.args.tally.now in
    let u = tally_seen c.count_both-in-Closed.new.tally in
    let b = c.in-Closed.bracket in
    let n = c.in-Closed.name in
    let other : c.args.settling ≡ Stays → ⊥ = λ e. true≢false (sym (subst (λ s. false ≡ sameb the_type s Stays) e c.if-eq.ensures)) in
    IfOk-weaker c.count_both-in-Closed.result _ (AreCounted t (settled c.args.settling (waiting_roles c.args.waiting)) (waiting_places c.args.waiting) u)
    (λ result h. subst (λ w. AreCounted t (settled c.args.settling (waiting_roles w)) (waiting_places w) u result) (sym c.in-Closed.is)
    (closed_settled c.args.settling other t u b.depth n.name.now b.at n.at c.in-Closed.field-2 result h)) c.count_both-in-Closed.ensures
