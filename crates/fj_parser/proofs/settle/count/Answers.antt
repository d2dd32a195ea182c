use Rattle.std.proofs.Common.{◌≡◌, Some, false, subst}
use Rattle.cfj_model.specs.Roles.{broken_by}
use Rattle.fj_tally.specs.Views.{tally_seen, Admits}
use Rattle.fj_symbols.specs.Views.{role_seen}
use Rattle.fj_parser.proofs.CountedRoles.{one_broken}
use Rattle.fj_parser.proofs.settle.count.Goals as goal

pub returns : goal.returns
returns c =
    let t = tally_seen c.args.tally.now in
    let u = tally_seen c.admit.new.self in
    let r = role_seen c.args.role in
    let stays : Admits t r u false = subst (Admits t r u) c.if-branch.false c.in_ok-admit.ensures in
    let told : broken_by u r ≡ Some c.in_ok-kind.kind = c.in_ok-kind.ensures in
    one_broken t r c.args.at c.in_ok-kind.kind (subst (λ x. broken_by x r ≡ Some c.in_ok-kind.kind) stays.1 told)
