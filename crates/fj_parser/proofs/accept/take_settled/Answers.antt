use Rattle.std.proofs.Common.{◌≡◌, Bool, if◌then◌else◌, Some, None, true, false, ◌∙◌, ap, sym, subst}
use Rattle.cfj_model.specs.Roles.{broken_by}
use Rattle.fj_symbols.specs.Views.{is_identifier_role, role_seen, symbol_seen}
use Rattle.cfj_model.specs.declared.fault.FaultKind.{FaultKind}
use Rattle.cfj_model.specs.declared.fault.FaultKind.TheVariants as fault
use Rattle.fj_machine.specs.Machine.{role}
use Rattle.fj_machine.specs.MachineViews.{machine_seen}
use Rattle.fj_tally.specs.Views.{tally_seen, Admits}
use Rattle.fj_parser.proofs.Accepted.{own_broken, own_stuck, not_gone, cannot_go}
use Rattle.fj_parser.proofs.Named.{names_fit, role_named}
use Rattle.fj_parser.proofs.accept.take_settled.Goals as goal

-- how a token that can't stand here is named
abbrev named_so : Bool → FaultKind
named_so reserved = if reserved then fault.Reserved else fault.Unexpected

pub fault-requires-clause-named : goal.fault-requires-clause-named
fault-requires-clause-named c =
    subst (λ r. is_identifier_role r ≡ true) (sym c.role-role.ensures) (role_named (machine_seen c.args.machine.now) (symbol_seen c.args.symbol) c.requires.read)

pub returns-then-branch : goal.returns-then-branch
returns-then-branch c =
    let s = machine_seen c.args.machine.now in
    let t = tally_seen c.args.tally.now in
    let u = tally_seen c.admit.new.self in
    let token = symbol_seen c.args.symbol in
    let r = role_seen c.role-role.result in
    let stays : Admits t r u false = subst (Admits t r u) c.if-not-branch.true c.in_ok-admit.ensures in
    let told : broken_by u r ≡ Some c.in_ok-fault.field-0 = c.in_ok-fault.ensures in
    let breaks : broken_by t (role s token) ≡ Some c.in_ok-fault.field-0 =
    subst (λ x. broken_by x (role s token) ≡ Some c.in_ok-fault.field-0) stays.1 (ap (broken_by u) (sym c.role-role.ensures) ∙ told) in
    own_broken c.args.part.now s t token c.in_ok-fault.field-0 (sym c.in_ok-goes.ensures ∙ c.if-branch.true) breaks

pub returns-then-not-branch : goal.returns-then-not-branch
returns-then-not-branch c =
    let s = machine_seen c.args.machine.now in
    let token = symbol_seen c.args.symbol in
    own_stuck c.args.part.now s (tally_seen c.args.tally.now) token c.misplaced.result (cannot_go c.args.part.now s token (sym c.in_ok-goes.ensures ∙ c.if-branch.false)) (c.misplaced.ensures ∙ ap named_so c.is_reserved_name-reserved.ensures)

pub returns-then-not-branch-2 : goal.returns-then-not-branch-2
returns-then-not-branch-2 c =
    let s = machine_seen c.args.machine.now in
    let token = symbol_seen c.args.symbol in
    own_stuck c.args.part.now s (tally_seen c.args.tally.now) token c.misplaced-then-not-branch-2.result (not_gone c.args.part.now _ s _ token c.if-not-branch-2.true c.in_ok-step.ensures) (c.misplaced-then-not-branch-2.ensures ∙ ap named_so c.is_reserved_name-reserved.ensures)

pub step-requires-clause-named : goal.step-requires-clause-named
step-requires-clause-named c =
    let s = machine_seen c.args.machine.now in
    let t = tally_seen c.args.tally.now in
    let u = tally_seen c.admit.new.self in
    let token = symbol_seen c.args.symbol in
    let r = role_seen c.role-role.result in
    let counts : Admits t r u true = subst (Admits t r u) c.if-not-branch.false c.in_ok-admit.ensures in
    let fine : broken_by t (role s token) ≡ None = ap (broken_by t) (sym c.role-role.ensures) ∙ counts.0 in
    names_fit s token t c.requires.read c.requires.waited fine
