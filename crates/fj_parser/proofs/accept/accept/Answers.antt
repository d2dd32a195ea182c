use Rattle.std.proofs.Common.{◌≡◌, Some, None, true, false, [], ◌∷◌, ◌++◌, ◌∙◌, ap, sym, subst}
use Rattle.expression_reader.specs.Machine as expression
use Rattle.fj_symbols.specs.Views.{is_identifier_role, role_seen, symbol_seen}
use Rattle.fj_machine.specs.Machine.{pending, role, settles, waits}
use Rattle.fj_machine.specs.MachineViews.{machine_seen}
use Rattle.fj_parser.specs.Waiting.{may_wait, waiting_left, waiting_roles, waiting_places}
use Rattle.fj_parser.specs.declared.waiting.Waiting.TheVariants as waiting
use Rattle.fj_tally.specs.Views.{tally_seen}
use Rattle.fj_parser.specs.Accepting.{IsTaken, OwnOutcome}
use Rattle.fj_parser.specs.GoalViews.{reader_of}
use Rattle.fj_parser.proofs.Accepted.{step_of, gone, left_roles, nothing_waits, settled_taken, settled_told, waited, waited_told, waited_within, waiting_taken, Waited}
use Rattle.fj_parser.proofs.Behind.{left_shape, IsOnce}
use Rattle.fj_parser.proofs.GoalBehind.{waits_goes_for}
use Rattle.fj_parser.proofs.Named.{role_named, waiting_fits}
use Rattle.fj_parser.proofs.accept.accept.Goals as goal

pub returns-in-Some : goal.returns-in-Some
returns-in-Some c =
    waited_told c.args.part.now (machine_seen c.args.machine.now) (tally_seen c.args.tally.now) c.args.waiting.now (symbol_seen c.args.symbol) c.args.at (tally_seen c.settle_waiting.new.tally) c.settles-settling.result c.in_ok-refusal.field-0 c.in-Some.refusal c.settles-settling.ensures c.in-Some.is c.requires.waiting c.in_ok-refusal.ensures.counted

pub step-requires-clause-named : goal.step-requires-clause-named
step-requires-clause-named c =
    let s = machine_seen c.args.machine.now in
    let token = symbol_seen c.args.symbol in
    let h : Waited s (tally_seen c.args.tally.now) token (tally_seen c.settle_waiting.new.tally) =
    waited s (tally_seen c.args.tally.now) c.args.waiting.now token (tally_seen c.settle_waiting.new.tally) c.settles-settling.result c.in_ok-refusal.field-0 c.settles-settling.ensures c.in_default.is c.requires.waiting c.in_ok-refusal.ensures.counted in
    let own : waits s token ≡ true = sym c.waits.ensures ∙ c.if-waits.true in
    waiting_fits s token own (waited_within s (tally_seen c.args.tally.now) token (tally_seen c.settle_waiting.new.tally) h)

pub with-requires-clause-shape : goal.with-requires-clause-shape
with-requires-clause-shape c =
    let s = machine_seen c.args.machine.now in
    let token = symbol_seen c.args.symbol in
    let own : waits s token ≡ true = sym c.waits.ensures ∙ c.if-waits.true in
    let left : waiting_roles c.settle_waiting.new.waiting ≡ expression.left (settles s token) (pending s) =
    ap waiting_roles c.in_ok-refusal.ensures.left ∙ left_roles c.settles-settling.result c.args.waiting.now ∙ ap (λ k. expression.left k (waiting_roles c.args.waiting.now)) c.settles-settling.ensures ∙ ap (expression.left (settles s token)) c.requires.waiting in
    subst (λ rs. may_wait (rs ++ role_seen c.role-role.result ∷ []) ≡ true) (sym left)
    (subst (λ r. may_wait (expression.left (settles s token) (pending s) ++ r ∷ []) ≡ true) (sym c.role-role.ensures) (left_shape s token own))

pub with-requires-clause-named : goal.with-requires-clause-named
with-requires-clause-named c =
    subst (λ r. is_identifier_role r ≡ true) (sym c.role-role.ensures) (role_named (machine_seen c.args.machine.now) (symbol_seen c.args.symbol) c.requires.read)

pub returns-then-waits : goal.returns-then-waits
returns-then-waits c =
    let s = machine_seen c.args.machine.now in
    let n = machine_seen c.step.new.machine in
    let t = tally_seen c.args.tally.now in
    let u = tally_seen c.settle_waiting.new.tally in
    let w = c.args.waiting.now in
    let token = symbol_seen c.args.symbol in
    let h : Waited s t token u = waited s t w token u c.settles-settling.result c.in_ok-refusal.field-0 c.settles-settling.ensures c.in_default.is c.requires.waiting c.in_ok-refusal.ensures.counted in
    let own : waits s token ≡ true = sym c.waits.ensures ∙ c.if-waits.true in
    let goes : step_of c.args.part.now s token ≡ Some n = gone c.args.part.now c.in_ok-step.field-0 s n token (waits_goes_for c.args.part.now.goal s token own) c.in_ok-step.ensures in
    let once : IsOnce s n token = c.requires.settles.each c.requires.reached.tokens s n c.requires.reached.roles token c.requires.reached.ran goes in
    let left : c.settle_waiting.new.waiting ≡ waiting_left (settles s token) w = c.in_ok-refusal.ensures.left ∙ ap (λ k. waiting_left k w) c.settles-settling.ensures in
    waiting_taken c.args.part.now s n t u w c.with.result token c.args.at c.requires.waiting own goes once h
    (c.with.ensures.roles ∙ ap (λ x. waiting_roles x ++ role_seen c.role-role.result ∷ []) left ∙ ap (λ r. waiting_roles (waiting_left (settles s token) w) ++ r ∷ []) c.role-role.ensures)
    (c.with.ensures.places ∙ ap (λ x. waiting_places x ++ c.args.at ∷ []) left)

pub returns-in-Some-2 : goal.returns-in-Some-2
returns-in-Some-2 c =
    let s = machine_seen c.args.machine.now in
    let t = tally_seen c.args.tally.now in
    let u = tally_seen c.settle_waiting.new.tally in
    let w = c.args.waiting.now in
    let token = symbol_seen c.args.symbol in
    let h : Waited s t token u = waited s t w token u c.settles-settling.result c.in_ok-refusal.field-0 c.settles-settling.ensures c.in_default.is c.requires.waiting c.in_ok-refusal.ensures.counted in
    let own : waits s token ≡ false = sym c.waits.ensures ∙ c.if-waits.false in
    settled_told c.args.part.now s t u w token c.args.at c.in-Some-2.kind c.requires.waiting own h
    (subst (OwnOutcome (reader_of c.args.part.now) s u (role s token) token (machine_seen c.take_settled.new.machine) (tally_seen c.take_settled.new.tally)) c.in-Some-2.is c.in_ok-kind.ensures)

pub returns : goal.returns
returns c =
    let s = machine_seen c.args.machine.now in
    let n = machine_seen c.take_settled.new.machine in
    let t = tally_seen c.args.tally.now in
    let u = tally_seen c.settle_waiting.new.tally in
    let v = tally_seen c.take_settled.new.tally in
    let w = c.args.waiting.now in
    let token = symbol_seen c.args.symbol in
    let h : Waited s t token u = waited s t w token u c.settles-settling.result c.in_ok-refusal.field-0 c.settles-settling.ensures c.in_default.is c.requires.waiting c.in_ok-refusal.ensures.counted in
    let own : waits s token ≡ false = sym c.waits.ensures ∙ c.if-waits.false in
    let taken : OwnOutcome (reader_of c.args.part.now) s u (role s token) token n v None = subst (OwnOutcome (reader_of c.args.part.now) s u (role s token) token n v) c.in_default-2.is c.in_ok-kind.ensures in
    let once : IsOnce s n token = c.requires.settles.each c.requires.reached.tokens s n c.requires.reached.roles token c.requires.reached.ran taken.goes in
    let x = c.settle_waiting.new.waiting in
    let none : x ≡ waiting.Nothing = nothing_waits s w x token c.settles-settling.result c.requires.waiting own c.settles-settling.ensures c.in_ok-refusal.ensures.left in
    subst (λ z. IsTaken (reader_of c.args.part.now) s t (waiting_places w) token c.args.at n v (waiting_roles z) (waiting_places z)) (sym none) (settled_taken c.args.part.now s n t u v w token c.args.at c.requires.waiting own once h taken)
