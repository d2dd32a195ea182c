use Rattle.std.proofs.Common.{◌≡◌, ◌∷◌, ◌∙◌, [], true, false, subst, sym}
use Rattle.std.proofs.lemmas.Result.{on_ok_weaker}
use Rattle.fj_machine.specs.Machine.{waits}
use Rattle.fj_machine.specs.MachineViews.{machine_seen}
use Rattle.fj_symbols.specs.Views.{symbol_seen}
use Rattle.fj_parser.specs.Listing.{Adds}
use Rattle.fj_parser.proofs.Adding.{adds_itself, adds_others}
use Rattle.fj_parser.proofs.token_role.add_settled.Goals as goal

pub returns-then-waits : goal.returns-then-waits
returns-then-waits c =
    let s = machine_seen c.args.machine.now in
    let token = symbol_seen c.args.symbol in
    let own : waits s token ≡ true = sym c.waits.ensures ∙ c.if-waits.true in
    adds_others s c.args.waiting token c.args.at c.settles.result c.args.list.now.items c.add_waiting.new.list.items c.requires own c.settles.ensures c.in_ok-add_waiting.ensures

pub returns : goal.returns
returns c =
    let s = machine_seen c.args.machine.now in
    let token = symbol_seen c.args.symbol in
    let own : waits s token ≡ false = sym c.waits.ensures ∙ c.if-waits.false in
    let mid = c.add_waiting.new.list.items in
    let new = c.add.new.list.items in
    on_ok_weaker c.add.result (λ h. adds_itself s c.args.waiting token c.args.at c.settles.result c.args.list.now.items mid new c.requires own c.settles.ensures c.in_ok-add_waiting.ensures
    (subst (λ r. Adds mid (r ∷ []) (c.args.at ∷ []) new) c.role.ensures h)) c.add.ensures
