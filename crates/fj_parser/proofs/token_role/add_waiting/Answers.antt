use Rattle.std.proofs.Common.{◌∷◌, [], subst}
use Rattle.std.proofs.lemmas.Result.{on_ok_weaker}
use Rattle.cfj_model.specs.Roles.{opens, var_name}
use Rattle.fj_parser.specs.Listing.{Adds}
use Rattle.fj_parser.specs.Waiting.{settled_role}
use Rattle.fj_parser.specs.declared.waiting.Waiting.TheVariants as waiting
use Rattle.fj_parser.proofs.Adding.{adds_none, adds_stays, adds_waiting, closes_so, is_stays, not_stays}
use Rattle.fj_parser.proofs.token_role.add_waiting.Goals as goal

pub returns-then-eq : goal.returns-then-eq
returns-then-eq c = adds_stays c.args.settling (is_stays c.args.settling c.if-eq.ensures) c.args.waiting c.args.list.now.items

pub returns-in-Nothing : goal.returns-in-Nothing
returns-in-Nothing c =
    let list = c.args.list.now.items in
    adds_waiting c.args.settling (not_stays c.args.settling c.if-eq.ensures) c.args.waiting waiting.Nothing c.in-Nothing.is list list (adds_none list)

pub returns-in-Bracket : goal.returns-in-Bracket
returns-in-Bracket c =
    on_ok_weaker c.add_bracket.result (λ h. adds_waiting c.args.settling (not_stays c.args.settling c.if-eq.ensures) c.args.waiting (waiting.Bracket c.in-Bracket.bracket) c.in-Bracket.is c.args.list.now.items c.add_bracket.new.list.items h) c.add_bracket.ensures

pub returns-in-Name : goal.returns-in-Name
returns-in-Name c =
    on_ok_weaker c.add_both.result (λ h. adds_waiting c.args.settling (not_stays c.args.settling c.if-eq.ensures) c.args.waiting (waiting.Name c.in-Name.bracket c.in-Name.name) c.in-Name.is c.args.list.now.items c.add_both.new.list.items h) c.add_both.ensures

pub returns-in-Closed : goal.returns-in-Closed
returns-in-Closed c =
    let settling = c.args.settling in
    let old = c.args.list.now.items in
    let new = c.add_closed.new.list.items in
    let b = c.in-Closed.bracket in
    let n = c.in-Closed.name in
    let r = settled_role settling (opens b.depth) in
    let q = settled_role settling (var_name n.name.now) in
    on_ok_weaker c.add_closed.result (λ h. adds_waiting settling (not_stays settling c.if-eq.ensures) c.args.waiting (waiting.Closed b n c.in-Closed.at) c.in-Closed.is old new
    (subst (λ x. Adds old (r ∷ (q ∷ (x ∷ []))) (b.at ∷ (n.at ∷ (c.in-Closed.at ∷ []))) new) (closes_so settling) h)) c.add_closed.ensures
