use Rattle.std.proofs.Common.{◌∷◌, [], subst}
use Rattle.std.proofs.lemmas.Result.{on_ok_weaker}
use Rattle.cfj_model.specs.Roles.{opens, var_name}
use Rattle.fj_parser.specs.Listing.{Adds}
use Rattle.fj_parser.specs.Waiting.{settled_role}
use Rattle.fj_parser.proofs.Adding.{adds_both}
use Rattle.fj_parser.proofs.token_role.add_both.Goals as goal

pub returns : goal.returns
returns c =
    let old = c.args.list.now.items in
    let mid = c.add_bracket.new.list.items in
    let new = c.add.new.list.items in
    let r = settled_role c.args.settling (opens c.args.bracket.depth) in
    let q = settled_role c.args.settling (var_name c.args.name.name.now) in
    on_ok_weaker c.add.result (λ h. adds_both old mid new (r ∷ []) (q ∷ []) (c.args.bracket.at ∷ []) (c.args.name.at ∷ []) c.in_ok-add_bracket.ensures (subst (λ x. Adds mid (x ∷ []) (c.args.name.at ∷ []) new) c.name_role.ensures h)) c.add.ensures
