use Rattle.std.proofs.Common.{◌∷◌, [], None, subst}
use Rattle.std.proofs.lemmas.Result.{IfOk-weaker}
use Rattle.cfj_model.specs.Roles.{opens, var_name}
use Rattle.fj_tally.specs.Views.{tally_seen}
use Rattle.fj_symbols.specs.Views.{role_seen}
use Rattle.fj_parser.specs.Accepting.{AreCounted}
use Rattle.fj_parser.specs.Waiting.{settled_role}
use Rattle.fj_parser.proofs.CountedRoles.{both_counted}
use Rattle.fj_parser.proofs.settle.count_both.Goals as goal

pub returns : goal.returns
returns c =
    let t = tally_seen c.args.tally.now in
    let u = tally_seen c.count_bracket.new.tally in
    let v = tally_seen c.count.new.tally in
    let r = settled_role c.args.settling (opens c.args.bracket.depth) in
    let q = settled_role c.args.settling (var_name c.args.name.name.now) in
    let p = c.args.bracket.at in
    let o = c.args.name.at in
    let first : AreCounted t (r ∷ []) (p ∷ []) u None = subst (AreCounted t (r ∷ []) (p ∷ []) u) c.in_default.is c.in_ok-refusal.ensures in
    IfOk-weaker c.count.result (AreCounted u (role_seen c.name_role.result ∷ []) (o ∷ []) v) (AreCounted t (r ∷ (q ∷ [])) (p ∷ (o ∷ [])) v)
    (λ result h. both_counted t u v r q p o result first (subst (λ x. AreCounted u (x ∷ []) (o ∷ []) v result) c.name_role.ensures h)) c.count.ensures
