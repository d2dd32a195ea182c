use Rattle.std.proofs.Common.{◌≡◌, ◌∙◌, sym, subst, IfOk}
use Rattle.std.proofs.lemmas.Result.{IfOk-weaker}
use Rattle.cfj_model.specs.ProductLines.{ProductLine, IsProject, IsPlain}
use Rattle.feature_views.proofs.Variants.{variant_is, variant_is_project, variant_is_plain}
use Rattle.feature_views.proofs.variant.project.Goals as goal

pub of-requires : goal.of-requires
of-requires c =
    let s = c.args.selection.now in
    let line = c.args.project.now in
    let is = variant_is s line _ _ c.in_ok-model.ensures c.in_ok-classes.ensures.present in
    subst IsProject (sym is) (variant_is_project s line c.classes.ensures.kept)

pub returns-clause-projection : goal.returns-clause-projection
returns-clause-projection c =
    let is = variant_is c.args.selection.now c.args.project.now _ _ c.in_ok-model.ensures c.in_ok-classes.ensures.present in
    let P : ProductLine → Type 0 = λ line. IfOk c.of.result (λ variant. variant ≡ line) in
    subst P is c.of.ensures

pub returns-clause-plain : goal.returns-clause-plain
returns-clause-plain c =
    let s = c.args.selection.now in
    let line = c.args.project.now in
    let is = variant_is s line _ _ c.in_ok-model.ensures c.in_ok-classes.ensures.present in
    IfOk-weaker c.of.result _ _ (λ (variant : ProductLine) same. subst IsPlain (sym (same ∙ is)) (variant_is_plain s line)) c.of.ensures
