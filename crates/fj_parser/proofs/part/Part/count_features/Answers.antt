use Rattle.std.proofs.Common.{◌≡◌, ℕ, true, List, length, slice_get, Some, refl, sym, ap, subst, ◌∙◌}
use Rattle.std.proofs.lemmas.Option.{slice_get_read}
use Rattle.cfj_words.specs.Names.{is_name}
use Rattle.cfj_model.specs.Roles.{broken_by, feature_name}
use Rattle.fj_parser.proofs.PartFeatures.{feature_fits}
use Rattle.fj_parser.proofs.part.Part.count_features.Goals as goal

pub count_feature-requires : goal.count_feature-requires
count_feature-requires c =
    let names = c.args.self.features.now in
    let i = c.each.item-index in
    let there : slice_get names i ≡ Some c.item-item.result = slice_get_read names (length names) i c.item-item.result refl c.each-test.true c.item-item.is in
    ap (λ t. broken_by t (feature_name c.text.result.now)) c.each.invariant
    ∙ feature_fits c.args.self.format names i c.text.result.now c.args.self.few c.args.self.distinct (subst (λ (w : List ℕ). is_name w ≡ true) (sym c.text.ensures.value) c.text.ensures.named) (subst (λ (w : List ℕ). slice_get names i ≡ Some w) (sym c.text.ensures.value) there)
