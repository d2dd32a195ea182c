use Rattle.std.proofs.Common.{length, refl, sym, ◌∙◌, arith}
use Rattle.std.proofs.lemmas.Option.{slice_get_read}
use Rattle.class_table.proofs.Members.{not_true}
use Rattle.unit_facts.specs.Facts.{taken_of}
use Rattle.unit_keys.proofs.Signatures.{same_at}
use Rattle.unit_keys.proofs.seen.are_same_taken.Goals as goal

pub returns-then-not-is_same_taken : goal.returns-then-not-is_same_taken
returns-then-not-is_same_taken c =
    let ps = c.args.params.now in
    let qs = c.args.others.now in
    let one = slice_get_read ps (length ps) c.each.place c.index-params-place.result refl (omega (arith, c.each-test.true)) c.index-params-place.is in
    let other = slice_get_read qs (length ps) c.each.place c.index-others-place.result (omega (arith, c.if-params-others.false)) (omega (arith, c.each-test.true)) c.index-others-place.is in
    (λ t. absurd (not_true (sym t)), λ e. sym c.if-not-is_same_taken.true ∙ c.is_same_taken.ensures.1 (same_at taken_of ps qs c.each.place c.index-params-place.result c.index-others-place.result one other e))
