use Rattle.std.proofs.Common.{◌≡◌, ◌+◌, ◌<◌, length, true, refl, sym, subst, ◌∙◌, arith}
use Rattle.std.specs.Str.{bytes_eq}
use Rattle.std.proofs.lemmas.Option.{slice_get_read}
use Rattle.class_table.proofs.Members.{not_true}
use Rattle.unit_keys.proofs.Signatures.{AreLeft, left_first, left_more, left_passed, left_short, left_tells, left_unlike}
use Rattle.unit_keys.proofs.seen.are_same_signatures.Goals.{then-place-others-via-then-place-others, then-place-others-via-else-place-others+then-not-is_same_signature, then-eq+else-place-others+else-not-is_same_signature, else-eq}
use Rattle.unit_keys.proofs.seen.are_same_signatures.Goals as goal

pub each-init : goal.each-init
each-init c = left_first c.args.name.now c.args.other_name.now c.args.methods.now c.args.others.now

pub returns-then-place-others : goal.returns-then-place-others
returns-then-place-others c =
    let n = c.args.name.now in
    let m = c.args.other_name.now in
    let ds = c.args.methods.now in
    let es = c.args.others.now in
    let i = c.each.method-index in
    let d = c.method-item.result in
    let k = c.next_named-place.result in
    let at = slice_get_read ds (length ds) i d refl (omega (arith, c.each-test.true)) c.method-item.is in
    let named : bytes_eq d.name n ≡ true = sym c.eq.ensures ∙ c.if-eq.true in (
      λ t. absurd (not_true (sym t)),
      λ all. absurd (elim c.then-place-others.branch [
        | then-place-others-via-then-place-others w ↦ left_short n m ds es i c.each.at c.each.invariant k d at named c.next_named-place.ensures (omega (arith, w.if-place-others.true)) all
        | then-place-others-via-else-place-others+then-not-is_same_signature w ↦
            let e = w.index-others-place.result in
            let in_range : k < length es = omega (arith, c.next_named-place.ensures.within, w.if-place-others.false) in
            let here = slice_get_read es (length es) k e refl in_range w.index-others-place.is in
            left_unlike n m ds es i c.each.at c.each.invariant k d e at named c.next_named-place.ensures here (λ s. not_true (sym (w.is_same_signature.ensures.1 s) ∙ w.if-not-is_same_signature.true)) all
      ]),
    )

pub each-preserved : goal.each-preserved
each-preserved c =
    let n = c.args.name.now in
    let m = c.args.other_name.now in
    let ds = c.args.methods.now in
    let es = c.args.others.now in
    let i = c.each.method-index in
    let d = c.method-item.result in
    let at = slice_get_read ds (length ds) i d refl (omega (arith, c.each-test.true)) c.method-item.is in
    elim c.if-eq.branch [
      | then-eq+else-place-others+else-not-is_same_signature w ↦
          let k = w.next_named-place.result in
          let e = w.index-others-place.result in
          let in_range : k < length es = omega (arith, w.next_named-place.ensures.within, w.if-place-others.false) in
          let here = slice_get_read es (length es) k e refl in_range w.index-others-place.is in
          subst (AreLeft n m ds es (i + 1)) (sym w.at-is)
          (left_more n m ds es i c.each.at c.each.invariant k d e at (sym c.eq.ensures ∙ w.if-eq.true) w.next_named-place.ensures here (w.is_same_signature.ensures.0 w.if-not-is_same_signature.false))
      | else-eq w ↦ subst (AreLeft n m ds es (i + 1)) (sym w.at-is) (left_passed n m ds es i c.each.at c.each.invariant d at (sym c.eq.ensures ∙ w.if-eq.false))
    ]

pub returns : goal.returns
returns c =
    left_tells c.args.name.now c.args.other_name.now c.args.methods.now c.args.others.now c.each.method-index c.each.at c.each.invariant c.next_named.result
    (omega (arith, c.each-test.false)) c.next_named.ensures
