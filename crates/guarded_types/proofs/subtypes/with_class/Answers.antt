use Rattle.std.proofs.Common.{◌≡◌, ◌||◌, ap₂, false, sym, true, ◌∙◌}
use Rattle.std.specs.Str.{bytes_eq}
use Rattle.std.proofs.lemmas.Bool.{not-true}
use Rattle.std.proofs.lemmas.Result.{IfOk-weaker}
use Rattle.cond_circuit.specs.Gates.{Is, value}
use Rattle.guarded_types.proofs.Reached.{class_passed, class_reached, not_false}
use Rattle.guarded_types.proofs.subtypes.with_class.Goals as goal

pub returns-then-ne-clause-worth : goal.returns-then-ne-clause-worth
returns-then-ne-clause-worth c =
    let other : bytes_eq c.args.class.now.parent c.args.upper.now ≡ false =
    ap₂ bytes_eq (sym c.text.ensures.value) (sym c.text-2.ensures.value) ∙ not-true (bytes_eq c.text.result.now c.text-2.result.now) (sym c.ne.ensures ∙ c.if-ne.true) in
    class_passed c.args.circuit.now c.args.within c.args.marks c.args.gate c.args.class.now.parent c.args.upper.now c.requires.gate other

pub returns-clause-worth : goal.returns-clause-worth
returns-clause-worth c =
    let named : bytes_eq c.args.class.now.parent c.args.upper.now ≡ true =
    ap₂ bytes_eq (sym c.text.ensures.value) (sym c.text-2.ensures.value) ∙ not_false (bytes_eq c.text.result.now c.text-2.result.now) (sym c.ne.ensures ∙ c.if-ne.false) in
    IfOk-weaker c.or.result (λ r. Is c.or.new.self r (λ s. value s c.holds.new.circuit.parts c.args.gate || value s c.holds.new.circuit.parts c.in_ok-there.there)) _
    (λ r is.
    class_reached c.args.circuit.now c.holds.new.circuit c.or.new.self c.args.within c.args.marks c.args.gate c.in_ok-there.there r c.args.class.now.parent c.args.upper.now
    c.requires.gate named c.holds.ensures.grown c.in_ok-there.ensures.worth is)
    c.or.ensures.worth
