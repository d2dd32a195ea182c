use Rattle.std.proofs.Common.{◌≡◌, ◌+◌, ◌-◌, ◌<◌, true, false, length, set, sym, ◌∙◌, subst, arith}
use Rattle.cnf_form.proofs.Marking.{Marking, marking_start, marking_skip, marking_step, marking_done, read_within}
use Rattle.cnf_form.proofs.marks.reached.Goals as goal

pub gates-init : goal.gates-init
gates-init c = record {
  marking = subst (λ m. Marking c.args.circuit.now.parts c.args.top (c.args.top + 1) (set m c.args.top true)) (sym c.in_ok-marks.ensures) (marking_start c.args.circuit.now.parts c.args.top);
  within = omega arith;
}

pub gates-preserved : goal.gates-preserved
gates-preserved c =
    let m = c.gates.marks.items in
    let k = c.gates.invariant.marking in
    let inside : c.gates.above - 1 < length m = omega (arith, k.size, c.gates.invariant.within) in
    record {
      marking = marking_skip c.args.circuit.now.parts c.args.top c.gates.above (c.gates.above - 1) m k (omega arith) (read_within m (c.gates.above - 1) c.index.result.now false inside c.index.ensures ∙ c.if-index.false);
      within = omega arith;
    }

pub gates-preserved-then-index : goal.gates-preserved-then-index
gates-preserved-then-index c =
    let m = c.gates.marks.items in
    let k = c.gates.invariant.marking in
    let inside : c.gates.above - 1 < length m = omega (arith, k.size, c.gates.invariant.within) in
    record {
      marking = subst (Marking c.args.circuit.now.parts c.args.top (c.gates.above - 1)) (sym c.mark_operands.ensures)
          (marking_step c.args.circuit.now.parts c.args.circuit.now.features c.args.top c.gates.above (c.gates.above - 1) c.part.result m k (omega arith) (omega arith)
          (read_within m (c.gates.above - 1) c.index.result.now false inside c.index.ensures ∙ c.if-index.true) c.part.ensures.part c.part.ensures.stands);
      within = omega arith;
    }

pub returns : goal.returns
returns c =
    let none : c.gates.above ≡ 0 = omega arith in
    marking_done c.args.circuit.now.parts c.args.top c.gates.marks.items
    (subst (λ n. Marking c.args.circuit.now.parts c.args.top n c.gates.marks.items) none c.gates.invariant.marking)
