use Rattle.std.proofs.Common.{◌+◌, ◌<◌, rules, false, length, sym, subst, true}
use Rattle.cond_circuit.proofs.ValueLemmas.{Grown-trans, Is-grown}
use Rattle.cond_circuit.specs.Gates.{Is}
use Rattle.guarded_seq.specs.Sequences.{AreInside}
use Rattle.guarded_types.specs.Within.{IsOfFirst}
use Rattle.guarded_types.proofs.FirstItems.{first_more_is, first_settled, inside_more, taken_more}
use Rattle.std.proofs.Common.{take}
use Rattle.guarded_types.proofs.firsts.firsts.Goals as goal

pub returns-then-taken-always-clause-first : goal.returns-then-taken-always-clause-first
returns-then-taken-always-clause-first g c =
    first_settled c.each.circuit c.args.within c.each.found.items c.args.items.now c.each.place c.each.taken c.each.invariant.taken
    (subst (λ n. Is c.each.circuit n (λ s. true)) (sym c.if-taken-always.true)
    (Is-grown c.args.circuit.now c.each.circuit c.constant-always.result (λ s. true) c.each.invariant.grown c.constant-always.ensures.worth))
    c.each.invariant.first

pub returns-in_err-gates-clause-grown : goal.returns-in_err-gates-clause-grown
returns-in_err-gates-clause-grown g c = Grown-trans c.args.circuit.now c.each.circuit c.turn_of.new.circuit c.each.invariant.grown c.turn_of.ensures.grown

pub returns-in_err-push-clause-grown : goal.returns-in_err-push-clause-grown
returns-in_err-push-clause-grown g c = Grown-trans c.args.circuit.now c.each.circuit c.turn_of.new.circuit c.each.invariant.grown c.turn_of.ensures.grown

pub each-preserved : goal.each-preserved
each-preserved g c =
    let lt : c.each.place < length c.args.items.now = search rules in
    let never : Is c.args.circuit.now 0 (λ s. false) = subst (λ n. Is c.args.circuit.now n (λ s. false)) c.constant-taken.ensures.gate c.constant-taken.ensures.worth in
    let d = c.turn_of.new.circuit in
    let x = c.index-items-place.result in
    record {
      grown = Grown-trans c.args.circuit.now c.each.circuit d c.each.invariant.grown c.turn_of.ensures.grown;
      inside = subst (λ xs. AreInside d xs) (sym c.in_ok-push.ensures)
          (inside_more c.each.circuit d c.args.within c.args.items.now c.each.place x lt c.index-items-place.is c.each.taken c.turn_of.ensures.grown c.each.invariant.taken
          c.each.found.items c.in_ok-gates.gates.here c.each.invariant.inside c.in_ok-gates.ensures.here.inside);
      taken = taken_more c.each.circuit d c.args.within c.args.items.now c.each.place x lt c.index-items-place.is c.each.taken c.turn_of.ensures.grown c.each.invariant.taken
          c.in_ok-gates.gates.taken c.in_ok-gates.ensures.taken;
      first = subst (λ xs. IsOfFirst d c.args.within xs (take (c.each.place + 1) c.args.items.now)) (sym c.in_ok-push.ensures)
          (first_more_is c.each.circuit d c.args.within c.args.items.now c.each.place x lt c.index-items-place.is c.each.taken c.turn_of.ensures.grown c.each.invariant.taken
          c.each.found.items c.in_ok-gates.gates.here (Is-grown c.args.circuit.now c.each.circuit 0 (λ s. false) c.each.invariant.grown never)
          c.each.invariant.inside c.each.invariant.first c.in_ok-gates.ensures.here);
    }
