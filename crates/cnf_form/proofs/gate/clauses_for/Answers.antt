use Rattle.std.proofs.Common.{◌≡◌, ◌+◌, false, cond, [], ◌∷◌, ◌++◌, get_or, sym, ◌∙◌, ap, subst, arith}
use Rattle.std.proofs.lemmas.Option.{get_or_from_slice_get}
use Rattle.cond_circuit.specs.declared.part.Part.TheVariants.{Zero}
use Rattle.cnf_form.specs.Reaching.{AreBelow, is_marked}
use Rattle.cnf_form.specs.GateClauses.{part_of, part_clauses, own_below}
use Rattle.cnf_form.proofs.Marking.{stands_below, read_within}
use Rattle.cnf_form.proofs.Written.{Written, written_more, written_done}
use Rattle.cnf_form.proofs.gate.clauses_for.Goals as goal

pub gates-preserved : goal.gates-preserved
gates-preserved c =
    let r = is_marked c.in_ok-reached.reached.items in
    let old = c.args.circuit.now in
    let g = c.gates.gate in
    let p = c.part-part.result in
    let b = c.index-is_reached.result.now in
    let x = c.variable-number.result in
    let vs = c.gates.variables.items in
    let below : AreBelow g p = stands_below old.features g g p c.part-part.ensures.stands (omega arith) in
    let part : p ≡ part_of old.parts g = sym (get_or_from_slice_get old.parts g p Zero c.part-part.ensures.part) in
    let test : b ≡ r g = sym (read_within c.in_ok-reached.reached.items g b false (omega (arith, c.in_ok-reached.ensures.size)) c.index-is_reached.ensures) in
    subst (λ l. Written r old (g + 1) c.add_gate.new.list.items l (c.gates.vars + c.own_variables-vars.result)) (sym c.in_ok-push.ensures.items)
    (written_more r old g c.gates.list.items c.add_gate.new.list.items vs c.gates.vars x c.own_variables-vars.result b p c.gates.invariant below part test c.variable-number.ensures c.own_variables-vars.ensures
    (subst (λ l. c.add_gate.new.list.items ≡ c.gates.list.items ++ cond b (part_clauses (λ a. get_or l a 0) x p) []) c.as_slice.ensures.value c.in_ok-add_gate.ensures))

pub returns : goal.returns
returns c =
    let r = is_marked c.in_ok-reached.reached.items in
    let old = c.args.circuit.now in
    let w = c.gates.invariant in
    let end : c.gates.gate ≡ c.args.top + 1 = omega arith in
    record {
      reached = r;
      exact = c.in_ok-reached.ensures.exact;
      features = c.features-features.ensures.features;
      vars = subst (λ n. c.gates.vars ≡ old.features + own_below r old.parts n) end w.count;
      list = written_done r old c.gates.gate c.args.top c.gates.list.items c.of.result c.gates.variables.items c.gates.vars c.index.result.now w end c.index.ensures
          (c.of.ensures ∙ c.in_ok-add.ensures ∙ ap (λ l. c.gates.list.items ++ (l ∷ []) ∷ []) c.literal.ensures);
    }
