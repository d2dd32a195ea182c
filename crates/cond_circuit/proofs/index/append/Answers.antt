use Rattle.std.proofs.Common.{◌≡◌, cond, length, List, Some, ap, rules, sym, subst, ◌∙◌}
use Rattle.std.specs.BTreeMap.{get}
use Rattle.std.specs.Ordering.{is_eq}
use Rattle.cond_circuit.specs.declared.part.Part.{Part}
use Rattle.cond_circuit.specs.Indexes.{part_cmp, IsIndex}
use Rattle.cond_circuit.proofs.IndexLemmas.{index_push}
use Rattle.cond_circuit.proofs.index.append.Goals as goal

pub returns-in-Ok-clause-indexed : goal.returns-in-Ok-clause-indexed
returns-in-Ok-clause-indexed c =
    let many : c.len-gate.result ≡ length c.args.parts.now.items = search rules in
    let count = λ (q : Part). ap (λ k. cond (is_eq (part_cmp c.args.part q)) (Some k) (get part_cmp c.args.index.now q)) many in
    subst (λ (ps : List Part). IsIndex ps c.insert.new.index) (sym c.in_ok-push.ensures.items)
    (index_push c.args.parts.now.items c.args.part c.args.index.now c.insert.new.index c.requires.indexed c.requires.absent (λ q. c.in-Ok.ensures.found q ∙ count q))
