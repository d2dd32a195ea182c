use Rattle.std.proofs.Common.{not, ◌&&◌, ◌||◌, ap, sym, ◌∙◌}
use Rattle.cond_circuit.specs.Gates.{value}
use Rattle.cond_circuit.proofs.ValueLemmas.{value_not, value_and, value_or}
use Rattle.cond_circuit.proofs.circuit.Circuit.+eval.Goals as goal

pub returns-in-Not : goal.returns-in-Not
returns-in-Not t c =
    let h = c.in-Not.ensures in
    ap not c.eval.ensures ∙ sym (value_not c.args.selection.now c.args.self.now.parts c.args.self.now.features c.args.gate c.in-Not.operand h.part h.stands)

pub returns-then-eval : goal.returns-then-eval
returns-then-eval t c =
    let ps = c.args.self.now.parts in
    let s = c.args.selection.now in
    let h = c.in-And.ensures in
    c.eval-then-eval.ensures ∙ ap (λ b. b && value s ps c.in-And.right) c.if-eval.ensures
    ∙ sym (value_and s ps c.args.self.now.features c.args.gate c.in-And.left c.in-And.right h.part h.stands)

pub returns-else-eval : goal.returns-else-eval
returns-else-eval t c =
    let ps = c.args.self.now.parts in
    let s = c.args.selection.now in
    let h = c.in-And.ensures in
    c.if-eval.false ∙ ap (λ b. b && value s ps c.in-And.right) c.if-eval.ensures
    ∙ sym (value_and s ps c.args.self.now.features c.args.gate c.in-And.left c.in-And.right h.part h.stands)

pub returns-then-eval-2 : goal.returns-then-eval-2
returns-then-eval-2 t c =
    let ps = c.args.self.now.parts in
    let s = c.args.selection.now in
    let h = c.in-Or.ensures in
    c.if-eval-2.true ∙ ap (λ b. b || value s ps c.in-Or.right) c.if-eval-2.ensures
    ∙ sym (value_or s ps c.args.self.now.features c.args.gate c.in-Or.left c.in-Or.right h.part h.stands)

pub returns-else-eval-2 : goal.returns-else-eval-2
returns-else-eval-2 t c =
    let ps = c.args.self.now.parts in
    let s = c.args.selection.now in
    let h = c.in-Or.ensures in
    c.eval-else-eval-2.ensures ∙ ap (λ b. b || value s ps c.in-Or.right) c.if-eval-2.ensures
    ∙ sym (value_or s ps c.args.self.now.features c.args.gate c.in-Or.left c.in-Or.right h.part h.stands)
