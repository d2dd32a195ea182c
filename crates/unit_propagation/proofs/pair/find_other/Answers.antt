use Rattle.std.proofs.Common.{◌≡◌, arith, subst}
use Rattle.cfj_logic.specs.declared.clauses.Literal.{Literal}
use Rattle.cfj_words.specs.Lists.{Has}
use Rattle.unit_propagation.proofs.Members.{all_taken, taken_next}
use Rattle.unit_propagation.proofs.pair.find_other.Goals as goal

pub loop-literal-preserved : goal.loop-literal-preserved
loop-literal-preserved c = λ m h.
    taken_next (λ (w : Literal). c.args.first ≡ w) c.args.clause.now c.loop-literal.literal-index _ (omega arith) c.loop-literal.invariant (c.differ.ensures.no c.if-differ.false) m h

pub returns-clause-none : goal.returns-clause-none
returns-clause-none c =
    let all = all_taken c.args.clause.now c.loop-literal.literal-index (omega arith) in
    subst (λ w. (m : Literal) → Has w m → c.args.first ≡ m) all c.loop-literal.invariant
