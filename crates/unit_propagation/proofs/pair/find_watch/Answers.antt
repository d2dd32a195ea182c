use Rattle.std.proofs.Common.{◌≡◌, ◌⊎◌, arith}
use Rattle.cfj_logic.specs.declared.clauses.Literal.{Literal}
use Rattle.cfj_logic.specs.UnitClauses.{IsFalse}
use Rattle.unit_propagation.proofs.Members.{taken_next}
use Rattle.unit_propagation.proofs.pair.find_watch.Goals as goal

pub loop-literal-preserved : goal.loop-literal-preserved
loop-literal-preserved c = λ m h.
    taken_next (λ (w : Literal). (w ≡ c.args.other) ⊎ IsFalse c.args.values.now w) c.args.clause.now c.loop-literal.literal-index _ (omega arith) c.loop-literal.invariant (c.is_watchable.ensures.no c.if-is_watchable.false) m h
