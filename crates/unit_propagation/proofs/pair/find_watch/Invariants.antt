use Rattle.std.proofs.Common.{◌≡◌, ◌⊎◌, take}
use Rattle.cfj_logic.specs.declared.clauses.Literal.{Literal}
use Rattle.cfj_logic.specs.UnitClauses.{IsFalse}
use Rattle.cfj_words.specs.Lists.{Has}
use Rattle.unit_propagation.proofs.pair.find_watch.Given as goal

abbrev pub invariant-loop-literal : goal.invariant-loop-literal
invariant-loop-literal l = (m : Literal) → Has (take l.literal-index l.clause) m → (m ≡ l.other) ⊎ IsFalse l.values m
