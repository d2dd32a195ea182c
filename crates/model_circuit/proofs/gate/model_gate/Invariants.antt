use Rattle.std.proofs.Common.{take}
use Rattle.std.specs.List.{list_all}
use Rattle.cfj_logic.specs.Formulas.{truth}
use Rattle.cond_circuit.specs.Gates.{Grown, Is}
use Rattle.model_circuit.proofs.gate.model_gate.Given as goal

-- the gate is that of the constraints so far
abbrev pub invariant-each : goal.invariant-each
invariant-each l =
    record {
      grown : Grown l.fn.circuit l.circuit;
      worth : Is l.circuit l.all (λ s. list_all (truth s) (take l.constraint-index l.constraints));
    }
