use Rattle.std.proofs.Common.{◌≡◌, ◌++◌, take, true}
use Rattle.std.specs.List.{filter}
use Rattle.cfj_logic.specs.Selections.{Chosen}
use Rattle.cfj_model.specs.Projection.{is_present}
use Rattle.cond_circuit.specs.Gates.{Grown}
use Rattle.guarded_seq.specs.Sequences.{AreInside}
use Rattle.guarded_types.proofs.AllFields.{told}
use Rattle.guarded_types.proofs.all_fields.push_own.Given as goal

abbrev pub invariant-each : goal.invariant-each
invariant-each l = record {
  grown : Grown l.fn.circuit l.circuit;
  inside : AreInside l.circuit l.found.items;
  fields : (s : Chosen) → is_present s l.within ≡ true → told s l.circuit l.found.items ≡ told s l.fn.circuit l.fn.found.items ++ filter (λ f. is_present s f.colors) (take l.field-index l.fields);
}
