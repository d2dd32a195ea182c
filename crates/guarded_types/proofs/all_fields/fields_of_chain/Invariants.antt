use Rattle.std.proofs.Common.{◌≡◌, ◌-◌, drop, true}
use Rattle.cfj_logic.specs.Selections.{Chosen}
use Rattle.cfj_model.specs.Projection.{is_present}
use Rattle.class_table.specs.ByName.{seen}
use Rattle.cond_circuit.specs.Gates.{Grown}
use Rattle.guarded_seq.specs.Sequences.{AreInside}
use Rattle.guarded_types.specs.Fields.{own_fields}
use Rattle.guarded_types.proofs.AllFields.{told}
use Rattle.guarded_types.proofs.all_fields.fields_of_chain.Given as goal

abbrev pub invariant-each : goal.invariant-each
invariant-each l = record {
  grown : Grown l.fn.circuit l.circuit;
  inside : AreInside l.circuit l.found.items;
  fields : (s : Chosen) → is_present s l.within ≡ true → told s l.circuit l.found.items ≡ own_fields s (seen (drop (l.count - l.step) l.chain));
}
