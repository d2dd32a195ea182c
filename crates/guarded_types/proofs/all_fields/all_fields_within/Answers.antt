use Rattle.std.proofs.Common.{◌≡◌, ap, map, sym, take, true, ◌∙◌, Bor}
use Rattle.std.proofs.lemmas.List.{take-map}
use Rattle.std.proofs.lemmas.Result.{IfOk-weaker}
use Rattle.std.proofs.lemmas.Simd.{map-map}
use Rattle.cfj_logic.specs.Selections.{Chosen}
use Rattle.cfj_model.specs.Coloring.{no_colors}
use Rattle.cfj_model.specs.LookUps.{Table, chain}
use Rattle.cfj_model.specs.Projection.{bare_field, is_present, presence_of}
use Rattle.cfj_model.specs.declared.class.Class.{Class}
use Rattle.cfj_model.specs.declared.class.Field.{Field}
use Rattle.class_table.specs.ByName.{seen}
use Rattle.cond_circuit.specs.Gates.{value}
use Rattle.guarded_seq.specs.Sequences.{present}
use Rattle.guarded_types.specs.Fields.{own_fields, up_of}
use Rattle.guarded_types.proofs.AllFields.{all_fields_are, front_over, told}
use Rattle.guarded_types.proofs.all_fields.all_fields_within.Goals as goal

pub fields_of_chain-requires : goal.fields_of_chain-requires
fields_of_chain-requires c =
    let is : seen c.split_at.result.0.now ≡ take c.args.part (chain c.args.project.now.classes c.args.class.now) =
    ap seen c.split_at.ensures.front ∙ sym (take-map (λ (k : Bor Class). k.now) c.args.part c.chain.result.now) ∙ ap (take c.args.part) (c.chain.ensures ∙ ap (λ (t : Table). chain t c.args.class.now) c.requires.table) in
    front_over c.args.project.now c.model-features.ensures.kept c.args.circuit.now.features c.requires.features c.args.class.now c.args.part c.split_at.result.0.now is

pub returns-clause-fields : goal.returns-clause-fields
returns-clause-fields c =
    let line = c.args.project.now in
    let front = c.split_at.result.0.now in
    let is : seen front ≡ take c.args.part (chain line.classes c.args.class.now) =
    ap seen c.split_at.ensures.front ∙ sym (take-map (λ (k : Bor Class). k.now) c.args.part c.chain.result.now) ∙ ap (take c.args.part) (c.chain.ensures ∙ ap (λ (t : Table). chain t c.args.class.now) c.requires.table) in
    let marks : c.union-within.result ≡ presence_of c.args.within (up_of no_colors (seen front)) = c.union-within.ensures ∙ ap (presence_of c.args.within) c.marks_of.ensures in
    IfOk-weaker c.fields_of_chain.result (λ found. (s : Chosen) → is_present s c.union-within.result ≡ true → told s c.fields_of_chain.new.circuit found.items ≡ own_fields s (seen front)) _
    (λ found fields s here long.
    let are = all_fields_are line c.model-features.ensures.kept c.args.class.now c.args.part front is s c.args.within here long in
    sym (map-map bare_field (λ (f : Bor Field). f.now) (present (value s c.fields_of_chain.new.circuit.parts) found.items))
    ∙ ap (map bare_field) (fields s (ap (is_present s) marks ∙ are.0))
    ∙ are.1)
    c.fields_of_chain.ensures.fields
