use Rattle.std.proofs.Common.{◌≡◌, ◌∙◌, ap, sym, subst, length, Bor, List, ℕ, All, true}
use Rattle.std.proofs.lemmas.Result.{IfOk-weaker}
use Rattle.cfj_logic.specs.Sides.{is_over}
use Rattle.cfj_model.specs.Coloring.{no_colors}
use Rattle.cfj_model.specs.LookUps.{Table, chain}
use Rattle.guarded_types.specs.Along.{along, read, typed_fields}
use Rattle.guarded_types.specs.Within.{IsOfFirst}
use Rattle.guarded_types.specs.declared.marked.Marked.{Marked}
use Rattle.guarded_types.proofs.FieldTypes.{fields_guarded}
use Rattle.guarded_types.proofs.KnownMarks.{fields_along_over, read_over}
use Rattle.guarded_types.proofs.fields.field_within.Goals as goal

pub firsts-requires : goal.firsts-requires
firsts-requires c =
    let line = c.args.project.now in
    let n = length line.model.features in
    let is : read c.as_slice.result.now ≡ along (typed_fields c.args.field.now) no_colors (chain line.classes c.args.class.now) =
    ap read c.as_slice.ensures.value ∙ c.in_ok-items.ensures ∙ ap (along (typed_fields c.args.field.now) no_colors) (c.chain.ensures ∙ ap (λ (t : Table). chain t c.args.class.now) c.requires.table) in
    subst (λ m. All (λ (x : Marked (Bor (List ℕ))). is_over m x.marks ≡ true) c.as_slice.result.now) (sym c.requires.features)
    (read_over n c.as_slice.result.now
    (subst (λ xs. All (λ (x : Marked (List ℕ)). is_over n x.marks ≡ true) xs) (sym is) (fields_along_over line c.model-features.ensures.kept c.args.class.now c.args.field.now)))

pub returns-clause-field : goal.returns-clause-field
returns-clause-field c =
    let line = c.args.project.now in
    let is : read c.as_slice.result.now ≡ along (typed_fields c.args.field.now) no_colors (chain line.classes c.args.class.now) =
    ap read c.as_slice.ensures.value ∙ c.in_ok-items.ensures ∙ ap (along (typed_fields c.args.field.now) no_colors) (c.chain.ensures ∙ ap (λ (t : Table). chain t c.args.class.now) c.requires.table) in
    IfOk-weaker c.firsts.result (λ found. IsOfFirst c.firsts.new.circuit c.args.within found.items c.as_slice.result.now) _
    (λ found of.
    fields_guarded line c.model-features.ensures.kept c.args.class.now c.args.field.now c.args.within c.firsts.new.circuit found.items c.as_slice.result.now is of)
    c.firsts.ensures.first
