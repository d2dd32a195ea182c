use Rattle.std.proofs.Common.{◌∙◌, ap, sym, length, slice_get, arith}
use Rattle.cfj_words.specs.Names.{is_among}
use Rattle.cfj_logic.specs.Selections.{Chosen}
use Rattle.feature_model.proofs.Spelling.{spelled_nothing, no_feature, feature_within, named_twice, spelled_more}
use Rattle.feature_model.proofs.names.read_selection.Goals as goal

pub names-init : goal.names-init
names-init c =
    spelled_nothing c.args.model.now.features c.none-selection.result
    (c.none-selection.ensures ∙ ap (λ fs. (let s : Chosen = record { features = length fs; on = 0 } in s)) c.slice-features.ensures)

pub returns-in-None-clause-fault : goal.returns-in-None-clause-fault
returns-in-None-clause-fault c =
    no_feature c.args.model.now.features c.args.names.now c.names.index _ c.names.selection c.names.invariant (omega arith) c.index-names-index.is
    (ap (λ fs. is_among fs c.index-names-index.result) (sym c.slice-features.ensures) ∙ c.in-None.ensures.none)

pub has-requires : goal.has-requires
has-requires c =
    feature_within c.args.model.now.features c.args.names.now c.names.index _ c.names.selection c.names.invariant (omega arith) c.index-names-index.is
    c.in-Some.feature
    (ap (λ fs. slice_get fs c.in-Some.feature) (sym c.slice-features.ensures) ∙ c.in-Some.ensures.found)

pub returns-then-has-clause-fault : goal.returns-then-has-clause-fault
returns-then-has-clause-fault c =
    named_twice c.args.model.now.features c.args.names.now c.names.index _ c.names.selection c.names.invariant (omega arith) c.index-names-index.is
    c.in-Some.feature
    (ap (λ fs. slice_get fs c.in-Some.feature) (sym c.slice-features.ensures) ∙ c.in-Some.ensures.found)
    (sym c.has.ensures.selected ∙ c.if-has.true)

pub with-selection-requires : goal.with-selection-requires
with-selection-requires c =
    feature_within c.args.model.now.features c.args.names.now c.names.index _ c.names.selection c.names.invariant (omega arith) c.index-names-index.is
    c.in-Some.feature
    (ap (λ fs. slice_get fs c.in-Some.feature) (sym c.slice-features.ensures) ∙ c.in-Some.ensures.found)

pub names-preserved : goal.names-preserved
names-preserved c =
    spelled_more c.args.model.now.features c.args.names.now c.names.index _ c.names.selection c.names.invariant (omega arith) c.index-names-index.is
    c.in-Some.feature
    (ap (λ fs. slice_get fs c.in-Some.feature) (sym c.slice-features.ensures) ∙ c.in-Some.ensures.found)
    c.requires.distinct
    (sym c.has.ensures.selected ∙ c.if-has.false) _ c.with-selection.ensures
