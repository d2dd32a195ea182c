use Rattle.std.proofs.Common.{◌≡◌, true, false, length, refl, sym, ◌∙◌, ap, arith}
use Rattle.cfj_model.specs.LookUps.{all_fields, fields_of}
use Rattle.cfj_model.specs.declared.site.Rule.TheVariants.{E7}
use Rattle.plain_fj.specs.Found.{names}
use Rattle.plain_fj.proofs.ArgumentFits.{adds_read, lengths_differ, lengths_same, some_read}
use Rattle.plain_fj.proofs.JudgedNews.{new_args_stop, new_differs, new_fits, new_misfits, new_unknown}
use Rattle.plain_fj.proofs.TypeLists.{own_types}
use Rattle.plain_fj.proofs.news.at_new.Goals as goal

pub returns-in-None : goal.returns-in-None
returns-in-None c = λ before middle named js.
    new_args_stop c.args.body.now c.args.slot c.args.class.now c.args.args.now c.args.types before middle c.args.breaks.now.items named js c.in-None.is

pub returns-then-not-is_known : goal.returns-then-not-is_known
returns-then-not-is_known c = λ before middle named js.
    new_unknown c.args.body.now c.args.slot c.args.class.now c.args.args.now c.args.types before middle c.args.breaks.now.items named js
    c.in-Some.types c.in-Some.is (sym c.is_known.ensures ∙ c.if-not-is_known.true)

pub returns-then-given-wanted : goal.returns-then-given-wanted
returns-then-given-wanted c = λ before middle named js.
    let b = c.args.body.now in
    let ts = c.in-Some.types in
    let ws = own_types (all_fields b.table.now c.args.class.now) in
    let types = ap names c.as_slice-given.ensures.value in
    let wanted = ap names c.as_slice-wanted.ensures.value ∙ c.in_ok-wanted.ensures ∙ ap (λ ks. own_types (fields_of ks)) c.chain.ensures in
    let differ : length c.as_slice-given.result.now ≡ length c.as_slice-wanted.result.now → ⊥ = λ e. absurd (omega (arith, e, c.if-given-wanted.true)) in
    new_differs b c.args.slot c.args.class.now c.args.args.now c.args.types before middle c.args.breaks.now.items named js
    ts c.in-Some.is (sym c.is_known.ensures ∙ c.if-not-is_known.false) c.note_node.new.breaks.items
    (lengths_differ b c.as_slice-given.result.now c.as_slice-wanted.result.now (names ts.items) ws types wanted differ) c.in_ok-note_node.ensures

pub add_misfits-requires-clause-as_many : goal.add_misfits-requires-clause-as_many
add_misfits-requires-clause-as_many c = ap length c.as_slice-given.ensures.value ∙ c.requires c.in-Some.types c.in-Some.is

pub returns-then-branch : goal.returns-then-branch
returns-then-branch c = λ before middle named js.
    let b = c.args.body.now in
    let ts = c.in-Some.types in
    let ws = own_types (all_fields b.table.now c.args.class.now) in
    let types = ap names c.as_slice-given.ensures.value in
    let wanted = ap names c.as_slice-wanted.ensures.value ∙ c.in_ok-wanted.ensures ∙ ap (λ ks. own_types (fields_of ks)) c.chain.ensures in
    let same : length c.as_slice-given.result.now ≡ length c.as_slice-wanted.result.now = omega arith in
    new_misfits b c.args.slot c.args.class.now c.args.args.now c.args.types before middle c.args.breaks.now.items named js
    ts c.in-Some.is (sym c.is_known.ensures ∙ c.if-not-is_known.false) c.add_misfits.new.breaks.items
    (lengths_same b c.as_slice-given.result.now c.as_slice-wanted.result.now (names ts.items) ws types wanted same)
    (adds_read b c.as_slice-given.result.now c.as_slice-wanted.result.now (names ts.items) ws types wanted E7 c.args.args.now c.args.breaks.now.items c.add_misfits.new.breaks.items c.in_ok-add_misfits.ensures.added)
    (some_read b c.as_slice-given.result.now c.as_slice-wanted.result.now (names ts.items) ws types wanted c.in_ok-add_misfits.field-0 true c.in_ok-add_misfits.ensures.some c.if-branch.true)

pub returns : goal.returns
returns c = λ before middle named js.
    let b = c.args.body.now in
    let ts = c.in-Some.types in
    let ws = own_types (all_fields b.table.now c.args.class.now) in
    let types = ap names c.as_slice-given.ensures.value in
    let wanted = ap names c.as_slice-wanted.ensures.value ∙ c.in_ok-wanted.ensures ∙ ap (λ ks. own_types (fields_of ks)) c.chain.ensures in
    let same : length c.as_slice-given.result.now ≡ length c.as_slice-wanted.result.now = omega arith in
    new_fits b c.args.slot c.args.class.now c.args.args.now c.args.types before middle c.args.breaks.now.items named js
    ts c.in-Some.is (sym c.is_known.ensures ∙ c.if-not-is_known.false) c.add_misfits.new.breaks.items
    (lengths_same b c.as_slice-given.result.now c.as_slice-wanted.result.now (names ts.items) ws types wanted same)
    (adds_read b c.as_slice-given.result.now c.as_slice-wanted.result.now (names ts.items) ws types wanted E7 c.args.args.now c.args.breaks.now.items c.add_misfits.new.breaks.items c.in_ok-add_misfits.ensures.added)
    c.args.class refl
    (some_read b c.as_slice-given.result.now c.as_slice-wanted.result.now (names ts.items) ws types wanted c.in_ok-add_misfits.field-0 false c.in_ok-add_misfits.ensures.some c.if-branch.false)
