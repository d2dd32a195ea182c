use Rattle.std.proofs.Common.{◌≡◌, true, false, length, refl, sym, ◌∙◌, ap, arith}
use Rattle.cfj_model.specs.Typing.{param_types}
use Rattle.cfj_model.specs.declared.site.Rule.TheVariants.{E5}
use Rattle.plain_fj.specs.Found.{names}
use Rattle.plain_fj.proofs.ArgumentFits.{adds_read, lengths_differ, lengths_same, some_read}
use Rattle.plain_fj.proofs.JudgedCalls.{call_args_stop, call_differs, call_fits, call_misfits, call_no_method, call_stops}
use Rattle.plain_fj.proofs.calls.at_call.Goals as goal

pub returns-in-None : goal.returns-in-None
returns-in-None c = λ on before middle j js.
    call_stops c.args.body.now c.args.slot on c.args.method.now c.args.args.now c.args.receiver c.args.types before middle c.args.breaks.now.items j js c.in-None.is

pub returns-in-None-types : goal.returns-in-None-types
returns-in-None-types c = λ on before middle j js.
    call_args_stop c.args.body.now c.args.slot on c.args.method.now c.args.args.now c.args.receiver c.args.types before middle c.args.breaks.now.items j js
    c.in-Some.class c.in-Some.is c.in-None-types.is

pub returns-in-None-method_of : goal.returns-in-None-method_of
returns-in-None-method_of c = λ on before middle j js.
    call_no_method c.args.body.now c.args.slot on c.args.method.now c.args.args.now c.args.receiver c.args.types before middle c.args.breaks.now.items j js
    c.in-Some.class c.in-Some.is c.in-Some-types.types c.in-Some-types.is c.note_node.new.breaks.items (sym c.in-None-method_of.ensures) c.in_ok-note_node-in-None-method_of.ensures

pub returns-then-given-wanted : goal.returns-then-given-wanted
returns-then-given-wanted c = λ on before middle j js.
    let b = c.args.body.now in
    let ts = c.in-Some-types.types in
    let d = c.in-Some-method_of.called.now in
    let types = ap names c.as_slice-given.ensures.value in
    let wanted = ap names c.as_slice-wanted.ensures.value ∙ c.in_ok-wanted.ensures ∙ ap param_types c.slice.ensures in
    let differ : length c.as_slice-given.result.now ≡ length c.as_slice-wanted.result.now → ⊥ = λ e. absurd (omega (arith, e, c.if-given-wanted.true)) in
    call_differs b c.args.slot on c.args.method.now c.args.args.now c.args.receiver c.args.types before middle c.args.breaks.now.items j js
    c.in-Some.class c.in-Some.is ts c.in-Some-types.is d (sym c.in-Some-method_of.ensures) c.note_node-then-given-wanted.new.breaks.items
    (lengths_differ b c.as_slice-given.result.now c.as_slice-wanted.result.now (names ts.items) (param_types d.params) types wanted differ) c.in_ok-note_node.ensures

pub add_misfits-requires-clause-as_many : goal.add_misfits-requires-clause-as_many
add_misfits-requires-clause-as_many c = ap length c.as_slice-given.ensures.value ∙ c.requires c.in-Some-types.types c.in-Some-types.is

pub returns-then-branch : goal.returns-then-branch
returns-then-branch c = λ on before middle j js.
    let b = c.args.body.now in
    let ts = c.in-Some-types.types in
    let ws = param_types c.in-Some-method_of.called.now.params in
    let types = ap names c.as_slice-given.ensures.value in
    let wanted = ap names c.as_slice-wanted.ensures.value ∙ c.in_ok-wanted.ensures ∙ ap param_types c.slice.ensures in
    let same : length c.as_slice-given.result.now ≡ length c.as_slice-wanted.result.now = omega arith in
    call_misfits b c.args.slot on c.args.method.now c.args.args.now c.args.receiver c.args.types before middle c.args.breaks.now.items j js
    c.in-Some.class c.in-Some.is ts c.in-Some-types.is c.in-Some-method_of.called.now (sym c.in-Some-method_of.ensures) c.add_misfits.new.breaks.items
    (lengths_same b c.as_slice-given.result.now c.as_slice-wanted.result.now (names ts.items) ws types wanted same)
    (adds_read b c.as_slice-given.result.now c.as_slice-wanted.result.now (names ts.items) ws types wanted E5 c.args.args.now c.args.breaks.now.items c.add_misfits.new.breaks.items c.in_ok-add_misfits.ensures.added)
    (some_read b c.as_slice-given.result.now c.as_slice-wanted.result.now (names ts.items) ws types wanted c.in_ok-add_misfits.field-0 true c.in_ok-add_misfits.ensures.some c.if-branch.true)

pub returns : goal.returns
returns c = λ on before middle j js.
    let b = c.args.body.now in
    let ts = c.in-Some-types.types in
    let ws = param_types c.in-Some-method_of.called.now.params in
    let types = ap names c.as_slice-given.ensures.value in
    let wanted = ap names c.as_slice-wanted.ensures.value ∙ c.in_ok-wanted.ensures ∙ ap param_types c.slice.ensures in
    let same : length c.as_slice-given.result.now ≡ length c.as_slice-wanted.result.now = omega arith in
    call_fits b c.args.slot on c.args.method.now c.args.args.now c.args.receiver c.args.types before middle c.args.breaks.now.items j js
    c.in-Some.class c.in-Some.is ts c.in-Some-types.is c.in-Some-method_of.called.now (sym c.in-Some-method_of.ensures) c.add_misfits.new.breaks.items
    (lengths_same b c.as_slice-given.result.now c.as_slice-wanted.result.now (names ts.items) ws types wanted same)
    (adds_read b c.as_slice-given.result.now c.as_slice-wanted.result.now (names ts.items) ws types wanted E5 c.args.args.now c.args.breaks.now.items c.add_misfits.new.breaks.items c.in_ok-add_misfits.ensures.added)
    _ refl
    (some_read b c.as_slice-given.result.now c.as_slice-wanted.result.now (names ts.items) ws types wanted c.in_ok-add_misfits.field-0 false c.in_ok-add_misfits.ensures.some c.if-branch.false)
