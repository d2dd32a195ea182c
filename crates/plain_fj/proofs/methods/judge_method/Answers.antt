use Rattle.std.proofs.Common.{not, [], ◌∷◌, ◌++◌, map, ◌∙◌, ap}
use Rattle.std.specs.List.{flat_map}
use Rattle.std.specs.Option.{option_copied}
use Rattle.cfj_model.specs.Judging.{environment_of, is_no_result, is_overridden_wrongly, judged_at, judged_expr}
use Rattle.cfj_model.specs.LookUps.{ancestors, first_some, is_known, method_called}
use Rattle.cfj_model.specs.Members.{is_again, method_name_of}
use Rattle.cfj_model.specs.declared.site.Rule.TheVariants.{K1, K7, K8, K9}
use Rattle.cfj_model.specs.declared.site.Site.TheVariants as site
use Rattle.plain_fj.specs.Alternatives.{behind}
use Rattle.plain_fj.specs.Breaking.{at_slots, broken_nodes, judged_param, slot_rule}
use Rattle.plain_fj.specs.Found.{judged_break}
use Rattle.plain_fj.proofs.AddedNodes.{body_broken}
use Rattle.plain_fj.proofs.Broken.{adds_then, body_adds, body_type, four_noted, noted, then_added_as}
use Rattle.plain_fj.proofs.methods.judge_method.Goals as goal

pub returns : goal.returns
returns c =
    let p = c.args.table.now in
    let k = c.args.class.now in
    let m = c.args.method.now in
    let s = site.Method k.name m.name m.alt in
    let body = judged_expr p (environment_of k m) m.body in
    let known = is_known p m.result in
    let wrongly = is_overridden_wrongly m (first_some (method_called m.name) (ancestors p k.name)) in
    let misses = is_no_result p m body.type in
    let again = is_again method_name_of (behind c.args.before.now m) in
    let own = judged_at s ((K1, not known) ∷ ((K7, wrongly) ∷ ((K8, misses) ∷ ((K9, again) ∷ [])))) in
    let params = flat_map (judged_param p k m) m.params in
    let before = c.args.breaks.now.items in
    let one = c.note.new.breaks.items in
    let two = c.note-2.new.breaks.items in
    let three = c.note-3.new.breaks.items in
    let four = c.note-4.new.breaks.items in
    let five = c.judge_params.new.breaks.items in
    let named = c.slice.ensures in
    let type = body_type p k m c.slice.result.now named (option_copied c.in_ok-of.of) c.in_ok-of.ensures.typed in
    let within = c.as_slice.result.now in
    let adds = body_adds p k m c.slice.result.now named c.new-within.result.items c.judge.new.breaks.items c.in_ok-of.ensures.adds in
    let broken = ap (map slot_rule) c.as_slice.ensures.value ∙ adds ∙ ap (λ xs. map slot_rule xs ++ broken_nodes (body.rules [])) c.new-within.ensures.items in
    then_added_as before five c.add_nodes.new.breaks.items (own ++ params) (flat_map (judged_break k m) within) (at_slots (λ n. site.Node k.name m.name m.alt n) (body.rules [])) c.add_nodes.result
    (body_broken k m within (body.rules []) broken)
    (adds_then before four five own params
    (four_noted s (K1, not known) (K7, wrongly) (K8, misses) (K9, again) before one two three four
    (noted s K1 (not c.is_known.result) (not known) before one (ap not c.is_known.ensures) c.in_ok-note.ensures)
    (noted s K7 c.in_ok-wrongly.wrongly wrongly one two (c.in_ok-wrongly.ensures ∙ ap (λ ks. is_overridden_wrongly m (first_some (method_called m.name) ks)) c.requires.above) c.in_ok-note-2.ensures)
    (noted s K8 c.misses_result.result misses two three (c.misses_result.ensures ∙ ap (is_no_result p m) type) c.in_ok-note-3.ensures)
    (noted s K9 c.is_method_again.result again three four c.is_method_again.ensures c.in_ok-note-4.ensures))
    c.in_ok-judge_params.ensures)
    c.add_nodes.ensures
