use Rattle.std.proofs.Common.{not, map, [], ◌∷◌, ◌∙◌, ap}
use Rattle.std.specs.List.{flat_map}
use Rattle.cfj_model.specs.Judging.{are_same, judged_at, takes_fields}
use Rattle.cfj_model.specs.LookUps.{all_fields, fields_of}
use Rattle.cfj_model.specs.declared.class.Field.{Field}
use Rattle.cfj_model.specs.declared.class.Sent.{Sent}
use Rattle.cfj_model.specs.declared.site.Rule.TheVariants.{K4, K5, K6}
use Rattle.cfj_model.specs.declared.site.Site.TheVariants as site
use Rattle.plain_fj.specs.Breaking.{judged_ctor_param}
use Rattle.plain_fj.proofs.Broken.{noted, then_added, three_noted}
use Rattle.plain_fj.proofs.ctors.judge_ctor.Goals as goal

pub returns : goal.returns
returns c =
    let p = c.args.table.now in
    let k = c.args.class.now in
    let s = site.Ctor k.name in
    let takes = takes_fields k.ctor.params (all_fields p k.name) in
    let sends = are_same (map (λ (s : Sent). s.name) k.ctor.sends) (map (λ (f : Field). f.name) (all_fields p k.parent)) in
    let assigns = are_same (map (λ (a : Sent). a.name) k.ctor.assigns) (map (λ (f : Field). f.name) k.fields) in
    let before = c.args.breaks.now.items in
    let one = c.note.new.breaks.items in
    let two = c.note-2.new.breaks.items in
    let three = c.note-3.new.breaks.items in
    then_added before three c.judge_ctor_params.new.breaks.items (judged_at s ((K4, not takes) ∷ ((K5, not sends) ∷ ((K6, not assigns) ∷ [])))) (flat_map (judged_ctor_param p k) k.ctor.params)
    c.judge_ctor_params.result
    (three_noted s (K4, not takes) (K5, not sends) (K6, not assigns) before one two three
    (noted s K4 (not c.in_ok-takes.takes) (not takes) before one (ap not (c.in_ok-takes.ensures ∙ ap (λ ks. takes_fields k.ctor.params (fields_of ks)) c.chain.ensures)) c.in_ok-note.ensures)
    (noted s K5 (not c.in_ok-sends.sends) (not sends) one two
    (ap not (c.in_ok-sends.ensures ∙ ap (λ ks. are_same (map (λ (s : Sent). s.name) k.ctor.sends) (map (λ (f : Field). f.name) (fields_of ks))) c.chain-2.ensures)) c.in_ok-note-2.ensures)
    (noted s K6 (not c.in_ok-assigns.assigns) (not assigns) two three (ap not c.in_ok-assigns.ensures) c.in_ok-note-3.ensures))
    c.judge_ctor_params.ensures
