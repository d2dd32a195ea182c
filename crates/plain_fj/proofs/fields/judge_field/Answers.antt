use Rattle.std.proofs.Common.{not, is_some, [], ◌∷◌, ◌∙◌, ap}
use Rattle.std.specs.List.{list_any}
use Rattle.cfj_model.specs.Judging.{judged_at}
use Rattle.cfj_model.specs.LookUps.{ancestors, field_called, is_known}
use Rattle.cfj_model.specs.Members.{field_name_of, is_again}
use Rattle.cfj_model.specs.declared.site.Rule.TheVariants.{K1, K3, K9}
use Rattle.cfj_model.specs.declared.site.Site.TheVariants as site
use Rattle.plain_fj.specs.Alternatives.{behind}
use Rattle.plain_fj.proofs.Broken.{adds_then, field_hidden, noted, noted_where, then_added}
use Rattle.plain_fj.proofs.fields.judge_field.Goals as goal

pub returns : goal.returns
returns c =
    let p = c.args.table.now in
    let k = c.args.class.now in
    let f = c.args.field.now in
    let s = site.Field k.name f.name f.alt in
    let unknown = not (is_known p f.of) in
    let hides = list_any (λ a. is_some (field_called f.name a)) (ancestors p k.name) in
    let again = is_again field_name_of (behind c.args.before.now f) in
    let before = c.args.breaks.now.items in
    let one = c.note.new.breaks.items in
    let two = c.note-2.new.breaks.items in
    let three = c.note-3.new.breaks.items in
    then_added before two three (judged_at s ((K1, unknown) ∷ ((K3, hides) ∷ []))) (judged_at s ((K9, again) ∷ [])) c.note-3.result
    (adds_then before one two (judged_at s ((K1, unknown) ∷ [])) (judged_at s ((K3, hides) ∷ []))
    (noted s K1 (not c.is_known.result) unknown before one (ap not c.is_known.ensures) c.in_ok-note.ensures)
    (noted s K3 c.is_some.result hides one two
    (c.is_some.ensures ∙ field_hidden p k.name f.name c.args.ancestors.now c.nearest_field-hidden.result c.requires.above c.nearest_field-hidden.ensures) c.in_ok-note-2.ensures))
    (noted_where s K9 c.is_field_again.result again two three c.note-3.result c.is_field_again.ensures c.note-3.ensures)
