use Rattle.std.proofs.Common.{not, [], ◌∷◌, ◌++◌, ◌∙◌, ap}
use Rattle.std.specs.List.{flat_map, list_any}
use Rattle.std.specs.Str.{bytes_eq}
use Rattle.cfj_model.specs.Judging.{extends_itself, judged_at, judged_ctor, judged_field, judged_method}
use Rattle.cfj_model.specs.LookUps.{is_known}
use Rattle.cfj_model.specs.Members.{placed}
use Rattle.cfj_model.specs.declared.class.Class.{Class}
use Rattle.cfj_model.specs.declared.site.Rule.TheVariants.{K1, K2}
use Rattle.cfj_model.specs.declared.site.Site.TheVariants as site
use Rattle.class_table.proofs.Nearest.{any_seen}
use Rattle.plain_fj.proofs.Broken.{adds_then, noted, then_added}
use Rattle.plain_fj.proofs.classes.judge_class.Goals as goal

pub judge_fields-requires-clause-alts : goal.judge_fields-requires-clause-alts
judge_fields-requires-clause-alts c = c.requires.fields

pub judge_methods-requires-clause-alts : goal.judge_methods-requires-clause-alts
judge_methods-requires-clause-alts c = c.requires.methods

pub returns : goal.returns
returns c =
    let p = c.args.table.now in
    let k = c.args.class.now in
    let s = site.Class k.name in
    let known = is_known p k.parent in
    let extends = extends_itself p k in
    let fields = flat_map (judged_field p k) (placed k.fields) in
    let methods = flat_map (judged_method p k) (placed k.methods) in
    let before = c.args.breaks.now.items in
    let one = c.note.new.breaks.items in
    let two = c.note-2.new.breaks.items in
    let three = c.judge_fields.new.breaks.items in
    let four = c.judge_ctor.new.breaks.items in
    let last = c.judge_methods.new.breaks.items in
    let r = c.judge_methods.result in
    let names_itself = λ (a : Class). bytes_eq a.parent k.name in
    then_added before two last (judged_at s ((K1, not known) ∷ ((K2, extends) ∷ []))) (fields ++ (judged_ctor p k ++ methods)) r
    (adds_then before one two (judged_at s ((K1, not known) ∷ [])) (judged_at s ((K2, extends) ∷ []))
    (noted s K1 (not c.is_known.result) (not known) before one (ap not c.is_known.ensures) c.in_ok-note.ensures)
    (noted s K2 c.is_extended.result extends one two
    (c.is_extended.ensures ∙ any_seen names_itself c.chain-chain.result.now ∙ ap (list_any names_itself) c.chain-chain.ensures) c.in_ok-note-2.ensures))
    (then_added two three last fields (judged_ctor p k ++ methods) r c.in_ok-judge_fields.ensures
    (then_added three four last (judged_ctor p k) methods r c.in_ok-judge_ctor.ensures c.judge_methods.ensures))
