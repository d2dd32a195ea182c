use Rattle.std.proofs.Common.{◌≡◌, rules, tests, ◌∙◌}
use Rattle.std.proofs.lemmas.Iterator.{YieldsList-from_slice}
use Rattle.std.proofs.lemmas.Iterator.Search.{any_from_yields_List}
use Rattle.std.specs.List.{list_any}
use Rattle.std.specs.Str.{bytes_eq}
use Rattle.cfj_model.specs.Members.{field_name_of}
use Rattle.cfj_model.specs.declared.class.Field.{Field}
use Rattle.plain_fj.proofs.Alternatives.{any_named}
use Rattle.plain_fj.proofs.fields.is_field_again.Goals as goal

pub returns-then-field-ne0 : goal.returns-then-field-ne0
returns-then-field-ne0 c =
    let among : c.any.result ≡ list_any (λ (m : Field). bytes_eq m.name c.args.field.now.name) c.args.before.now =
    any_from_yields_List (λ (m : Field). bytes_eq m.name c.args.field.now.name) _ _ c.any.result c.any.ensures.ran (YieldsList-from_slice _ c.iter.ensures.rest) (λ x b q k. search (rules, tests)) in
    among ∙ any_named field_name_of c.args.before.now c.args.field.now.name
