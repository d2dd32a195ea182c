use Rattle.std.proofs.Common.{◌≡◌, rules, tests, ◌∙◌}
use Rattle.std.proofs.lemmas.Iterator.{YieldsList-from_slice}
use Rattle.std.proofs.lemmas.Iterator.Search.{any_from_yields_List}
use Rattle.std.specs.List.{list_any}
use Rattle.std.specs.Str.{bytes_eq}
use Rattle.cfj_model.specs.Members.{method_name_of}
use Rattle.cfj_model.specs.declared.class.Method.{Method}
use Rattle.plain_fj.proofs.Alternatives.{any_named}
use Rattle.plain_fj.proofs.methods.is_method_again.Goals as goal

pub returns-then-method-ne0 : goal.returns-then-method-ne0
returns-then-method-ne0 c =
    let among : c.any.result ≡ list_any (λ (m : Method). bytes_eq m.name c.args.method.now.name) c.args.before.now =
    any_from_yields_List (λ (m : Method). bytes_eq m.name c.args.method.now.name) _ _ c.any.result c.any.ensures.ran (YieldsList-from_slice _ c.iter.ensures.rest) (λ x b q k. search (rules, tests)) in
    among ∙ any_named method_name_of c.args.before.now c.args.method.now.name
