use Rattle.std.proofs.Common.{Some, cond, option_map, sym, ◌∙◌, ap}
use Rattle.std.specs.Str.{bytes_eq}
use Rattle.cfj_model.specs.Judging.{param_type}
use Rattle.cfj_model.specs.Typing.{this}
use Rattle.cfj_model.specs.declared.class.Param.{Param}
use Rattle.plain_fj.specs.Found.{types_in}
use Rattle.plain_fj.proofs.body.Scope.type_of.Goals as goal

pub returns-in-Some : goal.returns-in-Some
returns-in-Some c =
    let x = c.args.name.now in
    let other = ap (λ n. bytes_eq n this) (sym c.text.ensures.value) ∙ sym c.eq.ensures ∙ c.if-eq.false in
    sym (ap (λ s. types_in s x) c.in-Of.is ∙ ap (λ b. cond b (Some c.in-Of.class.now) (param_type c.in-Of.params.now x)) other ∙ ap (option_map (λ (q : Param). q.of)) (sym c.in-Some.ensures))
