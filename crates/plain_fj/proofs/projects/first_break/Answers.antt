use Rattle.std.proofs.Common.{Bor, Some, None, option_map, sym, ◌∙◌, ap}
use Rattle.plain_fj.specs.Breaking.{told}
use Rattle.plain_fj.specs.declared.site_break.Break.{Break}
use Rattle.plain_fj.proofs.Broken.{first_is, typed_where_none}
use Rattle.plain_fj.proofs.projects.first_break.Goals as goal

pub returns-in-Some-clause-first : goal.returns-in-Some-clause-first
returns-in-Some-clause-first c =
    ap Some c.in_ok-pair-in-Some.ensures ∙ ap (option_map (λ (x : Bor Break). told x.now)) (sym c.in-Some.is)
    ∙ first_is c.args.project.now.classes c.in_ok-breaks.breaks.items c.as_slice.result.now c.first.result c.in_ok-breaks.ensures.found c.as_slice.ensures.value c.first.ensures.value

pub returns-in-Some-clause-typed : goal.returns-in-Some-clause-typed
returns-in-Some-clause-typed c =
    typed_where_none c.args.project.now c.in_ok-breaks.ensures.kept (Some c.in_ok-pair-in-Some.pair)
    (ap Some c.in_ok-pair-in-Some.ensures ∙ ap (option_map (λ (x : Bor Break). told x.now)) (sym c.in-Some.is)
    ∙ first_is c.args.project.now.classes c.in_ok-breaks.breaks.items c.as_slice.result.now c.first.result c.in_ok-breaks.ensures.found c.as_slice.ensures.value c.first.ensures.value)

pub returns-clause-first : goal.returns-clause-first
returns-clause-first c =
    ap (option_map (λ (x : Bor Break). told x.now)) (sym c.in-None.is)
    ∙ first_is c.args.project.now.classes c.in_ok-breaks.breaks.items c.as_slice.result.now c.first.result c.in_ok-breaks.ensures.found c.as_slice.ensures.value c.first.ensures.value

pub returns-clause-typed : goal.returns-clause-typed
returns-clause-typed c =
    typed_where_none c.args.project.now c.in_ok-breaks.ensures.kept None
    (ap (option_map (λ (x : Bor Break). told x.now)) (sym c.in-None.is)
    ∙ first_is c.args.project.now.classes c.in_ok-breaks.breaks.items c.as_slice.result.now c.first.result c.in_ok-breaks.ensures.found c.as_slice.ensures.value c.first.ensures.value)
