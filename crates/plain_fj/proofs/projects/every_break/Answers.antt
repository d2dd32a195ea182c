use Rattle.std.proofs.Common.{◌≡◌, map, ◌∙◌, ap}
use Rattle.plain_fj.specs.Breaking.{breaking, told}
use Rattle.plain_fj.proofs.Broken.{has_broken}
use Rattle.plain_fj.proofs.projects.every_break.Goals as goal

pub returns-clause-each : goal.returns-clause-each
returns-clause-each c =
    let all : c.in_ok-pairs.pairs.items ≡ breaking c.args.project.now.classes =
    c.in_ok-pairs.ensures ∙ ap (map told) c.as_slice.ensures.value ∙ c.in_ok-breaks.ensures.found in
    has_broken c.args.project.now.classes c.in_ok-pairs.pairs.items all
