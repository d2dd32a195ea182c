use Rattle.std.proofs.Common.{position, ap, ◌∙◌}
use Rattle.std.specs.Str.{bytes_eq}
use Rattle.cfj_model.specs.declared.class.Class.{Class}
use Rattle.cfj_model.proofs.NameSets.{place_of_name}
use Rattle.cfj_model.proofs.project.Project.find.Goals as goal

pub returns : goal.returns
returns c =
    let names = c.deref.ensures ∙ c.self.invariant.1 in
    c.place.ensures
    ∙ ap (position (bytes_eq c.args.name.now)) names
    ∙ place_of_name c.args.name.now c.self.inside.classes
    ∙ ap (λ p. position (λ (k : Class). bytes_eq k.name c.args.name.now) p.classes) c.self.view_is
