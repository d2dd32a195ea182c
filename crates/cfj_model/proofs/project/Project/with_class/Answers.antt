use Rattle.std.proofs.Common.{map, slice_set, sym, ◌∙◌, ap, subst}
use Rattle.cfj_model.specs.ProductLines as spec
use Rattle.cfj_model.specs.ProductLines.{IsProject, ProductLine}
use Rattle.cfj_model.specs.declared.class.Class.{Class}
use Rattle.cfj_model.proofs.NameSets.{same_names, name_is}
use Rattle.cfj_model.proofs.project.Project.with_class.Goals as goal

pub names_with-requires-clause-same : goal.names_with-requires-clause-same
names_with-requires-clause-same c same =
    let name = name_is c.get.result.now.name c.args.class.name (sym c.eq-is_same_name.ensures ∙ same) in
    ap (λ ks. map (λ (k : Class). k.name) ks) c.in_ok-classes.ensures
    ∙ same_names c.self.inside.classes c.args.place c.get.result.now c.args.class c.get.ensures name
    ∙ ap (λ p. map (λ (k : Class). k.name) p.classes) c.self.view_is

pub invariant_of-result : goal.invariant_of-result
invariant_of-result c =
    let classes = c.in_ok-classes.ensures ∙ ap (λ p. slice_set p.classes c.args.place c.args.class) c.self.view_is in
    let model = c.in_ok-try_clone.ensures ∙ ap (λ p. p.model) c.self.view_is in
    let line = ap (λ m. record { model = m; classes = c.in_ok-classes.classes }) model ∙ ap (λ ks. record { model = c.args.self.now.model; classes = ks }) classes in
    (c.size_with-size.ensures ∙ ap spec.size (sym classes), c.in_ok-names.ensures, subst IsProject (sym line) c.requires.kept)

pub returns : goal.returns
returns c =
    let classes = c.in_ok-classes.ensures ∙ ap (λ p. slice_set p.classes c.args.place c.args.class) c.self.view_is in
    let model = c.in_ok-try_clone.ensures ∙ ap (λ p. p.model) c.self.view_is in
    ap (λ m. record { model = m; classes = c.in_ok-classes.classes }) model ∙ ap (λ ks. record { model = c.args.self.now.model; classes = ks }) classes
