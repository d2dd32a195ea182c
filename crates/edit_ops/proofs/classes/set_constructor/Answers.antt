use Rattle.std.proofs.Common.{◌≡◌, ◌⊎◌, Err, OnOk, Some, None, slice_set, nat_le, sym, ◌∙◌, ap, subst}
use Rattle.std.proofs.lemmas.Result.{IfOk-weaker}
use Rattle.cfj_model.specs.ProductLines.{IsProject, ProductLine, most_size, size}
use Rattle.cfj_model.specs.declared.class.Class.{Class}
use Rattle.edit_ops.specs.Changes.{ctor_set, size_refused}
use Rattle.edit_ops.specs.declared.refused.EditRefused.{EditRefused}
use Rattle.edit_ops.specs.declared.refused.EditRefused.TheVariants.{NoMemory}
use Rattle.edit_ops.proofs.Changing.{changed_at, ctor_stays}
use Rattle.edit_ops.proofs.classes.set_constructor.Goals as goal

pub with_fitting-requires-clause-kept : goal.with_fitting-requires-clause-kept
with_fitting-requires-clause-kept c = λ fits.
    let line = c.args.project.now in
    let set = changed_at c.args.class.now (λ k. record k { ctor = c.args.ctor }) line c.place_of-place.result c.class.result.now c.place_of-place.ensures.kept c.place_of-place.ensures.place c.class.ensures in
    let new = c.with_ctor-changed.ensures ∙ ap (λ (k : Class). record k { ctor = c.args.ctor }) c.in_ok-copy.ensures in
    let line_is = set ∙ ap (λ k. record line { classes = slice_set line.classes c.place_of-place.result k }) (sym new) in
    subst IsProject line_is
    (ctor_stays c.args.class.now c.args.ctor line c.place_of-place.ensures.kept c.requires.kept (ap (λ (p : ProductLine). nat_le (size p.classes) most_size) line_is ∙ fits))

pub returns-clause-set : goal.returns-clause-set
returns-clause-set c =
    let line = c.args.project.now in
    let set = changed_at c.args.class.now (λ k. record k { ctor = c.args.ctor }) line c.place_of-place.result c.class.result.now c.place_of-place.ensures.kept c.place_of-place.ensures.place c.class.ensures in
    let new = c.with_ctor-changed.ensures ∙ ap (λ (k : Class). record k { ctor = c.args.ctor }) c.in_ok-copy.ensures in
    IfOk-weaker c.with_fitting.result (λ p. p ≡ record line { classes = slice_set line.classes c.place_of-place.result c.with_ctor-changed.result })
    (λ p. p ≡ ctor_set c.args.class.now c.args.ctor line)
    (λ p same. same ∙ ap (λ k. record line { classes = slice_set line.classes c.place_of-place.result k }) new ∙ sym set) c.with_fitting.ensures.set

pub returns-clause-fine : goal.returns-clause-fine
returns-clause-fine c =
    let line = c.args.project.now in
    let set = changed_at c.args.class.now (λ k. record k { ctor = c.args.ctor }) line c.place_of-place.result c.class.result.now c.place_of-place.ensures.kept c.place_of-place.ensures.place c.class.ensures in
    let new = c.with_ctor-changed.ensures ∙ ap (λ (k : Class). record k { ctor = c.args.ctor }) c.in_ok-copy.ensures in
    let line_is = set ∙ ap (λ k. record line { classes = slice_set line.classes c.place_of-place.result k }) (sym new) in
    subst (λ o. OnOk c.with_fitting.result (o ≡ None)) (sym (ap size_refused line_is)) c.with_fitting.ensures.fine

pub returns-clause-refused : goal.returns-clause-refused
returns-clause-refused c =
    let line = c.args.project.now in
    let set = changed_at c.args.class.now (λ k. record k { ctor = c.args.ctor }) line c.place_of-place.result c.class.result.now c.place_of-place.ensures.kept c.place_of-place.ensures.place c.class.ensures in
    let new = c.with_ctor-changed.ensures ∙ ap (λ (k : Class). record k { ctor = c.args.ctor }) c.in_ok-copy.ensures in
    let line_is = set ∙ ap (λ k. record line { classes = slice_set line.classes c.place_of-place.result k }) (sym new) in
    subst (λ o. (why : EditRefused) → c.with_fitting.result ≡ Err why → (why ≡ NoMemory) ⊎ (o ≡ Some why)) (sym (ap size_refused line_is)) c.with_fitting.ensures.refused
