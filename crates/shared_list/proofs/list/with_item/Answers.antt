use Rattle.std.proofs.Common.{◌≡◌, ◌/◌, ◌%◌, ap, ◌∙◌, slice_set}
use Rattle.std.proofs.lemmas.Result.{IfOk-weaker}
use Rattle.shared_list.specs.Stretches.{are_full, joined}
use Rattle.shared_list.proofs.Stretches.{set_in_stretch, full_in_stretch}
use Rattle.shared_list.proofs.list.with_item.Given.{Over}
use Rattle.shared_list.proofs.list.with_item.Goals as goal

-- the stretch that is put in place
changed_is : (g : Over) (c : goal.After-replaced-2 g) → c.in_ok-changed-2.changed ≡ slice_set c.index-full-stretch.result (c.args.place % 32) c.args.item
changed_is g c = c.in_ok-changed-2.ensures ∙ c.of.ensures ∙ c.in_ok-changed.ensures ∙ ap (λ xs. slice_set xs (c.args.place % 32) c.args.item) (c.slice.ensures ∙ c.get.ensures)

pub returns-clause-items : goal.returns-clause-items
returns-clause-items g c =
    IfOk-weaker c.replaced-2.result _ _
    (λ copies is. ap joined (is ∙ ap (slice_set c.args.full.now (c.args.place / 32)) (changed_is g c))
    ∙ set_in_stretch c.args.full.now c.args.place c.index-full-stretch.result c.args.item c.requires.full c.requires.within c.index-full-stretch.is)
    c.replaced-2.ensures

pub returns-clause-full : goal.returns-clause-full
returns-clause-full g c =
    IfOk-weaker c.replaced-2.result _ _
    (λ copies is. ap are_full (is ∙ ap (slice_set c.args.full.now (c.args.place / 32)) (changed_is g c))
    ∙ full_in_stretch c.args.full.now c.args.place c.index-full-stretch.result c.args.item c.requires.full c.requires.within c.index-full-stretch.is)
    c.replaced-2.ensures
