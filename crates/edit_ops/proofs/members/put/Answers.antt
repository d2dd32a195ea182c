use Rattle.std.proofs.Common.{slice_set, sym, ◌∙◌, ap}
use Rattle.std.proofs.lemmas.List.{set_past}
use Rattle.std.specs.List.{position_or_len}
use Rattle.edit_ops.specs.Members.{is_member}
use Rattle.edit_ops.proofs.Places.{first_place, no_place}
use Rattle.edit_ops.proofs.members.put.Goals as goal

pub returns-in-Some : goal.returns-in-Some
returns-in-Some g c =
    let test = is_member g.M.Numbered.kind c.args.name.now c.args.alt in
    let xs = c.args.members.now in
    ap (λ p. slice_set xs p c.args.member) (sym (first_place test xs c.in-Some.place (sym c.place_of.ensures ∙ c.in-Some.is)))

pub returns-in-None : goal.returns-in-None
returns-in-None g c =
    let test = is_member g.M.Numbered.kind c.args.name.now c.args.alt in
    let xs = c.args.members.now in
    sym (set_past xs (position_or_len test xs) c.args.member (no_place test xs (sym c.place_of.ensures ∙ c.in-None.is)))
