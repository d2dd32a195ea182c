use Rattle.std.proofs.Common.{◌≡◌, ◌++◌, ◌∷◌, [], Option, Some, None, List, refl, sym, ◌∙◌, ap}
use Rattle.std.specs.Prelude.{option_to_list}
use Rattle.std.specs.List.{cons_option, filter_map}
use Rattle.std.proofs.lemmas.List.Elements.{filter_map-append}
use Rattle.plain_judge.specs.Concluding.{entry_of}
use Rattle.plain_judge.proofs.entries.entries_of.Goals as goal

alone : {Y : Type 0} (o : Option Y) → option_to_list o ≡ cons_option o []
alone (Some y) = refl
alone None = refl

-- what one question more gives stands behind what those before it gave
one_more : {X Y : Type 0} (h : X → Option Y) (xs : List X) (x : X) (before after : List Y) → before ≡ filter_map h xs → after ≡ before ++ option_to_list (h x) → after ≡ filter_map h (xs ++ x ∷ [])
one_more h xs x before after so_far added =
    added ∙ ap (λ ys. ys ++ option_to_list (h x)) so_far ∙ ap (λ ys. filter_map h xs ++ ys) (alone (h x)) ∙ sym (filter_map-append h xs (x ∷ []))

pub each-preserved : goal.each-preserved
each-preserved c = one_more (entry_of c.args.limited c.args.log.now) c.each.yielded c.in-Some.question c.each.entries.items c.add_entry.new.entries.items c.each.invariant c.in_ok-add_entry.ensures
