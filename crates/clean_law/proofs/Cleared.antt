-- Where a checked product line has no entry, nothing breaks in the variant of a valid selection.
use Rattle.std.proofs.Common.{◌≡◌, ℕ, ◌⊎◌, inl, inr, Bool, true, List, [], None, option_map, ap, subst}
use Rattle.std.proofs.lemmas.Bool.{false_from_ne_true}
use Rattle.cfj_model.specs.Judging.{Breaks, RuleAt, Pair, first_breaking, judged, pair_of, pairs_of}
use Rattle.cfj_model.specs.LookUps.{Table}
use Rattle.cfj_model.specs.ProductLines.{IsProject, ProductLine}
use Rattle.cfj_model.specs.Projection.{projected}
use Rattle.cfj_logic.specs.Selections.{Chosen}
use Rattle.cfj_model.specs.Typing.{IsWellTyped}
use Rattle.cfj_words.specs.Lists.{Has}
use Rattle.unit_facts.specs.Diagnostics.{AreExact, BreaksIn, IsChecked, IsNever, IsValidFor}
use Rattle.unit_facts.specs.declared.entry.Verdict.{Verdict}
use Rattle.feature_views.proofs.Variants.{variant_is_project}
use Rattle.plain_fj.proofs.Law.{well_typed_project}
use Rattle.class_table.proofs.Members.{has_cases, has_map, has_none, none_find}
use Rattle.clean_law.proofs.VariantPairs.{variant_among}

-- a pair without an entry breaks under no valid selection
never_among : (line : ProductLine) (budget : ℕ) (ps : List Pair) → AreExact line budget ps [] → (p : Pair) → Has ps p → IsNever line (BreaksIn line p)
never_among line budget _ AreExact.all_told p h = absurd (has_none p h)
never_among line budget _ (AreExact.unbroken q ps _ none rest) p h = go (has_cases q ps p h) (never_among line budget ps rest p)
  where
    go : (q ≡ p) ⊎ Has ps p → (Has ps p → IsNever line (BreaksIn line p)) → IsNever line (BreaksIn line p)
    go (inl same) later = subst (λ r. IsNever line (BreaksIn line r)) same none
    go (inr here) later = later here

-- where nothing that is judged breaks, no pair is the first that does
quiet : (table : Table) → ((j : RuleAt) → Has (judged table) j → Breaks table j.site j.rule → ⊥) → first_breaking table ≡ None
quiet table never = ap (option_map pair_of) (none_find (λ (j : RuleAt). j.breaks) (judged table) (λ j h. false_from_ne_true j.breaks (breaks j h)))
  where
    breaks : (j : RuleAt) → Has (judged table) j → j.breaks ≡ true → ⊥
    breaks j h so = never j h (subst (λ (b : Bool). Has (judged table) (record { site = j.site; rule = j.rule; breaks = b })) so h)

-- the variant of a valid selection is well typed
pub cleared : (line : ProductLine) → IsProject line → (budget : ℕ) (v : Verdict) → IsChecked line budget v [] → (s : Chosen) → IsValidFor line s → IsWellTyped (projected s line).classes
cleared line project budget v checked s valid =
    (well_typed_project (projected s line) (variant_is_project s line project)).1
    (quiet (projected s line).classes (λ j h breaks.
    never_among line budget (pairs_of line.classes) checked.entries (pair_of j) (variant_among s line (pair_of j) (has_map pair_of (judged (projected s line).classes) j h)) s valid breaks))
