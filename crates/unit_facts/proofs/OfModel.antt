-- The selections of a checked product line are selections of its features, so that its findings can be printed.
use Rattle.std.proofs.Common.{◌≡◌, ℕ, true, List, length, refl}
use Rattle.std.specs.List.{list_all}
use Rattle.std.proofs.lemmas.Bool.{and_from, eq-eqb}
use Rattle.cfj_model.specs.Judging.{Pair}
use Rattle.cfj_model.specs.ProductLines.{ProductLine}
use Rattle.unit_facts.specs.Diagnostics.{AreExact, IsChecked, IsExact, IsRight}
use Rattle.unit_facts.specs.Findings.{AreOfModel, is_entry_over, is_verdict_over}
use Rattle.unit_facts.specs.declared.entry.Entry.{Entry}
use Rattle.unit_facts.specs.declared.entry.Entry.TheVariants as entry
use Rattle.unit_facts.specs.declared.entry.Verdict.{Verdict}
use Rattle.unit_facts.specs.declared.entry.Verdict.TheVariants as verdict

module _ (line : ProductLine) (budget : ℕ) where
  pub verdict_over : (v : Verdict) → IsRight line budget v → is_verdict_over (length line.model.features) v ≡ true
  verdict_over (verdict.Valid s) right = eq-eqb s.features (length line.model.features) right.valid.features
  verdict_over (verdict.Void log) right = refl
  verdict_over (verdict.Unknown log) right = refl

  pub entry_over : (e : Entry) → IsExact line budget e → is_entry_over (length line.model.features) e ≡ true
  entry_over (entry.Broken site rule s) exact = eq-eqb s.features (length line.model.features) exact.valid.features
  entry_over (entry.Undecided site rule log) exact = refl

  pub entries_over : (ps : List Pair) (es : List Entry) → AreExact line budget ps es → list_all (is_entry_over (length line.model.features)) es ≡ true
  entries_over _ _ AreExact.all_told = refl
  entries_over _ _ (AreExact.unbroken p ps es none rest) = entries_over ps es rest
  entries_over _ _ (AreExact.told e ps es exact rest) = and_from _ _ (entry_over e exact) (entries_over ps es rest)

  pub checked_of_model : (v : Verdict) (es : List Entry) → IsChecked line budget v es → AreOfModel line.model.features v es
  checked_of_model v es checked = record { verdict = verdict_over v checked.verdict; entries = entries_over _ es checked.entries }
