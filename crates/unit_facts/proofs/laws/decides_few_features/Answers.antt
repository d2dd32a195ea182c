use Rattle.std.proofs.Common.{◌≡◌, ℕ, ◌^◌, ◌≤◌, true, List, length, refl, arith}
use Rattle.std.specs.List.{list_all}
use Rattle.std.proofs.lemmas.Bool.{and_from}
use Rattle.cfj_model.specs.Judging.{Pair}
use Rattle.cfj_model.specs.ProductLines.{ProductLine}
use Rattle.cfj_logic.specs.Selections.{Chosen}
use Rattle.cfj_logic.specs.Sides.{Sides}
use Rattle.unit_facts.specs.Diagnostics.{IsExact, IsRight, IsSpent, AreExact, is_broken, is_decided_verdict}
use Rattle.unit_facts.specs.declared.entry.Entry.{Entry}
use Rattle.unit_facts.specs.declared.entry.Entry.TheVariants as entry
use Rattle.unit_facts.specs.declared.entry.Verdict.{Verdict}
use Rattle.unit_facts.specs.declared.entry.Verdict.TheVariants as verdict
use Rattle.unit_facts.proofs.FewClauses.{few_clauses}
use Rattle.unit_facts.proofs.laws.decides_few_features.Goals as goal

module _ (line : ProductLine) (budget : ℕ) (few : 3 ^ length line.model.features ≤ budget) where
  never_spent : (So : Chosen → Type 0) (log : List Sides) → IsSpent line budget So log → ⊥
  never_spent So log spent =
      let short = few_clauses (length line.model.features) log spent.over spent.simple spent.telling spent.fresh in
      omega (arith, short, few, spent.long)

  entry_decided : (e : Entry) → IsExact line budget e → is_broken e ≡ true
  entry_decided (entry.Broken site rule selection) exact = refl
  entry_decided (entry.Undecided site rule log) exact = absurd (never_spent _ log exact)

  entries_decided : (ps : List Pair) (es : List Entry) → AreExact line budget ps es → list_all is_broken es ≡ true
  entries_decided _ _ AreExact.all_told = refl
  entries_decided _ _ (AreExact.unbroken p ps es none rest) = entries_decided ps es rest
  entries_decided _ _ (AreExact.told e ps es exact rest) = and_from _ _ (entry_decided e exact) (entries_decided ps es rest)

  verdict_decided : (v : Verdict) → IsRight line budget v → is_decided_verdict v ≡ true
  verdict_decided (verdict.Valid s) right = refl
  verdict_decided (verdict.Void log) right = refl
  verdict_decided (verdict.Unknown log) right = absurd (never_spent _ log right)

pub returns : goal.returns
returns c = λ line budget v es checked few. and_from _ _ (verdict_decided line budget few v checked.verdict) (entries_decided line budget few _ es checked.entries)
