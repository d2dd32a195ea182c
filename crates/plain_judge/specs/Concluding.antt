-- No public contract cites this: it serves the proofs.
-- What is said of a product line once the selections are tried.
use Rattle.std.specs.Prelude.{◌≡◌, ℕ, ◌⊎◌, Bool, true, List, [], ◌∷◌, ◌++◌, if◌then◌else◌, Option, Some, None}
use Rattle.cfj_model.specs.Judging.{Pair}
use Rattle.cfj_model.specs.ProductLines.{ProductLine}
use Rattle.cfj_logic.specs.Selections.{Chosen}
use Rattle.cfj_logic.specs.Sides.{Sides, empty_clause}
use Rattle.unit_facts.specs.declared.entry.Entry.{Entry}
use Rattle.unit_facts.specs.declared.entry.Entry.TheVariants as entry
use Rattle.unit_facts.specs.declared.entry.Verdict.{Verdict}
use Rattle.unit_facts.specs.declared.entry.Verdict.TheVariants as verdict
use Rattle.plain_judge.specs.Questions.{asked}
use Rattle.plain_judge.specs.Searching.{IsSearched, is_settled}
use Rattle.plain_judge.specs.declared.question.Question.{Question}
use Rattle.plain_judge.specs.declared.search.Search.{Search}

-- a search that has tried so many selections, or has nothing left to find
pub record IsDone (line : ProductLine) (most : ℕ) (search : Search) : Type 0 where
  pub tried : ℕ
  pub searched : IsSearched line tried search
  pub ended : (tried ≡ most) ⊎ (is_settled search ≡ true)

-- The entry for a pair: its answer. A pair without one has the log where selections are left beyond the budget, and else no entry.
abbrev pub entry_for : Bool → List Sides → Pair → Option Chosen → Option Entry
entry_for limited log p (Some s) = Some (entry.Broken p.0 p.1 s)
entry_for limited log p None = if limited then Some (entry.Undecided p.0 p.1 log) else None

abbrev pub entry_of : Bool → List Sides → Question → Option Entry
entry_of limited log q = entry_for limited log (asked q) q.answer

-- the verdict likewise; a model whose selections are all denied is void
abbrev pub verdict_of : Bool → List Sides → Option Chosen → Verdict
verdict_of limited log (Some s) = verdict.Valid s
verdict_of limited log None = if limited then verdict.Unknown log else verdict.Void (log ++ empty_clause ∷ [])
