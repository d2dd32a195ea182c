-- No public contract cites this: it serves the proofs.
-- What trying the first selections in order tells of a product line.
use Rattle.std.specs.Prelude.{◌≡◌, ◌↔◌, ℕ, ◌<◌, ◌&&◌, Bool, List, [], ◌∷◌, length, map, Option, Some, None, is_some}
use Rattle.cfj_model.specs.Judging.{Pair, pairs_of}
use Rattle.cfj_model.specs.ProductLines.{ProductLine}
use Rattle.cfj_logic.specs.Selections.{Chosen}
use Rattle.cfj_words.specs.Lists.{Has}
use Rattle.unit_facts.specs.Diagnostics.{Always, BreaksIn, IsLeast, IsValidFor}
use Rattle.plain_judge.specs.Denials.{denials}
use Rattle.plain_judge.specs.Order.{nth}
use Rattle.plain_judge.specs.Questions.{AreConsidered, are_answered, asked}
use Rattle.plain_judge.specs.declared.question.Question.{Question}
use Rattle.plain_judge.specs.declared.search.Search.{Search}

-- the selection at this place of the order of those of the line's features
abbrev pub selection_at : ProductLine → ℕ → Chosen
selection_at line k = nth (length line.model.features) k

-- After the first `k` selections: the least valid one of which something is so is found, or it is so of none of the valid ones so far.
abbrev pub IsSought : ProductLine → (Chosen → Type 0) → ℕ → Option Chosen → Type 0
IsSought line So k (Some s) = IsLeast line So s
IsSought line So k None = (j : ℕ) → j < k → IsValidFor line (selection_at line j) → So (selection_at line j) → ⊥

-- so it is for each question
abbrev pub AreSought : ProductLine → ℕ → List Question → Type 0
AreSought line k [] = Unit {0}
AreSought line k (q ∷ qs) = IsSought line (BreaksIn line (asked q)) k q.answer × AreSought line k qs

-- a search that has tried the first `k` selections
pub record IsSearched (line : ProductLine) (k : ℕ) (search : Search) : Type 0 where
  pub pairs : map asked search.questions.items ≡ pairs_of line.classes
  pub questions : AreSought line k search.questions.items
  pub verdict : IsSought line Always k search.verdict
  pub log : search.log ≡ denials (length line.model.features) k

-- a verdict's answer stays, and where it has none, it takes the selection
abbrev pub first_answer : Option Chosen → Chosen → Option Chosen
first_answer (Some t) s = Some t
first_answer None s = Some s

-- a search before and after a valid selection is seen
pub record IsSeen (line : ProductLine) (s : Chosen) (old new : Search) : Type 0 where
  pub breaks : List Pair
  pub told : (p : Pair) → BreaksIn line p s ↔ Has breaks p
  pub questions : AreConsidered breaks s old.questions.items new.questions.items
  pub verdict : new.verdict ≡ first_answer old.verdict s
  pub log : new.log ≡ old.log

-- nothing is left to be found
abbrev pub is_settled : Search → Bool
is_settled search = is_some search.verdict && are_answered search.questions.items
