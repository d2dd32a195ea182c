-- No public contract cites this: it serves the proofs.
-- Questions about pairs, and the selections that answer them.
use Rattle.std.specs.Prelude.{◌≡◌, List, [], ◌∷◌, Option, Some, None, is_some, Bool}
use Rattle.std.specs.List.{list_all}
use Rattle.cfj_model.specs.Judging.{Pair}
use Rattle.cfj_logic.specs.Selections.{Chosen}
use Rattle.cfj_words.specs.Lists.{Has}
use Rattle.plain_judge.specs.declared.question.Question.{Question}

-- the pair that a question is about
abbrev pub asked : Question → Pair
asked q = (q.site, q.rule)

-- a question about a pair, without an answer
abbrev pub unanswered : Pair → Question
unanswered p = record { site = p.0; rule = p.1; answer = None }

-- A question keeps its answer; one without takes the selection where its pair is among those that break.
abbrev pub IsTaken : List Pair → Chosen → Pair → Option Chosen → Option Chosen → Type 0
IsTaken breaks s p (Some t) after = after ≡ Some t
IsTaken breaks s p None (Some t) = (t ≡ s) × Has breaks p
IsTaken breaks s p None None = Has breaks p → ⊥

-- a question before and after it considers a selection in whose variant these pairs break
pub record IsConsidered (breaks : List Pair) (s : Chosen) (old new : Question) : Type 0 where
  pub pair : asked new ≡ asked old
  pub taken : IsTaken breaks s (asked old) old.answer new.answer

-- each of the questions considers it
abbrev pub AreConsidered : List Pair → Chosen → List Question → List Question → Type 0
AreConsidered breaks s [] [] = Unit {0}
AreConsidered breaks s (q ∷ qs) (r ∷ rs) = IsConsidered breaks s q r × AreConsidered breaks s qs rs
AreConsidered breaks s _ _ = ⊥

-- every question has an answer
abbrev pub are_answered : List Question → Bool
are_answered qs = list_all (λ (q : Question). is_some q.answer) qs
