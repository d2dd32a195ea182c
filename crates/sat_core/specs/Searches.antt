-- What a search answers.
use Rattle.std.specs.Prelude.{◌≡◌, ℕ, ◌≤◌, length}
use Rattle.cfj_logic.specs.declared.clauses.Clauses.{Clauses}
use Rattle.cfj_logic.specs.Selections.{Chosen, IsEarlier}
use Rattle.cfj_logic.specs.Sides.{empty_clause}
use Rattle.cfj_words.specs.Lists.{Has}
use Rattle.cfj_logic.specs.Logs.{ExtendsToModel, IsAccepted, IsRefutation, IsProofOfLeast}
use Rattle.sat_core.specs.declared.answer.Answer.{Answer}
use Rattle.sat_core.specs.declared.answer.Answer.TheVariants.{Refuted, Least, Spent}

-- the selection is one of the clauses' features and extends to a model, and no earlier one does
pub record IsLeastThatExtends (clauses : Clauses) (s : Chosen) : Type 0 where
  pub features : s.features ≡ clauses.features
  pub extends : ExtendsToModel clauses s
  pub least : (t : Chosen) → IsEarlier t s → ExtendsToModel clauses t → ⊥

-- what the answer says of the clauses; no log is longer than the budget
abbrev pub AnswerSays : Clauses → ℕ → Answer → Type 0
AnswerSays clauses budget (Refuted log) = IsRefutation clauses log × (length log ≤ budget)
AnswerSays clauses budget (Least s log) =
    IsLeastThatExtends clauses s × IsProofOfLeast clauses log s × (length log ≤ budget)
AnswerSays clauses budget (Spent log) =
    IsAccepted clauses log × (length log ≡ budget) × (Has log empty_clause → ⊥)
