-- Questions that consider a selection one after another, in place.
use Rattle.std.proofs.Common.{◌≡◌, ℕ, zero, suc, ◌+◌, ◌<◌, ◌≤◌, List, [], ◌∷◌, length, take, drop, set, get_or, refl, sym, subst, add-one, arith}
use Rattle.cfj_model.specs.Judging.{Pair}
use Rattle.cfj_logic.specs.Selections.{Chosen}
use Rattle.plain_judge.specs.Questions.{AreConsidered, IsConsidered}
use Rattle.plain_judge.specs.declared.question.Question.{Question}

-- the questions before this place have considered the selection, and those from there on are as they were
pub record AreConsideredTo (breaks : List Pair) (s : Chosen) (upto : ℕ) (olds news : List Question) : Type 0 where
  pub before : AreConsidered breaks s (take upto olds) (take upto news)
  pub behind : drop upto news ≡ drop upto olds

module _ (breaks : List Pair) (s : Chosen) where
  pub considered_none : (qs : List Question) → AreConsideredTo breaks s 0 qs qs
  considered_none qs = record { before = tt; behind = refl }

  go_on : (i : ℕ) (olds news : List Question) (new d : Question) → i < length news → AreConsideredTo breaks s i olds news → IsConsidered breaks s (get_or news i d) new → AreConsideredTo breaks s (suc i) olds (set news i new)
  go_on zero olds [] new d lt so_far is = absurd (omega arith)
  go_on zero [] (q ∷ qs) new d lt so_far is = absurd (cc so_far.behind)
  go_on zero (o ∷ olds) (q ∷ qs) new d lt so_far is =
      let heads : q ≡ o = cc so_far.behind in
      let tails : qs ≡ olds = cc so_far.behind in
      record { before = (subst (λ z. IsConsidered breaks s z new) heads is, tt); behind = tails }
  go_on (suc i) olds [] new d lt so_far is = absurd (omega arith)
  go_on (suc i) [] (q ∷ qs) new d lt so_far is = absurd so_far.before
  go_on (suc i) (o ∷ olds) (q ∷ qs) new d lt so_far is =
      let rest : AreConsideredTo breaks s (suc i) olds (set qs i new) = go_on i olds qs new d (omega arith) (record { before = so_far.before.1; behind = so_far.behind }) is in
      record { before = (so_far.before.0, rest.before); behind = rest.behind }

  pub considered_more : (i : ℕ) (olds news : List Question) (new d : Question) → i < length news → AreConsideredTo breaks s i olds news → IsConsidered breaks s (get_or news i d) new → AreConsideredTo breaks s (i + 1) olds (set news i new)
  considered_more i olds news new d lt so_far is = subst (λ n. AreConsideredTo breaks s n olds (set news i new)) (sym (add-one i)) (go_on i olds news new d lt so_far is)

  pub considered_all : (i : ℕ) (olds news : List Question) → length olds ≤ i → length news ≤ i → AreConsideredTo breaks s i olds news → AreConsidered breaks s olds news
  considered_all zero [] [] le_old le_new so_far = tt
  considered_all zero [] (q ∷ qs) le_old le_new so_far = absurd (omega arith)
  considered_all zero (o ∷ olds) news le_old le_new so_far = absurd (omega arith)
  considered_all (suc i) [] [] le_old le_new so_far = tt
  considered_all (suc i) [] (q ∷ qs) le_old le_new so_far = absurd so_far.before
  considered_all (suc i) (o ∷ olds) [] le_old le_new so_far = absurd so_far.before
  considered_all (suc i) (o ∷ olds) (q ∷ qs) le_old le_new so_far =
      (so_far.before.0, considered_all i olds qs (omega arith) (omega arith) (record { before = so_far.before.1; behind = so_far.behind }))
