use Rattle.std.proofs.Common.{◌≡◌, List, length, not, sym, ◌∙◌, ap, subst, arith}
use Rattle.std.proofs.lemmas.List.{with_items_is}
use Rattle.std.specs.Prelude.{◌↔◌}
use Rattle.cfj_model.specs.Judging.{Breaks, Pair}
use Rattle.cfj_model.specs.ProductLines.{ProductLine}
use Rattle.cfj_logic.specs.Selections.{Chosen}
use Rattle.cfj_words.specs.Lists.{Has}
use Rattle.plain_judge.specs.Questions.{AreConsidered}
use Rattle.plain_judge.specs.Searching.{first_answer}
use Rattle.plain_judge.specs.declared.question.Question.{Question}
use Rattle.plain_judge.specs.declared.search.Search.{Search}
use Rattle.plain_judge.proofs.Sought.{kept_answer, taken_answer}
use Rattle.plain_judge.proofs.search.Search.see.Goals as goal
use Rattle.plain_judge.proofs.search.Search.see.Goals.{then-is_none, else-is_none}

-- what the verdict takes, with the rest as before
record IsTakenIn (s : Chosen) (old new : Search) : Type 0 where
  questions : new.questions ≡ old.questions
  verdict : new.verdict ≡ first_answer old.verdict s
  log : new.log ≡ old.log

taken : (c : goal.After-drop-variant-inside-5) → IsTakenIn c.args.selection c.args.self.now c.if-is_none.self
taken c =
    elim c.if-is_none.branch [
      | then-is_none w ↦
          record {
            questions = ap (λ (z : Search). z.questions) w.self-is;
            verdict = ap (λ (z : Search). z.verdict) w.self-is ∙ taken_answer c.args.self.now.verdict c.args.selection (c.is_none.ensures ∙ ap not w.if-is_none.true);
            log = ap (λ (z : Search). z.log) w.self-is;
          }
      | else-is_none w ↦
          record {
            questions = ap (λ (z : Search). z.questions) w.self-is;
            verdict = ap (λ (z : Search). z.verdict) w.self-is ∙ kept_answer c.args.self.now.verdict c.args.selection (c.is_none.ensures ∙ ap not w.if-is_none.false);
            log = ap (λ (z : Search). z.log) w.self-is;
          }
    ]

pub returns : goal.returns
returns c =
    let s = c.args.selection in
    let breaks = c.in_ok-breaks.breaks.items in
    let was = taken c in
    let same : length c.consider_all.new.questions ≡ c.if-is_none.self.questions.len = omega (arith, c.consider_all.auto.questions, c.deref_mut.ensures.len) in
    let written = with_items_is c.if-is_none.self.questions c.consider_all.new.questions same in
    record {
      breaks = breaks;
      told = λ (p : Pair). subst (λ (v : ProductLine). Breaks v.classes p.0 p.1 ↔ Has breaks p) c.in_ok-variant.ensures.projection (c.in_ok-breaks.ensures.each p.0 p.1);
      questions =
          subst (AreConsidered breaks s c.args.self.now.questions.items) (sym written)
          (subst (λ (bs : List Pair). AreConsidered bs s c.args.self.now.questions.items c.consider_all.new.questions) c.deref.ensures.value
          (subst (λ (qs : List Question). AreConsidered c.deref.result.now s qs c.consider_all.new.questions) (c.deref_mut.ensures.value ∙ ap (λ v. v.items) was.questions) c.in_ok-consider_all.ensures));
      verdict = was.verdict;
      log = was.log;
    }
