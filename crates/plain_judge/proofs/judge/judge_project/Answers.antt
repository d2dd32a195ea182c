use Rattle.std.proofs.Common.{◌≡◌, ℕ, List, length, sym, ◌∙◌, ap, subst, arith}
use Rattle.cfj_model.specs.declared.feature_model.FeatureModel.{FeatureModel}
use Rattle.unit_facts.specs.Diagnostics.{IsChecked}
use Rattle.unit_facts.specs.declared.entry.Entry.{Entry}
use Rattle.unit_facts.specs.declared.entry.Verdict.{Verdict}
use Rattle.std.specs.List.{filter_map}
use Rattle.cfj_logic.specs.Sides.{Sides}
use Rattle.plain_judge.specs.Concluding.{entry_of, verdict_of}
use Rattle.plain_judge.proofs.Concluded.{IsMost, done_is_checked}
use Rattle.plain_judge.proofs.Limits.{few_features, most_if_limited, most_if_not}
use Rattle.plain_judge.proofs.judge.judge_project.Goals as goal
use Rattle.plain_judge.proofs.judge.judge_project.Goals.{then-limited, else-limited}

pub overflow_shl-most : goal.overflow_shl-most
overflow_shl-most c =
    let few = few_features (length c.slice.result.now) c.args.budget c.is_limited-limited.result c.is_limited-limited.ensures c.if-limited.false c.requires.few in
    omega (arith, few)

is_most : (c : goal.After-of) → IsMost (length c.args.project.now.model.features) c.args.budget c.is_limited-limited.result c.if-limited.most
is_most c =
    let n = length c.slice.result.now in
    let same : n ≡ length c.args.project.now.model.features = ap (λ (fs : List (List ℕ)). length fs) (c.slice.ensures ∙ ap (λ (m : FeatureModel). m.features) c.model.ensures.model) in
    subst (λ (k : ℕ). IsMost k c.args.budget c.is_limited-limited.result c.if-limited.most) same
    (elim c.if-limited.branch [
      | then-limited w ↦ most_if_limited n c.args.budget c.if-limited.most c.is_limited-limited.result c.is_limited-limited.ensures w.if-limited.true w.most-is
      | else-limited w ↦ most_if_not n c.args.budget c.if-limited.most c.is_limited-limited.result c.is_limited-limited.ensures w.if-limited.false c.requires.few w.most-is
    ])

pub returns : goal.returns
returns c =
    let line = c.args.project.now in
    let search = c.in_ok-questions.field-0 in
    let limited = c.is_limited-limited.result in
    let log : c.in_ok-log.log ≡ search.log = c.in_ok-log.ensures in
    let verdict = c.in_ok-verdict.ensures ∙ ap (λ (l : List Sides). verdict_of limited l search.verdict) log in
    let entries = c.of.ensures ∙ c.in_ok-entries.ensures ∙ ap (λ (l : List Sides). filter_map (entry_of limited l) search.questions.items) log in
    subst (λ (v : Verdict). IsChecked line c.args.budget v c.of.result) (sym verdict)
    (subst (λ (es : List Entry). IsChecked line c.args.budget (verdict_of limited search.log search.verdict) es) (sym entries)
    (done_is_checked line c.args.budget c.if-limited.most limited search c.requires.some (is_most c) c.in_ok-questions.ensures))
