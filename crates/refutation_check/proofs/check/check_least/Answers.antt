use Rattle.std.proofs.Common.{◌≡◌, length, sym, ◌∙◌, ap, subst, arith, true, false}
use Rattle.cfj_logic.specs.Logs.{AreForced, IsAccepted, IsProofOfLeast}
use Rattle.refutation_check.proofs.Accepting.{below_as}
use Rattle.refutation_check.proofs.Least.{choices_length, same_answer, proof_of_least, proof_forced}
use Rattle.refutation_check.proofs.check.check_least.Goals as goal

pub extends-requires-clause-premises : goal.extends-requires-clause-premises
extends-requires-clause-premises c = c.in_ok-premises.ensures ∙ c.slice.ensures

pub extends-requires-clause-selection : goal.extends-requires-clause-selection
extends-requires-clause-selection c = (c.requires.features, c.as_slice.ensures.value ∙ c.in_ok-choices.ensures)

pub returns-then-not-branch : goal.returns-then-not-branch
returns-then-not-branch c = (
  λ e. absurd (let no : ⊥ = cc e in no),
  λ proof. let no : true ≡ false = sym (c.in_ok-extends.ensures.extends.1 proof.extends) ∙ c.if-not-branch.true in absurd (let bad : ⊥ = cc no in bad),
)

pub accepted-requires-clause-premises : goal.accepted-requires-clause-premises
accepted-requires-clause-premises c = c.in_ok-extends.ensures.same ∙ c.in_ok-premises.ensures ∙ c.slice.ensures

pub returns-then-not-branch-2 : goal.returns-then-not-branch-2
returns-then-not-branch-2 c = (
  λ e. absurd (let no : ⊥ = cc e in no),
  λ proof.
      let all = c.in_ok-accepted.ensures.accepted.1 (subst (IsAccepted c.args.clauses.now) (sym c.clauses.ensures) proof.accepted) in
      let no : true ≡ false = sym all ∙ c.if-not-branch-2.true in
      absurd (let bad : ⊥ = cc no in bad),
)

pub are_forced-requires-clause-premises : goal.are_forced-requires-clause-premises
are_forced-requires-clause-premises c =
    let all = c.in_ok-accepted.ensures.accepted.0 c.if-not-branch-2.false in
    below_as c.args.clauses.now c.clauses.result.now c.accepted.new.premises c.requires.formed all (c.in_ok-accepted.ensures.premises c.if-not-branch-2.false)

pub are_forced-requires-clause-short : goal.are_forced-requires-clause-short
are_forced-requires-clause-short c =
    let n : length c.as_slice-2.result.now ≡ c.args.selection.now.features =
    ap length (c.as_slice-2.ensures.value ∙ c.in_ok-choices.ensures) ∙ choices_length c.args.selection.now in
    omega (arith, n, c.requires.features, c.requires.formed.features)

pub returns : goal.returns
returns c =
    let cl = c.args.clauses.now in
    let read = c.clauses.result.now in
    let s = c.args.selection.now in
    let p = c.as_slice-2.result.now in
    let ps = c.accepted.new.premises in
    let all = c.in_ok-accepted.ensures.accepted.0 c.if-not-branch-2.false in
    let ps_is = c.in_ok-accepted.ensures.premises c.if-not-branch-2.false in
    let p_is = c.as_slice-2.ensures.value ∙ c.in_ok-choices.ensures in
    let model = c.in_ok-extends.ensures.extends.0 c.if-not-branch.false in
    same_answer c.are_forced.result (AreForced cl.vars ps p) (IsProofOfLeast cl c.args.log.now s)
    (λ forced. proof_of_least cl c.args.log.now read s ps p c.clauses.ensures ps_is p_is all model forced)
    (λ proof. proof_forced cl c.args.log.now read s ps p c.clauses.ensures ps_is p_is proof)
    c.are_forced.ensures
