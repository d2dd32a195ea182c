use Rattle.std.proofs.Common.{length, ◌∙◌, ap, subst, sym}
use Rattle.cfj_logic.specs.Logs.{AreBelow}
use Rattle.std.proofs.lemmas.Option.{slice_get_within}
use Rattle.unit_propagation.proofs.Members.{all_has}
use Rattle.clause_learning.proofs.Learning.{first_denies, first_valued, none_size}
use Rattle.clause_learning.proofs.analysis.conflict_marks.Goals as goal

pub literals_at-requires : goal.literals_at-requires
literals_at-requires c = slice_get_within c.args.clauses.now c.args.conflict c.requires.conflict.clause c.requires.conflict.there

pub mark_all-requires : goal.mark_all-requires
mark_all-requires c =
    subst (λ n. AreBelow n c.literals_at.result.now) (sym (ap length c.in_ok-marks.ensures ∙ none_size (length c.args.values.now)))
    (all_has (AreBelow (length c.args.values.now)) c.args.clauses.now c.literals_at.result.now c.requires.below (c.args.conflict, c.literals_at.ensures))

pub returns-clause-denies : goal.returns-clause-denies
returns-clause-denies c =
    first_denies c.args.clauses.now c.args.values.now c.args.conflict c.in_ok-marks.marks.items c.mark_all.new.marks.items c.literals_at.result.now c.in_ok-marks.ensures c.mark_all.ensures
    (all_has (AreBelow (length c.args.values.now)) c.args.clauses.now c.literals_at.result.now c.requires.below (c.args.conflict, c.literals_at.ensures)) c.literals_at.ensures c.requires.conflict

pub returns-clause-valued : goal.returns-clause-valued
returns-clause-valued c =
    first_valued c.args.clauses.now c.args.values.now c.args.conflict (length c.args.values.now) c.in_ok-marks.marks.items c.mark_all.new.marks.items c.literals_at.result.now c.in_ok-marks.ensures c.mark_all.ensures
    c.literals_at.ensures c.requires.conflict
