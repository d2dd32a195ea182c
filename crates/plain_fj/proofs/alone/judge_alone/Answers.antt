use Rattle.std.proofs.Common.{[], map, ◌++◌, ◌∙◌, ap}
use Rattle.cfj_model.specs.Judging.{judged_alone}
use Rattle.plain_fj.specs.Breaking.{broken_nodes, slot_rule}
use Rattle.plain_fj.specs.Found.{types_in}
use Rattle.plain_fj.specs.declared.body.Scope.TheVariants as scope
use Rattle.plain_fj.proofs.TypedClear.{typed_where_clear}
use Rattle.plain_fj.proofs.alone.judge_alone.Goals as goal

pub returns-clause-clear : goal.returns-clause-clear
returns-clause-clear c =
    let p = c.args.table.now in
    let x = c.args.expr.now in
    let ns = (judged_alone p x).rules [] in
    typed_where_clear p (types_in scope.Nothing) x c.in_ok-of.of c.judge.new.breaks.items c.in_ok-of.ensures.typed
    (c.in_ok-of.ensures.adds ∙ ap (λ bs. map slot_rule bs ++ broken_nodes ns) c.new-breaks.ensures.items)
