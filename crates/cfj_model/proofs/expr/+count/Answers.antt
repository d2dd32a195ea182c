use Rattle.std.proofs.Common.{sum_by, ap, ◌∙◌, arith}
use Rattle.cfj_model.specs.Expressions.{node_count}
use Rattle.cfj_model.specs.Sizes.{counted}
use Rattle.cfj_model.proofs.SizeSums.{arg_nodes, count_call, count_new}
use Rattle.cfj_model.proofs.expr.+count.Goals as goal

pub Expr::node_count-returns-in-Call : goal.Expr::node_count-returns-in-Call
Expr::node_count-returns-in-Call t c =
    let on = c.node_count-in-Call.ensures ∙ ap (λ x. counted (node_count x)) c.get-in-Call.ensures in
    let args = c.args_node_count.ensures ∙ ap (λ xs. counted (sum_by arg_nodes xs)) c.slice.ensures in
    let whole = count_call c.in-Call.slot c.in-Call.on c.in-Call.method c.in-Call.args in
    let self = ap node_count c.in-Call.is in
    omega (arith, on, args, whole, self, c.saturating_add-on.ensures, c.saturating_add-in-Call.ensures)

pub Expr::node_count-returns-in-New : goal.Expr::node_count-returns-in-New
Expr::node_count-returns-in-New t c =
    let args = c.args_node_count-in-New.ensures ∙ ap (λ xs. counted (sum_by arg_nodes xs)) c.slice-in-New.ensures in
    let whole = count_new c.in-New.slot c.in-New.class c.in-New.args in
    let self = ap node_count c.in-New.is in
    omega (arith, args, whole, self, c.saturating_add-in-New.ensures)
