use Rattle.std.proofs.Common.{arith, rules, refl, ap, sym, ◌∙◌}
use Rattle.cfj_model.specs.declared.expr.Arg.{Arg}
use Rattle.cfj_model.specs.Print.{joined}
use Rattle.fj_printer.specs.Shown.{names, shows, shown_arg_text}
use Rattle.fj_printer.proofs.Composing.{adds_as, adds_then, adds_failed, adds_more, adds_stopped}
use Rattle.fj_printer.proofs.ExprTexts.{get_text, call_text, new_text, cast_text, in_brackets, without_brackets}
use Rattle.fj_printer.proofs.Lists.{separator, kept_same, kept_separator, kept_joined_more, kept_joined_there}
use Rattle.fj_printer.proofs.exprs.+print.Goals as goal
use Rattle.fj_printer.proofs.exprs.+print.Goals.{arguments-then-shows+in_ok-argument, arguments-else-shows}

pub expr-returns-in_err-receiver-in-Get : goal.expr-returns-in_err-receiver-in-Get
expr-returns-in_err-receiver-in-Get g t c =
    adds_as (get_text c.args.showing.now _ _ _ _ _ _ c.in-Get.is c.get.ensures refl) (adds_failed _ c.from_residual.result c.from_residual.ensures.0 c.in_err-receiver-in-Get.ensures)

pub expr-returns-in_ok-receiver-in-Get : goal.expr-returns-in_ok-receiver-in-Get
expr-returns-in_ok-receiver-in-Get g t c =
    adds_as (get_text c.args.showing.now _ _ _ _ _ _ c.in-Get.is c.get.ensures c.text-in-Get.ensures.value) (adds_then c.in_ok-receiver-in-Get.ensures c.add_all.ensures)

pub expr-returns-in_err-receiver-in-Call : goal.expr-returns-in_err-receiver-in-Call
expr-returns-in_err-receiver-in-Call g t c =
    adds_as (call_text c.args.showing.now _ _ _ _ _ _ _ _ c.in-Call.is c.get-in-Call.ensures refl refl) (adds_failed _ c.from_residual-in_err-receiver-in-Call.result c.from_residual-in_err-receiver-in-Call.ensures.0 c.in_err-receiver-in-Call.ensures)

pub expr-returns-in_err-add_all-in-Call : goal.expr-returns-in_err-add_all-in-Call
expr-returns-in_err-add_all-in-Call g t c =
    adds_as (call_text c.args.showing.now _ _ _ _ _ _ _ _ c.in-Call.is c.get-in-Call.ensures c.text-in-Call.ensures.value refl)
    (adds_then c.in_ok-receiver-in-Call.ensures (adds_failed _ c.from_residual-in_err-add_all-in-Call.result c.from_residual-in_err-add_all-in-Call.ensures.0 c.in_err-add_all-in-Call.ensures))

pub expr-returns-in_err-arguments-in-Call : goal.expr-returns-in_err-arguments-in-Call
expr-returns-in_err-arguments-in-Call g t c =
    adds_as (call_text c.args.showing.now _ _ _ _ _ _ _ _ c.in-Call.is c.get-in-Call.ensures c.text-in-Call.ensures.value c.slice.ensures)
    (adds_then c.in_ok-receiver-in-Call.ensures
    (adds_then c.in_ok-add_all-in-Call.ensures (adds_failed _ c.from_residual-in_err-arguments-in-Call.result c.from_residual-in_err-arguments-in-Call.ensures.0 c.in_err-arguments-in-Call.ensures)))

pub expr-returns-in_ok-arguments-in-Call : goal.expr-returns-in_ok-arguments-in-Call
expr-returns-in_ok-arguments-in-Call g t c =
    adds_as (call_text c.args.showing.now _ _ _ _ _ _ _ _ c.in-Call.is c.get-in-Call.ensures c.text-in-Call.ensures.value c.slice.ensures)
    (adds_then c.in_ok-receiver-in-Call.ensures
    (adds_then c.in_ok-add_all-in-Call.ensures (adds_then c.in_ok-arguments-in-Call.ensures c.add_text-in-Call.ensures)))

pub expr-returns-in_err-add_all-in-New : goal.expr-returns-in_err-add_all-in-New
expr-returns-in_err-add_all-in-New g t c =
    adds_as (new_text c.args.showing.now _ _ _ _ _ _ c.in-New.is c.text-in-New.ensures.value refl) (adds_failed _ c.from_residual-in_err-add_all-in-New.result c.from_residual-in_err-add_all-in-New.ensures.0 c.in_err-add_all-in-New.ensures)

pub expr-returns-in_err-arguments-in-New : goal.expr-returns-in_err-arguments-in-New
expr-returns-in_err-arguments-in-New g t c =
    adds_as (new_text c.args.showing.now _ _ _ _ _ _ c.in-New.is c.text-in-New.ensures.value c.slice-in-New.ensures)
    (adds_then c.in_ok-add_all-in-New.ensures (adds_failed _ c.from_residual-in_err-arguments-in-New.result c.from_residual-in_err-arguments-in-New.ensures.0 c.in_err-arguments-in-New.ensures))

pub expr-returns-in_ok-arguments-in-New : goal.expr-returns-in_ok-arguments-in-New
expr-returns-in_ok-arguments-in-New g t c =
    adds_as (new_text c.args.showing.now _ _ _ _ _ _ c.in-New.is c.text-in-New.ensures.value c.slice-in-New.ensures)
    (adds_then c.in_ok-add_all-in-New.ensures (adds_then c.in_ok-arguments-in-New.ensures c.add_text-in-New.ensures))

pub expr-returns-in_err-add_all-in-Cast : goal.expr-returns-in_err-add_all-in-Cast
expr-returns-in_err-add_all-in-Cast g t c =
    adds_as (cast_text c.args.showing.now _ _ _ _ _ _ c.in-Cast.is c.text-in-Cast.ensures.value refl) (adds_failed _ c.from_residual-in_err-add_all-in-Cast.result c.from_residual-in_err-add_all-in-Cast.ensures.0 c.in_err-add_all-in-Cast.ensures)

pub expr-returns-in_ok-add_all-in-Cast : goal.expr-returns-in_ok-add_all-in-Cast
expr-returns-in_ok-add_all-in-Cast g t c =
    adds_as (cast_text c.args.showing.now _ _ _ _ _ _ c.in-Cast.is c.text-in-Cast.ensures.value c.get-in-Cast.ensures) (adds_then c.in_ok-add_all-in-Cast.ensures c.expr.ensures)

pub receiver-returns-in_err-add_text : goal.receiver-returns-in_err-add_text
receiver-returns-in_err-add_text g t c =
    adds_as (in_brackets c.args.showing.now c.is_cast.result c.args.on.now (c.is_cast.ensures (names c.args.showing.now)) c.if-is_cast.true) (adds_failed _ c.from_residual.result c.from_residual.ensures.0 c.in_err-add_text.ensures)

pub receiver-returns-in_err-expr : goal.receiver-returns-in_err-expr
receiver-returns-in_err-expr g t c =
    adds_as (in_brackets c.args.showing.now c.is_cast.result c.args.on.now (c.is_cast.ensures (names c.args.showing.now)) c.if-is_cast.true) (adds_then c.in_ok-add_text.ensures (adds_failed _ c.from_residual-in_err-expr.result c.from_residual-in_err-expr.ensures.0 c.in_err-expr.ensures))

pub receiver-returns-in_ok-expr : goal.receiver-returns-in_ok-expr
receiver-returns-in_ok-expr g t c =
    adds_as (in_brackets c.args.showing.now c.is_cast.result c.args.on.now (c.is_cast.ensures (names c.args.showing.now)) c.if-is_cast.true) (adds_then c.in_ok-add_text.ensures (adds_then c.in_ok-expr.ensures c.add_text-then-is_cast.ensures))

pub receiver-returns-else-is_cast : goal.receiver-returns-else-is_cast
receiver-returns-else-is_cast g t c =
    adds_as (without_brackets c.args.showing.now c.is_cast.result c.args.on.now (c.is_cast.ensures (names c.args.showing.now)) c.if-is_cast.false) c.expr-else-is_cast.ensures

pub argument-returns-in_err-add_text : goal.argument-returns-in_err-add_text
argument-returns-in_err-add_text g t c =
    adds_failed _ c.from_residual.result c.from_residual.ensures.0 c.in_err-add_text.ensures

pub argument-returns-in_err-marks : goal.argument-returns-in_err-marks
argument-returns-in_err-marks g t c =
    adds_then c.in_ok-add_text.ensures (adds_failed _ c.from_residual-in_err-marks.result c.from_residual-in_err-marks.ensures.0 c.in_err-marks.ensures)

pub argument-returns : goal.argument-returns
argument-returns g t c =
    adds_then c.in_ok-add_text.ensures (adds_then c.in_ok-marks.ensures c.expr.ensures)

pub arguments-returns-in_err-argument : goal.arguments-returns-in_err-argument
arguments-returns-in_err-argument g t c =
    adds_stopped _ c.from_residual.result c.from_residual.ensures.0 c.each.invariant.adds c.in_err-argument.ensures
    (kept_joined_there (shown_arg_text c.args.showing.now) (λ (x : Arg). shows c.args.showing.now x.colors) c.args.args.now c.each.item-index c.item-item.result (omega arith) c.item-item.is
    (sym c.shows.ensures ∙ c.if-shows.true) _ c.each.invariant.between)

pub arguments-each-preserved : goal.arguments-each-preserved
arguments-each-preserved g t c =
    elim c.if-shows.branch [
      | arguments-then-shows+in_ok-argument w ↦
          rw (w.buffer-is, w.sink-is, w.separator-is)
          (record {
            utf8 = search rules;
            between = kept_separator (λ (x : Arg). shows c.args.showing.now x.colors) c.args.args.now c.each.item-index c.item-item.result (omega arith) c.item-item.is (sym c.shows.ensures ∙ w.if-shows.true);
            adds = adds_more c.each.invariant.adds w.in_ok-argument.ensures
                (kept_joined_more (shown_arg_text c.args.showing.now) (λ (x : Arg). shows c.args.showing.now x.colors) c.args.args.now c.each.item-index c.item-item.result (omega arith) c.item-item.is
                (sym c.shows.ensures ∙ w.if-shows.true) _ c.each.invariant.between);
          })
      | arguments-else-shows w ↦
          let same = kept_same (λ (x : Arg). shows c.args.showing.now x.colors) c.args.args.now c.each.item-index c.item-item.result (omega arith) c.item-item.is (sym c.shows.ensures ∙ w.if-shows.false) in
          rw (w.buffer-is, w.sink-is, w.separator-is)
          (record {
            utf8 = c.each.invariant.utf8;
            between = c.each.invariant.between ∙ ap separator (sym same);
            adds = adds_as (ap (joined (shown_arg_text c.args.showing.now)) same) c.each.invariant.adds;
          })
    ]
