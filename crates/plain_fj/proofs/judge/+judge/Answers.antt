use Rattle.std.proofs.Common.{◌≡◌, ℕ, ◌+◌, List, length, arith, refl, sym, ◌∙◌, ap, subst, Bor, Global, Option, Vec}
use Rattle.cfj_model.specs.declared.expr.Expr.{Expr}
use Rattle.cfj_model.specs.declared.expr.Expr.TheVariants as variant
use Rattle.plain_fj.specs.Found.{AreJudged, IsJudged, IsNameJudged, nodes_in}
use Rattle.plain_fj.specs.declared.node_break.NodeBreak.{NodeBreak}
use Rattle.plain_fj.proofs.AddedNodes.{added_more}
use Rattle.plain_fj.proofs.ArgumentFits.{as_many}
use Rattle.plain_fj.proofs.TypeLists.{drop_at}
use Rattle.plain_fj.proofs.JudgedArgs.{AreTypesUpTo, found_all, found_none, judged_as, ok_gives, types_begin, types_more, types_same}
use Rattle.plain_fj.proofs.judge.+judge.Goals as goal
use Rattle.plain_fj.proofs.judge.+judge.Goals.{judge_args-in-Some+in_ok-push, judge_args-in_default}

pub judge-returns-in-Var : goal.judge-returns-in-Var
judge-returns-in-Var t c =
    let b = c.args.body.now in
    let x = variant.Var c.in-Var.slot c.in-Var.name in
    let before = c.args.breaks.now.items in
    let after = c.at_variable.new.breaks.items in
    ok_gives (λ found. IsJudged b x found before after) (λ found. IsJudged b c.args.expr.now found before after) (λ found h. judged_as b c.args.expr.now x found before after c.in-Var.is h)
    c.at_variable.result c.at_variable.ensures

pub judge-returns-in_ok-receiver-in-Get : goal.judge-returns-in_ok-receiver-in-Get
judge-returns-in_ok-receiver-in-Get t c =
    let b = c.args.body.now in
    let x = variant.Get c.in-Get.slot c.get.result.now c.in-Get.field in
    let before = c.args.breaks.now.items in
    let middle = c.judge.new.breaks.items in
    let after = c.at_access.new.breaks.items in
    ok_gives
    (λ (found : Option (Bor (List ℕ))). (on : Expr) (before : List NodeBreak) → IsJudged b on c.in_ok-receiver-in-Get.receiver before middle → IsJudged b (variant.Get c.in-Get.slot on c.in-Get.field) found before after)
    (λ (found : Option (Bor (List ℕ))). IsJudged b c.args.expr.now found before after)
    (λ found h. judged_as b c.args.expr.now x found before after (c.in-Get.is ∙ ap (λ (on : Expr). variant.Get c.in-Get.slot on c.in-Get.field) (sym c.get.ensures))
    (h c.get.result.now before c.in_ok-receiver-in-Get.ensures))
    c.at_access.result c.at_access.ensures

pub judge-at_call-requires : goal.judge-at_call-requires
judge-at_call-requires t c =
    as_many c.args.body.now c.slice-args.result.now c.in_ok-types-in-Call.types c.judge-in-Call.new.breaks.items c.judge_args.new.breaks.items c.in_ok-types-in-Call.ensures

pub judge-at_new-requires : goal.judge-at_new-requires
judge-at_new-requires t c =
    as_many c.args.body.now c.slice-args-in-New.result.now c.in_ok-types-in-New.types c.add_unknown.new.breaks.items c.judge_args-in-New.new.breaks.items c.in_ok-types-in-New.ensures

pub judge-returns-in_ok-types-in-Call : goal.judge-returns-in_ok-types-in-Call
judge-returns-in_ok-types-in-Call t c =
    let b = c.args.body.now in
    let args = c.slice-args.result.now in
    let x = variant.Call c.in-Call.slot c.get-in-Call.result.now c.in-Call.method args in
    let before = c.args.breaks.now.items in
    let last = c.judge_args.new.breaks.items in
    let after = c.at_call.new.breaks.items in
    ok_gives
    (λ (found : Option (Bor (List ℕ))). (on : Expr) (before middle : List NodeBreak) → IsJudged b on c.in_ok-receiver-in-Call.receiver before middle → AreJudged b args c.in_ok-types-in-Call.types middle last
    → IsJudged b (variant.Call c.in-Call.slot on c.in-Call.method args) found before after)
    (λ (found : Option (Bor (List ℕ))). IsJudged b c.args.expr.now found before after)
    (λ found h. judged_as b c.args.expr.now x found before after
    (c.in-Call.is ∙ ap (λ (on : Expr). variant.Call c.in-Call.slot on c.in-Call.method c.in-Call.args) (sym c.get-in-Call.ensures)
    ∙ ap (variant.Call c.in-Call.slot c.get-in-Call.result.now c.in-Call.method) (sym c.slice-args.ensures))
    (h c.get-in-Call.result.now before c.judge-in-Call.new.breaks.items c.in_ok-receiver-in-Call.ensures c.in_ok-types-in-Call.ensures))
    c.at_call.result c.at_call.ensures

pub judge-returns-in_ok-types-in-New : goal.judge-returns-in_ok-types-in-New
judge-returns-in_ok-types-in-New t c =
    let b = c.args.body.now in
    let args = c.slice-args-in-New.result.now in
    let x = variant.New c.in-New.slot c.in-New.class args in
    let before = c.args.breaks.now.items in
    let last = c.judge_args-in-New.new.breaks.items in
    let after = c.at_new.new.breaks.items in
    ok_gives
    (λ (found : Option (Bor (List ℕ))). (before middle : List NodeBreak) → IsNameJudged b c.in-New.slot c.in-New.class before middle → AreJudged b args c.in_ok-types-in-New.types middle last
    → IsJudged b (variant.New c.in-New.slot c.in-New.class args) found before after)
    (λ (found : Option (Bor (List ℕ))). IsJudged b c.args.expr.now found before after)
    (λ found h. judged_as b c.args.expr.now x found before after (c.in-New.is ∙ ap (variant.New c.in-New.slot c.in-New.class) (sym c.slice-args-in-New.ensures))
    (h before c.add_unknown.new.breaks.items c.in_ok-add_unknown-in-New.ensures c.in_ok-types-in-New.ensures))
    c.at_new.result c.at_new.ensures

pub judge-returns-in_ok-operand-in-Cast : goal.judge-returns-in_ok-operand-in-Cast
judge-returns-in_ok-operand-in-Cast t c =
    let b = c.args.body.now in
    let x = variant.Cast c.in-Cast.slot c.in-Cast.target c.get-in-Cast.result.now in
    let before = c.args.breaks.now.items in
    let last = c.judge-in-Cast.new.breaks.items in
    let after = c.at_cast.new.breaks.items in
    ok_gives
    (λ (found : Option (Bor (List ℕ))). (on : Expr) (before middle : List NodeBreak) → IsNameJudged b c.in-Cast.slot c.in-Cast.target before middle → IsJudged b on c.in_ok-operand-in-Cast.operand middle last
    → IsJudged b (variant.Cast c.in-Cast.slot c.in-Cast.target on) found before after)
    (λ (found : Option (Bor (List ℕ))). IsJudged b c.args.expr.now found before after)
    (λ found h. judged_as b c.args.expr.now x found before after (c.in-Cast.is ∙ ap (variant.Cast c.in-Cast.slot c.in-Cast.target) (sym c.get-in-Cast.ensures))
    (h c.get-in-Cast.result.now before c.add_unknown-in-Cast.new.breaks.items c.in_ok-add_unknown-in-Cast.ensures c.in_ok-operand-in-Cast.ensures))
    c.at_cast.result c.at_cast.ensures

pub judge_args-each-init : goal.judge_args-each-init
judge_args-each-init t c = (types_begin c.args.body.now c.args.args.now c.new-types.result.items c.new-types.ensures.items, refl)

pub judge_args-each-preserved : goal.judge_args-each-preserved
judge_args-each-preserved t c =
    let b = c.args.body.now in
    let xs = c.args.args.now in
    let i = c.each.arg-index in
    let x = c.arg-item.result in
    let before = c.each.breaks.items in
    let after = c.judge.new.breaks.items in
    let found = c.in_ok-of.field-0 in (
      elim c.match-branch-2.branch [
        | judge_args-in-Some+in_ok-push w ↦
            types_more b xs i x found c.each.types.items before after c.each-test.true c.arg-item.is c.in_ok-of.ensures c.each.invariant.0 w.in-Some.of c.match-branch-2.types.items w.in-Some.is
            (ap (λ v. v.items) w.types-is ∙ w.in_ok-push.ensures.items)
        | judge_args-in_default w ↦
            subst (λ (ts : Vec (Bor (List ℕ)) Global). AreTypesUpTo b xs (i + 1) ts.items) (sym w.types-is)
            (types_same b xs i x found c.each.types.items before after c.each-test.true c.arg-item.is c.in_ok-of.ensures c.each.invariant.0 w.in_default.is)
      ],
      added_more (λ a. nodes_in b a.expr) xs i c.args.breaks.now.items before x after c.each.invariant.1 (drop_at xs i x c.each-test.true c.arg-item.is) c.in_ok-of.ensures.adds,
    )

pub judge_args-returns : goal.judge_args-returns
judge_args-returns t c =
    let last : c.each.arg-index ≡ length c.args.args.now = omega (arith, c.each.auto, c.each-test.false) in
    let all : length c.each.types.items ≡ length c.args.args.now = omega (arith, c.each.types.ok, c.len.ensures, c.if-len-args.false) in
    found_all c.args.body.now c.args.args.now c.each.arg-index c.each.types c.args.breaks.now.items c.each.breaks.items last c.each.invariant.0 c.each.invariant.1 all

pub judge_args-returns-then-len-args : goal.judge_args-returns-then-len-args
judge_args-returns-then-len-args t c =
    let last : c.each.arg-index ≡ length c.args.args.now = omega (arith, c.each.auto, c.each-test.false) in
    let fewer : length c.each.types.items ≡ length c.args.args.now → ⊥ = λ e. absurd (omega (arith, e, c.each.types.ok, c.len.ensures, c.if-len-args.true)) in
    found_none c.args.body.now c.args.args.now c.each.arg-index c.each.types c.args.breaks.now.items c.each.breaks.items last c.each.invariant.0 c.each.invariant.1 fewer
