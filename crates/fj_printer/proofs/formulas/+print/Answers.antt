use Rattle.std.proofs.Common.{refl}
use Rattle.fj_printer.proofs.Composing.{adds_as, adds_then, adds_failed}
use Rattle.fj_printer.proofs.FormulaTexts.{not_text, and_text, or_text, implies_text, iff_text, bracketed, unbracketed}
use Rattle.fj_printer.proofs.formulas.+print.Goals as goal

pub formula-returns-in_err-add_text-in-Not : goal.formula-returns-in_err-add_text-in-Not
formula-returns-in_err-add_text-in-Not g t c =
    adds_as (not_text c.args.features.now _ _ _ c.in-Not.is refl) (adds_failed _ c.from_residual.result c.from_residual.ensures.0 c.in_err-add_text-in-Not.ensures)

pub formula-returns-in_ok-add_text-in-Not : goal.formula-returns-in_ok-add_text-in-Not
formula-returns-in_ok-add_text-in-Not g t c =
    adds_as (not_text c.args.features.now _ _ _ c.in-Not.is c.get.ensures) (adds_then c.in_ok-add_text-in-Not.ensures c.operand.ensures)

pub formula-returns-in_err-operand-in-And : goal.formula-returns-in_err-operand-in-And
formula-returns-in_err-operand-in-And g t c =
    adds_as (and_text c.args.features.now _ _ _ _ _ c.in-And.is c.get-in-And.ensures refl) (adds_failed _ c.from_residual-in_err-operand-in-And.result c.from_residual-in_err-operand-in-And.ensures.0 c.in_err-operand-in-And.ensures)

pub formula-returns-in_err-add_text-in-And : goal.formula-returns-in_err-add_text-in-And
formula-returns-in_err-add_text-in-And g t c =
    adds_as (and_text c.args.features.now _ _ _ _ _ c.in-And.is c.get-in-And.ensures refl)
    (adds_then c.in_ok-operand-in-And.ensures (adds_failed _ c.from_residual-in_err-add_text-in-And.result c.from_residual-in_err-add_text-in-And.ensures.0 c.in_err-add_text-in-And.ensures))

pub formula-returns-in_ok-add_text-in-And : goal.formula-returns-in_ok-add_text-in-And
formula-returns-in_ok-add_text-in-And g t c =
    adds_as (and_text c.args.features.now _ _ _ _ _ c.in-And.is c.get-in-And.ensures c.get-in-And-2.ensures)
    (adds_then c.in_ok-operand-in-And.ensures (adds_then c.in_ok-add_text-in-And.ensures c.operand-in-And-2.ensures))

pub formula-returns-in_err-operand-in-Or : goal.formula-returns-in_err-operand-in-Or
formula-returns-in_err-operand-in-Or g t c =
    adds_as (or_text c.args.features.now _ _ _ _ _ c.in-Or.is c.get-in-Or.ensures refl) (adds_failed _ c.from_residual-in_err-operand-in-Or.result c.from_residual-in_err-operand-in-Or.ensures.0 c.in_err-operand-in-Or.ensures)

pub formula-returns-in_err-add_text-in-Or : goal.formula-returns-in_err-add_text-in-Or
formula-returns-in_err-add_text-in-Or g t c =
    adds_as (or_text c.args.features.now _ _ _ _ _ c.in-Or.is c.get-in-Or.ensures refl)
    (adds_then c.in_ok-operand-in-Or.ensures (adds_failed _ c.from_residual-in_err-add_text-in-Or.result c.from_residual-in_err-add_text-in-Or.ensures.0 c.in_err-add_text-in-Or.ensures))

pub formula-returns-in_ok-add_text-in-Or : goal.formula-returns-in_ok-add_text-in-Or
formula-returns-in_ok-add_text-in-Or g t c =
    adds_as (or_text c.args.features.now _ _ _ _ _ c.in-Or.is c.get-in-Or.ensures c.get-in-Or-2.ensures)
    (adds_then c.in_ok-operand-in-Or.ensures (adds_then c.in_ok-add_text-in-Or.ensures c.operand-in-Or-2.ensures))

pub formula-returns-in_err-operand-in-Implies : goal.formula-returns-in_err-operand-in-Implies
formula-returns-in_err-operand-in-Implies g t c =
    adds_as (implies_text c.args.features.now _ _ _ _ _ c.in-Implies.is c.get-in-Implies.ensures refl) (adds_failed _ c.from_residual-in_err-operand-in-Implies.result c.from_residual-in_err-operand-in-Implies.ensures.0 c.in_err-operand-in-Implies.ensures)

pub formula-returns-in_err-add_text-in-Implies : goal.formula-returns-in_err-add_text-in-Implies
formula-returns-in_err-add_text-in-Implies g t c =
    adds_as (implies_text c.args.features.now _ _ _ _ _ c.in-Implies.is c.get-in-Implies.ensures refl)
    (adds_then c.in_ok-operand-in-Implies.ensures (adds_failed _ c.from_residual-in_err-add_text-in-Implies.result c.from_residual-in_err-add_text-in-Implies.ensures.0 c.in_err-add_text-in-Implies.ensures))

pub formula-returns-in_ok-add_text-in-Implies : goal.formula-returns-in_ok-add_text-in-Implies
formula-returns-in_ok-add_text-in-Implies g t c =
    adds_as (implies_text c.args.features.now _ _ _ _ _ c.in-Implies.is c.get-in-Implies.ensures c.get-in-Implies-2.ensures)
    (adds_then c.in_ok-operand-in-Implies.ensures (adds_then c.in_ok-add_text-in-Implies.ensures c.operand-in-Implies-2.ensures))

pub formula-returns-in_err-operand-in-Iff : goal.formula-returns-in_err-operand-in-Iff
formula-returns-in_err-operand-in-Iff g t c =
    adds_as (iff_text c.args.features.now _ _ _ _ _ c.in-Iff.is c.get-in-Iff.ensures refl) (adds_failed _ c.from_residual-in_err-operand-in-Iff.result c.from_residual-in_err-operand-in-Iff.ensures.0 c.in_err-operand-in-Iff.ensures)

pub formula-returns-in_err-add_text-in-Iff : goal.formula-returns-in_err-add_text-in-Iff
formula-returns-in_err-add_text-in-Iff g t c =
    adds_as (iff_text c.args.features.now _ _ _ _ _ c.in-Iff.is c.get-in-Iff.ensures refl)
    (adds_then c.in_ok-operand-in-Iff.ensures (adds_failed _ c.from_residual-in_err-add_text-in-Iff.result c.from_residual-in_err-add_text-in-Iff.ensures.0 c.in_err-add_text-in-Iff.ensures))

pub formula-returns-in_ok-add_text-in-Iff : goal.formula-returns-in_ok-add_text-in-Iff
formula-returns-in_ok-add_text-in-Iff g t c =
    adds_as (iff_text c.args.features.now _ _ _ _ _ c.in-Iff.is c.get-in-Iff.ensures c.get-in-Iff-2.ensures)
    (adds_then c.in_ok-operand-in-Iff.ensures (adds_then c.in_ok-add_text-in-Iff.ensures c.operand-in-Iff-2.ensures))

pub operand-returns-in_err-add_text : goal.operand-returns-in_err-add_text
operand-returns-in_err-add_text g t c =
    adds_as (bracketed c.args.least c.level.result _ (c.level.ensures c.args.features.now) c.if-level-least.true)
    (adds_failed _ c.from_residual.result c.from_residual.ensures.0 c.in_err-add_text.ensures)

pub operand-returns-in_err-formula : goal.operand-returns-in_err-formula
operand-returns-in_err-formula g t c =
    adds_as (bracketed c.args.least c.level.result _ (c.level.ensures c.args.features.now) c.if-level-least.true)
    (adds_then c.in_ok-add_text.ensures (adds_failed _ c.from_residual-in_err-formula.result c.from_residual-in_err-formula.ensures.0 c.in_err-formula.ensures))

pub operand-returns-in_ok-formula : goal.operand-returns-in_ok-formula
operand-returns-in_ok-formula g t c =
    adds_as (bracketed c.args.least c.level.result _ (c.level.ensures c.args.features.now) c.if-level-least.true)
    (adds_then c.in_ok-add_text.ensures (adds_then c.in_ok-formula.ensures c.add_text-then-level-least.ensures))

pub operand-returns-else-level-least : goal.operand-returns-else-level-least
operand-returns-else-level-least g t c =
    adds_as (unbracketed c.args.least c.level.result _ (c.level.ensures c.args.features.now) c.if-level-least.false) c.formula-else-level-least.ensures
