use Rattle.std.proofs.Common.{◌≡◌, refl, ◌∙◌, ℕ, ◌<◌, Bool, true, false, List, length, slice_index_or, arith, ap}
use Rattle.std.specs.List.{list_all}
use Rattle.std.proofs.lemmas.Bool.{and_parts}
use Rattle.std.proofs.lemmas.List.Folds.{list_all_at}
use Rattle.cfj_logic.specs.declared.formula.Formula.{Formula}
use Rattle.cfj_logic.specs.Formulas.{is_over}
use Rattle.cfj_model.specs.Print.{constraint_text}
use Rattle.cfj_model.specs.ProductLines.{is_constraint}
use Rattle.fj_printer.proofs.Composing.{adds_more, adds_stopped}
use Rattle.fj_printer.proofs.Lists.{texts_more, texts_there}
use Rattle.fj_printer.proofs.formulas.constraint_lines.Goals as goal

passes : (p : Formula → Bool) (xs : List Formula) (i : ℕ) (x : Formula) → i < length xs → list_all p xs ≡ true → x ≡ slice_index_or xs i x → p x ≡ true
passes p xs i x lt all here = ap p here ∙ go (p (slice_index_or xs i x)) refl
  where
    go : (b : Bool) → p (slice_index_or xs i x) ≡ b → p (slice_index_or xs i x) ≡ true
    go true e = e
    go false e = absurd (let none = list_all_at p xs i x lt e in let no : ⊥ = cc (none, all) in no)

pub constraint-requires : goal.constraint-requires
constraint-requires g c =
    let n = length c.args.features.now in
    (and_parts (is_over n c.item-item.result) _ (passes (is_constraint n) c.args.constraints.now c.constraints.item-index c.item-item.result c.constraints-test.true c.requires c.item-item.is)).0

pub returns-in_err-constraint : goal.returns-in_err-constraint
returns-in_err-constraint g c =
    adds_stopped _ c.from_residual.result c.from_residual.ensures.0 c.constraints.invariant c.in_err-constraint.ensures
    (texts_there (constraint_text c.args.features.now) c.args.constraints.now c.constraints.item-index _ _ (omega arith) (ap (constraint_text c.args.features.now) c.item-item.is))

pub constraints-preserved : goal.constraints-preserved
constraints-preserved g c =
    adds_more c.constraints.invariant c.in_ok-constraint.ensures
    (texts_more (constraint_text c.args.features.now) c.args.constraints.now c.constraints.item-index _ _ (omega arith) (ap (constraint_text c.args.features.now) c.item-item.is))
