-- Constraints, one more at a time.
use Rattle.std.proofs.Common.{◌≡◌, ℕ, ◌+◌, ◌<◌, Bool, true, false, ◌&&◌, List, take, get_or, length, IsTrue, refl, sym, ◌∙◌, ap, subst}
use Rattle.std.specs.List.{list_all}
use Rattle.std.proofs.lemmas.List.Folds.{list_all_more, list_all_at}
use Rattle.cfj_logic.specs.Formulas.{truth, is_over}
use Rattle.cfj_logic.specs.declared.formula.Formula.{Formula}
use Rattle.cond_circuit.specs.Gates.{Gates, Grown, Is, value}

-- the gate of the constraints before a place, and the one there, are the gate of those up to it
pub worth_more : (old new : Gates) (all g : ℕ) (xs : List Formula) (i : ℕ) (x : Formula) → i < length xs → x ≡ get_or xs i x → Is old all (λ s. list_all (truth s) (take i xs)) →
    Is new g (λ s. value s old.parts all && truth s x) → Is new g (λ s. list_all (truth s) (take (i + 1) xs))
worth_more old new all g xs i x within there before is =
    record {
      inside = is.inside;
      worth = λ s.
          is.worth s
          ∙ ap (λ b. b && truth s x) (before.worth s)
          ∙ ap (λ y. list_all (truth s) (take i xs) && truth s y) there
          ∙ sym (list_all_more (truth s) xs i x within);
    }

not_false : (b : Bool) → (b ≡ false → ⊥) → b ≡ true
not_false true h = refl
not_false false h = absurd (h refl)

apart : (b : Bool) → b ≡ true → b ≡ false → ⊥
apart b yes_is no_is =
    let same : true ≡ false = sym yes_is ∙ no_is in
    cc same

-- a constraint over the model's features is over those of the circuit
pub over_here : (old new : Gates) (n : ℕ) (xs : List Formula) (i : ℕ) (x : Formula) → old.features ≡ n → Grown old new → i < length xs → x ≡ get_or xs i x →
    IsTrue (list_all (is_over n) xs) → IsTrue (is_over new.features x)
over_here old new n xs i x few grown within there all =
    subst (λ m. IsTrue (is_over m x)) (sym (grown.features ∙ few))
    (not_false (is_over n x) (λ fails. apart (list_all (is_over n) xs) all (list_all_at (is_over n) xs i x within (ap (is_over n) (sym there) ∙ fails))))
