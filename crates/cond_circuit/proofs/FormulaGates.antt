-- The gates of a formula's parts, taken together.
use Rattle.std.proofs.Common.{◌≡◌, ℕ, ◌<◌, Bool, true, false, not, ◌&&◌, ◌||◌, cond, IsTrue, length, Result, Ok, Err, IfOk, refl, sym, ◌∙◌, ap, ap₂, subst}
use Rattle.cfj_logic.specs.declared.formula.Formula.{Formula}
use Rattle.cfj_logic.specs.declared.formula.Formula.TheVariants as f
use Rattle.cfj_logic.specs.Formulas.{truth, truth_step, is_over, is_over_step}
use Rattle.cfj_logic.specs.Selections.{Chosen}
use Rattle.cfj_logic.proofs.FormulaCases.{fold_and, fold_or, fold_implies, fold_iff}
use Rattle.cond_circuit.specs.Folding.{not_gate, and_gate, or_gate, implies_gate, iff_gate}
use Rattle.cond_circuit.specs.Gates.{Gates, Grown, Is, value}
use Rattle.cond_circuit.proofs.ValueLemmas.{Grown-trans, Grown-value, Is-grown}

-- two conditions that are one
pub same_worth : {E : Type 0} (r : Result ℕ E) (new : Gates) (v w : Chosen → Bool) → ((s : Chosen) → v s ≡ w s) → IfOk r (λ g. Is new g v) → IfOk r (λ g. Is new g w)
same_worth (Ok g) new v w same is = record { inside = is.inside; worth = λ s. is.worth s ∙ same s }
same_worth (Err e) new v w same is = tt

-- an operation on two gates of known values
pub two_worth : {E : Type 0} (r : Result ℕ E) (last new : Gates) (a b : ℕ) (op : Bool → Bool → Bool) (v w : Chosen → Bool) → ((s : Chosen) → value s last.parts a ≡ v s) → ((s : Chosen) → value s last.parts b ≡ w s) →
    IfOk r (λ g. Is new g (λ s. op (value s last.parts a) (value s last.parts b))) → IfOk r (λ g. Is new g (λ s. op (v s) (w s)))
two_worth r last new a b op v w left right = same_worth r new (λ s. op (value s last.parts a) (value s last.parts b)) (λ s. op (v s) (w s)) (λ s. ap₂ op (left s) (right s))

-- an operation on the gates of two formulas
pub operands_worth : {E : Type 0} (r : Result ℕ E) (mid last new : Gates) (a b : ℕ) (op : Bool → Bool → Bool) (x y z : Formula) → Is mid a (λ s. truth s x) → Grown mid last → Is last b (λ s. truth s y) →
    ((s : Chosen) → truth s z ≡ op (truth s x) (truth s y)) → IfOk r (λ g. Is new g (λ s. op (value s last.parts a) (value s last.parts b))) → IfOk r (λ g. Is new g (λ s. truth s z))
operands_worth r mid last new a b op x y z left grown right means h =
    same_worth r new (λ s. op (truth s x) (truth s y)) (λ s. truth s z) (λ s. sym (means s))
    (two_worth r last new a b op (λ s. truth s x) (λ s. truth s y) (Is-grown mid last a (λ s. truth s x) grown left).worth right.worth h)

pub truth_and : (s : Chosen) (x y : Formula) → truth s (f.And x y) ≡ (truth s x && truth s y)
truth_and s x y = fold_and Bool (truth_step s) x y

pub truth_or : (s : Chosen) (x y : Formula) → truth s (f.Or x y) ≡ (truth s x || truth s y)
truth_or s x y = fold_or Bool (truth_step s) x y

pub truth_implies : (s : Chosen) (x y : Formula) → truth s (f.Implies x y) ≡ (not (truth s x) || truth s y)
truth_implies s x y = fold_implies Bool (truth_step s) x y

pub truth_iff : (s : Chosen) (x y : Formula) → truth s (f.Iff x y) ≡ cond (truth s x) (truth s y) (not (truth s y))
truth_iff s x y = fold_iff Bool (truth_step s) x y

right_true : (x y : Bool) → (x && y) ≡ true → y ≡ true
right_true true y e = e
right_true false y e = absurd (let no : ⊥ = cc e in no)

-- the second operand is over the features of the circuit that has the first one's gate
pub over_right : (old new : Gates) (x y z : Formula) → Grown old new → is_over old.features z ≡ (is_over old.features x && is_over old.features y) → IsTrue (is_over old.features z) → IsTrue (is_over new.features y)
over_right old new x y z grown parts over =
    subst (λ n. IsTrue (is_over n y)) (sym grown.features) (right_true (is_over old.features x) (is_over old.features y) (sym parts ∙ over))

pub over_and : (n : ℕ) (x y : Formula) → is_over n (f.And x y) ≡ (is_over n x && is_over n y)
over_and n x y = fold_and Bool (is_over_step n) x y

pub over_or : (n : ℕ) (x y : Formula) → is_over n (f.Or x y) ≡ (is_over n x && is_over n y)
over_or n x y = fold_or Bool (is_over_step n) x y

pub over_implies : (n : ℕ) (x y : Formula) → is_over n (f.Implies x y) ≡ (is_over n x && is_over n y)
over_implies n x y = fold_implies Bool (is_over_step n) x y

pub over_iff : (n : ℕ) (x y : Formula) → is_over n (f.Iff x y) ≡ (is_over n x && is_over n y)
over_iff n x y = fold_iff Bool (is_over_step n) x y

-- ---- implies and iff

pub implies_placed : {E : Type 0} (r : Result ℕ E) (c d new : Gates) (a b n : ℕ) → (d, n) ≡ not_gate a c → IfOk r (λ g. (new, g) ≡ or_gate n b d) → IfOk r (λ g. (new, g) ≡ implies_gate a b c)
unfolding implies_gate
implies_placed (Ok g) c d new a b n e h = h ∙ ap (λ (p : Gates × ℕ). or_gate p.1 b p.0) e
implies_placed (Err x) c d new a b n e h = tt

pub implies_worth : {E : Type 0} (r : Result ℕ E) (c d new : Gates) (a b n : ℕ) → Grown c d → b < length c.parts → Is d n (λ s. not (value s c.parts a)) →
    IfOk r (λ g. Is new g (λ s. value s d.parts n || value s d.parts b)) → IfOk r (λ g. Is new g (λ s. not (value s c.parts a) || value s c.parts b))
implies_worth r c d new a b n grown inside fails =
    two_worth r d new n b (λ x y. x || y) (λ s. not (value s c.parts a)) (λ s. value s c.parts b) fails.worth (λ s. Grown-value c d s b grown inside)

pub iff_placed : {E : Type 0} (r : Result ℕ E) (c0 c1 c2 c3 c4 new : Gates) (a b both left right neither : ℕ) →
    (c1, both) ≡ and_gate a b c0 → (c2, left) ≡ not_gate a c1 → (c3, right) ≡ not_gate b c2 → (c4, neither) ≡ and_gate left right c3 →
    IfOk r (λ g. (new, g) ≡ or_gate both neither c4) → IfOk r (λ g. (new, g) ≡ iff_gate a b c0)
unfolding iff_gate
iff_placed (Ok g) c0 c1 c2 c3 c4 new a b both left right neither e1 e2 e3 e4 h =
    h
    ∙ ap (λ (p : Gates × ℕ). or_gate both p.1 p.0) e4
    ∙ ap (λ (p : Gates × ℕ). let n = and_gate left p.1 p.0 in or_gate both n.1 n.0) e3
    ∙ ap (λ (p : Gates × ℕ). let r = not_gate b p.0 in let n = and_gate p.1 r.1 r.0 in or_gate both n.1 n.0) e2
    ∙ ap (λ (p : Gates × ℕ). let l = not_gate a p.0 in let r = not_gate b l.0 in let n = and_gate l.1 r.1 r.0 in or_gate p.1 n.1 n.0) e1
iff_placed (Err x) c0 c1 c2 c3 c4 new a b both left right neither e1 e2 e3 e4 h = tt

iff_table : (x y : Bool) → ((x && y) || (not x && not y)) ≡ cond x y (not y)
iff_table true true = refl
iff_table true false = refl
iff_table false true = refl
iff_table false false = refl

pub iff_worth : {E : Type 0} (r : Result ℕ E) (c0 c1 c2 c3 c4 new : Gates) (a b both left right neither : ℕ) → a < length c0.parts → b < length c0.parts →
    Grown c0 c1 → Grown c1 c2 → Grown c2 c3 → Grown c3 c4 →
    Is c1 both (λ s. value s c0.parts a && value s c0.parts b) → Is c2 left (λ s. not (value s c1.parts a)) → Is c3 right (λ s. not (value s c2.parts b)) →
    Is c4 neither (λ s. value s c3.parts left && value s c3.parts right) → IfOk r (λ g. Is new g (λ s. value s c4.parts both || value s c4.parts neither)) →
    IfOk r (λ g. Is new g (λ s. cond (value s c0.parts a) (value s c0.parts b) (not (value s c0.parts b))))
iff_worth r c0 c1 c2 c3 c4 new a b both left right neither la lb g1 g2 g3 g4 w1 w2 w3 w4 h =
    let v = λ (s : Chosen) (g : ℕ). value s c0.parts g in
    let g12 = Grown-trans c0 c1 c2 g1 g2 in
    let g24 = Grown-trans c1 c3 c4 (Grown-trans c1 c2 c3 g2 g3) g4 in
    let holds : (s : Chosen) → value s c4.parts both ≡ (v s a && v s b) = λ s. Grown-value c1 c4 s both g24 w1.inside ∙ w1.worth s in
    let left_fails : (s : Chosen) → value s c3.parts left ≡ not (v s a) = λ s. Grown-value c2 c3 s left g3 w2.inside ∙ w2.worth s ∙ ap not (Grown-value c0 c1 s a g1 la) in
    let right_fails : (s : Chosen) → value s c3.parts right ≡ not (v s b) = λ s. w3.worth s ∙ ap not (Grown-value c0 c2 s b g12 lb) in
    let fail : (s : Chosen) → value s c4.parts neither ≡ (not (v s a) && not (v s b)) = λ s. w4.worth s ∙ ap₂ (λ x y. x && y) (left_fails s) (right_fails s) in
    same_worth r new (λ s. (v s a && v s b) || (not (v s a) && not (v s b))) (λ s. cond (v s a) (v s b) (not (v s b))) (λ s. iff_table (v s a) (v s b))
    (two_worth r c4 new both neither (λ x y. x || y) (λ s. v s a && v s b) (λ s. not (v s a) && not (v s b)) holds fail h)
