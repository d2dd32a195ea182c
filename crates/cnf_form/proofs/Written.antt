-- The clauses and variables written so far.
use Rattle.std.proofs.Common.{◌≡◌, ℕ, zero, suc, ◌+◌, ◌<◌, ◌≤◌, Bool, true, false, ◌&&◌, cond, List, [], ◌∷◌, ◌++◌, length, get_or, refl, sym, ◌∙◌, ap, ap₂, arith, add-one, add_assoc, length-append, ◌⊎◌, inl, inr}
use Rattle.cfj_logic.specs.declared.clauses.Literal.{Literal}
use Rattle.cond_circuit.specs.Gates.{Gates}
use Rattle.cond_circuit.specs.declared.part.Part.{Part}
use Rattle.cond_circuit.specs.declared.part.Part.TheVariants.{Zero, One, Feat, Not, And, Or}
use Rattle.cnf_form.specs.Reaching.{AreBelow}
use Rattle.cnf_form.proofs.Marking.{read_within}
use Rattle.cnf_form.specs.GateClauses.{has_own, is_inner, part_of, own_below, variable, variable_of, literal, part_clauses, gate_clauses, clauses_below}
use Rattle.std.proofs.lemmas.List.{get_or_append_left}
use Rattle.std.proofs.Math.Seq.{get_or-append_seam}

-- the variables of the gates below this one
abbrev pub variables_below : (ℕ → Bool) → Gates → ℕ → List ℕ
variables_below reached c zero = []
variables_below reached c (suc g) = variables_below reached c g ++ variable_of reached c g ∷ []

pub length-variables_below : (reached : ℕ → Bool) (c : Gates) (g : ℕ) → length (variables_below reached c g) ≡ g
length-variables_below reached c zero = refl
length-variables_below reached c (suc g) = omega (arith, length-append (variables_below reached c g) (variable_of reached c g ∷ []), length-variables_below reached c g)

pub variables_at : (reached : ℕ → Bool) (c : Gates) (g a : ℕ) → a < g → get_or (variables_below reached c g) a 0 ≡ variable_of reached c a
variables_at reached c zero a below = absurd (omega arith)
variables_at reached c (suc g) a below = go (last_or_less a g below) (variables_at reached c g a)
  where
    last_or_less : (a g : ℕ) → a < suc g → (a < g) ⊎ (a ≡ g)
    last_or_less a g below = grind arith

    go : (a < g) ⊎ (a ≡ g) → (a < g → get_or (variables_below reached c g) a 0 ≡ variable_of reached c a) → get_or (variables_below reached c (suc g)) a 0 ≡ variable_of reached c a
    go (inl less) before =
        get_or_append_left (variables_below reached c g) (variable_of reached c g ∷ []) 0 a (omega (arith, length-variables_below reached c g)) ∙ before less
    go (inr same) before =
        let last : a ≡ length (variables_below reached c g) = omega (arith, length-variables_below reached c g) in
        ap (λ k. get_or (variables_below reached c g ++ variable_of reached c g ∷ []) k 0) last
        ∙ get_or-append_seam (variables_below reached c g) (variable_of reached c g) [] 0
        ∙ ap (variable_of reached c) (sym same)

pub own_below-le : (reached : ℕ → Bool) (ps : List Part) (g : ℕ) → own_below reached ps g ≤ g
own_below-le reached ps zero = omega arith
own_below-le reached ps (suc g) = go (has_own reached ps g) (own_below-le reached ps g)
  where
    go : (b : Bool) → own_below reached ps g ≤ g → own_below reached ps g + cond b 1 0 ≤ suc g
    go true h = omega arith
    go false h = omega arith

-- the clauses don't change where the operands' variables are the same
part_clauses_same : (v w : ℕ → ℕ) (x g : ℕ) (p : Part) → AreBelow g p → ((a : ℕ) → a < g → v a ≡ w a) → part_clauses v x p ≡ part_clauses w x p
part_clauses_same v w x g Zero below same = refl
part_clauses_same v w x g One below same = refl
part_clauses_same v w x g (Feat f) below same = refl
part_clauses_same v w x g (Not a) below same =
    ap (λ y. (literal x true ∷ (literal y true ∷ [])) ∷ ((literal x false ∷ (literal y false ∷ [])) ∷ [])) (same a below)
part_clauses_same v w x g (And a b) below same =
    ap₂ (λ y z. (literal x false ∷ (literal y true ∷ [])) ∷ ((literal x false ∷ (literal z true ∷ [])) ∷ ((literal x true ∷ (literal y false ∷ (literal z false ∷ []))) ∷ [])))
    (same a below.0) (same b below.1)
part_clauses_same v w x g (Or a b) below same =
    ap₂ (λ y z. (literal x true ∷ (literal y false ∷ [])) ∷ ((literal x true ∷ (literal z false ∷ [])) ∷ ((literal x false ∷ (literal y true ∷ (literal z true ∷ []))) ∷ [])))
    (same a below.0) (same b below.1)

-- what is written before gate g
pub record Written (reached : ℕ → Bool) (c : Gates) (g : ℕ) (list : List (List Literal)) (variables : List ℕ) (vars : ℕ) : Type 0 where
  pub clauses : list ≡ clauses_below reached c g
  pub numbers : variables ≡ variables_below reached c g
  pub count : vars ≡ c.features + own_below reached c.parts g
  pub many : length variables ≡ g
  pub few : vars ≤ c.features + g

pub written_none : (reached : ℕ → Bool) (c : Gates) → Written reached c 0 [] [] c.features
written_none reached c = record { clauses = refl; numbers = refl; count = omega arith; many = refl; few = omega arith }

pub written_more : (reached : ℕ → Bool) (c : Gates) (g : ℕ) (list new : List (List Literal)) (variables : List ℕ) (vars x own : ℕ) (b : Bool) (p : Part) → Written reached c g list variables vars → AreBelow g p →
    p ≡ part_of c.parts g → b ≡ reached g → x ≡ variable p vars → own ≡ cond (b && is_inner p) 1 0 →
    new ≡ list ++ cond b (part_clauses (λ a. get_or variables a 0) x p) [] → Written reached c (g + 1) new (variables ++ x ∷ []) (vars + own)
written_more reached c g list new variables vars x own b p w below ep eb ex eo en = record {
  clauses = en ∙ ap₂ (λ l d. l ++ d) w.clauses added ∙ sym (ap (clauses_below reached c) (add-one g));
  numbers = ap₂ (λ l y. l ++ y ∷ []) w.numbers number ∙ sym (ap (variables_below reached c) (add-one g));
  count = ap₂ (λ k l. k + l) w.count owned ∙ add_assoc c.features (own_below reached c.parts g) (cond (has_own reached c.parts g) 1 0) ∙ ap (λ k. c.features + k) (sym (ap (own_below reached c.parts) (add-one g)));
  many = omega (arith, length-append variables (x ∷ []), w.many);
  few = omega (arith, w.few, eo, at_most_one (b && is_inner p));
}
  where
    at_most_one : (d : Bool) → cond d 1 0 ≤ 1
    at_most_one true = omega arith
    at_most_one false = omega arith

    number : x ≡ variable_of reached c g
    number = ex ∙ ap₂ variable ep w.count

    owned : own ≡ cond (has_own reached c.parts g) 1 0
    owned = eo ∙ ap₂ (λ d q. cond (d && is_inner q) 1 0) eb ep

    operands : (a : ℕ) → a < g → get_or variables a 0 ≡ variable_of reached c a
    operands a less = ap (λ l. get_or l a 0) w.numbers ∙ variables_at reached c g a less

    added : cond b (part_clauses (λ a. get_or variables a 0) x p) [] ≡ gate_clauses reached c g
    added =
        ap₂ (λ d l. cond d l []) eb (part_clauses_same (λ a. get_or variables a 0) (variable_of reached c) x g p below operands)
        ∙ ap₂ (λ y q. cond (reached g) (part_clauses (variable_of reached c) y q) []) number ep

-- all clauses, with that of the gate itself
pub written_done : (reached : ℕ → Bool) (c : Gates) (g top : ℕ) (list new : List (List Literal)) (variables : List ℕ) (vars y : ℕ) → Written reached c g list variables vars → g ≡ top + 1 → y ≡ get_or variables top y →
    new ≡ list ++ (literal y true ∷ []) ∷ [] → new ≡ clauses_below reached c (top + 1) ++ (literal (variable_of reached c top) true ∷ []) ∷ []
written_done reached c g top list new variables vars y w end ey en =
    let last : top < g = omega arith in
    let is : y ≡ variable_of reached c top =
    sym (read_within variables top y 0 (omega (arith, w.many)) ey) ∙ ap (λ l. get_or l top 0) w.numbers ∙ variables_at reached c g top last in
    en ∙ ap₂ (λ l z. l ++ (literal z true ∷ []) ∷ []) (w.clauses ∙ ap (clauses_below reached c) end) is
