-- The variables of a gate's clauses are numbered below their count.
use Rattle.std.proofs.Common.{◌≡◌, ℕ, zero, suc, ◌+◌, ◌<◌, ◌≤◌, inl, inr, ◌↔◌, Bool, true, false, List, [], ◌∷◌, ◌++◌, length, refl, sym, ◌∙◌, ap, subst, arith}
use Rattle.std.specs.Prelude.{All}
use Rattle.std.proofs.lemmas.Bool.{cond-true, cond-false}
use Rattle.std.proofs.lemmas.List.Elements.{All-append, All-cons}
use Rattle.cfj_logic.specs.declared.clauses.Literal.{Literal}
use Rattle.cfj_logic.specs.declared.clauses.Clauses.{Clauses}
use Rattle.cfj_logic.specs.Selections.{Chosen}
use Rattle.cfj_logic.specs.Logs.{AreBelow, AreWellFormed}
use Rattle.cond_circuit.specs.Gates.{Gates, IsCircuit}
use Rattle.cond_circuit.specs.declared.part.Part.{Part}
use Rattle.cond_circuit.specs.declared.part.Part.TheVariants.{Zero, One, Feat, Not, And, Or}
use Rattle.cnf_form.specs.Reaching.{IsOperand, Reaches}
use Rattle.cnf_form.specs.GateClauses.{is_inner, part_of, own_below, variable, variable_of, literal, part_clauses, gate_clauses, clauses_below, AreClausesFor, AreClausesOf}
use Rattle.cnf_form.proofs.Tables.{both}
use Rattle.cnf_form.proofs.Extending.{Kind, kind, between, stand, operand_reached, own_grows, top_reached}

none : {X : Type 0} (P : X → Type 0) → All P []
none P k d less = absurd (omega arith)

pair_below : (n x y : ℕ) (b d : Bool) → x < n → y < n → AreBelow n (literal x b ∷ (literal y d ∷ []))
pair_below n x y b d lx ly =
    let P = λ (l : Literal). l.var < n in
    All-cons P (literal x b) (literal y d ∷ []) lx (All-cons P (literal y d) [] ly (none P))

triple_below : (n x y z : ℕ) (b d e : Bool) → x < n → y < n → z < n → AreBelow n (literal x b ∷ (literal y d ∷ (literal z e ∷ [])))
triple_below n x y z b d e lx ly lz = All-cons (λ (l : Literal). l.var < n) (literal x b) (literal y d ∷ (literal z e ∷ [])) lx (pair_below n y z d e ly lz)

two : (n : ℕ) (x y : List Literal) → AreBelow n x → AreBelow n y → All (AreBelow n) (x ∷ (y ∷ []))
two n x y hx hy = All-cons (AreBelow n) x (y ∷ []) hx (All-cons (AreBelow n) y [] hy (none (AreBelow n)))

part_below : (n : ℕ) (w : ℕ → ℕ) (x : ℕ) (p : Part) → x < n → ((a : ℕ) → IsOperand a p → w a < n) → All (AreBelow n) (part_clauses w x p)
part_below n w x Zero lx lw = none (AreBelow n)
part_below n w x One lx lw = none (AreBelow n)
part_below n w x (Feat f) lx lw = none (AreBelow n)
part_below n w x (Not a) lx lw =
    two n (literal x true ∷ (literal (w a) true ∷ [])) (literal x false ∷ (literal (w a) false ∷ []))
    (pair_below n x (w a) true true lx (lw a refl)) (pair_below n x (w a) false false lx (lw a refl))
part_below n w x (And a b) lx lw =
    let la = lw a (inl refl) in
    let lb = lw b (inr refl) in
    let right = literal x false ∷ (literal (w b) true ∷ []) in
    let last = literal x true ∷ (literal (w a) false ∷ (literal (w b) false ∷ [])) in
    All-cons (AreBelow n) (literal x false ∷ (literal (w a) true ∷ [])) (right ∷ (last ∷ [])) (pair_below n x (w a) false true lx la)
    (two n right last (pair_below n x (w b) false true lx lb) (triple_below n x (w a) (w b) true false false lx la lb))
part_below n w x (Or a b) lx lw =
    let la = lw a (inl refl) in
    let lb = lw b (inr refl) in
    let right = literal x true ∷ (literal (w b) false ∷ []) in
    let last = literal x false ∷ (literal (w a) true ∷ (literal (w b) true ∷ [])) in
    All-cons (AreBelow n) (literal x true ∷ (literal (w a) false ∷ [])) (right ∷ (last ∷ [])) (pair_below n x (w a) true false lx la)
    (two n right last (pair_below n x (w b) true false lx lb) (triple_below n x (w a) (w b) false true true lx la lb))

module _ (c : Gates) (k : IsCircuit c.features c.parts) (top : ℕ) (least : 2 ≤ top) (within : top < length c.parts)
    (r : ℕ → Bool) (exact : (g : ℕ) → (r g ≡ true) ↔ Reaches c.parts top g) (s : Chosen) where
  -- a gate's variable is a feature, or the next behind those of the gates below
  pub variable_before : (g h : ℕ) → r g ≡ true → g < h → variable_of r c g < c.features + own_below r c.parts h
  variable_before g h e less = go (part_of c.parts g) refl (kind c.features g (part_of c.parts g) (between c k top least within r exact s g e).0 (stand c k top least within r exact s g e))
    where
      go : (p : Part) → part_of c.parts g ≡ p → Kind c.features g p → variable_of r c g < c.features + own_below r c.parts h
      go _ is (Kind.feature f lower) =
          let v : variable_of r c g ≡ f = ap (λ q. variable q (c.features + own_below r c.parts g)) is in
          omega arith
      go p is (Kind.inner _ i number) =
          let v : variable_of r c g ≡ c.features + own_below r c.parts g = ap (λ q. variable q (c.features + own_below r c.parts g)) is ∙ number (c.features + own_below r c.parts g) in
          let grows = own_grows c k top least within r exact s g h (both (r g) (is_inner (part_of c.parts g)) e (ap is_inner is ∙ i)) less in
          omega arith

  gate_below : (n g : ℕ) → ((h : ℕ) → r h ≡ true → variable_of r c h < n) → All (AreBelow n) (gate_clauses r c g)
  gate_below n g each = go (r g) refl
    where
      go : (b : Bool) → r g ≡ b → All (AreBelow n) (gate_clauses r c g)
      go true e =
          subst (All (AreBelow n)) (sym (cond-true (r g) (part_clauses (variable_of r c) (variable_of r c g) (part_of c.parts g)) [] e))
          (part_below n (variable_of r c) (variable_of r c g) (part_of c.parts g) (each g e) (λ a o. each a (operand_reached c k top least within r exact s g a e o)))
      go false e = subst (All (AreBelow n)) (sym (cond-false (r g) (part_clauses (variable_of r c) (variable_of r c g) (part_of c.parts g)) [] e)) (none (AreBelow n))

  all_below : (n j : ℕ) → ((h : ℕ) → r h ≡ true → variable_of r c h < n) → All (AreBelow n) (clauses_below r c j)
  all_below n zero each = none (AreBelow n)
  all_below n (suc j) each = All-append (AreBelow n) (clauses_below r c j) (gate_clauses r c j) (all_below n j each) (gate_below n j each)

  pub list_below : All (AreBelow (c.features + own_below r c.parts (top + 1))) (clauses_below r c (top + 1) ++ (literal (variable_of r c top) true ∷ []) ∷ [])
  list_below =
      let n = c.features + own_below r c.parts (top + 1) in
      let each : (h : ℕ) → r h ≡ true → variable_of r c h < n = λ h e. variable_before h (top + 1) e (omega (arith, (between c k top least within r exact s h e).1)) in
      All-append (AreBelow n) (clauses_below r c (top + 1)) ((literal (variable_of r c top) true ∷ []) ∷ []) (all_below n (top + 1) each)
      (All-cons (AreBelow n) (literal (variable_of r c top) true ∷ []) [] (All-cons (λ (l : Literal). l.var < n) (literal (variable_of r c top) true) [] (each top (top_reached c k top least within r exact s)) (none (λ (l : Literal). l.var < n))) (none (AreBelow n)))

formed_for : (c : Gates) → IsCircuit c.features c.parts → (top : ℕ) → 2 ≤ top → top < length c.parts → (out : Clauses) → AreClausesFor c top out → AreWellFormed out
formed_for c k top least within out a = record {
  few = omega (arith, k.few, a.features);
  features = omega (arith, a.features, a.vars);
  literals = subst (λ n. All (AreBelow n) out.list) (sym a.vars) (subst (All (AreBelow (c.features + own_below a.reached c.parts (top + 1)))) (sym a.list)
      (list_below c k top least within a.reached a.exact (record { features = 0; on = 0 })));
}

pub are_formed : (c : Gates) → IsCircuit c.features c.parts → (top : ℕ) → top < length c.parts → (out : Clauses) → AreClausesOf c top out → AreWellFormed out
are_formed c k zero within out a = subst (λ (o : Clauses). AreWellFormed o) (sym a) (record { few = k.few; features = omega arith; literals = All-cons (AreBelow c.features) [] [] (none (λ (l : Literal). l.var < c.features)) (none (AreBelow c.features)) })
are_formed c k (suc zero) within out a = subst (λ (o : Clauses). AreWellFormed o) (sym a) (record { few = k.few; features = omega arith; literals = none (AreBelow c.features) })
are_formed c k (suc (suc g)) within out a = formed_for c k (suc (suc g)) (omega arith) within out a
