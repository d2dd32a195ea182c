-- The clauses of a gate are settled by the features.
use Rattle.std.proofs.Common.{◌≡◌, ℕ, zero, suc, ◌+◌, ◌<◌, ◌≤◌, ◌⊎◌, inl, inr, ◌↔◌, Bool, true, false, List, [], ◌∷◌, ◌++◌, length, Some, slice_get, refl, sym, ◌∙◌, ap, subst, arith}
use Rattle.std.proofs.lemmas.Bool.{cond-true, cond-false}
use Rattle.cfj_logic.specs.declared.clauses.Literal.{Literal}
use Rattle.cfj_logic.specs.declared.clauses.Clauses.{Clauses}
use Rattle.cfj_logic.specs.Selections.{Chosen, is_on, choices}
use Rattle.cfj_words.specs.Lists.{Has}
use Rattle.cfj_logic.specs.UnitClauses.{Values, value_of, IsFalse, with_true, Reaches, Leads}
use Rattle.cfj_logic.specs.Logs.{Assignment, IsModel, fixed, AreSettledByFeatures}
use Rattle.cond_circuit.specs.Gates.{Gates, IsCircuit, value}
use Rattle.cond_circuit.specs.declared.part.Part.{Part}
use Rattle.cond_circuit.specs.declared.part.Part.TheVariants.{Zero, One, Feat, Not, And, Or}
use Rattle.cnf_form.specs.Reaching.{Reaches as ReachesGate}
use Rattle.cnf_form.specs.GateClauses.{is_inner, part_of, has_own, own_below, variable, variable_of, literal, part_clauses, gate_clauses, clauses_below, AreClausesFor, AreClausesOf}
use Rattle.cnf_form.proofs.Tables.{and_left, and_right, by_part, hold_model}
use Rattle.cnf_form.proofs.Extending.{operand_less, value_inner, is_part, stand, operand_reached, own_grows, top_reached, extension, extension_on, extension_agrees, extended_where_true}
use Rattle.cnf_form.proofs.Forming.{variable_before}
use Rattle.cnf_form.proofs.UnitSteps.{Has-left, Has-right, decide, Reaches-trans, Known, known_more, known_features}

-- unit clauses lead from the first values to known ones
record Reached (cs : List (List Literal)) (start : Values) (size upto : ℕ) (m : ℕ → Bool) : Type 0 where
  pub end : Values
  pub reached : Reaches cs start end
  pub known : Known size upto m end

-- the clauses of a gate are among those of the gates below a later one
Has-gate : (r : ℕ → Bool) (c : Gates) (j g : ℕ) (x : List Literal) → g < j → Has (gate_clauses r c g) x → Has (clauses_below r c j) x
Has-gate r c zero g x less h = absurd (omega arith)
Has-gate r c (suc j) g x less h = go (last g j less) (λ before. Has-gate r c j g x before h)
  where
    last : (g j : ℕ) → g < suc j → (g < j) ⊎ (g ≡ j)
    last g j less = grind arith

    go : (g < j) ⊎ (g ≡ j) → (g < j → Has (clauses_below r c j) x) → Has (clauses_below r c (suc j)) x
    go (inl before) rest = Has-left (clauses_below r c j) (gate_clauses r c j) x (rest before)
    go (inr same) rest = Has-right (clauses_below r c j) (gate_clauses r c j) x (subst (λ k. Has (gate_clauses r c k) x) same h)

inner_number : (p : Part) (n : ℕ) → is_inner p ≡ true → variable p n ≡ n
inner_number Zero n i = refl
inner_number One n i = refl
inner_number (Feat f) n i = absurd (let none : ⊥ = cc i in none)
inner_number (Not a) n i = refl
inner_number (And a b) n i = refl
inner_number (Or a b) n i = refl

module _ (c : Gates) (k : IsCircuit c.features c.parts) (top : ℕ) (least : 2 ≤ top) (within : top < length c.parts)
    (r : ℕ → Bool) (exact : (g : ℕ) → (r g ≡ true) ↔ ReachesGate c.parts top g) (s : Chosen) where
  -- all clauses, and how many variables they have
  abbrev all : List (List Literal)
  all = clauses_below r c (top + 1) ++ (literal (variable_of r c top) true ∷ []) ∷ []

  abbrev own : ℕ → ℕ
  own j = own_below r c.parts j

  abbrev size : ℕ
  size = c.features + own (top + 1)

  abbrev values : Assignment
  values = extension c k top least within r exact s

  -- where the features and the gates below are known, a unit clause gives the gate's own variable its value
  gate_step : (start : Values) (g : ℕ) → g < top + 1 → has_own r c.parts g ≡ true → Reached all start size (c.features + own g) values → Reached all start size ((c.features + own g) + 1) values
  gate_step start g less owned before =
      let e : r g ≡ true = and_left (r g) (is_inner (part_of c.parts g)) owned in
      let i : is_inner (part_of c.parts g) ≡ true = and_right (r g) (is_inner (part_of c.parts g)) owned in
      let vs = before.end in
      let x = c.features + own g in
      let st = stand c k top least within r exact s g e in
      let d = decide vs (variable_of r c) x (part_of c.parts g) (value s c.parts) i (before.known.free x (omega arith))
      (λ a o.
      let ra = operand_reached c k top least within r exact s g a e o in
      before.known.known (variable_of r c a) (variable_before c k top least within r exact s a g ra (operand_less c.features g a (part_of c.parts g) st o).1)
      ∙ ap Some (extension_agrees c k top least within r exact s a ra)) in
      let b = by_part (value s c.parts) (part_of c.parts g) in
      let worth : values x ≡ b = worth_of g e i in
      let in_gate : Has (gate_clauses r c g) d.clause = subst (λ l. Has l d.clause) (sym (clauses_of_gate g e i)) d.has in
      let in_all : Has all d.clause = Has-left (clauses_below r c (top + 1)) ((literal (variable_of r c top) true ∷ []) ∷ []) d.clause (Has-gate r c (top + 1) g d.clause less in_gate) in
      record {
        end = with_true vs (literal x b);
        reached = Reaches-trans all start vs (with_true vs (literal x b)) before.reached (Reaches.by_unit vs (with_true vs (literal x b)) d.clause (literal x b) in_all d.unit (Reaches.here (with_true vs (literal x b))));
        known = known_more size x values vs b before.known (space g less owned) worth;
      }
    where
      number : (g : ℕ) → r g ≡ true → is_inner (part_of c.parts g) ≡ true → variable_of r c g ≡ c.features + own g
      number g e i = inner_number (part_of c.parts g) (c.features + own g) i

      worth_of : (g : ℕ) → r g ≡ true → is_inner (part_of c.parts g) ≡ true → values (c.features + own g) ≡ by_part (value s c.parts) (part_of c.parts g)
      worth_of g e i = ap values (sym (number g e i)) ∙ extension_agrees c k top least within r exact s g e ∙ value_inner s c.parts c.features g (part_of c.parts g) i (is_part c k top least within r exact s g e) (stand c k top least within r exact s g e)

      clauses_of_gate : (g : ℕ) → r g ≡ true → is_inner (part_of c.parts g) ≡ true → gate_clauses r c g ≡ part_clauses (variable_of r c) (c.features + own g) (part_of c.parts g)
      clauses_of_gate g e i = cond-true (r g) (part_clauses (variable_of r c) (variable_of r c g) (part_of c.parts g)) [] e ∙ ap (λ x. part_clauses (variable_of r c) x (part_of c.parts g)) (number g e i)

      space : (g : ℕ) → g < top + 1 → has_own r c.parts g ≡ true → c.features + own g < size
      space g less owned = let l = own_grows c k top least within r exact s g (top + 1) owned less in omega arith

  gates_step : (start : Values) (j : ℕ) → j ≤ top + 1 → Reached all start size c.features values → Reached all start size (c.features + own j) values
  gates_step start zero le first = subst (λ n. Reached all start size n values) (let e : c.features ≡ c.features + 0 = omega arith in e) first
  gates_step start (suc j) le first = go (has_own r c.parts j) refl (gates_step start j (omega arith) first)
    where
      go : (b : Bool) → has_own r c.parts j ≡ b → Reached all start size (c.features + own j) values → Reached all start size (c.features + own (suc j)) values
      go true e before =
          let one : own (suc j) ≡ own j + 1 = ap (λ (n : ℕ). own j + n) (cond-true (has_own r c.parts j) 1 0 e) in
          let n : (c.features + own j) + 1 ≡ c.features + own (suc j) = omega (arith, one) in
          subst (λ n. Reached all start size n values) n (gate_step start j (omega arith) e before)
      go false e before =
          let none : own (suc j) ≡ own j + 0 = ap (λ (n : ℕ). own j + n) (cond-false (has_own r c.parts j) 1 0 e) in
          let n : c.features + own j ≡ c.features + own (suc j) = omega (arith, none) in
          subst (λ n. Reached all start size n values) n before

  pub settled_from : s.features ≡ c.features → Leads all (fixed size (choices s)) ⊎ ((end : Values) × Reaches all (fixed size (choices s)) end × ((x : ℕ) → x < size → value_of end x ≡ Some (values x)) × IsModel all values)
  settled_from e =
      let first : Reached all (fixed size (choices s)) size c.features values = record { end = fixed size (choices s); reached = Reaches.here (fixed size (choices s)); known = known_features s size c.features values e (omega arith) (extension_on c k top least within r exact s) } in
      let last = gates_step (fixed size (choices s)) (top + 1) (omega arith) first in
      go (value s c.parts top) refl last
    where
      falsified : (end : Values) → value_of end (variable_of r c top) ≡ Some false → (m : Literal) (j : ℕ) → slice_get (literal (variable_of r c top) true ∷ []) j ≡ Some m → IsFalse end m
      falsified end off m zero is = let q : literal (variable_of r c top) true ≡ m = cc is in subst (IsFalse end) q off
      falsified end off m (suc j) is = absurd (let none : ⊥ = cc is in none)

      go : (b : Bool) → value s c.parts top ≡ b → Reached all (fixed size (choices s)) size size values →
          Leads all (fixed size (choices s)) ⊎ ((end : Values) × Reaches all (fixed size (choices s)) end × ((x : ℕ) → x < size → value_of end x ≡ Some (values x)) × IsModel all values)
      go true e last = inr (last.end, last.reached, last.known.known, hold_model values all (extended_where_true c k top least within r exact s e))
      go false e last =
          let t = top_reached c k top least within r exact s in
          let off : value_of last.end (variable_of r c top) ≡ Some false =
          last.known.known (variable_of r c top) (variable_before c k top least within r exact s top (top + 1) t (omega arith))
          ∙ ap Some (extension_agrees c k top least within r exact s top t ∙ e) in
          inl (record {
            end = last.end;
            reached = last.reached;
            clause = literal (variable_of r c top) true ∷ [];
            has = Has-right (clauses_below r c (top + 1)) ((literal (variable_of r c top) true ∷ []) ∷ []) (literal (variable_of r c top) true ∷ []) (0, refl);
            falsified = λ m h. falsified last.end off m h.0 h.1;
          })

settled_for : (c : Gates) → IsCircuit c.features c.parts → (top : ℕ) → 2 ≤ top → top < length c.parts → (out : Clauses) → AreClausesFor c top out → AreSettledByFeatures out
settled_for c k top least within out a =
    let list = clauses_below a.reached c (top + 1) ++ (literal (variable_of a.reached c top) true ∷ []) ∷ [] in
    let vars = c.features + own_below a.reached c.parts (top + 1) in
    let base : AreSettledByFeatures (record { features = c.features; vars = vars; list = list }) =
    λ s e. elim (settled_from c k top least within a.reached a.exact s e) [
      | inl leads ↦ inl leads
      | inr x ↦ inr (record { values = extension c k top least within a.reached a.exact s; end = x.0; reached = x.1; all = x.2; model = x.3 })
    ] in
    subst (λ l. AreSettledByFeatures (record { features = out.features; vars = out.vars; list = l })) (sym a.list)
    (subst (λ n. AreSettledByFeatures (record { features = out.features; vars = n; list = list })) (sym a.vars)
    (subst (λ f. AreSettledByFeatures (record { features = f; vars = vars; list = list })) (sym a.features) base))

pub are_settled : (c : Gates) → IsCircuit c.features c.parts → (top : ℕ) → top < length c.parts → (out : Clauses) → AreClausesOf c top out → AreSettledByFeatures out
are_settled c k zero within out a = subst (λ (o : Clauses). AreSettledByFeatures o) (sym a)
    (λ s e. inl (record { end = fixed c.features (choices s); reached = Reaches.here (fixed c.features (choices s)); clause = []; has = (0, refl); falsified = λ l h. absurd (let none : ⊥ = cc h.1 in none) }))
are_settled c k (suc zero) within out a = subst (λ (o : Clauses). AreSettledByFeatures o) (sym a)
    (λ s e. let known = known_features s c.features c.features (is_on s) e (omega arith) (λ x less. refl) in
    inr (record { values = is_on s; end = fixed c.features (choices s); reached = Reaches.here (fixed c.features (choices s)); all = known.known; model = hold_model (is_on s) [] refl }))
are_settled c k (suc (suc g)) within out a = settled_for c k (suc (suc g)) (omega arith) within out a
