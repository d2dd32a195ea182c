-- A selection extends to a model of a gate's clauses exactly where the gate is true under it.
use Rattle.std.proofs.Common.{◌≡◌, ℕ, zero, suc, ◌+◌, ◌-◌, ◌<◌, ◌≤◌, ◌⊎◌, inl, inr, ◌↔◌, ◌==◌, ltb, Bool, true, false, not, ◌&&◌, ◌||◌, cond, List, [], ◌∷◌, ◌++◌, length, Some, slice_get, refl, sym, ◌∙◌, ap, ap₂, subst, arith}
use Rattle.std.proofs.lemmas.Bool.{cond-true, cond-false, eq-eqb, ne_eqb}
use Rattle.std.proofs.lemmas.Bool.Decides.{nat_tests}
use Rattle.std.proofs.lemmas.Option.{slice_get-get_or}
use Rattle.cfj_logic.specs.declared.clauses.Literal.{Literal}
use Rattle.cfj_logic.specs.declared.clauses.Clauses.{Clauses}
use Rattle.cfj_logic.specs.Selections.{Chosen, is_on}
use Rattle.cfj_logic.specs.Logs.{Assignment, IsModel, ExtendsToModel}
use Rattle.cond_circuit.specs.Gates.{Gates, Stands, IsCircuit, value}
use Rattle.cond_circuit.specs.declared.part.Part.{Part}
use Rattle.cond_circuit.specs.declared.part.Part.TheVariants.{Zero, One, Feat, Not, And, Or}
use Rattle.cond_circuit.proofs.ValueLemmas.{value_zero, value_one, value_feat, value_not, value_and, value_or}
use Rattle.cnf_form.specs.Reaching.{IsOperand, Reaches}
use Rattle.cnf_form.specs.GateClauses.{is_inner, part_of, has_own, own_below, variable, variable_of, literal, part_clauses, gate_clauses, clauses_below, AreClausesFor, AreClausesOf}
use Rattle.cnf_form.proofs.Tables.{same, same-true, same-refl, hold, and_left, and_right, both, hold-append, hold_model, model_hold, by_part, part_hold}

-- the part of a gate of the list
part_is : (ps : List Part) (g : ℕ) → g < length ps → slice_get ps g ≡ Some (part_of ps g)
part_is ps g within = slice_get-get_or ps g Zero within

pub by_part_same : (m k : ℕ → Bool) (n g : ℕ) (p : Part) → Stands n g p → ((a : ℕ) → IsOperand a p → m a ≡ k a) → by_part m p ≡ by_part k p
by_part_same m k n g Zero h eq = refl
by_part_same m k n g One h eq = refl
by_part_same m k n g (Feat f) h eq = refl
by_part_same m k n g (Not a) h eq = ap not (eq a refl)
by_part_same m k n g (And a b) h eq = ap₂ (λ x y. x && y) (eq a (inl refl)) (eq b (inr refl))
by_part_same m k n g (Or a b) h eq = ap₂ (λ x y. x || y) (eq a (inl refl)) (eq b (inr refl))

pub value_inner : (s : Chosen) (ps : List Part) (n g : ℕ) (p : Part) → is_inner p ≡ true → slice_get ps g ≡ Some p → Stands n g p → value s ps g ≡ by_part (value s ps) p
value_inner s ps n g Zero e is h = absurd (let none : ⊥ = cc e in none)
value_inner s ps n g One e is h = absurd (let none : ⊥ = cc e in none)
value_inner s ps n g (Feat f) e is h = absurd (let none : ⊥ = cc e in none)
value_inner s ps n g (Not a) e is h = value_not s ps n g a is h
value_inner s ps n g (And a b) e is h = value_and s ps n g a b is h
value_inner s ps n g (Or a b) e is h = value_or s ps n g a b is h

-- operands are smaller, and no constants
pub operand_less : (n g a : ℕ) (p : Part) → Stands n g p → IsOperand a p → (2 ≤ a) × (a < g)
operand_less n g a Zero h o = absurd o
operand_less n g a One h o = absurd o
operand_less n g a (Feat f) h o = absurd o
operand_less n g a (Not b) h o = (omega (arith, o, h.0), omega (arith, o, h.1))
operand_less n g a (And b c) h (inl o) = (omega (arith, o, h.0), omega (arith, o, h.1, h.2))
operand_less n g a (And b c) h (inr o) = (omega (arith, o, h.0, h.1), omega (arith, o, h.2))
operand_less n g a (Or b c) h (inl o) = (omega (arith, o, h.0), omega (arith, o, h.1, h.2))
operand_less n g a (Or b c) h (inr o) = (omega (arith, o, h.0, h.1), omega (arith, o, h.2))

-- what is reached from a gate that is no constant is no constant, and not above it
reached_between : (n top : ℕ) (ps : List Part) → IsCircuit n ps → 2 ≤ top → (g : ℕ) → Reaches ps top g → (2 ≤ g) × (g ≤ top)
reached_between n top ps k two g Reaches.itself = (two, omega arith)
reached_between n top ps k two g (Reaches.operand h a p reach is operand) =
    let before = reached_between n top ps k two h reach in
    let less = operand_less n h g p (k.stands h p is) operand in
    (less.0, omega (arith, before.1, less.1))

-- a gate with this part has a variable of its own, or is a feature's
pub data Kind (n g : ℕ) : Part → Type 0 where
  feature : (f : ℕ) → f < n → Kind n g (Feat f)
  inner : (p : Part) → is_inner p ≡ true → ((before : ℕ) → variable p before ≡ before) → Kind n g p

pub kind : (n g : ℕ) (p : Part) → 2 ≤ g → Stands n g p → Kind n g p
kind n g Zero two h = absurd (omega arith)
kind n g One two h = absurd (omega arith)
kind n g (Feat f) two h = Kind.feature f h
kind n g (Not a) two h = Kind.inner (Not a) refl (λ b. refl)
kind n g (And a b) two h = Kind.inner (And a b) refl (λ k. refl)
kind n g (Or a b) two h = Kind.inner (Or a b) refl (λ k. refl)

-- ---- all clauses of gates below, one gate at a time

hold_at : (v : Assignment) (r : ℕ → Bool) (c : Gates) (k g : ℕ) → hold v (clauses_below r c k) ≡ true → g < k → hold v (gate_clauses r c g) ≡ true
hold_at v r c zero g e less = absurd (omega arith)
hold_at v r c (suc k) g e less =
    let parts : (hold v (clauses_below r c k) && hold v (gate_clauses r c k)) ≡ true = sym (hold-append v (clauses_below r c k) (gate_clauses r c k)) ∙ e in
    go (last g k less) (hold_at v r c k g (and_left (hold v (clauses_below r c k)) (hold v (gate_clauses r c k)) parts)) (and_right (hold v (clauses_below r c k)) (hold v (gate_clauses r c k)) parts)
  where
    last : (g k : ℕ) → g < suc k → (g < k) ⊎ (g ≡ k)
    last g k less = grind arith

    go : (g < k) ⊎ (g ≡ k) → (g < k → hold v (gate_clauses r c g) ≡ true) → hold v (gate_clauses r c k) ≡ true → hold v (gate_clauses r c g) ≡ true
    go (inl before) rest here = rest before
    go (inr eq) rest here = ap (λ h. hold v (gate_clauses r c h)) eq ∙ here

hold_all : (v : Assignment) (r : ℕ → Bool) (c : Gates) (k : ℕ) → ((g : ℕ) → g < k → hold v (gate_clauses r c g) ≡ true) → hold v (clauses_below r c k) ≡ true
hold_all v r c zero each = refl
hold_all v r c (suc k) each =
    hold-append v (clauses_below r c k) (gate_clauses r c k)
    ∙ both (hold v (clauses_below r c k)) (hold v (gate_clauses r c k)) (hold_all v r c k (λ g less. each g (omega arith))) (each k (omega arith))

and_false : (x y : Bool) → y ≡ false → (x && y) ≡ false
and_false true y e = e
and_false false y e = refl

-- ---- from a model to the gates' values

module _ (c : Gates) (k : IsCircuit c.features c.parts) (top : ℕ) (two : 2 ≤ top) (within : top < length c.parts)
    (r : ℕ → Bool) (exact : (g : ℕ) → (r g ≡ true) ↔ Reaches c.parts top g) (s : Chosen) where
  pub between : (g : ℕ) → r g ≡ true → (2 ≤ g) × (g ≤ top)
  between g e = reached_between c.features top c.parts k two g ((exact g).0 e)

  pub is_part : (g : ℕ) → r g ≡ true → slice_get c.parts g ≡ Some (part_of c.parts g)
  is_part g e = part_is c.parts g (omega (arith, (between g e).1))

  pub stand : (g : ℕ) → r g ≡ true → Stands c.features g (part_of c.parts g)
  stand g e = k.stands g (part_of c.parts g) (is_part g e)

  pub operand_reached : (g a : ℕ) → r g ≡ true → IsOperand a (part_of c.parts g) → r a ≡ true
  operand_reached g a e o = (exact a).1 (Reaches.operand g a (part_of c.parts g) ((exact g).0 e) (is_part g e) o)

  reached_clauses : (v : Assignment) (g : ℕ) → r g ≡ true → is_inner (part_of c.parts g) ≡ true →
      hold v (gate_clauses r c g) ≡ same (v (variable_of r c g)) (by_part (λ a. v (variable_of r c a)) (part_of c.parts g))
  reached_clauses v g e i =
      ap (hold v) (cond-true (r g) (part_clauses (variable_of r c) (variable_of r c g) (part_of c.parts g)) [] e)
      ∙ part_hold v (variable_of r c) (variable_of r c g) (part_of c.parts g) i

  -- the variable of each reached gate has the gate's value
  Agree : Assignment → ℕ → Type 0
  Agree v g = r g ≡ true → v (variable_of r c g) ≡ value s c.parts g

  model_agrees : (v : Assignment) → ((f : ℕ) → f < c.features → v f ≡ is_on s f) → hold v (clauses_below r c (top + 1)) ≡ true → (j g : ℕ) → g < j → r g ≡ true → v (variable_of r c g) ≡ value s c.parts g
  model_agrees v on all zero g less e = absurd (omega arith)
  model_agrees v on all (suc j) g less e = go (part_of c.parts g) refl (kind c.features g (part_of c.parts g) (between g e).0 (stand g e)) (λ a lower. model_agrees v on all j a (omega arith))
    where
      go : (p : Part) → part_of c.parts g ≡ p → Kind c.features g p → ((a : ℕ) → a < g → r a ≡ true → v (variable_of r c a) ≡ value s c.parts a) → v (variable_of r c g) ≡ value s c.parts g
      go _ is (Kind.feature f lower) before =
          ap v (ap (λ q. variable q (c.features + own_below r c.parts g)) is) ∙ on f lower ∙ sym (value_feat s c.parts g f (is_part g e ∙ ap Some is))
      go p is (Kind.inner _ i number) before =
          let own : is_inner (part_of c.parts g) ≡ true = ap is_inner is ∙ i in
          same-true (v (variable_of r c g)) (by_part (λ a. v (variable_of r c a)) (part_of c.parts g))
          (sym (reached_clauses v g e own) ∙ hold_at v r c (top + 1) g all (omega (arith, (between g e).1)))
          ∙ by_part_same (λ a. v (variable_of r c a)) (value s c.parts) c.features g (part_of c.parts g) (stand g e)
          (λ a o. before a (operand_less c.features g a (part_of c.parts g) (stand g e) o).1 (operand_reached g a e o))
          ∙ sym (value_inner s c.parts c.features g (part_of c.parts g) own (is_part g e) (stand g e))

  -- ---- from the gates' values to a model

  -- the value of the own variable of this number, behind the features
  pub assign : ℕ → ℕ → Bool
  assign zero i = false
  assign (suc j) i = cond (has_own r c.parts j && (own_below r c.parts j == i)) (value s c.parts j) (assign j i)

  pub own_grows : (g j : ℕ) → has_own r c.parts g ≡ true → g < j → own_below r c.parts g < own_below r c.parts j
  own_grows g zero own less = absurd (omega arith)
  own_grows g (suc j) own less = go (last g j less) (own_grows g j own)
    where
      last : (g j : ℕ) → g < suc j → (g < j) ⊎ (g ≡ j)
      last g j less = grind arith

      go : (g < j) ⊎ (g ≡ j) → (g < j → own_below r c.parts g < own_below r c.parts j) → own_below r c.parts g < own_below r c.parts (suc j)
      go (inl before) rest = let l = rest before in omega arith
      go (inr eq) rest =
          let one : own_below r c.parts (suc j) ≡ own_below r c.parts j + 1 = ap (λ (n : ℕ). own_below r c.parts j + n) (cond-true (has_own r c.parts j) 1 0 (ap (has_own r c.parts) (sym eq) ∙ own)) in
          let e : own_below r c.parts g ≡ own_below r c.parts j = ap (own_below r c.parts) eq in
          subst (λ n. own_below r c.parts g < n) (sym one) (omega arith)

  assign_at : (g j : ℕ) → has_own r c.parts g ≡ true → g < j → assign j (own_below r c.parts g) ≡ value s c.parts g
  unfolding assign
  assign_at g zero own less = absurd (omega arith)
  assign_at g (suc j) own less = go (last g j less) (assign_at g j own)
    where
      last : (g j : ℕ) → g < suc j → (g < j) ⊎ (g ≡ j)
      last g j less = grind arith

      go : (g < j) ⊎ (g ≡ j) → (g < j → assign j (own_below r c.parts g) ≡ value s c.parts g) → assign (suc j) (own_below r c.parts g) ≡ value s c.parts g
      go (inl before) rest =
          let l = own_grows g j own before in
          let apart : (own_below r c.parts j == own_below r c.parts g) ≡ false = ne_eqb (own_below r c.parts j) (own_below r c.parts g) (λ e. omega arith) in
          cond-false (has_own r c.parts j && (own_below r c.parts j == own_below r c.parts g)) (value s c.parts j) (assign j (own_below r c.parts g)) (and_false (has_own r c.parts j) _ apart)
          ∙ rest before
      go (inr eq) rest =
          cond-true (has_own r c.parts j && (own_below r c.parts j == own_below r c.parts g)) (value s c.parts j) (assign j (own_below r c.parts g))
          (both (has_own r c.parts j) (own_below r c.parts j == own_below r c.parts g) (ap (has_own r c.parts) (sym eq) ∙ own) (eq-eqb (own_below r c.parts j) (own_below r c.parts g) (ap (own_below r c.parts) (sym eq))))
          ∙ ap (value s c.parts) (sym eq)

  pub extension : Assignment
  extension x = cond (ltb x c.features) (is_on s x) (assign (top + 1) (x - c.features))

  pub extension_on : (f : ℕ) → f < c.features → extension f ≡ is_on s f
  unfolding extension
  extension_on f below = cond-true (ltb f c.features) (is_on s f) (assign (top + 1) (f - c.features)) (grind (arith, nat_tests))

  pub extension_own : (i : ℕ) → extension (c.features + i) ≡ assign (top + 1) i
  unfolding extension
  extension_own i =
      let past : ltb (c.features + i) c.features ≡ false = grind (arith, nat_tests) in
      let rest : (c.features + i) - c.features ≡ i = omega arith in
      cond-false (ltb (c.features + i) c.features) (is_on s (c.features + i)) (assign (top + 1) ((c.features + i) - c.features)) past ∙ ap (assign (top + 1)) rest

  pub extension_agrees : (g : ℕ) → r g ≡ true → extension (variable_of r c g) ≡ value s c.parts g
  extension_agrees g e = go (part_of c.parts g) refl (kind c.features g (part_of c.parts g) (between g e).0 (stand g e))
    where
      go : (p : Part) → part_of c.parts g ≡ p → Kind c.features g p → extension (variable_of r c g) ≡ value s c.parts g
      go _ is (Kind.feature f lower) =
          ap extension (ap (λ q. variable q (c.features + own_below r c.parts g)) is) ∙ extension_on f lower ∙ sym (value_feat s c.parts g f (is_part g e ∙ ap Some is))
      go p is (Kind.inner _ i number) =
          ap extension (ap (λ q. variable q (c.features + own_below r c.parts g)) is ∙ number (c.features + own_below r c.parts g))
          ∙ extension_own (own_below r c.parts g)
          ∙ assign_at g (top + 1) (both (r g) (is_inner (part_of c.parts g)) e (ap is_inner is ∙ i)) (omega (arith, (between g e).1))

  extension_holds : (g : ℕ) → hold extension (gate_clauses r c g) ≡ true
  extension_holds g = test (r g) refl
    where
      go : (e : r g ≡ true) (p : Part) → part_of c.parts g ≡ p → Kind c.features g p → hold extension (gate_clauses r c g) ≡ true
      go e _ is (Kind.feature f lower) =
          ap (hold extension) (cond-true (r g) (part_clauses (variable_of r c) (variable_of r c g) (part_of c.parts g)) [] e ∙ ap (part_clauses (variable_of r c) (variable_of r c g)) is)
      go e p is (Kind.inner _ i number) =
          let own : is_inner (part_of c.parts g) ≡ true = ap is_inner is ∙ i in
          reached_clauses extension g e own
          ∙ ap₂ same (extension_agrees g e)
          (by_part_same (λ a. extension (variable_of r c a)) (value s c.parts) c.features g (part_of c.parts g) (stand g e) (λ a o. extension_agrees a (operand_reached g a e o))
          ∙ sym (value_inner s c.parts c.features g (part_of c.parts g) own (is_part g e) (stand g e)))
          ∙ same-refl (value s c.parts g)

      test : (b : Bool) → r g ≡ b → hold extension (gate_clauses r c g) ≡ true
      test true e = go e (part_of c.parts g) refl (kind c.features g (part_of c.parts g) (between g e).0 (stand g e))
      test false e = ap (hold extension) (cond-false (r g) (part_clauses (variable_of r c) (variable_of r c g) (part_of c.parts g)) [] e)

  pub top_reached : r top ≡ true
  top_reached = (exact top).1 Reaches.itself

  -- the last clause
  last_clause : List (List Literal)
  last_clause = (literal (variable_of r c top) true ∷ []) ∷ []

  last_holds : (v : Assignment) → hold v last_clause ≡ v (variable_of r c top)
  unfolding last_clause
  last_holds v = one (v (variable_of r c top))
    where
      one : (x : Bool) → ((x || false) && true) ≡ x
      one true = refl
      one false = refl

  pub true_where_extended : (v : Assignment) → ((f : ℕ) → f < c.features → v f ≡ is_on s f) → hold v (clauses_below r c (top + 1) ++ (literal (variable_of r c top) true ∷ []) ∷ []) ≡ true → value s c.parts top ≡ true
  unfolding last_clause
  true_where_extended v on all =
      let split = sym (hold-append v (clauses_below r c (top + 1)) last_clause) ∙ all in
      sym (model_agrees v on (and_left (hold v (clauses_below r c (top + 1))) (hold v last_clause) split) (top + 1) top (omega arith) top_reached)
      ∙ sym (last_holds v) ∙ and_right (hold v (clauses_below r c (top + 1))) (hold v last_clause) split

  pub extended_where_true : value s c.parts top ≡ true → hold extension (clauses_below r c (top + 1) ++ (literal (variable_of r c top) true ∷ []) ∷ []) ≡ true
  unfolding last_clause
  extended_where_true e =
      hold-append extension (clauses_below r c (top + 1)) last_clause
      ∙ both (hold extension (clauses_below r c (top + 1))) (hold extension last_clause) (hold_all extension r c (top + 1) (λ g less. extension_holds g)) (last_holds extension ∙ extension_agrees top top_reached ∙ e)

-- ---- the law

pub extends_for : (c : Gates) → IsCircuit c.features c.parts → (top : ℕ) → 2 ≤ top → top < length c.parts → (out : Clauses) → AreClausesFor c top out → (s : Chosen) → ExtendsToModel out s ↔ (value s c.parts top ≡ true)
extends_for c k top two within out a s = (forth, back)
  where
    forth : ExtendsToModel out s → value s c.parts top ≡ true
    forth x = true_where_extended c k top two within a.reached a.exact s x.values (λ f below. x.features f (omega (arith, a.features))) (ap (hold x.values) (sym a.list) ∙ model_hold x.values out.list x.model)

    back : value s c.parts top ≡ true → ExtendsToModel out s
    back e =
        let v = extension c k top two within a.reached a.exact s in
        record {
          values = v;
          features = λ f below. extension_on c k top two within a.reached a.exact s f (omega (arith, a.features));
          model = hold_model v out.list (ap (hold v) a.list ∙ extended_where_true c k top two within a.reached a.exact s e);
        }

pub extends_where_true : (c : Gates) → IsCircuit c.features c.parts → (top : ℕ) → top < length c.parts → (out : Clauses) → AreClausesOf c top out → (s : Chosen) → ExtendsToModel out s ↔ (value s c.parts top ≡ true)
extends_where_true c k zero within out a s = (forth, back)
  where
    list : out.list ≡ [] ∷ []
    list = ap (λ (o : Clauses). o.list) a

    forth : ExtendsToModel out s → value s c.parts 0 ≡ true
    forth x = absurd (let none : ⊥ = cc (model_hold x.values ([] ∷ []) (subst (λ l. IsModel l x.values) list x.model)) in none)

    back : value s c.parts 0 ≡ true → ExtendsToModel out s
    back e = absurd (let none : ⊥ = cc (sym e ∙ value_zero s c.parts 0 k.zero_is refl) in none)
extends_where_true c k (suc zero) within out a s = (forth, back)
  where
    forth : ExtendsToModel out s → value s c.parts 1 ≡ true
    forth x = value_one s c.parts 1 k.one_is refl

    back : value s c.parts 1 ≡ true → ExtendsToModel out s
    back e = record { values = is_on s; features = λ f below. refl; model = subst (λ l. IsModel l (is_on s)) (sym (ap (λ (o : Clauses). o.list) a)) (hold_model (is_on s) [] refl) }
extends_where_true c k (suc (suc g)) within out a s = extends_for c k (suc (suc g)) (omega arith) within out a s
