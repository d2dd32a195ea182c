-- Unit clauses give each gate's variable its value, from the features up.
use Rattle.std.proofs.Common.{◌≡◌, ℕ, zero, suc, ◌+◌, ◌<◌, ◌≤◌, ◌⊎◌, inl, inr, Bool, true, false, not, ◌&&◌, ◌||◌, List, [], ◌∷◌, ◌++◌, length, Some, None, slice_get, refl, sym, ◌∙◌, ap, subst, arith, length-set}
use Rattle.std.proofs.lemmas.List.{get_or-set_same, get_or-set_other}
use Rattle.cfj_logic.specs.declared.clauses.Literal.{Literal}
use Rattle.cfj_logic.specs.Selections.{Chosen, is_on, choices_from, choices}
use Rattle.cfj_words.specs.Lists.{Has}
use Rattle.cfj_logic.specs.UnitClauses.{Values, value_of, IsFalse, with_true, IsUnit, Reaches}
use Rattle.cfj_logic.specs.Logs.{fixed}
use Rattle.cond_circuit.specs.declared.part.Part.{Part}
use Rattle.cond_circuit.specs.declared.part.Part.TheVariants.{Zero, One, Feat, Not, And, Or}
use Rattle.cnf_form.specs.Reaching.{IsOperand}
use Rattle.cnf_form.specs.GateClauses.{is_inner, literal, part_clauses}
use Rattle.cnf_form.proofs.Tables.{by_part}

-- ---- items of lists

pub Has-left : {A : Type 0} (xs ys : List A) (x : A) → Has xs x → Has (xs ++ ys) x
Has-left {A = A} xs ys x h = (h.0, go xs h.0 h.1)
  where
    go : (xs : List A) (k : ℕ) → slice_get xs k ≡ Some x → slice_get (xs ++ ys) k ≡ Some x
    go [] k e = absurd (let none : ⊥ = cc e in none)
    go (y ∷ xs) zero e = e
    go (y ∷ xs) (suc k) e = go xs k e

pub Has-right : {A : Type 0} (xs ys : List A) (y : A) → Has ys y → Has (xs ++ ys) y
Has-right [] ys y h = h
Has-right (x ∷ xs) ys y h =
    let r = Has-right xs ys y h in
    (suc r.0, r.1)

-- ---- unit clauses of two and of three literals

pub unit_two : (vs : Values) (x y : ℕ) (b d : Bool) → value_of vs x ≡ None → value_of vs y ≡ Some (not d) → IsUnit vs (literal x b ∷ (literal y d ∷ [])) (literal x b)
unit_two vs x y b d free false_y = record { has = (0, refl); unvalued = free; others = λ m h. go m h.0 h.1 }
  where
    go : (m : Literal) (k : ℕ) → slice_get (literal x b ∷ (literal y d ∷ [])) k ≡ Some m → (m ≡ literal x b) ⊎ IsFalse vs m
    go m zero e = inl (let q : literal x b ≡ m = cc e in sym q)
    go m (suc zero) e = inr (let q : literal y d ≡ m = cc e in subst (IsFalse vs) q false_y)
    go m (suc (suc k)) e = absurd (let none : ⊥ = cc e in none)

pub unit_three : (vs : Values) (x y z : ℕ) (b d f : Bool) → value_of vs x ≡ None → value_of vs y ≡ Some (not d) → value_of vs z ≡ Some (not f) →
    IsUnit vs (literal x b ∷ (literal y d ∷ (literal z f ∷ []))) (literal x b)
unit_three vs x y z b d f free false_y false_z = record { has = (0, refl); unvalued = free; others = λ m h. go m h.0 h.1 }
  where
    go : (m : Literal) (k : ℕ) → slice_get (literal x b ∷ (literal y d ∷ (literal z f ∷ []))) k ≡ Some m → (m ≡ literal x b) ⊎ IsFalse vs m
    go m zero e = inl (let q : literal x b ≡ m = cc e in sym q)
    go m (suc zero) e = inr (let q : literal y d ≡ m = cc e in subst (IsFalse vs) q false_y)
    go m (suc (suc zero)) e = inr (let q : literal z f ≡ m = cc e in subst (IsFalse vs) q false_z)
    go m (suc (suc (suc k))) e = absurd (let none : ⊥ = cc e in none)

-- where the operands have values, one of the part's clauses is a unit clause that gives the variable its value
pub record Decides (vs : Values) (cs : List (List Literal)) (x : ℕ) (value : Bool) : Type 0 where
  pub clause : List Literal
  pub has : Has cs clause
  pub unit : IsUnit vs clause (literal x value)

decide_not : (vs : Values) (w : ℕ → ℕ) (x a : ℕ) (p : Bool) → value_of vs x ≡ None → value_of vs (w a) ≡ Some p → Decides vs (part_clauses w x (Not a)) x (not p)
decide_not vs w x a true free va = record { clause = literal x false ∷ (literal (w a) false ∷ []); has = (1, refl); unit = unit_two vs x (w a) false false free va }
decide_not vs w x a false free va = record { clause = literal x true ∷ (literal (w a) true ∷ []); has = (0, refl); unit = unit_two vs x (w a) true true free va }

decide_and : (vs : Values) (w : ℕ → ℕ) (x a b : ℕ) (p q : Bool) → value_of vs x ≡ None → value_of vs (w a) ≡ Some p → value_of vs (w b) ≡ Some q → Decides vs (part_clauses w x (And a b)) x (p && q)
decide_and vs w x a b false q free va vb = record { clause = literal x false ∷ (literal (w a) true ∷ []); has = (0, refl); unit = unit_two vs x (w a) false true free va }
decide_and vs w x a b true false free va vb = record { clause = literal x false ∷ (literal (w b) true ∷ []); has = (1, refl); unit = unit_two vs x (w b) false true free vb }
decide_and vs w x a b true true free va vb = record { clause = literal x true ∷ (literal (w a) false ∷ (literal (w b) false ∷ [])); has = (2, refl); unit = unit_three vs x (w a) (w b) true false false free va vb }

decide_or : (vs : Values) (w : ℕ → ℕ) (x a b : ℕ) (p q : Bool) → value_of vs x ≡ None → value_of vs (w a) ≡ Some p → value_of vs (w b) ≡ Some q → Decides vs (part_clauses w x (Or a b)) x (p || q)
decide_or vs w x a b true q free va vb = record { clause = literal x true ∷ (literal (w a) false ∷ []); has = (0, refl); unit = unit_two vs x (w a) true false free va }
decide_or vs w x a b false true free va vb = record { clause = literal x true ∷ (literal (w b) false ∷ []); has = (1, refl); unit = unit_two vs x (w b) true false free vb }
decide_or vs w x a b false false free va vb = record { clause = literal x false ∷ (literal (w a) true ∷ (literal (w b) true ∷ [])); has = (2, refl); unit = unit_three vs x (w a) (w b) false true true free va vb }

pub decide : (vs : Values) (w : ℕ → ℕ) (x : ℕ) (p : Part) (m : ℕ → Bool) → is_inner p ≡ true → value_of vs x ≡ None → ((a : ℕ) → IsOperand a p → value_of vs (w a) ≡ Some (m a)) → Decides vs (part_clauses w x p) x (by_part m p)
decide vs w x Zero m e free known = absurd (let none : ⊥ = cc e in none)
decide vs w x One m e free known = absurd (let none : ⊥ = cc e in none)
decide vs w x (Feat f) m e free known = absurd (let none : ⊥ = cc e in none)
decide vs w x (Not a) m e free known = decide_not vs w x a (m a) free (known a refl)
decide vs w x (And a b) m e free known = decide_and vs w x a b (m a) (m b) free (known a (inl refl)) (known b (inr refl))
decide vs w x (Or a b) m e free known = decide_or vs w x a b (m a) (m b) free (known a (inl refl)) (known b (inr refl))

-- ---- steps one after the other

pub Reaches-trans : (cs : List (List Literal)) (us vs ws : Values) → Reaches cs us vs → Reaches cs vs ws → Reaches cs us ws
Reaches-trans cs us vs ws (Reaches.here _) after = after
Reaches-trans cs us vs ws (Reaches.by_unit _ _ c l has unit rest) after = Reaches.by_unit us ws c l has unit (Reaches-trans cs (with_true us l) vs ws rest after)

-- the first variables up to a number have these values, and no others have any
pub record Known (size upto : ℕ) (m : ℕ → Bool) (vs : Values) : Type 0 where
  pub long : length vs ≡ size
  pub known : (x : ℕ) → x < upto → value_of vs x ≡ Some (m x)
  pub free : (x : ℕ) → upto ≤ x → value_of vs x ≡ None

pub known_more : (size x : ℕ) (m : ℕ → Bool) (vs : Values) (b : Bool) → Known size x m vs → x < size → m x ≡ b → Known size (x + 1) m (with_true vs (literal x b))
known_more size x m vs b k within e = record {
  long = length-set vs x (Some b) ∙ k.long;
  known = λ y less. known y (last y less);
  free = λ y more. get_or-set_other vs x y (Some b) None (λ same. omega (arith, same, more)) ∙ k.free y (omega arith);
}
  where
    last : (y : ℕ) → y < x + 1 → (y < x) ⊎ (y ≡ x)
    last y less = grind arith

    known : (y : ℕ) → (y < x) ⊎ (y ≡ x) → value_of (with_true vs (literal x b)) y ≡ Some (m y)
    known y (inl less) = get_or-set_other vs x y (Some b) None (λ same. omega (arith, same, less)) ∙ k.known y less
    known y (inr same) = ap (value_of (with_true vs (literal x b))) same ∙ get_or-set_same vs x (Some b) None (omega (arith, k.long)) ∙ ap Some (sym e ∙ ap m (sym same))

-- ---- the values of a selection alone

length-fixed : (n : ℕ) (p : List Bool) → length (fixed n p) ≡ n
length-fixed zero p = refl
length-fixed (suc n) [] = ap suc (length-fixed n [])
length-fixed (suc n) (b ∷ p) = ap suc (length-fixed n p)

fixed_known : (n : ℕ) (p : List Bool) (x : ℕ) (b : Bool) → x < n → slice_get p x ≡ Some b → value_of (fixed n p) x ≡ Some b
fixed_known zero p x b less e = absurd (omega arith)
fixed_known (suc n) [] x b less e = absurd (let none : ⊥ = cc e in none)
fixed_known (suc n) (d ∷ p) zero b less e = e
fixed_known (suc n) (d ∷ p) (suc x) b less e = fixed_known n p x b (omega arith) e

fixed_open : (n : ℕ) (p : List Bool) (x : ℕ) → length p ≤ x → value_of (fixed n p) x ≡ None
fixed_open zero p x le = refl
fixed_open (suc n) [] zero le = refl
fixed_open (suc n) [] (suc x) le = fixed_open n [] x (omega arith)
fixed_open (suc n) (b ∷ p) zero le = absurd (omega arith)
fixed_open (suc n) (b ∷ p) (suc x) le = fixed_open n p x (omega arith)

length-choices_from : (s : Chosen) (n f : ℕ) → length (choices_from s n f) ≡ n
length-choices_from s zero f = refl
length-choices_from s (suc n) f = ap suc (length-choices_from s n (f + 1))

choices_at : (s : Chosen) (n f x : ℕ) → x < n → slice_get (choices_from s n f) x ≡ Some (is_on s (f + x))
choices_at s zero f x less = absurd (omega arith)
choices_at s (suc n) f zero less = ap (λ k. Some (is_on s k)) (let e : f ≡ f + 0 = omega arith in e)
choices_at s (suc n) f (suc x) less = choices_at s n (f + 1) x (omega arith) ∙ ap (λ k. Some (is_on s k)) (let e : (f + 1) + x ≡ f + suc x = omega arith in e)

-- with the selection's choices alone the features are known
pub known_features : (s : Chosen) (size n : ℕ) (m : ℕ → Bool) → s.features ≡ n → n ≤ size → ((x : ℕ) → x < n → m x ≡ is_on s x) → Known size n m (fixed size (choices s))
known_features s size n m e within same = record {
  long = length-fixed size (choices s);
  known = λ x less.
      fixed_known size (choices s) x (is_on s x) (omega arith) (choices_at s s.features 0 x (omega (arith, e, less)) ∙ ap (λ k. Some (is_on s k)) (let z : 0 + x ≡ x = omega arith in z))
      ∙ ap Some (sym (same x less));
  free = λ x more. fixed_open size (choices s) x (omega (arith, e, length-choices_from s s.features 0, more));
}
