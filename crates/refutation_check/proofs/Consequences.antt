-- What follows is true.
use Rattle.std.proofs.Common.{◌≡◌, ℕ, zero, suc, ◌⊎◌, inl, inr, Bool, not, List, [], ◌∷◌, slice_set, Some, None, refl, sym, ◌∙◌, ap, subst}
use Rattle.std.specs.Prelude.{replicate}
use Rattle.cfj_logic.specs.declared.clauses.Literal.{Literal}
use Rattle.cfj_words.specs.Lists.{Has}
use Rattle.cfj_logic.specs.UnitClauses.{Values, value_of, IsFalse, with_true, with_false, IsUnit, Reaches, here, by_unit, Leads}
use Rattle.cfj_logic.specs.Logs.{Assignment, IsTrueIn, IsModel, assumed_from, assumed, Follows}
use Rattle.unit_propagation.proofs.Members.{has_none}
use Rattle.unit_propagation.proofs.UnitSteps.{set_cases, not_itself, value_cases, leads_here}

-- the assignment has these values
abbrev pub Agrees : Assignment → Values → Type 0
Agrees v vs = (x : ℕ) (b : Bool) → value_of vs x ≡ Some b → v x ≡ b

agrees_set : (v : Assignment) (vs : Values) (x : ℕ) (b : Bool) → v x ≡ b → Agrees v vs → (y : ℕ) (d : Bool) → ((y ≡ x) × (Some b ≡ Some d)) ⊎ (value_of vs y ≡ Some d) → v y ≡ d
agrees_set v vs x b t a y d (inl s) = ap v s.0 ∙ t ∙ (let e : Some b ≡ Some d = s.1 in cc e)
agrees_set v vs x b t a y d (inr s) = a y d s

pub agrees_with : (v : Assignment) (vs : Values) (x : ℕ) (b : Bool) → v x ≡ b → Agrees v vs → Agrees v (slice_set vs x (Some b))
agrees_with v vs x b t a y d e = agrees_set v vs x b t a y d (go (set_cases vs x y (Some b)))
  where
    go : ((y ≡ x) × (value_of (slice_set vs x (Some b)) y ≡ Some b)) ⊎ (value_of (slice_set vs x (Some b)) y ≡ value_of vs y) → ((y ≡ x) × (Some b ≡ Some d)) ⊎ (value_of vs y ≡ Some d)
    go (inl s) = inl (s.0, sym s.1 ∙ e)
    go (inr s) = inr (sym s ∙ e)

-- in a model the literal of a unit clause is true
unit_holds : (v : Assignment) (vs : Values) (c : List Literal) (l : Literal) → Agrees v vs → IsTrueIn v c → IsUnit vs c l → v l.var ≡ l.on
unit_holds v vs c l a t u = go (u.others t.0 t.1)
  where
    go : (t.0 ≡ l) ⊎ IsFalse vs t.0 → v l.var ≡ l.on
    go (inl e) = subst (λ w. v w.var ≡ w.on) e t.2
    go (inr f) = absurd (not_itself t.0.on (sym t.2 ∙ a t.0.var (not t.0.on) f))

pub reached_agrees : (cs : List (List Literal)) (v : Assignment) → IsModel cs v → (vs ws : Values) → Agrees v vs → Reaches cs vs ws → Agrees v ws
reached_agrees cs v model vs ws a (here _) = a
reached_agrees cs v model vs ws a (by_unit _ _ c l h u r) =
    reached_agrees cs v model (with_true vs l) ws (agrees_with v vs l.var l.on (unit_holds v vs c l a (model c h) u) a) r

-- No model has values that lead to a falsified clause.
pub sound : (cs : List (List Literal)) (v : Assignment) (vs : Values) → IsModel cs v → Agrees v vs → Leads cs vs → ⊥
sound cs v vs model a leads =
    let t = model leads.clause leads.has in
    let b = reached_agrees cs v model vs leads.end a leads.reached in
    not_itself t.0.on (sym t.2 ∙ b t.0.var (not t.0.on) (leads.falsified t.0 t.1))

none_valued : (n x : ℕ) → value_of (replicate n None) x ≡ None
none_valued zero x = refl
none_valued (suc n) zero = refl
none_valued (suc n) (suc x) = none_valued n x

pub agrees_none : (v : Assignment) (n : ℕ) → Agrees v (replicate n None)
agrees_none v n x b e = let s : None ≡ Some b = sym (none_valued n x) ∙ e in let no : ⊥ = cc s in absurd no

-- no literal of the clause is true
abbrev pub IsFalseIn : Assignment → List Literal → Type 0
IsFalseIn v c = (l : Literal) → Has c l → v l.var ≡ not l.on

agrees_assumed : (v : Assignment) (c : List Literal) (vs : Values) → IsFalseIn v c → Agrees v vs → Agrees v (assumed_from vs c)
agrees_assumed v [] vs f a = a
agrees_assumed v (l ∷ c) vs f a = agrees_assumed v c (with_false vs l) (λ m h. f m (suc h.0, h.1)) (agrees_with v vs l.var (not l.on) (f l (0, refl)) a)

pub true_or_false : (v : Assignment) (c : List Literal) → IsTrueIn v c ⊎ IsFalseIn v c
true_or_false v [] = inr (λ l h. absurd (has_none l h))
true_or_false v (l ∷ c) = go (value_cases (v l.var) l.on) (true_or_false v c)
  where
    first : v l.var ≡ not l.on → IsFalseIn v c → (m : Literal) → Has (l ∷ c) m → v m.var ≡ not m.on
    first e f m (zero, s) = let d : l ≡ m = cc s in subst (λ w. v w.var ≡ not w.on) d e
    first e f m (suc k, s) = f m (k, s)

    go : (v l.var ≡ l.on) ⊎ (v l.var ≡ not l.on) → IsTrueIn v c ⊎ IsFalseIn v c → IsTrueIn v (l ∷ c) ⊎ IsFalseIn v (l ∷ c)
    go (inl e) _ = inl (l, (0, refl), e)
    go (inr e) (inl t) = inl (t.0, (suc t.1.0, t.1.1), t.2)
    go (inr e) (inr f) = inr (λ m h. first e f m h)

-- A clause that follows is true in every assignment that makes all the premises true.
pub true_where_follows : (vars : ℕ) (cs : List (List Literal)) (c : List Literal) (v : Assignment) → IsModel cs v → Follows vars cs c → IsTrueIn v c
true_where_follows vars cs c v model (inr h) = let t = model [] h in absurd (has_none t.0 t.1)
true_where_follows vars cs c v model (inl leads) = go (true_or_false v c)
  where
    go : IsTrueIn v c ⊎ IsFalseIn v c → IsTrueIn v c
    go (inl t) = t
    go (inr f) = absurd (sound cs v (assumed vars c) model (agrees_assumed v c (replicate vars None) f (agrees_none v vars)) leads)

-- where an empty clause is there, it is falsified at once
pub follows_leads : (vars : ℕ) (cs : List (List Literal)) (c : List Literal) → Follows vars cs c → Leads cs (assumed vars c)
follows_leads vars cs c (inl leads) = leads
follows_leads vars cs c (inr h) = leads_here cs (assumed vars c) [] h (λ l k. absurd (has_none l k))
