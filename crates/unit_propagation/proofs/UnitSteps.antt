-- Where unit clauses lead, whatever their order.
use Rattle.std.proofs.Common.{◌≡◌, ◌≢◌, ℕ, zero, suc, ◌<◌, ◌≤◌, ◌⊎◌, inl, inr, Bool, true, false, not, List, [], ◌∷◌, length, slice_set, eqb, Option, Some, None, refl, sym, ◌∙◌, ap, subst, arith}
use Rattle.std.proofs.lemmas.Bool.Decides.{eqb_tells}
use Rattle.std.proofs.lemmas.List.{get_or-set_same, get_or-set_other}
use Rattle.cfj_logic.specs.declared.clauses.Literal.{Literal}
use Rattle.cfj_words.specs.Lists.{Has}
use Rattle.cfj_logic.specs.UnitClauses.{Values, value_of, IsFalse, IsUnvalued, with_true, IsFalsified, IsUnit, Reaches, here, by_unit, Leads}
use Rattle.unit_propagation.specs.Standings.{IsOpen, AreOpen}
use Rattle.unit_propagation.specs.Walks.{IsWithin}
use Rattle.unit_propagation.proofs.Members.{lt_or_ge}

-- ---- values

set_past : (vs : Values) (x y : ℕ) (v : Option Bool) → length vs ≤ x → value_of (slice_set vs x v) y ≡ value_of vs y
set_past [] x y v le = refl
set_past (w ∷ vs) zero y v le = absurd (omega arith)
set_past (w ∷ vs) (suc x) zero v le = refl
set_past (w ∷ vs) (suc x) (suc y) v le = set_past vs x y v (omega arith)

-- a value is the one that was set, or the old one
pub set_cases : (vs : Values) (x y : ℕ) (v : Option Bool) → ((y ≡ x) × (value_of (slice_set vs x v) y ≡ v)) ⊎ (value_of (slice_set vs x v) y ≡ value_of vs y)
set_cases vs x y v = go (eqb_tells y x) (lt_or_ge x (length vs))
  where
    go : ((eqb y x ≡ true) × (y ≡ x)) ⊎ ((eqb y x ≡ false) × (y ≢ x)) → (x < length vs) ⊎ (length vs ≤ x) → ((y ≡ x) × (value_of (slice_set vs x v) y ≡ v)) ⊎ (value_of (slice_set vs x v) y ≡ value_of vs y)
    go (inl s) (inl lt) = inl (s.1, ap (value_of (slice_set vs x v)) s.1 ∙ get_or-set_same vs x v None lt)
    go (inr s) _ = inr (get_or-set_other vs x y v None s.1)
    go _ (inr le) = inr (set_past vs x y v le)

pub not_itself : (b : Bool) → b ≡ not b → ⊥
not_itself true e = cc e
not_itself false e = cc e

-- two values of one variable
pub one_value : (vs : Values) (x : ℕ) (a b : Bool) → value_of vs x ≡ Some a → value_of vs x ≡ Some b → a ≡ b
one_value vs x a b d e = let s : Some a ≡ Some b = sym d ∙ e in cc s

pub no_value : (vs : Values) (x : ℕ) (b : Bool) → value_of vs x ≡ None → value_of vs x ≡ Some b → ⊥
no_value vs x b d e = let s : None ≡ Some b = sym d ∙ e in cc s

-- a value is the literal's, or the other
pub value_cases : (b c : Bool) → (b ≡ c) ⊎ (b ≡ not c)
value_cases true true = inl refl
value_cases true false = inr refl
value_cases false true = inr refl
value_cases false false = inl refl

-- each value stays
abbrev pub Within : Values → Values → Type 0
Within = IsWithin

pub grown : (vs : Values) (l : Literal) → IsUnvalued vs l → Within vs (with_true vs l)
grown vs l u x b e = go (set_cases vs l.var x (Some l.on))
  where
    go : ((x ≡ l.var) × (value_of (with_true vs l) x ≡ Some l.on)) ⊎ (value_of (with_true vs l) x ≡ value_of vs x) → value_of (with_true vs l) x ≡ Some b
    go (inl s) = absurd (no_value vs x b (ap (value_of vs) s.0 ∙ u) e)
    go (inr s) = s ∙ e

pub grown_within : (vs ws : Values) (l : Literal) → Within vs ws → value_of ws l.var ≡ Some l.on → Within (with_true vs l) ws
grown_within vs ws l w t x b e = go (set_cases vs l.var x (Some l.on))
  where
    go : ((x ≡ l.var) × (value_of (with_true vs l) x ≡ Some l.on)) ⊎ (value_of (with_true vs l) x ≡ value_of vs x) → value_of ws x ≡ Some b
    go (inl s) = ap (value_of ws) s.0 ∙ t ∙ ap Some (one_value (with_true vs l) x l.on b s.1 e)
    go (inr s) = w x b (sym s ∙ e)

pub falsified_within : (vs ws : Values) (c : List Literal) → Within vs ws → IsFalsified vs c → IsFalsified ws c
falsified_within vs ws c w f = λ l h. w l.var (not l.on) (f l h)

-- ---- steps

pub reaches_one : (cs : List (List Literal)) (vs : Values) (c : List Literal) (l : Literal) → Has cs c → IsUnit vs c l → Reaches cs vs (with_true vs l)
reaches_one cs vs c l h u = by_unit vs (with_true vs l) c l h u (here (with_true vs l))

pub reaches_then : (cs : List (List Literal)) (vs ws us : Values) → Reaches cs vs ws → Reaches cs ws us → Reaches cs vs us
reaches_then cs vs ws us (here _) s = s
reaches_then cs vs ws us (by_unit _ _ c l h u r) s = by_unit vs us c l h u (reaches_then cs (with_true vs l) ws us r s)

-- more clauses lead as far
pub reaches_more : (cs ds : List (List Literal)) (vs ws : Values) → ((c : List Literal) → Has cs c → Has ds c) → Reaches cs vs ws → Reaches ds vs ws
reaches_more cs ds vs ws all (here _) = here vs
reaches_more cs ds vs ws all (by_unit _ _ c l h u r) = by_unit vs ws c l (all c h) u (reaches_more cs ds (with_true vs l) ws all r)

pub leads_more : (cs ds : List (List Literal)) (vs : Values) → ((c : List Literal) → Has cs c → Has ds c) → Leads cs vs → Leads ds vs
leads_more cs ds vs all leads = record {
  end = leads.end;
  reached = reaches_more cs ds vs leads.end all leads.reached;
  clause = leads.clause;
  has = all leads.clause leads.has;
  falsified = leads.falsified;
}

pub leads_after : (cs : List (List Literal)) (vs ws : Values) → Reaches cs vs ws → Leads cs ws → Leads cs vs
leads_after cs vs ws r leads = record {
  end = leads.end;
  reached = reaches_then cs vs ws leads.end r leads.reached;
  clause = leads.clause;
  has = leads.has;
  falsified = leads.falsified;
}

pub leads_here : (cs : List (List Literal)) (vs : Values) (c : List Literal) → Has cs c → IsFalsified vs c → Leads cs vs
leads_here cs vs c h f = record { end = vs; reached = here vs; clause = c; has = h; falsified = f }

-- values stay
pub reaches_within : (cs : List (List Literal)) (vs ws : Values) → Reaches cs vs ws → Within vs ws
reaches_within cs vs ws (here _) = λ x b e. e
reaches_within cs vs ws (by_unit _ _ c l h u r) = λ x b e. reaches_within cs (with_true vs l) ws r x b (grown vs l u.unvalued x b e)

-- ---- one end

pub open_not_falsified : (vs : Values) (c : List Literal) → IsOpen vs c → IsFalsified vs c → ⊥
open_not_falsified vs c (inl t) f = not_itself t.0.on (one_value vs t.0.var t.0.on (not t.0.on) t.2 (f t.0 t.1))
open_not_falsified vs c (inr t) f = no_value vs t.0.var (not t.0.on) t.4 (f t.0 t.2)

pub open_not_unit : (vs : Values) (c : List Literal) (u : Literal) → IsOpen vs c → IsUnit vs c u → ⊥
open_not_unit vs c u (inl t) k = go (k.others t.0 t.1)
  where
    go : (t.0 ≡ u) ⊎ IsFalse vs t.0 → ⊥
    go (inl e) = no_value vs u.var t.0.on k.unvalued (ap (λ (w : Literal). value_of vs w.var) (sym e) ∙ t.2)
    go (inr f) = not_itself t.0.on (one_value vs t.0.var t.0.on (not t.0.on) t.2 f)
open_not_unit vs c u (inr t) k = go (k.others t.0 t.2) (k.others t.1 t.3)
  where
    go : (t.0 ≡ u) ⊎ IsFalse vs t.0 → (t.1 ≡ u) ⊎ IsFalse vs t.1 → ⊥
    go (inl d) (inl e) = t.6 (d ∙ sym e)
    go (inr f) _ = no_value vs t.0.var (not t.0.on) t.4 f
    go (inl d) (inr f) = no_value vs t.1.var (not t.1.on) t.5 f

-- where all clauses are open, their units' literals are true
pub unit_true : (cs : List (List Literal)) (vs ws : Values) (c : List Literal) (l : Literal) → AreOpen cs ws → Within vs ws → Has cs c → IsUnit vs c l → value_of ws l.var ≡ Some l.on
unit_true cs vs ws c l all w h u = go (value_of ws l.var) refl
  where
    moved : (m : Literal) → (m ≡ l) ⊎ IsFalse vs m → (m ≡ l) ⊎ IsFalse ws m
    moved m (inl e) = inl e
    moved m (inr f) = inr (w m.var (not m.on) f)

    all_false : IsFalse ws l → (m : Literal) → (m ≡ l) ⊎ IsFalse vs m → IsFalse ws m
    all_false d m (inl e) = subst (IsFalse ws) (sym e) d
    all_false d m (inr f) = w m.var (not m.on) f

    which : (b : Bool) → value_of ws l.var ≡ Some b → (b ≡ l.on) ⊎ (b ≡ not l.on) → value_of ws l.var ≡ Some l.on
    which b e (inl s) = e ∙ ap Some s
    which b e (inr s) = absurd (open_not_falsified ws c (all c h) (λ m k. all_false (e ∙ ap Some s) m (u.others m k)))

    go : (v : Option Bool) → value_of ws l.var ≡ v → value_of ws l.var ≡ Some l.on
    go None e = absurd (open_not_unit ws c l (all c h) (record { has = u.has; unvalued = e; others = λ m k. moved m (u.others m k) }))
    go (Some b) e = which b e (value_cases b l.on)

pub reached_within : (cs : List (List Literal)) (vs us ws : Values) → AreOpen cs ws → Within vs ws → Reaches cs vs us → Within us ws
reached_within cs vs us ws all w (here _) = w
reached_within cs vs us ws all w (by_unit _ _ c l h u r) =
    reached_within cs (with_true vs l) us ws all (grown_within vs ws l w (unit_true cs vs ws c l all w h u)) r

-- where all clauses are open, no order of unit clauses leads on
pub stuck : (cs : List (List Literal)) (vs ws : Values) → AreOpen cs ws → Within vs ws → Leads cs vs → ⊥
stuck cs vs ws all w leads =
    open_not_falsified ws leads.clause (all leads.clause leads.has)
    (falsified_within leads.end ws leads.clause (reached_within cs vs leads.end ws all w leads.reached) leads.falsified)
