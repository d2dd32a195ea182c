-- What the standing of a clause says.
use Rattle.std.proofs.Common.{◌≡◌, ◌<◌, ◌⊎◌, inl, inr, Bool, true, false, not, cond, ◌==◌, ◌&&◌, List, [], ◌∷◌, ◌++◌, length, Option, Some, None, refl, sym, ◌∙◌, ap, subst, arith, append_assoc, append-nil}
use Rattle.std.proofs.lemmas.Bool.{eqb-true, eq-eqb}
use Rattle.std.proofs.lemmas.List.Sums.{sum_by-set}
use Rattle.std.specs.Prelude.{sum_by}
use Rattle.cfj_logic.specs.declared.clauses.Literal.{Literal}
use Rattle.unit_propagation.specs.declared.units.Standing.{Standing}
use Rattle.unit_propagation.specs.declared.units.Standing.TheVariants.{Open, Falsified, Unit as UnitOf}
use Rattle.cfj_words.specs.Lists.{Has}
use Rattle.cfj_logic.specs.UnitClauses.{Values, value_of, IsFalse, IsUnvalued, with_true, IsFalsified, IsUnit}
use Rattle.unit_propagation.specs.Standings.{bool_eq, literal_eq, joined, standing_from, IsOpen, Shows, unvalued}
use Rattle.unit_propagation.proofs.Members.{has_left, has_right, has_split, has_one, has_none, both_true}

bool_eq_true : (a b : Bool) → bool_eq a b ≡ true → a ≡ b
bool_eq_true true true e = refl
bool_eq_true true false e = absurd (let no : ⊥ = cc e in no)
bool_eq_true false true e = absurd (let no : ⊥ = cc e in no)
bool_eq_true false false e = refl

bool_eq_false : (a b : Bool) → bool_eq a b ≡ false → a ≡ not b
bool_eq_false true true e = absurd (let no : ⊥ = cc e in no)
bool_eq_false true false e = refl
bool_eq_false false true e = refl
bool_eq_false false false e = absurd (let no : ⊥ = cc e in no)

bool_eq_same : (b : Bool) → bool_eq b b ≡ true
bool_eq_same true = refl
bool_eq_same false = refl

pub literal_eq_true : (l m : Literal) → literal_eq l m ≡ true → l ≡ m
literal_eq_true l m e =
    let h = both_true (l.var == m.var) (bool_eq l.on m.on) e in
    let p : l.var ≡ m.var = eqb-true l.var m.var h.0 in
    let q : l.on ≡ m.on = bool_eq_true l.on m.on h.1 in
    λ i. record { var = p i; on = q i }

literal_eq_same : (l : Literal) → literal_eq l l ≡ true
literal_eq_same l = ap (λ b. b && bool_eq l.on l.on) (eq-eqb l.var l.var refl) ∙ bool_eq_same l.on

pub literal_eq_false : (l m : Literal) → literal_eq l m ≡ false → l ≡ m → ⊥
literal_eq_false l m e s = let no : true ≡ false = sym (literal_eq_same l) ∙ ap (literal_eq l) s ∙ e in cc no

-- ---- one more literal

falsified_more : (vs : Values) (c : List Literal) (l : Literal) → IsFalsified vs c → IsFalse vs l → IsFalsified vs (c ++ l ∷ [])
falsified_more vs c l f now m h = go (has_split c (l ∷ []) m h)
  where
    go : Has c m ⊎ Has (l ∷ []) m → IsFalse vs m
    go (inl k) = f m k
    go (inr k) = subst (IsFalse vs) (sym (has_one l m k)) now

unit_first : (vs : Values) (c : List Literal) (l : Literal) → IsFalsified vs c → IsUnvalued vs l → IsUnit vs (c ++ l ∷ []) l
unit_first vs c l f u = record { has = has_right c (l ∷ []) l (0, refl); unvalued = u; others = λ m h. go m (has_split c (l ∷ []) m h) }
  where
    go : (m : Literal) → Has c m ⊎ Has (l ∷ []) m → (m ≡ l) ⊎ IsFalse vs m
    go m (inl k) = inr (f m k)
    go m (inr k) = inl (has_one l m k)

unit_more : (vs : Values) (c : List Literal) (u l : Literal) → IsUnit vs c u → (l ≡ u) ⊎ IsFalse vs l → IsUnit vs (c ++ l ∷ []) u
unit_more vs c u l k now = record { has = has_left c (l ∷ []) u k.has; unvalued = k.unvalued; others = λ m h. go m (has_split c (l ∷ []) m h) }
  where
    last : (m : Literal) → m ≡ l → (l ≡ u) ⊎ IsFalse vs l → (m ≡ u) ⊎ IsFalse vs m
    last m e (inl s) = inl (e ∙ s)
    last m e (inr s) = inr (subst (IsFalse vs) (sym e) s)

    go : (m : Literal) → Has c m ⊎ Has (l ∷ []) m → (m ≡ u) ⊎ IsFalse vs m
    go m (inl h) = k.others m h
    go m (inr h) = last m (has_one l m h) now

open_more : (vs : Values) (c : List Literal) (l : Literal) → IsOpen vs c → IsOpen vs (c ++ l ∷ [])
open_more vs c l (inl t) = inl (t.0, has_left c (l ∷ []) t.0 t.1, t.2)
open_more vs c l (inr t) = inr (t.0, t.1, has_left c (l ∷ []) t.0 t.2, has_left c (l ∷ []) t.1 t.3, t.4, t.5, t.6)

shows_joined : (vs : Values) (c : List Literal) (s : Standing) (l : Literal) → Shows vs c s → Shows vs (c ++ l ∷ []) (joined s l (value_of vs l.var))
shows_joined vs c s l h = go s h (value_of vs l.var) refl
  where
    -- the literal is true, or false
    valued : (b v : Bool) → bool_eq v l.on ≡ b → value_of vs l.var ≡ Some v → (t : Standing) → (IsFalse vs l → Shows vs (c ++ l ∷ []) t) → Shows vs (c ++ l ∷ []) (cond b Open t)
    valued true v e is t f = inl (l, has_right c (l ∷ []) l (0, refl), is ∙ ap Some (bool_eq_true v l.on e))
    valued false v e is t f = f (is ∙ ap Some (bool_eq_false v l.on e))

    -- it is the unit again, or a second literal without a value
    second : (u : Literal) → IsUnit vs c u → value_of vs l.var ≡ None → (b : Bool) → literal_eq u l ≡ b → Shows vs (c ++ l ∷ []) (cond b (UnitOf u) Open)
    second u k is true e = unit_more vs c u l k (inl (sym (literal_eq_true u l e)))
    second u k is false e = inr (u, l, has_left c (l ∷ []) u k.has, has_right c (l ∷ []) l (0, refl), k.unvalued, is, literal_eq_false u l e)

    go : (s : Standing) → Shows vs c s → (v : Option Bool) → value_of vs l.var ≡ v → Shows vs (c ++ l ∷ []) (joined s l v)
    go Open k v is = open_more vs c l k
    go Falsified k (Some v) is = valued (bool_eq v l.on) v refl is Falsified (λ f. falsified_more vs c l k f)
    go Falsified k None is = unit_first vs c l k is
    go (UnitOf u) k (Some v) is = valued (bool_eq v l.on) v refl is (UnitOf u) (λ f. unit_more vs c u l k (inr f))
    go (UnitOf u) k None is = second u k is (literal_eq u l) refl

shows_from : (vs : Values) (front c : List Literal) (s : Standing) → Shows vs front s → Shows vs (front ++ c) (standing_from vs s c)
shows_from vs front [] s h = subst (λ w. Shows vs w s) (sym (append-nil front)) h
shows_from vs front (l ∷ c) s h =
    subst (λ w. Shows vs w (standing_from vs s (l ∷ c))) (append_assoc front (l ∷ []) c)
    (shows_from vs (front ++ l ∷ []) c (joined s l (value_of vs l.var)) (shows_joined vs front s l h))

pub shows : (vs : Values) (c : List Literal) → Shows vs c (standing_from vs Falsified c)
shows vs c = shows_from vs [] c Falsified (λ l h. absurd (has_none l h))

-- an open clause stays open with more literals
pub open_stays : (vs : Values) (c : List Literal) → standing_from vs Open c ≡ Open
open_stays vs [] = refl
open_stays vs (l ∷ c) = open_stays vs c

-- ---- fewer without a value

pub unvalued_falls : (vs : Values) (l : Literal) → l.var < length vs → IsUnvalued vs l → sum_by unvalued (with_true vs l) < sum_by unvalued vs
unvalued_falls vs l lt u =
    let e = sum_by-set unvalued vs l.var (Some l.on) None lt in
    let f : unvalued (value_of vs l.var) ≡ 1 = ap unvalued u in
    omega (arith, e, f)
