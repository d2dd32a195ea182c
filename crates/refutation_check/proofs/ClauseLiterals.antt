-- The literals of clauses over features.
use Rattle.std.proofs.Common.{◌≡◌, ◌≢◌, eqb, ℕ, zero, suc, ◌+◌, ◌-◌, ◌<◌, ◌≤◌, ◌⊎◌, inl, inr, Bool, true, false, List, ◌++◌, refl, sym, ◌∙◌, ap, arith, append_assoc, append-nil, Some}
use Rattle.cfj_logic.specs.declared.clauses.Literal.{Literal}
use Rattle.cfj_logic.specs.Selections.{has_bit}
use Rattle.cfj_logic.specs.Sides.{Sides}
use Rattle.cfj_words.specs.Lists.{Has}
use Rattle.cfj_logic.specs.Logs.{literal_if, literals_from, literals}
use Rattle.unit_propagation.proofs.Members.{has_left, has_right, has_split, has_none, has_one}
use Rattle.std.proofs.lemmas.Bool.Decides.{eqb_tells}

literals_step : (c : Sides) (f : ℕ) → f < 128 → literals_from c (128 - f) f ≡ literal_if (has_bit c.on f) f true ++ (literal_if (has_bit c.off f) f false ++ literals_from c (128 - (f + 1)) (f + 1))
literals_step c f lt = let e : 128 - f ≡ suc (128 - (f + 1)) = omega arith in ap (λ k. literals_from c k f) e

pub literals_more : (c : Sides) (f : ℕ) (xs ys zs all : List Literal) (on off : Bool) → f < 128 → ys ≡ xs ++ literal_if on f true → zs ≡ ys ++ literal_if off f false → on ≡ has_bit c.on f → off ≡ has_bit c.off f →
    xs ++ literals_from c (128 - f) f ≡ all → zs ++ literals_from c (128 - (f + 1)) (f + 1) ≡ all
literals_more c f xs ys zs all on off lt ys_is zs_is on_is off_is so_far =
    let rest : List Literal = literals_from c (128 - (f + 1)) (f + 1) in
    let a : List Literal = literal_if (has_bit c.on f) f true in
    let b : List Literal = literal_if (has_bit c.off f) f false in
    let y : ys ≡ xs ++ a = ys_is ∙ ap (λ t. xs ++ literal_if t f true) on_is in
    let z : zs ≡ xs ++ a ++ b = zs_is ∙ ap (λ t. ys ++ literal_if t f false) off_is ∙ ap (λ w. w ++ b) y in
    ap (λ w. w ++ rest) z ∙ append_assoc (xs ++ a) b rest ∙ append_assoc xs a (b ++ rest) ∙ ap (λ w. xs ++ w) (sym (literals_step c f lt)) ∙ so_far

pub literals_first : (c : Sides) → literals_from c (128 - 0) 0 ≡ literals c
unfolding literals
literals_first c = refl

pub literals_end : (c : Sides) (f : ℕ) (xs : List Literal) → f ≡ 128 → xs ++ literals_from c (128 - f) f ≡ literals c → xs ≡ literals c
literals_end c f xs e so_far = sym (append-nil xs) ∙ ap (λ k. xs ++ literals_from c k f) (sym zero_left) ∙ so_far
  where
    zero_left : 128 - f ≡ 0
    zero_left = omega arith

-- ---- which literals

-- the side of the clause that a literal is on
abbrev pub side : Sides → Bool → ℕ
side c true = c.on
side c false = c.off

has_literal_if : (test : Bool) (f : ℕ) (on : Bool) (l : Literal) → Has (literal_if test f on) l → (test ≡ true) × (l.var ≡ f) × (l.on ≡ on)
has_literal_if true f on l h = let e : l ≡ record { var = f; on = on } = has_one _ l h in (refl, ap (λ (w : Literal). w.var) e, ap (λ (w : Literal). w.on) e)
has_literal_if false f on l h = absurd (has_none l h)

literal_if_has : (test : Bool) (f : ℕ) (on : Bool) (l : Literal) → test ≡ true → l.var ≡ f → l.on ≡ on → Has (literal_if test f on) l
literal_if_has true f on l t v o = let e : record { var = f; on = on } ≡ l = sym (λ i. record { var = v i; on = o i }) in (0, ap Some e)
literal_if_has false f on l t v o = absurd (let no : ⊥ = cc t in no)

-- the literal is of one of these features, and on its side of the clause
abbrev IsFrom : Sides → ℕ → ℕ → Literal → Type 0
IsFrom c n f l = (f ≤ l.var) × (l.var < f + n) × (has_bit (side c l.on) l.var ≡ true)

from_here : (c : Sides) (n f : ℕ) (l : Literal) (on : Bool) → Has (literal_if (has_bit (side c on) f) f on) l → IsFrom c (suc n) f l
from_here c n f l on k =
    let r = has_literal_if (has_bit (side c on) f) f on l k in
    let v : l.var ≡ f = r.1 in
    (omega arith, omega arith, ap (λ b. has_bit (side c b) l.var) r.2 ∙ ap (has_bit (side c on)) v ∙ r.0)

from_later : (c : Sides) (n f : ℕ) (l : Literal) → IsFrom c n (f + 1) l → IsFrom c (suc n) f l
from_later c n f l r = let a : f + 1 ≤ l.var = r.0 in let b : l.var < f + 1 + n = r.1 in (omega arith, omega arith, r.2)

from_has : (c : Sides) (n f : ℕ) (l : Literal) → Has (literals_from c n f) l → IsFrom c n f l
from_has c zero f l h = absurd (has_none l h)
from_has c (suc n) f l h = go (λ k. from_has c n (f + 1) l k) (has_split (literal_if (has_bit c.on f) f true) (literal_if (has_bit c.off f) f false ++ literals_from c n (f + 1)) l h)
  where
    second : (Has (literals_from c n (f + 1)) l → IsFrom c n (f + 1) l) → Has (literal_if (has_bit c.off f) f false) l ⊎ Has (literals_from c n (f + 1)) l → IsFrom c (suc n) f l
    second ih (inl k) = from_here c n f l false k
    second ih (inr k) = from_later c n f l (ih k)

    go : (Has (literals_from c n (f + 1)) l → IsFrom c n (f + 1) l) → Has (literal_if (has_bit c.on f) f true) l ⊎ Has (literal_if (has_bit c.off f) f false ++ literals_from c n (f + 1)) l → IsFrom c (suc n) f l
    go ih (inl k) = from_here c n f l true k
    go ih (inr k) = second ih (has_split (literal_if (has_bit c.off f) f false) (literals_from c n (f + 1)) l k)

-- a literal of the clause is below 128, and on its side
pub literals_has : (c : Sides) (l : Literal) → Has (literals c) l → (l.var < 128) × (has_bit (side c l.on) l.var ≡ true)
unfolding literals
literals_has c l h = let r = from_has c 128 0 l h in (r.1, r.2)

from_in : (c : Sides) (n f x : ℕ) (on : Bool) → f ≤ x → x < f + n → has_bit (side c on) x ≡ true → Has (literals_from c n f) (record { var = x; on = on })
from_in c zero f x on le lt bit = absurd (omega arith)
from_in c (suc n) f x on le lt bit = go on bit (eqb_tells x f) (λ later. from_in c n (f + 1) x on later (omega arith) bit)
  where
    rest : List Literal
    rest = literals_from c n (f + 1)

    first : (b : Bool) → has_bit (side c b) x ≡ true → x ≡ f → Has (literal_if (has_bit (side c b) f) f b) (record { var = x; on = b })
    first b t e = literal_if_has (has_bit (side c b) f) f b (record { var = x; on = b }) (ap (has_bit (side c b)) (sym e) ∙ t) e refl

    place : (b : Bool) → Has (literal_if (has_bit (side c b) f) f b) (record { var = x; on = b }) → Has (literals_from c (suc n) f) (record { var = x; on = b })
    place true h = has_left (literal_if (has_bit c.on f) f true) (literal_if (has_bit c.off f) f false ++ rest) (record { var = x; on = true }) h
    place false h = has_right (literal_if (has_bit c.on f) f true) (literal_if (has_bit c.off f) f false ++ rest) (record { var = x; on = false }) (has_left (literal_if (has_bit c.off f) f false) rest (record { var = x; on = false }) h)

    go : (b : Bool) → has_bit (side c b) x ≡ true → ((eqb x f ≡ true) × (x ≡ f)) ⊎ ((eqb x f ≡ false) × (x ≢ f)) → (f + 1 ≤ x → Has rest (record { var = x; on = b })) → Has (literals_from c (suc n) f) (record { var = x; on = b })
    go b t (inl e) ih = place b (first b t e.1)
    go b t (inr e) ih = let ne = e.1 in has_right (literal_if (has_bit c.on f) f true) (literal_if (has_bit c.off f) f false ++ rest) (record { var = x; on = b })
        (has_right (literal_if (has_bit c.off f) f false) rest (record { var = x; on = b }) (ih (omega (arith, ne))))

-- a bit of a side is a literal of the clause
pub literals_in : (c : Sides) (x : ℕ) (on : Bool) → x < 128 → has_bit (side c on) x ≡ true → Has (literals c) (record { var = x; on = on })
unfolding literals
literals_in c x on lt bit = from_in c 128 0 x on (omega arith) (omega arith) bit
