-- Whether clauses are true under an assignment, as tests, and what the clauses of a part say.
use Rattle.std.proofs.Common.{◌≡◌, ℕ, zero, suc, Bool, true, false, not, ◌&&◌, ◌||◌, List, [], ◌∷◌, ◌++◌, Some, slice_get, refl, sym, ◌∙◌, ap, ap₂}
use Rattle.cfj_logic.specs.declared.clauses.Literal.{Literal}
use Rattle.cfj_logic.specs.Logs.{Assignment, IsTrueIn, IsModel}
use Rattle.cond_circuit.specs.declared.part.Part.{Part}
use Rattle.cond_circuit.specs.declared.part.Part.TheVariants.{Zero, One, Feat, Not, And, Or}
use Rattle.cnf_form.specs.GateClauses.{is_inner, part_clauses}

abbrev pub same : Bool → Bool → Bool
same true b = b
same false b = not b

pub same-true : (x y : Bool) → same x y ≡ true → x ≡ y
same-true true true e = refl
same-true true false e = absurd (let no : ⊥ = cc e in no)
same-true false true e = absurd (let no : ⊥ = cc e in no)
same-true false false e = refl

pub same-refl : (x : Bool) → same x x ≡ true
same-refl true = refl
same-refl false = refl

-- a literal of the clause is true
abbrev pub holds : Assignment → List Literal → Bool
holds v [] = false
holds v (l ∷ c) = same l.on (v l.var) || holds v c

-- all clauses are true
abbrev pub hold : Assignment → List (List Literal) → Bool
hold v [] = true
hold v (c ∷ cs) = holds v c && hold v cs

pub and_left : (x y : Bool) → (x && y) ≡ true → x ≡ true
and_left true y e = refl
and_left false y e = e

pub and_right : (x y : Bool) → (x && y) ≡ true → y ≡ true
and_right true y e = e
and_right false y e = absurd (let no : ⊥ = cc e in no)

pub both : (x y : Bool) → x ≡ true → y ≡ true → (x && y) ≡ true
both x y e f = ap₂ (λ a b. a && b) e f

pub hold-append : (v : Assignment) (cs ds : List (List Literal)) → hold v (cs ++ ds) ≡ (hold v cs && hold v ds)
hold-append v [] ds = refl
hold-append v (c ∷ cs) ds = ap (λ b. holds v c && b) (hold-append v cs ds) ∙ grouped (holds v c) (hold v cs) (hold v ds)
  where
    grouped : (x y z : Bool) → (x && (y && z)) ≡ ((x && y) && z)
    grouped true y z = refl
    grouped false y z = refl

-- ---- tests and facts

holds_true : (v : Assignment) (c : List Literal) → holds v c ≡ true → IsTrueIn v c
holds_true v [] e = absurd (let no : ⊥ = cc e in no)
holds_true v (l ∷ c) e = go (same l.on (v l.var)) refl e (holds_true v c)
  where
    go : (b : Bool) → same l.on (v l.var) ≡ b → (b || holds v c) ≡ true → (holds v c ≡ true → IsTrueIn v c) → IsTrueIn v (l ∷ c)
    go true is e rest = (l, (0, refl), sym (same-true l.on (v l.var) is))
    go false is e rest =
        let r = rest e in
        (r.0, (suc r.1.0, r.1.1), r.2)

true_holds : (v : Assignment) (c : List Literal) (l : Literal) (k : ℕ) → slice_get c k ≡ Some l → v l.var ≡ l.on → holds v c ≡ true
true_holds v [] l k is e = absurd (let no : ⊥ = cc is in no)
true_holds v (m ∷ c) l zero is e =
    let eq : m ≡ l = cc is in
    ap (λ (n : Literal). same n.on (v n.var) || holds v c) eq ∙ ap (λ b. same l.on b || holds v c) e ∙ ap (λ b. b || holds v c) (same-refl l.on)
true_holds v (m ∷ c) l (suc k) is e = ap (λ b. same m.on (v m.var) || b) (true_holds v c l k is e) ∙ or_true (same m.on (v m.var))
  where
    or_true : (x : Bool) → (x || true) ≡ true
    or_true true = refl
    or_true false = refl

pub hold_model : (v : Assignment) (cs : List (List Literal)) → hold v cs ≡ true → IsModel cs v
hold_model v cs e = λ c has. go cs e has.0 c has.1
  where
    go : (cs : List (List Literal)) → hold v cs ≡ true → (k : ℕ) (c : List Literal) → slice_get cs k ≡ Some c → IsTrueIn v c
    go [] e k c is = absurd (let no : ⊥ = cc is in no)
    go (d ∷ cs) e zero c is = holds_true v c (let eq : d ≡ c = cc is in ap (holds v) (sym eq) ∙ and_left (holds v d) (hold v cs) e)
    go (d ∷ cs) e (suc k) c is = go cs (and_right (holds v d) (hold v cs) e) k c is

pub model_hold : (v : Assignment) (cs : List (List Literal)) → IsModel cs v → hold v cs ≡ true
model_hold v [] m = refl
model_hold v (c ∷ cs) m =
    let t = m c (0, refl) in
    both (holds v c) (hold v cs) (true_holds v c t.0 t.1.0 t.1.1 t.2) (model_hold v cs (λ d has. m d (suc has.0, has.1)))

-- ---- what the clauses of a part say

abbrev pub by_part : (ℕ → Bool) → Part → Bool
by_part m Zero = false
by_part m One = false
by_part m (Feat f) = false
by_part m (Not a) = not (m a)
by_part m (And a b) = m a && m b
by_part m (Or a b) = m a || m b

not_table : (x a : Bool) → ((x || (a || false)) && ((not x || (not a || false)) && true)) ≡ same x (not a)
not_table true true = refl
not_table true false = refl
not_table false true = refl
not_table false false = refl

and_table : (x a b : Bool) → ((not x || (a || false)) && ((not x || (b || false)) && ((x || (not a || (not b || false))) && true))) ≡ same x (a && b)
and_table true true true = refl
and_table true true false = refl
and_table true false true = refl
and_table true false false = refl
and_table false true true = refl
and_table false true false = refl
and_table false false true = refl
and_table false false false = refl

or_table : (x a b : Bool) → ((x || (not a || false)) && ((x || (not b || false)) && ((not x || (a || (b || false))) && true))) ≡ same x (a || b)
or_table true true true = refl
or_table true true false = refl
or_table true false true = refl
or_table true false false = refl
or_table false true true = refl
or_table false true false = refl
or_table false false true = refl
or_table false false false = refl

-- the clauses of a part are true exactly where the variable has the part's value
pub part_hold : (v : Assignment) (w : ℕ → ℕ) (x : ℕ) (p : Part) → is_inner p ≡ true → hold v (part_clauses w x p) ≡ same (v x) (by_part (λ a. v (w a)) p)
part_hold v w x Zero e = absurd (let no : ⊥ = cc e in no)
part_hold v w x One e = absurd (let no : ⊥ = cc e in no)
part_hold v w x (Feat f) e = absurd (let no : ⊥ = cc e in no)
part_hold v w x (Not a) e = not_table (v x) (v (w a))
part_hold v w x (And a b) e = and_table (v x) (v (w a)) (v (w b))
part_hold v w x (Or a b) e = or_table (v x) (v (w a)) (v (w b))
