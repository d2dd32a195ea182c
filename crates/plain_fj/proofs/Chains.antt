-- Subtypes and superclasses by rules are those by chains.
use Rattle.std.proofs.Common.{◌≡◌, ℕ, zero, suc, ◌≤◌, ◌⊎◌, inl, inr, true, List, [], ◌∷◌, length, Option, None, Some, refl, sym, ◌∙◌, ap, subst, arith}
use Rattle.std.specs.List.{list_any}
use Rattle.std.specs.Str.{bytes_eq}
use Rattle.std.proofs.lemmas.Bool.{or_cases, or_left, or_right}
use Rattle.cfj_words.specs.Lists.{Has}
use Rattle.cfj_model.specs.LookUps.{Table, declared, without, added, chain_in, chain, is_subtype}
use Rattle.cfj_model.specs.Judging.{extends_itself}
use Rattle.cfj_model.specs.Typing.{Extends, IsSubtype, s_refl, s_extends, s_trans}
use Rattle.cfj_model.specs.declared.class.Class.{Class}
use Rattle.class_table.proofs.Members.{unlike, name_is, is_name, names_tell, has_none, has_cases, has_rest, any_has, has_any}
use Rattle.class_table.proofs.Without.{declared_name, declared_before, others, without_lt}

-- ---- what a chain reaches

-- the superclass of a class of the chain
abbrev Passes : ℕ → Table → List ℕ → List ℕ → Type 0
Passes k rest c n = (j : Class) × Has (chain_in k rest c) j × (j.parent ≡ n)

-- what the chain reaches and is declared is in the chain
chain_closed : (k : ℕ) (rest : Table) (c n : List ℕ) (d : Class) → length rest ≤ k → (n ≡ c) ⊎ Passes k rest c n → declared rest n ≡ Some d → Has (chain_in k rest c) d
unfolding chain_in
chain_closed zero rest c n d le r e = absurd (none rest le e)
  where
    none : (rest : Table) → length rest ≤ 0 → declared rest n ≡ Some d → ⊥
    none [] le e = unlike e
    none (j ∷ js) le e = omega arith
chain_closed (suc k) rest c n d le r e = at (λ m. chain_closed k (without c rest) m n d) (declared rest c) refl r
  where
    Below : List ℕ → Type 0
    Below m = (n ≡ m) ⊎ Passes k (without c rest) m n

    split : (j : Class) → (n ≡ c → ⊥) → (n ≡ c) ⊎ ((i : Class) × Has (j ∷ chain_in k (without c rest) j.parent) i × (i.parent ≡ n))
        → (n ≡ j.parent) ⊎ Passes k (without c rest) j.parent n
    split j ne (inl s) = absurd (ne s)
    split j ne (inr (i, h, t)) = head (has_cases j (chain_in k (without c rest) j.parent) i h)
      where
        head : (j ≡ i) ⊎ Has (chain_in k (without c rest) j.parent) i → (n ≡ j.parent) ⊎ Passes k (without c rest) j.parent n
        head (inl s) = inl (sym t ∙ ap (λ (w : Class). w.parent) (sym s))
        head (inr h) = inr (i, h, t)

    at : ((m : List ℕ) → length (without c rest) ≤ k → (n ≡ m) ⊎ Passes k (without c rest) m n → declared (without c rest) n ≡ Some d → Has (chain_in k (without c rest) m) d)
        → (o : Option Class) → declared rest c ≡ o
        → (n ≡ c) ⊎ ((j : Class) × Has (added (λ w. chain_in k (without c rest) w.parent) o) j × (j.parent ≡ n))
        → Has (added (λ w. chain_in k (without c rest) w.parent) o) d
    at ih None q (inl s) = absurd (unlike (sym q ∙ ap (declared rest) (sym s) ∙ e))
    at ih None q (inr (j, h, t)) = absurd (has_none j h)
    at ih (Some j) q r = tells (names_tell n c)
      where
        tells : (n ≡ c) ⊎ (n ≡ c → ⊥) → Has (j ∷ chain_in k (without c rest) j.parent) d
        tells (inl s) = (0, sym q ∙ ap (declared rest) (sym s) ∙ e)
        tells (inr ne) =
            let lt = without_lt rest c j q in
            has_rest j (chain_in k (without c rest) j.parent) d (ih j.parent (omega (arith, lt)) (split j ne r) (others rest c n ne ∙ e))

-- a class in the chain is declared, and the name that the chain begins with is a subtype of it
in_chain : (k : ℕ) (p rest : Table) (c : List ℕ) (d : Class) → ((m : List ℕ) (j : Class) → declared rest m ≡ Some j → declared p m ≡ Some j) → Has (chain_in k rest c) d
    → (declared p d.name ≡ Some d) × IsSubtype p c d.name
unfolding chain_in
in_chain zero p rest c d more h = absurd (has_none d h)
in_chain (suc k) p rest c d more h = at (λ n. in_chain k p (without c rest) n d (λ m j e. more m j (declared_before rest c m j e))) (declared rest c) refl h
  where
    at : ((n : List ℕ) → Has (chain_in k (without c rest) n) d → (declared p d.name ≡ Some d) × IsSubtype p n d.name)
        → (o : Option Class) → declared rest c ≡ o → Has (added (λ w. chain_in k (without c rest) w.parent) o) d → (declared p d.name ≡ Some d) × IsSubtype p c d.name
    at ih None q h = absurd (has_none d h)
    at ih (Some j) q h = head (has_cases j (chain_in k (without c rest) j.parent) d h)
      where
        head : (j ≡ d) ⊎ Has (chain_in k (without c rest) j.parent) d → (declared p d.name ≡ Some d) × IsSubtype p c d.name
        head (inl s) =
            let n : d.name ≡ c = ap (λ (w : Class). w.name) (sym s) ∙ declared_name rest c j q in
            (ap (declared p) n ∙ more c j q ∙ ap Some s, subst (IsSubtype p c) (sym n) (s_refl c))
        head (inr h) =
            let r = ih j.parent h in
            (r.0, s_trans c j.parent d.name (s_extends c j.parent (j, more c j q, refl)) r.1)

pub chain_has : (p : Table) (c : List ℕ) (d : Class) → Has (chain p c) d → (declared p d.name ≡ Some d) × IsSubtype p c d.name
chain_has p c d h = in_chain (length p) p p c d (λ m j q. q) h

-- ---- subtypes

-- a class of the chain has this superclass
abbrev Above : Table → List ℕ → List ℕ → Type 0
Above p c n = Passes (length p) p c n

above_step : (p : Table) (c n m : List ℕ) → (n ≡ c) ⊎ Above p c n → Extends p n m → Above p c m
above_step p c n m r x = (x.0, chain_closed (length p) p c n x.0 (omega arith) r x.1, x.2)

-- going on by subtypes from where a chain has come
above_on : (p : Table) (n m : List ℕ) → IsSubtype p n m → (c : List ℕ) → (n ≡ c) ⊎ Above p c n → (m ≡ c) ⊎ Above p c m
above_on p _ _ (s_refl n) c r = r
above_on p _ _ (s_extends n m x) c r = inr (above_step p c n m r x)
above_on p _ _ (s_trans n m o a b) c r = above_on p m o b c (above_on p n m a c r)

-- the same behind a first step
above_more : (p : Table) (n m : List ℕ) → IsSubtype p n m → (c : List ℕ) → Above p c n → Above p c m
above_more p _ _ (s_refl n) c r = r
above_more p _ _ (s_extends n m x) c r = above_step p c n m (inr r) x
above_more p _ _ (s_trans n m o a b) c r = above_more p m o b c (above_more p n m a c r)

-- Subtypes by rules are subtypes by chains.
pub subtype_holds : (p : Table) (c d : List ℕ) → IsSubtype p c d → is_subtype p c d ≡ true
subtype_holds p c d s = go (above_on p c d s c (inl refl))
  where
    go : (d ≡ c) ⊎ Above p c d → is_subtype p c d ≡ true
    go (inl e) = or_left (bytes_eq c d) (list_any (λ k. bytes_eq k.parent d) (chain p c)) (is_name c d (sym e))
    go (inr (k, h, e)) = or_right (bytes_eq c d) (list_any (λ k. bytes_eq k.parent d) (chain p c)) (has_any (λ k. bytes_eq k.parent d) (chain p c) k h (is_name k.parent d e))

pub holds_subtype : (p : Table) (c d : List ℕ) → is_subtype p c d ≡ true → IsSubtype p c d
holds_subtype p c d t = go (or_cases (bytes_eq c d) (list_any (λ k. bytes_eq k.parent d) (chain p c)) t)
  where
    go : (bytes_eq c d ≡ true) ⊎ (list_any (λ k. bytes_eq k.parent d) (chain p c) ≡ true) → IsSubtype p c d
    go (inl e) = subst (IsSubtype p c) (name_is c d e) (s_refl c)
    go (inr e) =
        let r = any_has (λ k. bytes_eq k.parent d) (chain p c) e in
        let h = chain_has p c r.0 r.1 in
        s_trans c r.0.name d h.1 (s_extends r.0.name d (r.0, h.0, name_is r.0.parent d r.2))

-- ---- classes that extend themselves

-- A class that extends a subtype of itself by the rules extends itself by its chain.
pub itself_found : (p : Table) (k : Class) (d : List ℕ) → Extends p k.name d → IsSubtype p d k.name → extends_itself p k ≡ true
itself_found p k d x s =
    let begun : Above p k.name d = above_step p k.name k.name d (inl refl) x in
    let last = above_more p d k.name s k.name begun in
    has_any (λ a. bytes_eq a.parent k.name) (chain p k.name) last.0 last.1 (is_name last.0.parent k.name last.2)

-- a subtype is the class itself, or begins with a step
first_step : (p : Table) (c n : List ℕ) → IsSubtype p c n → (n ≡ c) ⊎ ((d : List ℕ) × Extends p c d × IsSubtype p d n)
first_step p _ _ (s_refl c) = inl refl
first_step p _ _ (s_extends c d x) = inr (d, x, s_refl d)
first_step p _ _ (s_trans c d f a b) = go (first_step p c d a) (first_step p d f b)
  where
    go : (d ≡ c) ⊎ ((w : List ℕ) × Extends p c w × IsSubtype p w d) → (f ≡ d) ⊎ ((w : List ℕ) × Extends p d w × IsSubtype p w f)
        → (f ≡ c) ⊎ ((w : List ℕ) × Extends p c w × IsSubtype p w f)
    go (inl s) (inl t) = inl (t ∙ s)
    go (inl s) (inr t) = inr (t.0, subst (λ w. Extends p w t.0) s t.1, t.2)
    go (inr s) _ = inr (s.0, s.1, s_trans s.0 d f s.2 b)

-- A class that extends itself by its chain extends a subtype of itself by the rules.
pub itself_by_rules : (p : Table) (k : Class) → extends_itself p k ≡ true → (d : List ℕ) × Extends p k.name d × IsSubtype p d k.name
itself_by_rules p k t = go (first_step p k.name last.0.name h.1)
  where
    last : (a : Class) × Has (chain p k.name) a × (bytes_eq a.parent k.name ≡ true)
    last = any_has (λ a. bytes_eq a.parent k.name) (chain p k.name) t

    h : (declared p last.0.name ≡ Some last.0) × IsSubtype p k.name last.0.name
    h = chain_has p k.name last.0 last.1

    up : Extends p last.0.name k.name
    up = (last.0, h.0, name_is last.0.parent k.name last.2)

    go : (last.0.name ≡ k.name) ⊎ ((d : List ℕ) × Extends p k.name d × IsSubtype p d last.0.name) → (d : List ℕ) × Extends p k.name d × IsSubtype p d k.name
    go (inl s) = (k.name, subst (λ w. Extends p w k.name) s up, s_refl k.name)
    go (inr x) = (x.0, x.1, s_trans x.0 last.0.name k.name x.2 (s_extends last.0.name k.name up))

-- ---- chains where no class extends itself

abbrev pub IsAcyclic : Table → Type 0
IsAcyclic p = (c d : List ℕ) → Extends p c d → IsSubtype p d c → ⊥

-- the classes from c up to a name that isn't declared
pub data Walk (p : Table) : List ℕ → List Class → Type 0 where
  stop : (c : List ℕ) → declared p c ≡ None → Walk p c []
  go_on : (c : List ℕ) (k : Class) (ks : List Class) → declared p c ≡ Some k → Walk p k.parent ks → Walk p c (k ∷ ks)

walk_same : (p : Table) (c : List ℕ) (ks ls : List Class) → Walk p c ks → Walk p c ls → ks ≡ ls
walk_same p _ _ _ (stop c q) (stop _ r) = refl
walk_same p _ _ _ (stop c q) (go_on _ k ks r w) = absurd (unlike (sym q ∙ r))
walk_same p _ _ _ (go_on c k ks r w) (stop _ q) = absurd (unlike (sym q ∙ r))
walk_same p _ _ _ (go_on c k ks q v) (go_on _ l ls r w) =
    let e : Some k ≡ Some l = sym q ∙ r in
    let s : k ≡ l = cc e in
    let t = walk_same p k.parent ks ls v (subst (λ (z : Class). Walk p z.parent ls) (sym s) w) in
    cc

-- a name is found in what is left, or c is properly above it
abbrev Seen : Table → Table → List ℕ → List ℕ → Type 0
Seen p rest c n = (declared rest n ≡ declared p n) ⊎ ((d : List ℕ) × Extends p n d × IsSubtype p d c)

walks : (k : ℕ) (p rest : Table) (c : List ℕ) → IsAcyclic p → length rest ≤ k → ((n : List ℕ) → Seen p rest c n) → Walk p c (chain_in k rest c)
unfolding chain_in
walks zero p rest c acyclic le seen = go rest le (seen c)
  where
    go : (rest : Table) → length rest ≤ 0 → Seen p rest c c → Walk p c []
    go [] le (inl e) = stop c (sym e)
    go (j ∷ js) le s = absurd (omega arith)
    go [] le (inr (d, x, s)) = absurd (acyclic c d x s)
walks (suc k) p rest c acyclic le seen = at (λ j. walks k p (without c rest) j acyclic) (declared rest c) refl (seen c)
  where
    at : ((n : List ℕ) → length (without c rest) ≤ k → ((m : List ℕ) → Seen p (without c rest) n m) → Walk p n (chain_in k (without c rest) n))
        → (o : Option Class) → declared rest c ≡ o → Seen p rest c c → Walk p c (added (λ w. chain_in k (without c rest) w.parent) o)
    at ih o q (inr (d, x, s)) = absurd (acyclic c d x s)
    at ih None q (inl e) = stop c (sym e ∙ q)
    at ih (Some j) q (inl e) =
        let lt = without_lt rest c j q in
        go_on c j (chain_in k (without c rest) j.parent) found (ih j.parent (omega (arith, lt)) (λ m. still m (names_tell m c)))
      where
        found : declared p c ≡ Some j
        found = sym e ∙ q

        up : Extends p c j.parent
        up = (j, found, refl)

        still : (m : List ℕ) → (m ≡ c) ⊎ (m ≡ c → ⊥) → Seen p (without c rest) j.parent m
        still m (inl s) = inr (j.parent, subst (λ z. Extends p z j.parent) (sym s) up, s_refl j.parent)
        still m (inr ne) = on (seen m)
          where
            on : Seen p rest c m → Seen p (without c rest) j.parent m
            on (inl f) = inl (others rest c m ne ∙ f)
            on (inr (d, x, s)) = inr (d, x, s_trans d c j.parent s (s_extends c j.parent up))

-- Where no class extends itself a chain goes up to an undeclared name.
pub chain_walks : (p : Table) (c : List ℕ) → IsAcyclic p → Walk p c (chain p c)
chain_walks p c acyclic = walks (length p) p p c acyclic (omega arith) (λ n. inl refl)

pub chain_of_none : (p : Table) (c : List ℕ) → IsAcyclic p → declared p c ≡ None → chain p c ≡ []
chain_of_none p c acyclic q = walk_same p c (chain p c) [] (chain_walks p c acyclic) (stop c q)

pub chain_of_class : (p : Table) (c : List ℕ) (k : Class) → IsAcyclic p → declared p c ≡ Some k → chain p c ≡ k ∷ chain p k.parent
chain_of_class p c k acyclic q = walk_same p c (chain p c) (k ∷ chain p k.parent) (chain_walks p c acyclic) (go_on c k (chain p k.parent) q (chain_walks p k.parent acyclic))

-- what is above a name and declared is in the name's chain
pub above_in_chain : (p : Table) (c n : List ℕ) (d : Class) → IsSubtype p c n → declared p n ≡ Some d → Has (chain p c) d
above_in_chain p c n d s q = chain_closed (length p) p c n d (omega arith) (above_on p c n s c (inl refl)) q
