-- The lists of clauses.
use Rattle.std.specs.declared.alloc.Global.{Global}
use Rattle.std.proofs.Common.{Vec, ◌≡◌, ℕ, zero, suc, ◌-◌, ◌<◌, ◌≤◌, ◌⊎◌, inl, inr, Bool, true, false, List, [], ◌∷◌, ◌++◌, length, get_or, take, slice_get, slice_set, Some, refl, sym, ◌∙◌, ap, subst, arith}
use Rattle.std.specs.List.{swap_remove, slice_index_or}
use Rattle.std.proofs.lemmas.List.{length-set}
use Rattle.std.proofs.lemmas.Option.{slice_get_within, get_or_from_slice_get}
use Rattle.cfj_logic.specs.declared.clauses.Literal.{Literal}
use Rattle.cfj_words.specs.Lists.{Has}
use Rattle.unit_propagation.specs.declared.lists.Lists.{Lists}
use Rattle.unit_propagation.specs.Lists.{IsIn, Exchanges, IsListed, IsCovered, AreMore}
use Rattle.unit_propagation.proofs.Members.{slice_get_left, slice_get_taken, take_taken, same_or_other, get_set_same, get_set_other, take_set}

pub in_longer : (xs : List (Vec ℕ Global)) (v : Vec ℕ Global) (x k : ℕ) → IsIn xs x k → IsIn (xs ++ v ∷ []) x k
in_longer xs v x k h = record { list = h.list; there = slice_get_left xs (v ∷ []) x (slice_get_within xs x h.list h.there) ∙ h.there; has = h.has }

-- a list was changed that has what it had
pub in_changed : (xs : List (Vec ℕ Global)) (x : ℕ) (old new : Vec ℕ Global) → x < length xs → old ≡ get_or xs x old → ((k : ℕ) → Has old.items k → Has new.items k) →
    (y k : ℕ) → IsIn xs y k → IsIn (slice_set xs x new) y k
in_changed xs x old new lt is more y k h = go (same_or_other y x)
  where
    go : (y ≡ x) ⊎ (y ≡ x → ⊥) → IsIn (slice_set xs x new) y k
    go (inl e) =
        let read : old ≡ h.list = is ∙ get_or_from_slice_get xs x h.list old (ap (slice_get xs) (sym e) ∙ h.there) in
        record { list = new; there = ap (slice_get (slice_set xs x new)) e ∙ get_set_same xs x new lt; has = more k (subst (λ (w : Vec ℕ Global). Has w.items k) (sym read) h.has) }
    go (inr ne) = record { list = h.list; there = get_set_other xs x y new ne ∙ h.there; has = h.has }

pub in_here : (xs : List (Vec ℕ Global)) (x k : ℕ) (new : Vec ℕ Global) → x < length xs → Has new.items k → IsIn (slice_set xs x new) x k
in_here xs x k new lt h = record { list = new; there = get_set_same xs x new lt; has = h }

pub exchanged : (xs : List (Vec ℕ Global)) (x : ℕ) (old new : Vec ℕ Global) → x < length xs → old ≡ get_or xs x old → Exchanges xs (slice_set xs x new) x new.items old.items
exchanged xs x old new lt is = record { out = λ y k h. go y k h (same_or_other y x); back = λ k h. in_here xs x k new lt h; long = length-set xs x new }
  where
    go : (y k : ℕ) → IsIn xs y k → (y ≡ x) ⊎ (y ≡ x → ⊥) → ((y ≡ x → ⊥) × IsIn (slice_set xs x new) y k) ⊎ ((y ≡ x) × Has old.items k)
    go y k h (inl e) =
        let read : old ≡ h.list = is ∙ get_or_from_slice_get xs x h.list old (ap (slice_get xs) (sym e) ∙ h.there) in
        inr (e, subst (λ (w : Vec ℕ Global). Has w.items k) (sym read) h.has)
    go y k h (inr ne) = inl (ne, record { list = h.list; there = get_set_other xs x y new ne ∙ h.there; has = h.has })

pub longer_by : {A : Type 0} (n : ℕ) (xs ys : List A) (x : A) → ys ≡ xs ++ x ∷ [] → n ≤ length xs → n ≤ length ys
longer_by {A = A} n xs ys x is le = subst (λ w. n ≤ length w) (sym is) (go n xs le)
  where
    go : (n : ℕ) (xs : List A) → n ≤ length xs → n ≤ length (xs ++ x ∷ [])
    go n [] le = omega (arith, le)
    go zero (y ∷ xs) le = omega arith
    go (suc n) (y ∷ xs) le = let ih = go n xs (omega (arith, le)) in omega (arith, ih)

-- ---- lists of literals

pub in_on : (old : Lists) (on : Vec (Vec ℕ Global) Global) (l : Literal) (k : ℕ) → l.on ≡ true → IsIn on.items l.var k → IsListed (record old { on = on }) l k
in_on old on l k is h = rw is h

pub in_off : (old : Lists) (off : Vec (Vec ℕ Global) Global) (l : Literal) (k : ℕ) → l.on ≡ false → IsIn off.items l.var k → IsListed (record old { off = off }) l k
in_off old off l k is h = rw is h

pub more_on : (old : Lists) (on : Vec (Vec ℕ Global) Global) → ((x k : ℕ) → IsIn old.on.items x k → IsIn on.items x k) → length old.on.items ≤ length on.items → AreMore old (record old { on = on })
more_on old on kept longer = record { kept = λ m k h. go m.on m.var k h; covered = λ m lt. wide m.on m.var lt }
  where
    go : (b : Bool) (x k : ℕ) → IsListed old (record { var = x; on = b }) k → IsListed (record old { on = on }) (record { var = x; on = b }) k
    go true x k h = kept x k h
    go false x k h = h

    wide : (b : Bool) (x : ℕ) → IsCovered old (record { var = x; on = b }) → IsCovered (record old { on = on }) (record { var = x; on = b })
    wide true x lt = omega (arith, lt, longer)
    wide false x lt = lt

pub more_off : (old : Lists) (off : Vec (Vec ℕ Global) Global) → ((x k : ℕ) → IsIn old.off.items x k → IsIn off.items x k) → length old.off.items ≤ length off.items → AreMore old (record old { off = off })
more_off old off kept longer = record { kept = λ m k h. go m.on m.var k h; covered = λ m lt. wide m.on m.var lt }
  where
    go : (b : Bool) (x k : ℕ) → IsListed old (record { var = x; on = b }) k → IsListed (record old { off = off }) (record { var = x; on = b }) k
    go true x k h = h
    go false x k h = kept x k h

    wide : (b : Bool) (x : ℕ) → IsCovered old (record { var = x; on = b }) → IsCovered (record old { off = off }) (record { var = x; on = b })
    wide true x lt = lt
    wide false x lt = omega (arith, lt, longer)

pub out_on : (old : Lists) (on : Vec (Vec ℕ Global) Global) (l : Literal) (put taken : List ℕ) → l.on ≡ true → Exchanges old.on.items on.items l.var put taken → (m : Literal) (k : ℕ) → IsListed old m k →
    ((m ≡ l → ⊥) × IsListed (record old { on = on }) m k) ⊎ ((m ≡ l) × Has taken k)
out_on old on l put taken is x m k h = go m.on refl h
  where
    at_on : IsIn old.on.items m.var k → m.on ≡ true → ((m.var ≡ l.var → ⊥) × IsIn on.items m.var k) ⊎ ((m.var ≡ l.var) × Has taken k) → ((m ≡ l → ⊥) × IsListed (record old { on = on }) m k) ⊎ ((m ≡ l) × Has taken k)
    at_on _ e (inl r) = inl ((λ s. r.0 (ap (λ (w : Literal). w.var) s)), rw e r.1)
    at_on _ e (inr r) = inr ((let q : m.var ≡ l.var = r.0 in let o : m.on ≡ l.on = e ∙ sym is in λ i. record { var = q i; on = o i }), r.1)

    go : (b : Bool) → m.on ≡ b → IsListed old m k → ((m ≡ l → ⊥) × IsListed (record old { on = on }) m k) ⊎ ((m ≡ l) × Has taken k)
    go true e j = at_on (rw e at j) e (x.out m.var k (rw e at j))
    go false e j = inl ((λ s. let no : false ≡ true = sym e ∙ ap (λ (w : Literal). w.on) s ∙ is in cc no), rw e (rw e at j))

pub out_off : (old : Lists) (off : Vec (Vec ℕ Global) Global) (l : Literal) (put taken : List ℕ) → l.on ≡ false → Exchanges old.off.items off.items l.var put taken → (m : Literal) (k : ℕ) → IsListed old m k →
    ((m ≡ l → ⊥) × IsListed (record old { off = off }) m k) ⊎ ((m ≡ l) × Has taken k)
out_off old off l put taken is x m k h = go m.on refl h
  where
    at_off : m.on ≡ false → ((m.var ≡ l.var → ⊥) × IsIn off.items m.var k) ⊎ ((m.var ≡ l.var) × Has taken k) → ((m ≡ l → ⊥) × IsListed (record old { off = off }) m k) ⊎ ((m ≡ l) × Has taken k)
    at_off e (inl r) = inl ((λ s. r.0 (ap (λ (w : Literal). w.var) s)), rw e r.1)
    at_off e (inr r) = inr ((let q : m.var ≡ l.var = r.0 in let o : m.on ≡ l.on = e ∙ sym is in λ i. record { var = q i; on = o i }), r.1)

    go : (b : Bool) → m.on ≡ b → IsListed old m k → ((m ≡ l → ⊥) × IsListed (record old { off = off }) m k) ⊎ ((m ≡ l) × Has taken k)
    go false e j = at_off e (x.out m.var k (rw e at j))
    go true e j = inl ((λ s. let no : true ≡ false = sym e ∙ ap (λ (w : Literal). w.on) s ∙ is in cc no), rw e (rw e at j))

-- ---- an item that the last one takes the place of

pub swap_take : (xs : List ℕ) (i d : ℕ) → i < length xs → take i (swap_remove xs i d) ≡ take i xs
swap_take xs i d lt = take_taken (slice_set xs i (slice_index_or xs (length xs - 1) d)) i (length xs - 1) (omega arith) ∙ take_set xs i (slice_index_or xs (length xs - 1) d)

pub swap_has : (xs : List ℕ) (i d k place : ℕ) → i < length xs → slice_get xs i ≡ Some place → (k ≡ place → ⊥) → Has xs k → Has (swap_remove xs i d) k
swap_has xs i d k place lt at ne h = go (same_or_other h.0 (length xs - 1)) (same_or_other h.0 i)
  where
    last : ℕ
    last = length xs - 1

    value : ℕ
    value = slice_index_or xs last d

    within : h.0 < length xs
    within = slice_get_within xs h.0 k h.1

    here : h.0 ≡ i → ⊥
    here e = let s : Some k ≡ Some place = sym h.1 ∙ ap (slice_get xs) e ∙ at in ne (cc s)

    go : (h.0 ≡ last) ⊎ (h.0 ≡ last → ⊥) → (h.0 ≡ i) ⊎ (h.0 ≡ i → ⊥) → Has (swap_remove xs i d) k
    go _ (inl e) = absurd (here e)
    go (inl e) (inr off) =
        let is : value ≡ k = get_or_from_slice_get xs last k d (ap (slice_get xs) (sym e) ∙ h.1) in
        let lower : i < last = omega (arith, e, off, within, lt) in
        (i, slice_get_taken (slice_set xs i value) last i lower ∙ get_set_same xs i value lt ∙ ap Some is)
    go (inr before) (inr off) =
        let lower : h.0 < last = omega (arith, before, within) in
        (h.0, slice_get_taken (slice_set xs i value) last h.0 lower ∙ get_set_other xs i h.0 value off ∙ h.1)
