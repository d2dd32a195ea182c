-- A clause that is put to those that are watched.
use Rattle.std.proofs.Common.{◌≡◌, ℕ, zero, suc, ◌<◌, ◌≤◌, ◌⊎◌, inl, inr, List, [], ◌∷◌, ◌++◌, length, take, slice_get, Some, refl, sym, ◌∙◌, ap, subst, arith}
use Rattle.std.proofs.lemmas.Option.{slice_get_within}
use Rattle.cfj_logic.specs.declared.clauses.Literal.{Literal}
use Rattle.cfj_words.specs.Lists.{Has}
use Rattle.unit_propagation.specs.declared.lists.Lists.{Lists}
use Rattle.unit_propagation.specs.declared.pair.Pair.{Pair}
use Rattle.unit_propagation.specs.declared.watches.Watches.{Watches}
use Rattle.unit_propagation.specs.Lists.{IsListed, AreMore}
use Rattle.unit_propagation.specs.Watched.{IsOf, AreTwoOf, IsShort, IsNoted, Fits, AreWatched, AreShortAt}
use Rattle.unit_propagation.proofs.Members.{length_one, lt_or_ge, one_item, slice_get_left, slice_get_end, slice_get_taken}
use Rattle.unit_propagation.proofs.Watching.{short_differ}

-- no clause is watched
pub none_watched : (w : Watches) → w.pairs.items ≡ [] → AreWatched [] w
none_watched w is = record {
  long = omega arith;
  paired = λ k c p there at. let lt = slice_get_within [] k c there in absurd (omega (arith, lt));
  listed = λ k c p at m of. let lt = slice_get_within [] k c at.clause in absurd (omega (arith, lt));
}

length_taken : {A : Type 0} (n : ℕ) (xs : List A) → n ≤ length xs → length (take n xs) ≡ n
length_taken zero xs le = refl
length_taken (suc n) [] le = absurd (omega arith)
length_taken (suc n) (x ∷ xs) le = ap suc (length_taken n xs (omega arith))

-- the lists have more, and no more pairs are kept than there are clauses
pub fits_kept : (cs : List (List Literal)) (ps qs : List Pair) (old new : Lists) → (qs ≡ ps) ⊎ (qs ≡ take (length cs) ps) → AreMore old new → Fits cs ps (IsListed old) → Fits cs qs (IsListed new)
fits_kept cs ps qs old new (inl same) more f = record {
  long = subst (λ (w : List Pair). length cs ≤ length w) (sym same) f.long;
  paired = λ k c p there at. f.paired k c p there (ap (λ w. slice_get w k) (sym same) ∙ at);
  listed = λ k c p at m of. more.kept m k (f.listed k c p (record { clause = at.clause; pair = ap (λ w. slice_get w k) (sym same) ∙ at.pair; two = at.two }) m of);
}
fits_kept cs ps qs old new (inr front) more f = record {
  long = let size : length qs ≡ length cs = ap length front ∙ length_taken (length cs) ps f.long in omega (arith, size);
  paired = λ k c p there at. f.paired k c p there (read k p (slice_get_within cs k c there) at);
  listed = λ k c p at m of. more.kept m k (f.listed k c p (record { clause = at.clause; pair = read k p (slice_get_within cs k c at.clause) at.pair; two = at.two }) m of);
}
  where
    read : (k : ℕ) (p : Pair) → k < length cs → slice_get qs k ≡ Some p → slice_get ps k ≡ Some p
    read k p lt at = sym (slice_get_taken ps (length cs) k lt) ∙ ap (λ w. slice_get w k) (sym front) ∙ at

-- an item of a list with one more
last_or_before : {A : Type 0} (xs : List A) (x y : A) (k : ℕ) → slice_get (xs ++ x ∷ []) k ≡ Some y → ((k < length xs) × (slice_get xs k ≡ Some y)) ⊎ ((k ≡ length xs) × (x ≡ y))
last_or_before xs x y k at = go (lt_or_ge k (length xs))
  where
    go : (k < length xs) ⊎ (length xs ≤ k) → ((k < length xs) × (slice_get xs k ≡ Some y)) ⊎ ((k ≡ length xs) × (x ≡ y))
    go (inl lt) = inl (lt, sym (slice_get_left xs (x ∷ []) k lt) ∙ at)
    go (inr le) =
        let within = slice_get_within (xs ++ x ∷ []) k y at in
        let size = length_one xs x in
        let last : k ≡ length xs = omega (arith, le, within, size) in
        inr (last, one_item (xs ++ x ∷ []) (length xs) x y (slice_get_end xs x) (ap (slice_get (xs ++ x ∷ [])) (sym last) ∙ at))

pub fits_added : (cs : List (List Literal)) (qs rs : List Pair) (lists : Lists) (c : List Literal) (p : Pair) → length qs ≡ length cs → rs ≡ qs ++ p ∷ [] → AreTwoOf c p ⊎ IsShort c →
    IsListed lists p.first (length cs) → IsListed lists p.second (length cs) → Fits cs qs (IsListed lists) → Fits (cs ++ c ∷ []) rs (IsListed lists)
fits_added cs qs rs lists c p size is two first second f = subst (λ w. Fits (cs ++ c ∷ []) w (IsListed lists)) (sym is) (record {
  long = let one = length_one cs c in let pairs = length_one qs p in omega (arith, one, pairs, size);
  paired = λ k d q there at. paired k d q (last_or_before cs c d k there) (last_or_before qs p q k at);
  listed = λ k d q at m of. listed k d q m at.two of (last_or_before cs c d k at.clause) (last_or_before qs p q k at.pair);
})
  where
    paired : (k : ℕ) (d : List Literal) (q : Pair) → ((k < length cs) × (slice_get cs k ≡ Some d)) ⊎ ((k ≡ length cs) × (c ≡ d)) → ((k < length qs) × (slice_get qs k ≡ Some q)) ⊎ ((k ≡ length qs) × (p ≡ q)) → AreTwoOf d q ⊎ IsShort d
    paired k d q (inl s) (inl t) = f.paired k d q s.1 t.1
    paired k d q (inr s) (inr t) = subst (λ w. AreTwoOf d w ⊎ IsShort d) t.1 (subst (λ w. AreTwoOf w p ⊎ IsShort w) s.1 two)
    paired k d q (inl s) (inr t) = let lt = s.0 in let e = t.0 in absurd (omega (arith, lt, e, size))
    paired k d q (inr s) (inl t) = let e = s.0 in let lt = t.0 in absurd (omega (arith, lt, e, size))

    here : (m : Literal) → IsOf m p → IsListed lists m (length cs)
    here m (inl e) = subst (λ w. IsListed lists w (length cs)) (sym e) first
    here m (inr e) = subst (λ w. IsListed lists w (length cs)) (sym e) second

    listed : (k : ℕ) (d : List Literal) (q : Pair) (m : Literal) → AreTwoOf d q → IsOf m q → ((k < length cs) × (slice_get cs k ≡ Some d)) ⊎ ((k ≡ length cs) × (c ≡ d)) → ((k < length qs) × (slice_get qs k ≡ Some q)) ⊎ ((k ≡ length qs) × (p ≡ q)) →
        IsListed lists m k
    listed k d q m t of (inl s) (inl r) = f.listed k d q (record { clause = s.1; pair = r.1; two = t }) m of
    listed k d q m t of (inr s) (inr r) = subst (IsListed lists m) (sym s.0) (here m (subst (IsOf m) (sym r.1) of))
    listed k d q m t of (inl s) (inr r) = let lt = s.0 in let e = r.0 in absurd (omega (arith, lt, e, size))
    listed k d q m t of (inr s) (inl r) = let e = s.0 in let lt = r.0 in absurd (omega (arith, lt, e, size))

-- one more pair makes no difference
pub fits_longer : (cs : List (List Literal)) (qs rs : List Pair) (p : Pair) (At : Literal → ℕ → Type 0) → rs ≡ qs ++ p ∷ [] → Fits cs qs At → Fits cs rs At
fits_longer cs qs rs p At is f = subst (λ w. Fits cs w At) (sym is) (record {
  long = let long = f.long in let one = length_one qs p in omega (arith, long, one);
  paired = λ k c q there at. f.paired k c q there (read k q (slice_get_within cs k c there) at);
  listed = λ k c q at m of. f.listed k c q (record { clause = at.clause; pair = read k q (slice_get_within cs k c at.clause) at.pair; two = at.two }) m of;
})
  where
    read : (k : ℕ) (q : Pair) → k < length cs → slice_get (qs ++ p ∷ []) k ≡ Some q → slice_get qs k ≡ Some q
    read k q lt at = let long = f.long in sym (slice_get_left qs (p ∷ []) k (omega (arith, lt, long))) ∙ at

-- as many pairs are kept as there are clauses
pub taken_size : (cs : List (List Literal)) (ps qs : List Pair) (At : Literal → ℕ → Type 0) → qs ≡ take (length cs) ps → Fits cs ps At → length qs ≡ length cs
taken_size cs ps qs At front f = ap length front ∙ length_taken (length cs) ps f.long

pub more_then : (a b c : Lists) → AreMore a b → AreMore b c → AreMore a c
more_then a b c f g = record { kept = λ m k h. g.kept m k (f.kept m k h); covered = λ m h. g.covered m (f.covered m h) }

pub more_same : (a : Lists) → AreMore a a
more_same a = record { kept = λ m k h. h; covered = λ m h. h }

-- ---- short clauses

pub short_more : (cs : List (List Literal)) (short more : List ℕ) → ((k : ℕ) → Has short k → Has more k) → AreShortAt cs short → AreShortAt cs more
short_more cs short more kept f = λ k c there s. kept k (f k c there s)

pub short_added : (cs ds : List (List Literal)) (short : List ℕ) (c : List Literal) (p : Pair) → ds ≡ cs ++ c ∷ [] → IsNoted c p short (length cs) → AreShortAt cs short → AreShortAt ds short
short_added cs ds short c p is noted f = subst (λ w. AreShortAt w short) (sym is) (λ k d there s. go k d s (last_or_before cs c d k there))
  where
    go : (k : ℕ) (d : List Literal) → IsShort d → ((k < length cs) × (slice_get cs k ≡ Some d)) ⊎ ((k ≡ length cs) × (c ≡ d)) → Has short k
    go k d s (inl t) = f k d t.1 s
    go k d s (inr t) = subst (Has short) (sym t.0) (noted.noted (subst IsShort (sym t.1) s))

-- a pair that a clause has
pub noted_pair : (short : List ℕ) (place : ℕ) (q : Pair) (c : List Literal) → AreTwoOf c q → IsNoted c q short place
noted_pair short place q c t = record { pair = inl t; noted = λ s. absurd (short_differ c q s t) }
