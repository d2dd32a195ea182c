-- Maps from class names that are filled class by class.
use Rattle.std.proofs.Common.{◌≡◌, ℕ, zero, suc, ◌+◌, Bool, true, false, cond, List, [], ◌∷◌, length, take, Option, Some, None, slice_get, Bor, refl, sym, ◌∙◌, ap, subst, add-one}
use Rattle.std.specs.Map.{lookup}
use Rattle.std.specs.Option.{MatchOption, option_copied, option_map_or}
use Rattle.std.specs.Str.{bytes_eq}
use Rattle.std.proofs.Math.Seq.{take-length}
use Rattle.cfj_model.specs.LookUps.{Table, declared, without, added, chain_in, chain}
use Rattle.cfj_model.specs.declared.class.Class.{Class}
use Rattle.class_table.specs.ByName.{Knows, IsClassOf, HasClasses, seen, IsChainOf, HasChains}
use Rattle.class_table.proofs.Members.{unlike, name_is}

none_more : (p : Table) (i : ℕ) (k : Class) (q : List ℕ) → slice_get p i ≡ Some k → bytes_eq k.name q ≡ false → declared (take i p) q ≡ None → declared (take (suc i) p) q ≡ None
none_more [] i k q at other none = absurd (unlike at)
none_more (x ∷ xs) zero k q at other none = let same : x ≡ k = cc at in ap (λ (c : Class). cond (bytes_eq c.name q) (Some x) None) same ∙ ap (λ b. cond b (Some x) None) other
none_more (x ∷ xs) (suc i) k q at other none = go (none_more xs i k q at other) (bytes_eq x.name q) none
  where
    go : (declared (take i xs) q ≡ None → declared (take (suc i) xs) q ≡ None) → (b : Bool) → cond b (Some x) (declared (take i xs) q) ≡ None → cond b (Some x) (declared (take (suc i) xs) q) ≡ None
    go ih true none = none
    go ih false none = ih none

-- an empty map knows what it has to of no class
pub knows_none : {V : Type 0} (wanted : List ℕ → V → Type 0) (p : Table) (es : List (Bor (List ℕ) × V)) → es ≡ [] → Knows wanted p 0 es
knows_none wanted p es e q = subst (λ z. MatchOption (lookup (λ k. bytes_eq q.now k.now) z) (declared (take 0 p) q.now ≡ None) (wanted q.now)) (sym e) refl

-- and of one more, where what is put in is wanted of the class's name
pub knows_more : {V : Type 0} (wanted : List ℕ → V → Type 0) (p : Table) (i : ℕ) (k : Class) (key : Bor (List ℕ)) (v : V) (es ns : List (Bor (List ℕ) × V))
    → Knows wanted p i es → slice_get p i ≡ Some k → key.now ≡ k.name → wanted key.now v
    → ((q : Bor (List ℕ)) → lookup (λ k. bytes_eq q.now k.now) ns ≡ cond (bytes_eq key.now q.now) (Some v) (lookup (λ k. bytes_eq q.now k.now) es))
    → Knows wanted p (i + 1) ns
knows_more {V = V} wanted p i k key v es ns known at name is more q =
    subst (λ o. MatchOption o (declared (take (i + 1) p) q.now ≡ None) (wanted q.now)) (sym (more q)) (go (bytes_eq key.now q.now) refl (lookup (λ k. bytes_eq q.now k.now) es) (known q))
  where
    go : (b : Bool) → bytes_eq key.now q.now ≡ b → (o : Option V) → MatchOption o (declared (take i p) q.now ≡ None) (wanted q.now)
        → MatchOption (cond b (Some v) o) (declared (take (i + 1) p) q.now ≡ None) (wanted q.now)
    go true e o h = subst (λ n. wanted n v) (name_is key.now q.now e) is
    go false e None h =
        ap (λ n. declared (take n p) q.now) (add-one i) ∙ none_more p i k q.now at (ap (λ n. bytes_eq n q.now) (sym name) ∙ e) h
    go false e (Some w) h = h

pub knows_classes : (p : Table) (i : ℕ) (es : List (Bor (List ℕ) × Bor Class)) → i ≡ length p → Knows (IsClassOf p) p i es → HasClasses p es
knows_classes p i es e known q = go (lookup (λ k. bytes_eq q.now k.now) es) (known q)
  where
    go : (o : Option (Bor Class)) → MatchOption o (declared (take i p) q.now ≡ None) (IsClassOf p q.now) → option_copied o ≡ declared p q.now
    go None h = sym h ∙ ap (λ n. declared (take n p) q.now) e ∙ ap (λ z. declared z q.now) (take-length p)
    go (Some k) h = sym h

no_chain_in : (k : ℕ) (p : Table) (n : List ℕ) → declared p n ≡ None → chain_in k p n ≡ []
unfolding chain_in
no_chain_in zero p n none = refl
no_chain_in (suc k) p n none = ap (added (λ c. chain_in k (without n p) c.parent)) none

no_chain : (p : Table) (n : List ℕ) → declared p n ≡ None → chain p n ≡ []
no_chain p n none = no_chain_in (length p) p n none

pub knows_chains : (p : Table) (i : ℕ) (es : List (Bor (List ℕ) × List (Bor Class))) → i ≡ length p → Knows (IsChainOf p) p i es → HasChains p es
knows_chains p i es e known q = go (lookup (λ k. bytes_eq q.now k.now) es) (known q)
  where
    go : (o : Option (List (Bor Class))) → MatchOption o (declared (take i p) q.now ≡ None) (IsChainOf p q.now) → option_map_or seen o [] ≡ chain p q.now
    go None h = sym (no_chain p q.now (sym (ap (λ n. declared (take n p) q.now) e ∙ ap (λ z. declared z q.now) (take-length p)) ∙ h))
    go (Some ks) h = h
