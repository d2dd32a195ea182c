-- Class tables without a class.
use Rattle.std.proofs.Common.{◌≡◌, ℕ, suc, ◌<◌, ◌≤◌, ◌⊎◌, inl, inr, Bool, true, false, not, cond, List, [], ◌∷◌, length, None, Some, refl, sym, ◌∙◌, ap, arith}
use Rattle.std.specs.Str.{bytes_eq}
use Rattle.cfj_words.specs.Lists.{Has}
use Rattle.cfj_model.specs.LookUps.{Table, is_called, declared, without}
use Rattle.cfj_model.specs.declared.class.Class.{Class}
use Rattle.class_table.proofs.Members.{unlike, name_is, names_tell, differs_name, find_has}

-- the class that is found has the name, and is one of the table's
pub declared_name : (p : Table) (n : List ℕ) (k : Class) → declared p n ≡ Some k → k.name ≡ n
declared_name p n k e = name_is k.name n (find_has (is_called n) p k e).1

pub declared_has : (p : Table) (n : List ℕ) (k : Class) → declared p n ≡ Some k → Has p k
declared_has p n k e = (find_has (is_called n) p k e).0

pub taken : (p : Table) (n : List ℕ) → declared (without n p) n ≡ None
taken [] n = refl
taken (k ∷ ks) n = go (taken ks n) (bytes_eq k.name n) refl
  where
    go : declared (without n ks) n ≡ None → (b : Bool) → bytes_eq k.name n ≡ b → declared (cond (not b) (k ∷ without n ks) (without n ks)) n ≡ None
    go ih true q = ih
    go ih false q = ap (λ t. cond t (Some k) (declared (without n ks) n)) q ∙ ih

-- another name is found as before
pub others : (p : Table) (n m : List ℕ) → (m ≡ n → ⊥) → declared (without n p) m ≡ declared p m
others [] n m ne = refl
others (k ∷ ks) n m ne = go (others ks n m ne) (bytes_eq k.name n) refl
  where
    go : declared (without n ks) m ≡ declared ks m → (b : Bool) → bytes_eq k.name n ≡ b
        → declared (cond (not b) (k ∷ without n ks) (without n ks)) m ≡ cond (bytes_eq k.name m) (Some k) (declared ks m)
    go ih true q =
        let f : bytes_eq k.name m ≡ false = differs_name k.name m (λ s. ne (sym s ∙ name_is k.name n q)) in
        ih ∙ ap (λ t. cond t (Some k) (declared ks m)) (sym f)
    go ih false q = ap (λ t. cond (bytes_eq k.name m) (Some k) t) ih

pub declared_before : (p : Table) (n m : List ℕ) (k : Class) → declared (without n p) m ≡ Some k → declared p m ≡ Some k
declared_before p n m k e = go (names_tell m n)
  where
    go : (m ≡ n) ⊎ (m ≡ n → ⊥) → declared p m ≡ Some k
    go (inl s) = absurd (unlike (sym (taken p n) ∙ ap (declared (without n p)) (sym s) ∙ e))
    go (inr ne) = sym (others p n m ne) ∙ e

pub without_le : (p : Table) (n : List ℕ) → length (without n p) ≤ length p
without_le [] n = omega arith
without_le (k ∷ ks) n = go (without_le ks n) (bytes_eq k.name n)
  where
    go : length (without n ks) ≤ length ks → (b : Bool) → length (cond (not b) (k ∷ without n ks) (without n ks)) ≤ suc (length ks)
    go ih true = omega arith
    go ih false = omega arith

pub without_lt : (p : Table) (n : List ℕ) (c : Class) → declared p n ≡ Some c → length (without n p) < length p
without_lt [] n c e = absurd (unlike e)
without_lt (k ∷ ks) n c e = go (without_lt ks n c) (bytes_eq k.name n) e
  where
    le : length (without n ks) ≤ length ks
    le = without_le ks n

    go : (declared ks n ≡ Some c → length (without n ks) < length ks) → (b : Bool) → cond b (Some k) (declared ks n) ≡ Some c
        → length (cond (not b) (k ∷ without n ks) (without n ks)) < suc (length ks)
    go ih true e = omega (arith, le)
    go ih false e = omega (arith, ih e)
