-- A chain that is walked up, class by class.
use Rattle.std.proofs.Common.{◌≡◌, ℕ, zero, suc, Bool, true, false, ◌||◌, cond, List, [], ◌∷◌, ◌++◌, length, Option, Some, None, is_some, Bor, refl, sym, ◌∙◌, ap, ap₂}
use Rattle.std.specs.List.{list_any}
use Rattle.std.specs.Map.{lookup}
use Rattle.std.specs.Str.{bytes_eq}
use Rattle.std.proofs.lemmas.List.{append_assoc, append-nil}
use Rattle.std.proofs.lemmas.List.Folds.{list_any-append}
use Rattle.cfj_model.specs.LookUps.{Table, declared, without, added, chain_in, chain}
use Rattle.cfj_model.specs.declared.class.Class.{Class}
use Rattle.class_table.specs.ByName.{seen, without_all}
use Rattle.class_table.proofs.Members.{name_is, name_differs}
use Rattle.class_table.proofs.Without.{declared_name, taken, others}

-- classes that are taken aren't found, and others as before
unseen : (ks : List Class) (p : Table) (m : List ℕ) → declared (without_all ks p) m ≡ cond (list_any (λ k. bytes_eq k.name m) ks) None (declared p m)
unseen [] p m = refl
unseen (k ∷ ks) p m = go (unseen ks (without k.name p) m) (bytes_eq k.name m) refl
  where
    any : Bool
    any = list_any (λ y. bytes_eq y.name m) ks

    nothing : (b : Bool) → cond {A = Option Class} b None None ≡ None
    nothing true = refl
    nothing false = refl

    go : declared (without_all ks (without k.name p)) m ≡ cond any None (declared (without k.name p) m) → (b : Bool) → bytes_eq k.name m ≡ b
        → declared (without_all ks (without k.name p)) m ≡ cond (b || any) None (declared p m)
    go ih true q = ih ∙ ap (cond any None) (ap (declared (without k.name p)) (sym (name_is k.name m q)) ∙ taken p k.name) ∙ nothing any
    go ih false q = ih ∙ ap (cond any None) (others p k.name m (λ e. name_differs k.name m q (sym e)))

without_push : (ks : List Class) (j : Class) (p : Table) → without_all (ks ++ j ∷ []) p ≡ without j.name (without_all ks p)
without_push [] j p = refl
without_push (k ∷ ks) j p = without_push ks j (without k.name p)

-- the classes taken so far, and the chain of what is left
abbrev pub IsWalked : Table → List ℕ → ℕ → List Class → List ℕ → Type 0
IsWalked p from left ks at = (ks ++ chain_in left (without_all ks p) at) ≡ chain p from

-- the marks are those of the classes that are taken
abbrev pub AreMarked : List (Bor (List ℕ) × Bor Class) → List Class → Type 0
AreMarked marks ks = (q : List ℕ) → is_some (lookup (λ k. bytes_eq q k.now) marks) ≡ list_any (λ k. bytes_eq k.name q) ks

pub untaken_is : (p : Table) (ks : List Class) (marks : List (Bor (List ℕ) × Bor Class)) (at : List ℕ) (o : Option Class) → AreMarked marks ks
    → o ≡ cond (is_some (lookup (λ k. bytes_eq at k.now) marks)) None (declared p at) → o ≡ declared (without_all ks p) at
untaken_is p ks marks at o marked e = e ∙ ap (λ b. cond {A = Option Class} b None (declared p at)) (marked at) ∙ sym (unseen ks p at)

pub walk_ends : (p : Table) (from : List ℕ) (n : ℕ) (ks : List Class) (at : List ℕ) → IsWalked p from n ks at → declared (without_all ks p) at ≡ None → ks ≡ chain p from
unfolding chain_in
walk_ends p from zero ks at walked none = sym (append-nil ks) ∙ walked
walk_ends p from (suc n) ks at walked none =
    sym (append-nil ks) ∙ ap (λ o. ks ++ added (λ c. chain_in n (without at (without_all ks p)) c.parent) o) (sym none) ∙ walked

pub walk_out : (p : Table) (from : List ℕ) (n : ℕ) (ks : List Class) (at : List ℕ) → IsWalked p from n ks at → n ≡ 0 → ks ≡ chain p from
unfolding chain_in
walk_out p from n ks at walked none = sym (append-nil ks) ∙ ap (λ z. ks ++ chain_in z (without_all ks p) at) (sym none) ∙ walked

pub walk_on : (p : Table) (from : List ℕ) (n m : ℕ) (ks js : List Class) (at : List ℕ) (j : Class) → IsWalked p from n ks at → declared (without_all ks p) at ≡ Some j → n ≡ suc m → js ≡ ks ++ j ∷ []
    → IsWalked p from m js j.parent
unfolding chain_in
walk_on p from n m ks js at j walked found more pushed =
    let name : j.name ≡ at = declared_name (without_all ks p) at j found in
    let rest : without at (without_all ks p) ≡ without_all js p = ap (λ z. without z (without_all ks p)) (sym name) ∙ sym (without_push ks j p) ∙ ap (λ z. without_all z p) (sym pushed) in
    ap₂ (λ z w. z ++ chain_in m w j.parent) pushed (sym rest)
    ∙ append_assoc ks (j ∷ []) (chain_in m (without at (without_all ks p)) j.parent)
    ∙ ap (λ o. ks ++ added (λ c. chain_in m (without at (without_all ks p)) c.parent) o) (sym found)
    ∙ ap (λ z. ks ++ chain_in z (without_all ks p) at) (sym more)
    ∙ walked

pub seen_push : (ks js : List (Bor Class)) (k : Bor Class) → js ≡ ks ++ k ∷ [] → seen js ≡ seen ks ++ k.now ∷ []
seen_push ks js k e = ap seen e ∙ go ks
  where
    go : (ks : List (Bor Class)) → seen (ks ++ k ∷ []) ≡ seen ks ++ k.now ∷ []
    go [] = refl
    go (x ∷ ks) = ap (λ zs. x.now ∷ zs) (go ks)

pub marked_more : (es ns : List (Bor (List ℕ) × Bor Class)) (ks js : List Class) (key : Bor (List ℕ)) (v : Bor Class) (j : Class) → AreMarked es ks → js ≡ ks ++ j ∷ [] → key.now ≡ j.name
    → ((q : Bor (List ℕ)) → lookup (λ k. bytes_eq q.now k.now) ns ≡ cond (bytes_eq key.now q.now) (Some v) (lookup (λ k. bytes_eq q.now k.now) es)) → AreMarked ns js
marked_more es ns ks js key v j marked pushed name more q =
    ap is_some (more (record { ref_ptr = (0, 0); now = q }))
    ∙ go (bytes_eq key.now q) (lookup (λ k. bytes_eq q k.now) es)
    ∙ ap₂ (λ a b. a || (b || false)) (marked q) (ap (λ n. bytes_eq n q) name)
    ∙ sym (list_any-append (λ k. bytes_eq k.name q) ks (j ∷ []))
    ∙ ap (list_any (λ k. bytes_eq k.name q)) (sym pushed)
  where
    go : (b : Bool) (o : Option (Bor Class)) → is_some (cond b (Some v) o) ≡ (is_some o || (b || false))
    go true None = refl
    go true (Some w) = refl
    go false None = refl
    go false (Some w) = refl

pub walk_begins : (p : Table) (from : List ℕ) (n : ℕ) (ks : List Class) → n ≡ length p → ks ≡ [] → IsWalked p from n ks from
walk_begins p from n ks e none = ap₂ (λ z w. w ++ chain_in z (without_all w p) from) e none

pub marked_none : (es : List (Bor (List ℕ) × Bor Class)) (ks : List Class) → es ≡ [] → ks ≡ [] → AreMarked es ks
marked_none es ks e none q = ap (λ z. is_some (lookup (λ k. bytes_eq q k.now) z)) e ∙ ap (list_any (λ k. bytes_eq k.name q)) (sym none)
