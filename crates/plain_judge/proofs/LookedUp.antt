-- Pairs of a site and a rule that are looked up by the parts of the site.
use Rattle.std.proofs.Common.{◌≡◌, ℕ, zero, suc, ◌+◌, ◌<◌, ◌≤◌, Bool, true, false, ◌||◌, cond, List, [], ◌∷◌, ◌++◌, length, map, take, slice_index_or, Some, ◌⊎◌, inl, inr, IsTrue, refl, sym, ◌∙◌, ap, subst}
use Rattle.std.specs.Prelude.{◌↔◌}
use Rattle.std.specs.List.{list_any}
use Rattle.std.proofs.lemmas.List.{take_all}
use Rattle.indexmap.specs.IndexSet.{insert_key}
use Rattle.cfj_model.specs.Judging.{Pair}
use Rattle.cfj_words.specs.Lists.{Has}
use Rattle.cfj_model.specs.declared.site.Rule.{Rule}
use Rattle.class_table.proofs.Members.{has_none, has_rest, has_left, has_right, has_either}
use Rattle.plain_fj.proofs.TypeLists.{take_more}
use Rattle.plain_judge.specs.PairParts.{IsSetOf, pair_parts, seen_pair}
use Rattle.plain_judge.specs.SiteParts.{SiteParts}
use Rattle.plain_judge.specs.declared.breaks.PairParts.{PairParts}
use Rattle.plain_judge.proofs.SameParts.{eq, eq-Decides, same_pair}

-- ---- among pairs, and among their parts

has_parts : (ps : List Pair) (p : Pair) → Has ps p → Has (map pair_parts ps) (pair_parts p)
has_parts [] p h = absurd (has_none p h)
has_parts (q ∷ ps) p (zero, e) = let same : q ≡ p = cc e in (zero, ap (λ z. Some (pair_parts z)) same)
has_parts (q ∷ ps) p (suc k, e) = has_rest (pair_parts q) (map pair_parts ps) (pair_parts p) (has_parts ps p (k, e))

parts_had : (ps : List Pair) (p : Pair) → Has (map pair_parts ps) (pair_parts p) → Has ps p
parts_had [] p h = absurd (has_none (pair_parts p) h)
parts_had (q ∷ ps) p (zero, e) = let same : pair_parts q ≡ pair_parts p = cc e in (zero, ap Some (same_pair q p same))
parts_had (q ∷ ps) p (suc k, e) = has_rest q ps p (parts_had ps p (k, e))

-- ---- a set of keys has what is seen of one

any_had : (keys : List PairParts) (k : PairParts) → list_any (eq k) keys ≡ true → Has (map seen_pair keys) (seen_pair k)
any_had [] k h = absurd (let no : ⊥ = cc h in no)
any_had (x ∷ xs) k h = go (any_had xs k) (eq k x) refl h
  where
    go : (list_any (eq k) xs ≡ true → Has (map seen_pair xs) (seen_pair k)) → (b : Bool) → eq k x ≡ b → (b || list_any (eq k) xs) ≡ true → Has (seen_pair x ∷ map seen_pair xs) (seen_pair k)
    go ih true e h = (zero, ap Some (sym ((eq-Decides k x).0 e)))
    go ih false e h = has_rest (seen_pair x) (map seen_pair xs) (seen_pair k) (ih h)

or_right : (a b : Bool) → b ≡ true → (a || b) ≡ true
or_right true b e = refl
or_right false b e = e

has_any : (keys : List PairParts) (k : PairParts) → Has (map seen_pair keys) (seen_pair k) → list_any (eq k) keys ≡ true
has_any [] k h = absurd (has_none (seen_pair k) h)
has_any (x ∷ xs) k (zero, e) = let same : seen_pair x ≡ seen_pair k = cc e in ap (λ b. b || list_any (eq k) xs) ((eq-Decides k x).1 (sym same))
has_any (x ∷ xs) k (suc j, e) = or_right (eq k x) (list_any (eq k) xs) (has_any xs k (j, e))

-- a pair is among those of the set where its parts are found
pub looked_up : (pairs : List Pair) (keys : List PairParts) (q : PairParts) (p : Pair) (b : Bool) → IsSetOf pairs keys → seen_pair q ≡ pair_parts p → b ≡ list_any (eq q) keys → IsTrue b ↔ Has pairs p
looked_up pairs keys q p b set same is = (
  λ h. parts_had pairs p (subst (Has (map pair_parts pairs)) same ((set (seen_pair q)).0 (any_had keys q (sym is ∙ h)))),
  λ h. is ∙ has_any keys q ((set (seen_pair q)).1 (subst (Has (map pair_parts pairs)) (sym same) (has_parts pairs p h))),
)

-- ---- a set that is filled

map-append : {A B : Type 0} (f : A → B) (xs : List A) (x : A) → map f (xs ++ x ∷ []) ≡ map f xs ++ f x ∷ []
map-append f [] x = refl
map-append f (y ∷ xs) x = ap (λ w. f y ∷ w) (map-append f xs x)

more_had : {A : Type 0} (xs ys zs : List A) (x : A) → (Has xs x → Has ys x) → Has (xs ++ zs) x → Has (ys ++ zs) x
more_had xs ys zs x kept h = go (has_either xs zs x h)
  where
    go : Has xs x ⊎ Has zs x → Has (ys ++ zs) x
    go (inl h) = has_left ys zs x (kept h)
    go (inr h) = has_right ys zs x h

last_had : {A : Type 0} (xs ys : List A) (y x : A) → Has xs y → (Has ys x → Has xs x) → Has (ys ++ y ∷ []) x → Has xs x
last_had xs ys y x there kept h = go (has_either ys (y ∷ []) x h)
  where
    go : Has ys x ⊎ Has (y ∷ []) x → Has xs x
    go (inl h) = kept h
    go (inr (zero, e)) = let same : y ≡ x = cc e in subst (Has xs) same there
    go (inr (suc k, e)) = absurd (has_none x (k, e))

-- a key is put in for the parts of the pair, where they aren't there
put_in : (pairs : List Pair) (keys : List PairParts) (k : PairParts) (p : Pair) → IsSetOf pairs keys → seen_pair k ≡ pair_parts p → IsSetOf (pairs ++ p ∷ []) (insert_key eq keys k)
put_in pairs keys k p set same x = go (list_any (eq k) keys) refl
  where
    seens : List (SiteParts × Rule)
    seens = map seen_pair keys

    parts : List (SiteParts × Rule)
    parts = map pair_parts pairs

    last : map pair_parts (pairs ++ p ∷ []) ≡ parts ++ seen_pair k ∷ []
    last = map-append pair_parts pairs p ∙ ap (λ z. parts ++ z ∷ []) (sym same)

    back : {Y : Type 0} → (Y ↔ Has (parts ++ seen_pair k ∷ []) x) → Y ↔ Has (map pair_parts (pairs ++ p ∷ [])) x
    back {Y = Y} h = subst (λ zs. Y ↔ Has zs x) (sym last) h

    go : (b : Bool) → list_any (eq k) keys ≡ b → Has (map seen_pair (cond b keys (keys ++ k ∷ []))) x ↔ Has (map pair_parts (pairs ++ p ∷ [])) x
    go true e = back (λ h. has_left parts (seen_pair k ∷ []) x ((set x).0 h), λ h. last_had seens parts (seen_pair k) x (any_had keys k e) ((set x).1) h)
    go false e =
        subst (λ zs. Has zs x ↔ Has (map pair_parts (pairs ++ p ∷ [])) x) (sym (map-append seen_pair keys k))
        (back (λ h. more_had seens parts (seen_pair k ∷ []) x ((set x).0) h, λ h. more_had parts seens (seen_pair k ∷ []) x ((set x).1) h))

pub set_none : (pairs : List Pair) (keys : List PairParts) → keys ≡ [] → IsSetOf (take 0 pairs) keys
set_none pairs keys e = subst (λ ks. IsSetOf [] ks) (sym e) (λ x. (λ h. h, λ h. h))

pub set_more : (pairs : List Pair) (i : ℕ) (keys news : List PairParts) (k : PairParts) (p : Pair) → IsSetOf (take i pairs) keys → i < length pairs → p ≡ slice_index_or pairs i p
    → seen_pair k ≡ pair_parts p → news ≡ insert_key eq keys k → IsSetOf (take (i + 1) pairs) news
set_more pairs i keys news k p set lt at same is =
    subst (λ ks. IsSetOf (take (i + 1) pairs) ks) (sym is)
    (subst (λ ps. IsSetOf ps (insert_key eq keys k)) (sym (take_more pairs i p lt at)) (put_in (take i pairs) keys k p set same))

pub set_all : (pairs : List Pair) (i : ℕ) (keys : List PairParts) → length pairs ≤ i → IsSetOf (take i pairs) keys → IsSetOf pairs keys
set_all pairs i keys le set = subst (λ ps. IsSetOf ps keys) (take_all i pairs le) set
