-- Lists of slots of which some are left out.
use Rattle.std.proofs.Common.{◌≡◌, refl, ℕ, ◌+◌, ◌≤◌, true, nat_le, List, [], ◌∷◌, ◌++◌, arith}
use Rattle.std.proofs.lemmas.Bool.{leb-true, le-leb, and_parts, and_from}
use Rattle.cfj_model.specs.ProductLines.{rise_from}

-- The first has some numbers of the second, in their order.
pub data IsSublist : List ℕ → List ℕ → Type 0 where
  end : IsSublist [] []
  both : (n : ℕ) (xs ys : List ℕ) → IsSublist xs ys → IsSublist (n ∷ xs) (n ∷ ys)
  past : (n : ℕ) (xs ys : List ℕ) → IsSublist xs ys → IsSublist xs (n ∷ ys)

pub sublist_append : (xs ys us vs : List ℕ) → IsSublist xs ys → IsSublist us vs → IsSublist (xs ++ us) (ys ++ vs)
sublist_append _ _ us vs end h = h
sublist_append _ _ us vs (both n xs ys g) h = both n (xs ++ us) (ys ++ vs) (sublist_append xs ys us vs g h)
sublist_append _ _ us vs (past n xs ys g) h = past n (xs ++ us) (ys ++ vs) (sublist_append xs ys us vs g h)

pub sublist_none : (ys : List ℕ) → IsSublist [] ys
sublist_none [] = end
sublist_none (n ∷ ys) = past n [] ys (sublist_none ys)

rise_above : (xs ys : List ℕ) (low least : ℕ) → low ≤ least → IsSublist xs ys → rise_from least ys ≡ true → rise_from low xs ≡ true
rise_above _ _ low least le end e = refl
rise_above _ _ low least le (both n xs ys h) e =
    let parts = and_parts (nat_le least n) (rise_from (n + 1) ys) e in
    let up = leb-true least n parts.0 in
    and_from (nat_le low n) (rise_from (n + 1) xs) (le-leb low n (omega arith)) (rise_above xs ys (n + 1) (n + 1) (omega arith) h parts.1)
rise_above _ _ low least le (past n xs ys h) e =
    let parts = and_parts (nat_le least n) (rise_from (n + 1) ys) e in
    let up = leb-true least n parts.0 in
    rise_above xs ys low (n + 1) (omega arith) h parts.1

-- slots that rise still rise
pub rise_sublist : (xs ys : List ℕ) → IsSublist xs ys → rise_from 0 ys ≡ true → rise_from 0 xs ≡ true
rise_sublist xs ys h e = rise_above xs ys 0 0 (omega arith) h e
