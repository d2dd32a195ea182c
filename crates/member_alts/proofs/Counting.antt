-- One more member is counted, and numbers are written one behind the other.
use Rattle.std.proofs.Common.{◌≡◌, ℕ, zero, suc, ◌+◌, ◌<◌, Bool, true, false, cond, if◌then◌else◌, List, [], ◌∷◌, ◌++◌, length, map, filter, take, set, get_or, Option, Some, unwrap_or, refl, sym, ap, ◌∙◌, add-zero, arith}
use Rattle.std.specs.Str.{bytes_eq}
use Rattle.std.proofs.lemmas.List.{append-nil, append_assoc, map-append, length-append, length-map}
use Rattle.std.proofs.lemmas.List.Elements.{filter-append}
use Rattle.std.proofs.lemmas.Slice.Eq.{bytes_eq-Decides}
use Rattle.cfj_model.specs.Members.{Placed, namesakes, placed, placed_behind}
use Rattle.member_alts.specs.Counts.{count_of, AreCounted}
use Rattle.member_alts.specs.Numbers.{with_alts, with_namesakes}

-- a name counted once more, by what a map has at each name
pub counted_once : (old new : List ℕ → Option ℕ) (name : List ℕ) (n : ℕ) → unwrap_or (old name) 0 ≡ n
    → ((w : List ℕ) → new w ≡ cond (bytes_eq name w) (Some (n + 1)) (old w))
    → (w : List ℕ) → unwrap_or (new w) 0 ≡ unwrap_or (old w) 0 + (if bytes_eq name w then 1 else 0)
counted_once old new name n was puts w = ap (λ o. unwrap_or o 0) (puts w) ∙ by (bytes_eq name w) refl
  where
    by : (b : Bool) → bytes_eq name w ≡ b → unwrap_or (cond b (Some (n + 1)) (old w)) 0 ≡ unwrap_or (old w) 0 + (if b then 1 else 0)
    by true e = ap (λ k. k + 1) (sym was ∙ ap (λ v. unwrap_or (old v) 0) ((bytes_eq-Decides name w).0 e))
    by false e = sym (add-zero (unwrap_or (old w) 0))

module _ {A : Type 0} where
  -- the last of a list is placed behind all others
  placed_behind-push : (before xs : List A) (x : A) → placed_behind before (xs ++ x ∷ []) ≡ placed_behind before xs ++ record { before = before ++ xs; item = x } ∷ []
  placed_behind-push before [] x = let at : List A → List (Placed A) = λ b. record { before = b; item = x } ∷ [] in ap at (sym (append-nil before))
  placed_behind-push before (y ∷ ys) x =
      let first : Placed A = record { before = before; item = y } in
      let at : List A → List (Placed A) = λ b. first ∷ (placed_behind (before ++ y ∷ []) ys ++ record { before = b; item = x } ∷ []) in
      ap (λ ps. first ∷ ps) (placed_behind-push (before ++ y ∷ []) ys x) ∙ ap at (append_assoc before (y ∷ []) ys)

  length-placed_behind : (before xs : List A) → length (placed_behind before xs) ≡ length xs
  length-placed_behind before [] = refl
  length-placed_behind before (x ∷ xs) = ap suc (length-placed_behind (before ++ x ∷ []) xs)

  one_more : (b : Bool) (x : A) → length (if b then x ∷ [] else []) ≡ (if b then 1 else 0)
  one_more true x = refl
  one_more false x = refl

  count_of-push : (name_of : A → List ℕ) (xs : List A) (x : A) (w : List ℕ)
      → count_of name_of (xs ++ x ∷ []) w ≡ count_of name_of xs w + (if bytes_eq (name_of x) w then 1 else 0)
  count_of-push name_of xs x w =
      let has : A → Bool = λ y. bytes_eq (name_of y) w in
      ap length (filter-append has xs (x ∷ [])) ∙ length-append (filter has xs) (filter has (x ∷ [])) ∙ ap (λ n. count_of name_of xs w + n) (one_more (has x) x)

  found-push : (name_of : A → List ℕ) (xs : List A) (x : A)
      → map (namesakes name_of) (placed (xs ++ x ∷ [])) ≡ map (namesakes name_of) (placed xs) ++ count_of name_of xs (name_of x) ∷ []
  found-push name_of xs x = ap (map (namesakes name_of)) (placed_behind-push [] xs x) ∙ map-append (namesakes name_of) (placed xs) (record { before = xs; item = x } ∷ [])

  -- one more member, whose name was counted before so often
  pub counted_more : (name_of : A → List ℕ) (xs : List A) (x : A) (name : List ℕ) (old new : List ℕ → ℕ) (alts more : List ℕ) (alt : ℕ)
      → AreCounted name_of xs old alts → name ≡ name_of x → alt ≡ old name
      → ((w : List ℕ) → new w ≡ old w + (if bytes_eq name w then 1 else 0)) → more ≡ alts ++ alt ∷ [] → AreCounted name_of (xs ++ x ∷ []) new more
  counted_more name_of xs x name old new alts more alt so_far named before counted pushed =
      record {
        counts =
            λ w. counted w ∙ ap (λ n. old w + (if bytes_eq n w then 1 else 0)) named ∙ ap (λ n. n + (if bytes_eq (name_of x) w then 1 else 0)) (so_far.counts w)
            ∙ sym (count_of-push name_of xs x w);
        found =
            pushed ∙ ap (λ n. alts ++ n ∷ []) (before ∙ ap old named ∙ so_far.counts (name_of x))
            ∙ ap (λ ns. ns ++ count_of name_of xs (name_of x) ∷ []) so_far.found ∙ sym (found-push name_of xs x);
      }

  pub length-found : (name_of : A → List ℕ) (xs : List A) → length (map (namesakes name_of) (placed xs)) ≡ length xs
  length-found name_of xs = length-map (placed xs) (namesakes name_of) ∙ length-placed_behind [] xs

  -- with no numbers
  pub with_alts-none : (with_alt : A → ℕ → A) (xs : List A) → with_alts with_alt xs [] ≡ xs
  with_alts-none with_alt [] = refl
  with_alts-none with_alt (x ∷ xs) = refl

  -- one more number
  pub with_alts-more : (with_alt : A → ℕ → A) (xs : List A) (ns : List ℕ) (i : ℕ) (d : A) → i < length xs → i < length ns
      → with_alts with_alt xs (take (suc i) ns) ≡ set (with_alts with_alt xs (take i ns)) i (with_alt (get_or (with_alts with_alt xs (take i ns)) i d) (get_or ns i 0))
  with_alts-more with_alt [] ns i d inside within = absurd (omega arith)
  with_alts-more with_alt (x ∷ xs) [] i d inside within = absurd (omega arith)
  with_alts-more with_alt (x ∷ xs) (n ∷ ns) zero d inside within = ap (λ rest. with_alt x n ∷ rest) (with_alts-none with_alt xs)
  with_alts-more with_alt (x ∷ xs) (n ∷ ns) (suc i) d inside within =
      ap (λ rest. with_alt x n ∷ rest) (with_alts-more with_alt xs ns i d (omega arith) (omega arith))

  numbers_behind : (f : Placed A → ℕ) (with_alt : A → ℕ → A) (before xs : List A)
      → with_alts with_alt xs (map f (placed_behind before xs)) ≡ map (λ p. with_alt p.item (f p)) (placed_behind before xs)
  numbers_behind f with_alt before [] = refl
  numbers_behind f with_alt before (x ∷ xs) = ap (λ r. with_alt x (f (record { before = before; item = x })) ∷ r) (numbers_behind f with_alt (before ++ x ∷ []) xs)

  -- the numbers of the namesakes are the alts
  pub with_alts-found : (name_of : A → List ℕ) (with_alt : A → ℕ → A) (xs : List A)
      → with_alts with_alt xs (map (namesakes name_of) (placed xs)) ≡ with_namesakes name_of with_alt xs
  with_alts-found name_of with_alt xs = numbers_behind (namesakes name_of) with_alt [] xs
