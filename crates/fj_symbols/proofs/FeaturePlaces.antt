-- One more feature, and where the features stand.
use Rattle.std.proofs.Common.{◌≡◌, ℕ, ◌+◌, Bool, true, false, cond, is_some, List, [], ◌∷◌, ◌++◌, length, Option, Some, None, refl, sym, ap, ◌∙◌, arith, position}
use Rattle.std.specs.Borrow.{Bor}
use Rattle.std.specs.List.{position_from}
use Rattle.std.specs.Map.{lookup}
use Rattle.std.specs.Option.{option_copied}
use Rattle.std.specs.Str.{bytes_eq}
use Rattle.std.proofs.lemmas.Iterator.Adapters.{position_from-zero}
use Rattle.std.proofs.lemmas.Slice.Eq.{bytes_eq-Decides}
use Rattle.fj_symbols.specs.Places.{ArePlaced}

-- the first place that passes, or that of an item behind all
abbrev pub or_last : Option ℕ → Bool → ℕ → Option ℕ
or_last (Some i) b n = Some i
or_last None b n = cond b (Some n) None

position_from-push : {X : Type 0} (p : X → Bool) (i : ℕ) (xs : List X) (y : X) → position_from p i (xs ++ y ∷ []) ≡ or_last (position_from p i xs) (p y) (i + length xs)
position_from-push p i [] y = let e : i + 0 ≡ i = omega arith in ap (λ n. cond (p y) (Some n) None) (sym e)
position_from-push p i (x ∷ xs) y = by (p x) (position_from-push p (i + 1) xs y)
  where
    by : (b : Bool) → position_from p (i + 1) (xs ++ y ∷ []) ≡ or_last (position_from p (i + 1) xs) (p y) (i + 1 + length xs) → cond b (Some i) (position_from p (i + 1) (xs ++ y ∷ [])) ≡ or_last (cond b (Some i) (position_from p (i + 1) xs)) (p y) (i + length (x ∷ xs))
    by true h = refl
    by false h = let e : i + 1 + length xs ≡ i + length (x ∷ xs) = omega arith in h ∙ ap (λ n. or_last (position_from p (i + 1) xs) (p y) n) e

position-push : {X : Type 0} (p : X → Bool) (xs : List X) (y : X) → position p (xs ++ y ∷ []) ≡ or_last (position p xs) (p y) (length xs)
position-push p xs y =
    let e : 0 + length xs ≡ length xs = omega arith in
    position_from-zero p (xs ++ y ∷ []) ∙ position_from-push p 0 xs y ∙ ap (λ n. or_last (position_from p 0 xs) (p y) n) e ∙ ap (λ o. or_last o (p y) (length xs)) (sym (position_from-zero p xs))

-- a name that has no place takes the next one
pub placed-new : (es ns : List (Bor (List ℕ) × ℕ)) (fs : List (List ℕ)) (k : Bor (List ℕ)) (n : ℕ) → ArePlaced es fs → n ≡ length fs → lookup (λ x. bytes_eq k.now x.now) es ≡ None → ((q : Bor (List ℕ)) → lookup (λ x. bytes_eq q.now x.now) ns ≡ cond (bytes_eq k.now q.now) (Some n) (lookup (λ x. bytes_eq q.now x.now) es)) → ArePlaced ns (fs ++ k.now ∷ [])
placed-new es ns fs k n placed last none more = λ q. more q ∙ ap (λ i. cond (bytes_eq k.now q.now) (Some i) (lookup (λ x. bytes_eq q.now x.now) es)) last ∙ by q (bytes_eq k.now q.now) refl ∙ sym (position-push (λ w. bytes_eq w q.now) fs k.now)
  where
    apart : (q : Bor (List ℕ)) (o : Option ℕ) → o ≡ or_last o false (length fs)
    apart q None = refl
    apart q (Some i) = refl

    by : (q : Bor (List ℕ)) (b : Bool) → bytes_eq k.now q.now ≡ b → cond b (Some (length fs)) (lookup (λ x. bytes_eq q.now x.now) es) ≡ or_last (position (λ n. bytes_eq n q.now) fs) b (length fs)
    by q true e =
        let same : k.now ≡ q.now = (bytes_eq-Decides k.now q.now).0 e in
        let nowhere : position (λ n. bytes_eq n q.now) fs ≡ None = sym (placed q) ∙ ap (λ (w : List ℕ). lookup (λ x. bytes_eq w x.now) es) (sym same) ∙ none in
        ap (λ o. or_last o true (length fs)) (sym nowhere)
    by q false e = placed q ∙ apart q (position (λ n. bytes_eq n q.now) fs)

-- a name that has one keeps it
pub placed-again : (es : List (Bor (List ℕ) × ℕ)) (fs : List (List ℕ)) (k : Bor (List ℕ)) → ArePlaced es fs → is_some (lookup (λ x. bytes_eq k.now x.now) es) ≡ true → ArePlaced es (fs ++ k.now ∷ [])
placed-again es fs k placed there = λ q. by q (lookup (λ x. bytes_eq q.now x.now) es) refl (bytes_eq k.now q.now) refl ∙ ap (λ o. or_last o (bytes_eq k.now q.now) (length fs)) (placed q) ∙ sym (position-push (λ n. bytes_eq n q.now) fs k.now)
  where
    by : (q : Bor (List ℕ)) (o : Option ℕ) → lookup (λ x. bytes_eq q.now x.now) es ≡ o → (b : Bool) → bytes_eq k.now q.now ≡ b → lookup (λ x. bytes_eq q.now x.now) es ≡ or_last (lookup (λ x. bytes_eq q.now x.now) es) (bytes_eq k.now q.now) (length fs)
    by q (Some i) e b f = e ∙ ap (λ (r : Option ℕ). or_last r (bytes_eq k.now q.now) (length fs)) (sym e)
    by q None e false f = e ∙ ap (λ (r : Option ℕ). or_last r false (length fs)) (sym e) ∙ ap (λ c. or_last (lookup (λ x. bytes_eq q.now x.now) es) c (length fs)) (sym f)
    by q None e true f =
        let same : k.now ≡ q.now = (bytes_eq-Decides k.now q.now).0 f in
        absurd (let no : true ≡ false = sym there ∙ ap is_some (ap (λ (w : List ℕ). lookup (λ x. bytes_eq w x.now) es) same ∙ e) in cc no)

pub copied-some : (o : Option (Bor ℕ)) → is_some (option_copied o) ≡ is_some o
copied-some None = refl
copied-some (Some x) = refl

pub none-where : {A : Type 0} (o : Option A) → is_some o ≡ false → o ≡ None
none-where None e = refl
none-where (Some x) e = absurd (cc e)
