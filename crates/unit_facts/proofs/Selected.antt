-- The names of a selection's features, one place at a time.
use Rattle.std.proofs.Common.{◌≡◌, refl, sym, ap, ◌∙◌, ℕ, ◌+◌, ◌<◌, Bool, true, false, if◌then◌else◌, List, [], ◌∷◌, ◌++◌, length, take, get_or, flat_map, codes, append-nil, arith}
use Rattle.std.proofs.lemmas.List.{append_assoc, take_more, length-take-le}
use Rattle.cfj_logic.specs.Selections.{Chosen, is_on}
use Rattle.unit_facts.specs.Findings.{selected_from, spaced}

-- what stands between words and the next one
abbrev pub separator : List (List ℕ) → List ℕ
separator [] = []
separator (w ∷ ws) = codes " "

pub separator_behind : (ws : List (List ℕ)) (v : List ℕ) → codes " " ≡ separator (ws ++ v ∷ [])
separator_behind [] v = refl
separator_behind (w ∷ ws) v = refl

abbrev behind : List (List ℕ) → List ℕ
behind ws = flat_map (λ w. codes " " ++ w) ws

behind-append : (ws : List (List ℕ)) (v : List ℕ) → behind (ws ++ v ∷ []) ≡ behind ws ++ (codes " " ++ v)
behind-append [] v = append-nil (codes " " ++ v)
behind-append (w ∷ ws) v = ap (λ t. (codes " " ++ w) ++ t) (behind-append ws v) ∙ sym (append_assoc (codes " " ++ w) (behind ws) (codes " " ++ v))

spaced-append : (ws : List (List ℕ)) (v : List ℕ) → spaced (ws ++ v ∷ []) ≡ spaced ws ++ (separator ws ++ v)
spaced-append [] v = append-nil v
spaced-append (w ∷ ws) v = ap (λ t. w ++ t) (behind-append ws v) ∙ sym (append_assoc w (behind ws) (codes " " ++ v))

abbrev one_if : Bool → List ℕ → List (List ℕ)
one_if on y = if on then y ∷ [] else []

selected-append : (s : Chosen) (k : ℕ) (xs : List (List ℕ)) (y : List ℕ) → selected_from s k (xs ++ y ∷ []) ≡ selected_from s k xs ++ one_if (is_on s (k + length xs)) y
selected-append s k [] y = ap (λ n. one_if (is_on s n) y) (let e : k ≡ k + 0 = omega arith in e)
selected-append s k (x ∷ xs) y = go (is_on s k) (selected-append s (k + 1) xs y ∙ ap (λ n. selected_from s (k + 1) xs ++ one_if (is_on s n) y) (let e : k + 1 + length xs ≡ k + length (x ∷ xs) = omega arith in e))
  where
    go : (on : Bool) → selected_from s (k + 1) (xs ++ y ∷ []) ≡ selected_from s (k + 1) xs ++ one_if (is_on s (k + length (x ∷ xs))) y →
        (if on then x ∷ selected_from s (k + 1) (xs ++ y ∷ []) else selected_from s (k + 1) (xs ++ y ∷ []))
        ≡ (if on then x ∷ selected_from s (k + 1) xs else selected_from s (k + 1) xs) ++ one_if (is_on s (k + length (x ∷ xs))) y
    go true e = ap (λ t. x ∷ t) e
    go false e = e

-- the selected ones of the first `n` features
abbrev pub first_selected : Chosen → List (List ℕ) → ℕ → List (List ℕ)
first_selected s features n = selected_from s 0 (take n features)

selected_more : (s : Chosen) (features : List (List ℕ)) (n : ℕ) (d : List ℕ) (on : Bool) → n < length features → is_on s n ≡ on → first_selected s features (n + 1) ≡ first_selected s features n ++ one_if on (get_or features n d)
selected_more s features n d on lt is =
    let place : 0 + length (take n features) ≡ n = omega (arith, length-take-le n features (omega arith)) in
    ap (selected_from s 0) (take_more features n d lt) ∙ selected-append s 0 (take n features) (get_or features n d)
    ∙ ap (λ b. first_selected s features n ++ one_if b (get_or features n d)) (ap (is_on s) place ∙ is)

-- a feature that is selected comes behind those before it
pub selected_yes : (s : Chosen) (features : List (List ℕ)) (n : ℕ) (d : List ℕ) → n < length features → is_on s n ≡ true → first_selected s features (n + 1) ≡ first_selected s features n ++ get_or features n d ∷ []
selected_yes s features n d lt is = selected_more s features n d true lt is

-- and one that isn't leaves them
pub selected_no : (s : Chosen) (features : List (List ℕ)) (n : ℕ) → n < length features → is_on s n ≡ false → first_selected s features (n + 1) ≡ first_selected s features n
selected_no s features n lt is = selected_more s features n [] false lt is ∙ append-nil (first_selected s features n)

-- the separator behind it
pub separator_yes : (s : Chosen) (features : List (List ℕ)) (n : ℕ) (d : List ℕ) → n < length features → is_on s n ≡ true → codes " " ≡ separator (first_selected s features (n + 1))
separator_yes s features n d lt is = separator_behind (first_selected s features n) (get_or features n d) ∙ ap separator (sym (selected_yes s features n d lt is))

-- and its text
pub spaced_yes : (s : Chosen) (features : List (List ℕ)) (n : ℕ) (d between : List ℕ) → n < length features → is_on s n ≡ true → between ≡ separator (first_selected s features n) →
    spaced (first_selected s features (n + 1)) ≡ spaced (first_selected s features n) ++ (between ++ get_or features n d)
spaced_yes s features n d between lt is by =
    ap spaced (selected_yes s features n d lt is) ∙ spaced-append (first_selected s features n) (get_or features n d)
    ∙ ap (λ b. spaced (first_selected s features n) ++ (b ++ get_or features n d)) (sym by)
