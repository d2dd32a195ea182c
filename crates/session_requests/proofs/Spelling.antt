-- Lists of texts, and what they stand for.
use Rattle.std.proofs.Common.{◌≡◌, ℕ, zero, suc, List, [], ◌∷◌, length, ◌<◌, map, get_or, arith, All, refl, ap, ◌∙◌}
use Rattle.std.proofs.lemmas.List.Elements.{All-head, All-tail}
use Rattle.serde_json.specs.Data.{string, item}
use Rattle.serde_json.specs.View.{view, items_view}
use Rattle.serde_json.specs.declared.value.Value.{Value}
use Rattle.session_requests.specs.Fields.{text_items}

-- the strings of texts, as items
pub items_of-strings : {X : Type 0} (f : X → List ℕ) (vs : List Value) (xs : List X) → map view vs ≡ map (λ x. string (f x)) xs → items_view vs ≡ text_items f xs
items_of-strings f [] [] e = refl
items_of-strings f [] (x ∷ xs) e = cc
items_of-strings f (v ∷ vs) [] e = cc
items_of-strings f (v ∷ vs) (x ∷ xs) e =
    let head : view v ≡ string (f x) = cc in
    let tail : map view vs ≡ map (λ x. string (f x)) xs = cc in
    let rest = items_of-strings f vs xs tail in
    rw head (ap (item (string (f x))) rest)

-- where an item is the string of no fine value, the items are those of no list of such values
pub no_strings : {X : Type 0} (f : X → List ℕ) (Fine : X → Type 0) (vs : List Value) (i : ℕ) (v : Value) → i < length vs → v ≡ get_or vs i v
    → ((x : X) → view v ≡ string (f x) → Fine x → ⊥) → (xs : List X) → items_view vs ≡ text_items f xs → All Fine xs → ⊥
no_strings f Fine [] i v within at none xs e fine = absurd (omega arith)
no_strings f Fine (w ∷ vs) i v within at none [] e fine = cc
no_strings f Fine (w ∷ vs) zero v within at none (x ∷ xs) e fine =
    let head : view w ≡ string (f x) = cc in
    none x (ap view at ∙ head) (All-head Fine x xs fine)
no_strings f Fine (w ∷ vs) (suc i) v within at none (x ∷ xs) e fine =
    let tail : items_view vs ≡ text_items f xs = cc in
    no_strings f Fine vs i v (omega arith) at none xs tail (All-tail Fine x xs fine)
