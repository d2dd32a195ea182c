-- A set of texts, as the list of its names.
use Rattle.std.proofs.Common.{◌≡◌, ℕ, ◌||◌, List, [], ◌∷◌, map, refl, sym, ap, ◌∙◌}
use Rattle.std.specs.Borrow.{Bor}
use Rattle.std.specs.List.{list_any}
use Rattle.std.specs.Str.{bytes_eq}
use Rattle.std.proofs.lemmas.Slice.Eq.{bytes_eq-Decides}
use Rattle.std.proofs.lemmas.Bool.Decides.{same_from_decides}
use Rattle.cfj_words.specs.Names.{is_among}

pub bytes_eq-sym : (a b : List ℕ) → bytes_eq a b ≡ bytes_eq b a
bytes_eq-sym a b =
    let d = bytes_eq-Decides b a in
    same_from_decides (bytes_eq a b) (bytes_eq b a) (bytes_eq-Decides a b) (λ h. sym (d.0 h), λ e. d.1 (sym e))

-- the set has a name where the list has
pub has-map : (keys : List (Bor (List ℕ))) (name : List ℕ) → list_any (λ k. bytes_eq name k.now) keys ≡ is_among (map (λ k. k.now) keys) name
has-map [] name = refl
has-map (k ∷ keys) name = ap (λ b. b || list_any (λ k. bytes_eq name k.now) keys) (bytes_eq-sym name k.now) ∙ ap (λ b. bytes_eq k.now name || b) (has-map keys name)
