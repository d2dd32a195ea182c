-- Arguments fit exactly where each has a subtype of what is wanted at its place, and none is missing or too many.
use Rattle.std.proofs.Common.{◌≡◌, ℕ, suc, ◌⊎◌, inl, inr, ◌≢◌, Bool, true, false, not, ◌&&◌, ◌||◌, ◌==◌, eqb, cond, List, [], ◌∷◌, length, refl, sym, ◌∙◌, ap, arith}
use Rattle.std.specs.List.{list_any}
use Rattle.std.proofs.lemmas.Bool.{ne_eqb, eq-eqb}
use Rattle.std.proofs.lemmas.Bool.Decides.{eqb_tells}
use Rattle.cfj_model.specs.LookUps.{Table, is_subtype}
use Rattle.cfj_model.specs.Judging.{fits, fit_numbers, misfits, no_misfits}

-- as many types, each a subtype of the one at its place
abbrev pub are_below : Table → List (List ℕ) → List (List ℕ) → Bool
are_below p [] [] = true
are_below p (t ∷ ts) (w ∷ ws) = is_subtype p t w && are_below p ts ws
are_below p _ _ = false

eqb_suc : (a b : ℕ) → eqb (suc a) (suc b) ≡ eqb a b
eqb_suc a b = go (eqb_tells a b)
  where
    go : ((eqb a b ≡ true) × (a ≡ b)) ⊎ ((eqb a b ≡ false) × (a ≢ b)) → eqb (suc a) (suc b) ≡ eqb a b
    go (inl s) = eq-eqb (suc a) (suc b) (ap suc s.1) ∙ sym s.0
    go (inr s) = ne_eqb (suc a) (suc b) (λ e. s.1 (let same : a ≡ b = omega (arith, e) in same)) ∙ sym s.0

numbers_fit : (p : Table) (ts ws : List (List ℕ)) → fits (fit_numbers p ts ws) ≡ ((length ts == length ws) && not (list_any (λ b. b) (misfits p ts ws)))
numbers_fit p ts ws = go (length ts == length ws)
  where
    go : (b : Bool) → fits (cond b (record { differs = false; misfits = misfits p ts ws }) (record { differs = true; misfits = no_misfits ts }))
        ≡ (b && not (list_any (λ b. b) (misfits p ts ws)))
    go true = refl
    go false = refl

none_misfits : (p : Table) (ts ws : List (List ℕ)) → ((length ts == length ws) && not (list_any (λ b. b) (misfits p ts ws))) ≡ are_below p ts ws
none_misfits p [] [] = refl
none_misfits p [] (w ∷ ws) = ap (λ b. b && true) (ne_eqb 0 (suc (length ws)) (λ e. absurd (omega (arith, e))))
none_misfits p (t ∷ ts) [] = ap (λ b. b && not (list_any (λ b. b) (misfits p (t ∷ ts) []))) (ne_eqb (suc (length ts)) 0 (λ e. absurd (omega (arith, e))))
none_misfits p (t ∷ ts) (w ∷ ws) =
    ap (λ b. b && not (not (is_subtype p t w) || list_any (λ b. b) (misfits p ts ws))) (eqb_suc (length ts) (length ws))
    ∙ swap (length ts == length ws) (is_subtype p t w) (list_any (λ b. b) (misfits p ts ws))
    ∙ ap (λ b. is_subtype p t w && b) (none_misfits p ts ws)
  where
    swap : (a b c : Bool) → (a && not (not b || c)) ≡ (b && (a && not c))
    swap true true c = refl
    swap true false c = refl
    swap false true c = refl
    swap false false c = refl

pub fits_below : (p : Table) (ts ws : List (List ℕ)) → fits (fit_numbers p ts ws) ≡ are_below p ts ws
fits_below p ts ws = numbers_fit p ts ws ∙ none_misfits p ts ws
