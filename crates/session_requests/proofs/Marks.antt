-- Marks and their texts.
use Rattle.std.proofs.Common.{◌≡◌, ℕ, List, ◌∷◌, Bool, true, false, if◌then◌else◌, true≢false, sym, ap, ◌∙◌}
use Rattle.cfj_words.specs.Names.{is_short_identifier}
use Rattle.cfj_model.specs.declared.signed.Signed.{Signed}
use Rattle.session_requests.specs.Fields.{mark_text}

-- a text that is no identifier is the text of no name
pub no_name : (text : List ℕ) → is_short_identifier text ≡ false → (n : List ℕ) → n ≡ text → is_short_identifier n ≡ true → ⊥
no_name text none n e h = true≢false (sym h ∙ (ap is_short_identifier e ∙ none))

no_sign : (text : List ℕ) → is_short_identifier text ≡ false → ((rest : List ℕ) → text ≡ 33 ∷ rest → ⊥)
    → (b : Bool) (n : List ℕ) → (if b then 33 ∷ n else n) ≡ text → is_short_identifier n ≡ true → ⊥
no_sign text none lacks true n e h = lacks n (sym e)
no_sign text none lacks false n e h = no_name text none n e h

-- a text that is no identifier and has no `!` in front is the text of no mark
pub no_mark : (text : List ℕ) → is_short_identifier text ≡ false → ((rest : List ℕ) → text ≡ 33 ∷ rest → ⊥)
    → (x : Signed) → mark_text x ≡ text → is_short_identifier x.name ≡ true → ⊥
no_mark text none lacks x e h = no_sign text none lacks x.off x.name e h

no_signed : (text name : List ℕ) → is_short_identifier text ≡ false → text ≡ 33 ∷ name → is_short_identifier name ≡ false
    → (b : Bool) (n : List ℕ) → (if b then 33 ∷ n else n) ≡ text → is_short_identifier n ≡ true → ⊥
no_signed text name none is other true n e h = let same : n ≡ name = cc in no_name name other n same h
no_signed text name none is other false n e h = no_name text none n e h

-- nor is one with no identifier behind its `!`
pub no_off_mark : (text name : List ℕ) → is_short_identifier text ≡ false → text ≡ 33 ∷ name → is_short_identifier name ≡ false
    → (x : Signed) → mark_text x ≡ text → is_short_identifier x.name ≡ true → ⊥
no_off_mark text name none is other x e h = no_signed text name none is other x.off x.name e h
