-- Lists without an item twice.
use Rattle.std.specs.Prelude.{⊤, List, [], ◌∷◌}
use Rattle.cfj_words.specs.Lists.{Has}

-- no item stands in the list twice
abbrev pub AreApart : {A : Type 0} → List A → Type 0
AreApart [] = ⊤
AreApart (x ∷ xs) = (Has xs x → ⊥) × AreApart xs
