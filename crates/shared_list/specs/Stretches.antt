-- Lists cut into stretches.
use Rattle.std.specs.Prelude.{Bool, ◌==◌, List, [], ◌∷◌, ◌++◌, length}
use Rattle.std.specs.List.{list_all}

-- stretches one behind another
abbrev pub joined : {A : Type 0} → List (List A) → List A
joined [] = []
joined (c ∷ cs) = c ++ joined cs

-- each stretch has 32 items
abbrev pub are_full : {A : Type 0} → List (List A) → Bool
are_full = list_all (λ c. length c == 32)
