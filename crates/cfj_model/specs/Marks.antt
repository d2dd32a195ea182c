-- Lists in the grammar, and the marks before a node: what they spell, the roles of their tokens and the colours that they give.
use Rattle.std.specs.Prelude.{ℕ, Bool, true, false, List, [], ◌∷◌, if◌then◌else◌, position, Option, Some, None}
use Rattle.std.specs.Str.{bytes_eq}
use Rattle.cfj_logic.specs.Sides.{Sides}
use Rattle.cfj_words.specs.Tokens.{Token, Id, At, Bang}
use Rattle.cfj_model.specs.Coloring.{is_marked, no_colors, with_mark}
use Rattle.cfj_model.specs.Roles.{Role, mark_name, other_token, sign}
use Rattle.cfj_model.specs.declared.signed.Signed.{Signed}

-- {X}, and what follows
abbrev pub in_order : {A B : Type 0} → (A → List B → List B) → List A → List B → List B
in_order spell [] rest = rest
in_order spell (x ∷ xs) rest = spell x (in_order spell xs rest)

-- {"," X}, and what follows
abbrev pub each_behind : {A B : Type 0} → B → (A → List B → List B) → List A → List B → List B
each_behind comma spell [] rest = rest
each_behind comma spell (x ∷ xs) rest = comma ∷ spell x (each_behind comma spell xs rest)

-- list(X): nothing, or X {"," X}; and what follows
abbrev pub separated : {A B : Type 0} → B → (A → List B → List B) → List A → List B → List B
separated comma spell [] rest = rest
separated comma spell (x ∷ xs) rest = spell x (each_behind comma spell xs rest)

-- ["!"], and what follows
abbrev pub spell_sign : Bool → List Token → List Token
spell_sign false rest = rest
spell_sign true rest = Bang ∷ rest

-- "@" ["!"] id
abbrev pub spell_mark : Signed → List Token → List Token
spell_mark m rest = At ∷ spell_sign m.off (Id m.name ∷ rest)

-- marks: {"@" ["!"] id}
abbrev pub spell_marks : List Signed → List Token → List Token
spell_marks = in_order spell_mark

-- the roles of their tokens
abbrev pub roles_sign : Bool → List Role → List Role
roles_sign false rest = rest
roles_sign true rest = sign ∷ rest

abbrev pub roles_mark : Signed → List Role → List Role
roles_mark m rest = other_token ∷ roles_sign m.off (mark_name m.name ∷ rest)

abbrev pub roles_marks : List Signed → List Role → List Role
roles_marks = in_order roles_mark

-- colours and a mark of this feature, where there is one; of marks of one feature the first counts
abbrev pub marked_at : Option ℕ → Bool → Sides → Sides
marked_at None off colors = colors
marked_at (Some feature) off colors = if is_marked feature colors then colors else with_mark off feature colors

-- colours and a mark, over features with these names; of a name that isn't a feature's nothing comes
abbrev pub marked : List (List ℕ) → Sides → Signed → Sides
marked features colors m = marked_at (position (λ f. bytes_eq f m.name) features) m.off colors

-- colours and these marks
abbrev pub colored : List (List ℕ) → Sides → List Signed → Sides
colored features colors [] = colors
colored features colors (m ∷ ms) = colored features (marked features colors m) ms

-- the colours of a node with these marks
abbrev pub colors_of : List (List ℕ) → List Signed → Sides
colors_of features = colored features no_colors
