-- Numbered product lines: slots run in the order of the text, and alts count the namesakes before. So are those that a text stands for.
use Rattle.std.specs.Prelude.{◌≡◌, ℕ, ◌+◌, Bool, true, ◌&&◌, ◌==◌, List, [], ◌∷◌, map}
use Rattle.std.specs.List.{list_all}
use Rattle.cfj_model.specs.declared.class.Class.{Class}
use Rattle.cfj_model.specs.declared.class.Constructor.{Constructor}
use Rattle.cfj_model.specs.declared.class.Method.{Method}
use Rattle.cfj_model.specs.Expressions.{slots}
use Rattle.cfj_model.specs.Members.{are_fields_numbered, are_methods_numbered}
use Rattle.cfj_model.specs.ProductLines.{ProductLine}

-- these numbers are `first`, `first + 1`, `first + 2` ..
abbrev pub run_from : ℕ → List ℕ → Bool
run_from first [] = true
run_from first (s ∷ ss) = s == first && run_from (first + 1) ss

-- the slots of each of its lists run from 0
abbrev pub is_numbered_ctor : Constructor → Bool
is_numbered_ctor c = run_from 0 (map (λ p. p.slot) c.params) && run_from 0 (map (λ s. s.slot) c.sends) && run_from 0 (map (λ a. a.slot) c.assigns)

-- those of its parameters, and those of its body's nodes in the order of their own tokens
abbrev pub is_numbered_method : Method → Bool
is_numbered_method m = run_from 0 (map (λ p. p.slot) m.params) && run_from 0 (slots m.body)

abbrev pub is_numbered_class : Class → Bool
is_numbered_class k = are_fields_numbered k.fields && is_numbered_ctor k.ctor && are_methods_numbered k.methods && list_all is_numbered_method k.methods

-- all slots and alts of the product line are as its text has them
abbrev pub IsNumbered : ProductLine → Type 0
IsNumbered line = list_all is_numbered_class line.classes ≡ true
