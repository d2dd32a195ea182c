-- What edits make of a project, and what refuses them: the cases that change classes as a whole.
use Rattle.std.specs.Prelude.{ℕ, nat_le, nat_lt, List, [], ◌∷◌, ◌++◌, length, map, is_some, if◌then◌else◌, Option, Some, None}
use Rattle.cfj_model.specs.LookUps.{Table, declared, is_called, without}
use Rattle.cfj_model.specs.ProductLines.{ProductLine, most_classes, most_size, size}
use Rattle.cfj_model.specs.declared.class.Class.{Class}
use Rattle.cfj_model.specs.declared.class.Constructor.{Constructor}
use Rattle.cfj_model.specs.declared.fault.LimitKind.TheVariants as limit
use Rattle.edit_ops.specs.declared.refused.EditRefused.{EditRefused}
use Rattle.edit_ops.specs.declared.refused.EditRefused.TheVariants.{Exists, Limit}

-- the class of this name is changed, and no other
abbrev pub changed : List ℕ → (Class → Class) → Table → Table
changed c change p = map (λ k. if is_called c k then change k else k) p

-- the class becomes the last
abbrev pub class_added : Class → ProductLine → ProductLine
class_added k line = record line { classes = line.classes ++ k ∷ [] }

-- the class of this name goes
abbrev pub class_removed : List ℕ → ProductLine → ProductLine
class_removed c line = record line { classes = without c line.classes }

-- another superclass
abbrev pub super_set : List ℕ → List ℕ → ProductLine → ProductLine
super_set c parent line = record line { classes = changed c (λ k. record k { parent = parent }) line.classes }

-- another constructor
abbrev pub ctor_set : List ℕ → Constructor → ProductLine → ProductLine
ctor_set c ctor line = record line { classes = changed c (λ k. record k { ctor = ctor }) line.classes }

-- it has more declarations, sent names, assignments and nodes than a project may have
abbrev pub size_refused : ProductLine → Option EditRefused
size_refused line = if nat_le (size line.classes) most_size then None else Some (Limit limit.Size)

-- A new class is refused where its name is taken, then where there are as many classes as there may be, then by the size.
abbrev pub class_refused : Class → ProductLine → Option EditRefused
class_refused k line =
    if is_some (declared line.classes k.name)
    then Some (Exists k.name)
    else if nat_lt (length line.classes) most_classes then size_refused (class_added k line) else Some (Limit limit.Classes)

-- another constructor is refused by the size alone
abbrev pub ctor_refused : List ℕ → Constructor → ProductLine → Option EditRefused
ctor_refused c ctor line = size_refused (ctor_set c ctor line)
