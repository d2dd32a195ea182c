-- What edits make of the members of a class, and what refuses them.
use Rattle.std.specs.Prelude.{ℕ, Bool, true, false, not, ◌&&◌, ◌==◌, nat_lt, if◌then◌else◌, Option, Some}
use Rattle.std.specs.Prelude.{List, [], ◌∷◌, ◌++◌, length, map, filter, slice_set}
use Rattle.std.specs.List.{position_or_len}
use Rattle.std.specs.Str.{bytes_eq}
use Rattle.cfj_model.specs.Members.{field_name_of, method_name_of, namesakes, placed}
use Rattle.cfj_model.specs.Coloring.{Palette}
use Rattle.cfj_model.specs.ProductLines.{ProductLine, is_field, is_method, most_fields, most_methods}
use Rattle.cfj_model.specs.declared.class.Class.{Class}
use Rattle.cfj_model.specs.declared.class.Field.{Field}
use Rattle.cfj_model.specs.declared.class.Method.{Method}
use Rattle.cfj_model.specs.declared.fault.LimitKind.TheVariants as limit
use Rattle.cfj_model.specs.declared.member.Member.{Member}
use Rattle.cfj_model.specs.declared.member.Member.TheVariants as member
use Rattle.cfj_model.specs.declared.member_name.MemberName.{MemberName}
use Rattle.cfj_model.specs.declared.member_name.MemberName.TheVariants as named
use Rattle.edit_ops.specs.Changes.{changed, size_refused}
use Rattle.edit_ops.specs.Named.{is_class}
use Rattle.edit_ops.specs.declared.refused.EditRefused.{EditRefused}
use Rattle.edit_ops.specs.declared.refused.EditRefused.TheVariants.{Limit}

-- a kind of member: its name, its alt, and the same member with another alt
pub record Kind (A : Type 0) : Type 0 where
  pub name_of : A → List ℕ
  pub alt_of : A → ℕ
  pub with_alt : A → ℕ → A

abbrev pub fields : Kind Field
fields = record { name_of = field_name_of; alt_of = λ f. f.alt; with_alt = λ f n. record f { alt = n } }

abbrev pub methods : Kind Method
methods = record { name_of = method_name_of; alt_of = λ m. m.alt; with_alt = λ m n. record m { alt = n } }

module _ {A : Type 0} (kind : Kind A) where
  -- it has this name and alt
  abbrev pub is_member : List ℕ → ℕ → A → Bool
  is_member n alt x = bytes_eq (kind.name_of x) n && (kind.alt_of x == alt)

  -- the alt of each member of this name is the number of those before it; the others stay
  abbrev pub renumbered : List ℕ → List A → List A
  renumbered n xs =
      map
      (λ p. if bytes_eq (kind.name_of p.item) n then kind.with_alt p.item (namesakes kind.name_of p) else p.item)
      (placed xs)

  -- the member of this name and alt goes
  abbrev pub removed : List ℕ → ℕ → List A → List A
  removed n alt xs = renumbered n (filter (λ x. not (is_member n alt x)) xs)

  -- one more becomes the last
  abbrev pub added : A → List A → List A
  added x xs = renumbered (kind.name_of x) (xs ++ x ∷ [])

  -- in the place of the member of this name and alt
  abbrev pub put : List ℕ → ℕ → A → List A → List A
  put n alt x xs = slice_set xs (position_or_len (is_member n alt) xs) x

  -- another stands in its place
  abbrev pub replaced : List ℕ → ℕ → A → List A → List A
  replaced n alt x xs = renumbered (kind.name_of x) (renumbered n (put n alt x xs))

-- what a project keeps of a member by itself
abbrev pub is_piece : Palette → Member → Bool
is_piece palette (member.Field d) = is_field palette d
is_piece palette (member.Method m) = is_method palette m

-- the field of this name and alt goes
abbrev pub field_removed : List ℕ → ℕ → Class → Class
field_removed f alt k = record k { fields = removed fields f alt k.fields }

-- the method of this name and alt goes
abbrev pub method_removed : List ℕ → ℕ → Class → Class
method_removed m alt k = record k { methods = removed methods m alt k.methods }

-- a member goes, and those of its name are numbered anew
abbrev pub member_removed : MemberName → ProductLine → ProductLine
member_removed (named.Field c f alt) line = record line { classes = changed c (field_removed f alt) line.classes }
member_removed (named.Method c m alt) line = record line { classes = changed c (method_removed m alt) line.classes }

-- the field becomes the last
abbrev pub field_added : Field → Class → Class
field_added d k = record k { fields = added fields d k.fields }

-- the method becomes the last
abbrev pub method_added : Method → Class → Class
method_added m k = record k { methods = added methods m k.methods }

-- a member becomes the last of its kind in the class of this name, and those of its name are numbered anew
abbrev pub member_added : List ℕ → Member → ProductLine → ProductLine
member_added c (member.Field d) line = record line { classes = changed c (field_added d) line.classes }
member_added c (member.Method m) line = record line { classes = changed c (method_added m) line.classes }

-- One more member is refused where its class has as many of its kind as it may have, then by the size.
abbrev pub add_refused : List ℕ → Member → ProductLine → Option EditRefused
add_refused c (member.Field d) line =
    if is_class line.classes c (λ k. nat_lt (length k.fields) most_fields)
    then size_refused (member_added c (member.Field d) line)
    else Some (Limit limit.Fields)
add_refused c (member.Method m) line =
    if is_class line.classes c (λ k. nat_lt (length k.methods) most_methods)
    then size_refused (member_added c (member.Method m) line)
    else Some (Limit limit.Methods)

-- another field stands in the place of the one of this name and alt
abbrev pub field_replaced : List ℕ → ℕ → Field → Class → Class
field_replaced f alt d k = record k { fields = replaced fields f alt d k.fields }

-- another method stands in the place of the one of this name and alt
abbrev pub method_replaced : List ℕ → ℕ → Method → Class → Class
method_replaced m alt d k = record k { methods = replaced methods m alt d k.methods }

-- they are of one kind
abbrev pub is_of_kind : MemberName → Member → Bool
is_of_kind (named.Field c f alt) (member.Field d) = true
is_of_kind (named.Method c m alt) (member.Method d) = true
is_of_kind old new = false

-- another member of its kind stands in the place of a member, and those of both names are numbered anew
abbrev pub member_replaced : MemberName → Member → ProductLine → ProductLine
member_replaced (named.Field c f alt) (member.Field d) line =
    record line { classes = changed c (field_replaced f alt d) line.classes }
member_replaced (named.Method c m alt) (member.Method d) line =
    record line { classes = changed c (method_replaced m alt d) line.classes }
member_replaced old new line = line

-- another member is refused by the size alone
abbrev pub replace_refused : MemberName → Member → ProductLine → Option EditRefused
replace_refused old new line = size_refused (member_replaced old new line)
