-- Where edits change a project, so that two of them may be in each other's way.
use Rattle.std.specs.Prelude.{ℕ, Bool, true, false, ◌&&◌, List, Option, Some, None}
use Rattle.std.specs.Str.{bytes_eq}
use Rattle.cfj_model.specs.declared.edit.Edit.{Edit}
use Rattle.cfj_model.specs.declared.edit.Edit.TheVariants as edit
use Rattle.cfj_model.specs.declared.member_name.MemberName.{MemberName}
use Rattle.cfj_model.specs.declared.member_name.MemberName.TheVariants as member
use Rattle.cfj_model.specs.declared.site.Site.{Site}
use Rattle.cfj_model.specs.declared.site.Site.TheVariants as site
use Rattle.edit_ops.specs.declared.spot.Spot.{Spot}
use Rattle.edit_ops.specs.declared.spot.Spot.TheVariants as at

-- the spot of a member: its class, its kind and its name, whatever its alt
abbrev pub member_spot : MemberName → Spot
member_spot (member.Field c f alt) = at.Field c f
member_spot (member.Method c m alt) = at.Method c m

-- where other colours of a node change the project
abbrev pub colors_spot : Site → Spot
colors_spot site.Model = at.Model
colors_spot (site.Class c) = at.Heading c
colors_spot (site.Field c f alt) = at.Field c f
colors_spot (site.Ctor c) = at.Ctor c
colors_spot (site.CtorParam c slot) = at.Ctor c
colors_spot (site.SuperArg c slot) = at.Ctor c
colors_spot (site.Assign c slot) = at.Ctor c
colors_spot (site.Method c m alt) = at.Method c m
colors_spot (site.Param c m alt slot) = at.Method c m
colors_spot (site.Node c m alt slot) = at.Method c m

-- where an edit that is judged changes the project, a member by its old name; a class or a member that is new stands in
-- nobody's way
abbrev pub spot : Edit → Option Spot
spot (edit.AddClass text) = None
spot (edit.RemoveClass c) = Some (at.Class c)
spot (edit.AddMember c text) = None
spot (edit.ReplaceMember m text) = Some (member_spot m)
spot (edit.RemoveMember m) = Some (member_spot m)
spot (edit.SetSuper c text) = Some (at.Heading c)
spot (edit.SetConstructor c text) = Some (at.Ctor c)
spot (edit.SetColors s marks) = Some (colors_spot s)
spot (edit.SetModel text) = Some at.Model

-- the class that a spot is or lies in
abbrev pub class_of : Spot → Option (List ℕ)
class_of at.Model = None
class_of (at.Class c) = Some c
class_of (at.Heading c) = Some c
class_of (at.Ctor c) = Some c
class_of (at.Field c f) = Some c
class_of (at.Method c m) = Some c

abbrev pub is_in : List ℕ → Option (List ℕ) → Bool
is_in c None = false
is_in c (Some d) = bytes_eq c d

-- Two spots meet where they are equal, or where one is a class and the other lies in it.
abbrev pub meet : Spot → Spot → Bool
meet (at.Class c) b = is_in c (class_of b)
meet a (at.Class d) = is_in d (class_of a)
meet at.Model at.Model = true
meet (at.Heading c) (at.Heading d) = bytes_eq c d
meet (at.Ctor c) (at.Ctor d) = bytes_eq c d
meet (at.Field c f) (at.Field d g) = bytes_eq c d && bytes_eq f g
meet (at.Method c m) (at.Method d n) = bytes_eq c d && bytes_eq m n
meet a b = false
