-- What an edit names, and whether a project has it.
use Rattle.std.specs.Prelude.{ℕ, Bool, true, false, ◌&&◌, ◌==◌, List, find, if◌then◌else◌, Option, Some, None}
use Rattle.std.specs.List.{list_any}
use Rattle.std.specs.Option.{option_and_then, option_map_or}
use Rattle.std.specs.Str.{bytes_eq}
use Rattle.cfj_model.specs.Expressions.{slots}
use Rattle.cfj_model.specs.LookUps.{Table, declared}
use Rattle.cfj_model.specs.ProductLines.{ProductLine}
use Rattle.cfj_model.specs.Sites.{member_site}
use Rattle.cfj_model.specs.declared.class.Class.{Class}
use Rattle.cfj_model.specs.declared.class.Method.{Method}
use Rattle.cfj_model.specs.declared.class.Param.{Param}
use Rattle.cfj_model.specs.declared.class.Sent.{Sent}
use Rattle.cfj_model.specs.declared.edit.Edit.{Edit}
use Rattle.cfj_model.specs.declared.edit.Edit.TheVariants as edit
use Rattle.cfj_model.specs.declared.site.Site.{Site}
use Rattle.cfj_model.specs.declared.site.Site.TheVariants as site

-- the class declares a field of this name and alt
abbrev pub has_field : List ℕ → ℕ → Class → Bool
has_field f alt k = list_any (λ d. bytes_eq d.name f && (d.alt == alt)) k.fields

-- the method of this name and alt that a class declares
abbrev pub method_in : List ℕ → ℕ → Class → Option Method
method_in m alt k = find (λ d. bytes_eq d.name m && (d.alt == alt)) k.methods

abbrev pub has_param : ℕ → List Param → Bool
has_param slot ps = list_any (λ p. p.slot == slot) ps

abbrev pub has_sent : ℕ → List Sent → Bool
has_sent slot ss = list_any (λ s. s.slot == slot) ss

-- a body has a node with this slot
abbrev pub has_node : ℕ → Method → Bool
has_node slot m = list_any (λ s. s == slot) (slots m.body)

-- the class of this name is there, and is so
abbrev pub is_class : Table → List ℕ → (Class → Bool) → Bool
is_class p c test = option_map_or test (declared p c) false

-- the method of this class, name and alt
abbrev pub method_of : Table → List ℕ → List ℕ → ℕ → Option Method
method_of p c m alt = option_and_then (method_in m alt) (declared p c)

-- it is there, and is so
abbrev pub is_method : Table → List ℕ → List ℕ → ℕ → (Method → Bool) → Bool
is_method p c m alt test = option_map_or test (method_of p c m alt) false

-- the project of these classes has this node
abbrev pub has_site : Table → Site → Bool
has_site p site.Model = true
has_site p (site.Class c) = is_class p c (λ k. true)
has_site p (site.Field c f alt) = is_class p c (has_field f alt)
has_site p (site.Ctor c) = is_class p c (λ k. true)
has_site p (site.CtorParam c slot) = is_class p c (λ k. has_param slot k.ctor.params)
has_site p (site.SuperArg c slot) = is_class p c (λ k. has_sent slot k.ctor.sends)
has_site p (site.Assign c slot) = is_class p c (λ k. has_sent slot k.ctor.assigns)
has_site p (site.Method c m alt) = is_method p c m alt (λ d. true)
has_site p (site.Param c m alt slot) = is_method p c m alt (λ d. has_param slot d.params)
has_site p (site.Node c m alt slot) = is_method p c m alt (has_node slot)

-- the class, the member or the node that an edit names; a new class and another model name none
abbrev pub named : Edit → Option Site
named (edit.AddClass text) = None
named (edit.RemoveClass c) = Some (site.Class c)
named (edit.AddMember c text) = Some (site.Class c)
named (edit.ReplaceMember m text) = Some (member_site m)
named (edit.RemoveMember m) = Some (member_site m)
named (edit.SetSuper c text) = Some (site.Class c)
named (edit.SetConstructor c text) = Some (site.Class c)
named (edit.SetColors s marks) = Some s
named (edit.SetModel text) = None

-- the site, where no such node is there
abbrev pub absent : Table → Site → Option Site
absent p s = if has_site p s then None else Some s

-- what an edit names and the project doesn't have
abbrev pub missing : ProductLine → Edit → Option Site
missing line e = option_and_then (absent line.classes) (named e)
