-- How an edit is written: as the object of the request that asks for it, its keys in byte order.
use Rattle.std.specs.Prelude.{◌≡◌, ℕ, true, List, codes}
use Rattle.std.specs.List.{AllPass}
use Rattle.cfj_words.specs.Names.{is_short_identifier}
use Rattle.cfj_model.specs.Sites.{site_text, member_site, IsPath}
use Rattle.cfj_model.specs.declared.edit.Edit.{Edit}
use Rattle.cfj_model.specs.declared.edit.Edit.TheVariants as edit
use Rattle.serde_json.specs.Data.{Data, number, unsigned, string, array, object, Members, no_members, member}
use Rattle.session_requests.specs.Fields.{mark_text, text_items}

-- a member with a text
abbrev pub text_member : List ℕ → List ℕ → Members → Members
text_member k text more = member k (string text) more

-- the members of an edit's request
abbrev pub edit_members : ℕ → Edit → Members
edit_members base (edit.AddClass text) =
    member (codes "base") (number (unsigned base)) (text_member (codes "op") (codes "add_class")
    (text_member (codes "text") text no_members))
edit_members base (edit.RemoveClass c) =
    member (codes "base") (number (unsigned base)) (text_member (codes "class") c
    (text_member (codes "op") (codes "remove_class") no_members))
edit_members base (edit.AddMember c text) =
    member (codes "base") (number (unsigned base))
    (text_member (codes "class") c (text_member (codes "op") (codes "add_member")
    (text_member (codes "text") text no_members)))
edit_members base (edit.ReplaceMember m text) =
    member (codes "base") (number (unsigned base))
    (text_member (codes "op") (codes "replace_member") (text_member (codes "path") (site_text (member_site m))
    (text_member (codes "text") text no_members)))
edit_members base (edit.RemoveMember m) =
    member (codes "base") (number (unsigned base))
    (text_member (codes "op") (codes "remove_member")
    (text_member (codes "path") (site_text (member_site m)) no_members))
edit_members base (edit.SetSuper c text) =
    member (codes "base") (number (unsigned base))
    (text_member (codes "class") c (text_member (codes "op") (codes "set_super")
    (text_member (codes "super") text no_members)))
edit_members base (edit.SetConstructor c text) =
    member (codes "base") (number (unsigned base))
    (text_member (codes "class") c (text_member (codes "op") (codes "set_constructor")
    (text_member (codes "text") text no_members)))
edit_members base (edit.SetColors s marks) =
    member (codes "base") (number (unsigned base))
    (member (codes "colors") (array (text_items mark_text marks))
    (text_member (codes "op") (codes "set_colors") (text_member (codes "path") (site_text s) no_members)))
edit_members base (edit.SetModel text) =
    member (codes "base") (number (unsigned base)) (text_member (codes "op") (codes "set_model")
    (text_member (codes "text") text no_members))

-- the object of the request for an edit of this base
abbrev pub edit_data : ℕ → Edit → Data
edit_data base e = object (edit_members base e)

-- its names and numbers may stand in a request
abbrev pub IsAskable : Edit → Type 0
IsAskable (edit.AddClass text) = Unit {0}
IsAskable (edit.RemoveClass c) = is_short_identifier c ≡ true
IsAskable (edit.AddMember c text) = is_short_identifier c ≡ true
IsAskable (edit.ReplaceMember m text) = IsPath (member_site m)
IsAskable (edit.RemoveMember m) = IsPath (member_site m)
IsAskable (edit.SetSuper c text) = is_short_identifier c ≡ true
IsAskable (edit.SetConstructor c text) = is_short_identifier c ≡ true
IsAskable (edit.SetColors s marks) = IsPath s × AllPass (λ mark. is_short_identifier mark.name) marks
IsAskable (edit.SetModel text) = Unit {0}
