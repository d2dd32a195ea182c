-- No public contract cites this: it serves the proofs.
-- How a path is read: a candidate that cuts the text at its marks. It counts only where its site prints the text.
use Rattle.std.specs.Prelude.{◌≡◌, ℕ, ◌^◌, ◌&&◌, ◌==◌, nat_lt, Option, Some, None, option_map, option_and_then, List, [], ◌∷◌, length, codes, if◌then◌else◌}
use Rattle.std.specs.Str.{IsUtf8, all_ascii_digits, bytes_eq}
use Rattle.std.specs.Str.Parse.{digits_value}
use Rattle.cfj_words.specs.Names.{is_short_identifier}
use Rattle.cfj_model.specs.declared.site.Site.{Site}
use Rattle.cfj_model.specs.declared.site.Site.TheVariants as site

-- what stands before the first of this byte and what stands behind it
abbrev pub cut : ℕ → List ℕ → Option (List ℕ × List ℕ)
cut at [] = None
cut at (b ∷ bs) = if b == at then Some ([], bs) else option_map (λ parts. (b ∷ parts.0, parts.1)) (cut at bs)

-- these texts stand before and behind the first of this byte
pub record IsCut (at : ℕ) (text front back : List ℕ) : Type 0 where
  pub cuts : cut at text ≡ Some (front, back)
  pub front_utf8 : IsUtf8 front
  pub back_utf8 : IsUtf8 back

-- the text as a name of a path
unfoldable pub name_of : List ℕ → Option (List ℕ)
name_of text = if is_short_identifier text then Some text else None

-- the text as a number of a path; zeros may lead
unfoldable pub number_of : List ℕ → Option ℕ
number_of text =
    if all_ascii_digits text && nat_lt 0 (length text) && nat_lt (digits_value 10 text) (2 ^ 16) then Some (digits_value 10 text) else None

-- a text cut at its `~`, as a member's name and its alt
abbrev pub with_alt : List ℕ → Option (List ℕ × List ℕ) → Option (List ℕ × ℕ)
with_alt text None = Some (text, 0)
with_alt text (Some parts) = option_map (λ alt. (parts.0, alt)) (number_of parts.1)

-- a member's name and its alt
abbrev pub member_of : List ℕ → Option (List ℕ × ℕ)
member_of text = with_alt text (cut 126 text)

-- the text is this name with this alt
pub record IsMember (text name : List ℕ) (alt : ℕ) : Type 0 where
  pub reads : member_of text ≡ Some (name, alt)
  pub utf8 : IsUtf8 name

-- the field of this member
abbrev pub field_of : List ℕ → Option (List ℕ × ℕ) → Option Site
field_of class None = None
field_of class (Some member) = option_map (λ field. site.Field class field member.1) (name_of member.0)

-- what a part without brackets names
abbrev pub bare_of : List ℕ → List ℕ → Option Site
bare_of class part = if bytes_eq part (codes "new") then Some (site.Ctor class) else field_of class (member_of part)

-- what stands behind the brackets of a method, cut at its `#`
abbrev pub behind_of : List ℕ → List ℕ → ℕ → Option (List ℕ × List ℕ) → Option Site
behind_of class method alt None = Some (site.Method class method alt)
behind_of class method alt (Some parts) = option_map (site.Node class method alt) (number_of parts.1)

-- what a method's brackets and what stands behind them name
abbrev pub inside_of : List ℕ → List ℕ → ℕ → List ℕ → List ℕ → Option Site
inside_of class method alt [] behind = behind_of class method alt (cut 35 behind)
inside_of class method alt (b ∷ bs) behind = option_map (site.Param class method alt) (number_of (b ∷ bs))

-- what a member with brackets names
abbrev pub method_of : List ℕ → Option (List ℕ × ℕ) → List ℕ → List ℕ → Option Site
method_of class None inside behind = None
method_of class (Some member) inside behind = option_and_then (λ method. inside_of class method member.1 inside behind) (name_of member.0)

-- what a part with brackets names, of which the rest is cut at its `)`
abbrev pub bracketed_of : List ℕ → List ℕ → Option (List ℕ × List ℕ) → Option Site
bracketed_of class head None = None
bracketed_of class head (Some parts) =
    if bytes_eq head (codes "new") then option_map (site.CtorParam class) (number_of parts.0)
    else if bytes_eq head (codes "new.super") then option_map (site.SuperArg class) (number_of parts.0)
    else if bytes_eq head (codes "new.this") then option_map (site.Assign class) (number_of parts.0)
    else method_of class (member_of head) parts.0 parts.1

-- what a part of a class names, cut at its `(`
abbrev pub part_of : List ℕ → List ℕ → Option (List ℕ × List ℕ) → Option Site
part_of class part None = bare_of class part
part_of class part (Some parts) = bracketed_of class parts.0 (cut 41 parts.1)

-- what a text names, cut at its first `.`
abbrev pub whole_of : List ℕ → Option (List ℕ × List ℕ) → Option Site
whole_of text None = if bytes_eq text (codes "*") then Some site.Model else option_map site.Class (name_of text)
whole_of text (Some parts) = option_and_then (λ class. part_of class parts.1 (cut 40 parts.1)) (name_of parts.0)

-- the only site that can have this text
abbrev pub candidate : List ℕ → Option Site
candidate text = whole_of text (cut 46 text)
