-- What stands in the members of an object: which values are right for a field.
use Rattle.std.specs.Prelude.{◌≡◌, ◌⊎◌, ℕ, ◌^◌, ◌<◌, true, List, [], ◌∷◌, Some, if◌then◌else◌}
use Rattle.std.specs.List.{AllPass}
use Rattle.cfj_words.specs.Names.{is_short_identifier}
use Rattle.cfj_model.specs.Sites.{site_text, member_site, IsPath}
use Rattle.cfj_model.specs.declared.member_name.MemberName.{MemberName}
use Rattle.cfj_model.specs.declared.signed.Signed.{Signed}
use Rattle.cfj_model.specs.declared.site.Site.{Site}
use Rattle.serde_json.specs.Data.{Data, number, unsigned, string, array, Items, no_items, item}
use Rattle.serde_json.specs.Find.{get}
use Rattle.session_requests.specs.Ops.{key}
use Rattle.session_requests.specs.declared.field.Field.{Field}
use Rattle.session_requests.specs.declared.field.Field.TheVariants as field

-- a mark by name: the name, behind a `!` where the feature isn't wanted
abbrev pub mark_text : Signed → List ℕ
mark_text mark = if mark.off then 33 ∷ mark.name else mark.name

-- what stands in a list, each as its text, as the items of an array
abbrev pub text_items : {X : Type 0} → (X → List ℕ) → List X → Items
text_items text [] = no_items
text_items text (x ∷ xs) = item (string (text x)) (text_items text xs)

-- the object has this number of 32 bits in the field
abbrev pub HasNumber : Data → Field → ℕ → Type 0
HasNumber d f n = (get (key f) d ≡ Some (number (unsigned n))) × (n < 2 ^ 32)

-- the object has this string in the field
abbrev pub HasText : Data → Field → List ℕ → Type 0
HasText d f text = get (key f) d ≡ Some (string text)

-- the object has this identifier of at most 255 bytes in the field
abbrev pub HasName : Data → Field → List ℕ → Type 0
HasName d f name = HasText d f name × (is_short_identifier name ≡ true)

-- the object has the path of this site in the field
abbrev pub HasSite : Data → Field → Site → Type 0
HasSite d f s = HasText d f (site_text s) × IsPath s

-- the object has the path of this field or method of a class in the field
abbrev pub HasMember : Data → Field → MemberName → Type 0
HasMember d f m = HasSite d f (member_site m)

-- the object has an array of these identifiers in the field
abbrev pub HasNames : Data → Field → List (List ℕ) → Type 0
HasNames d f names =
    (get (key f) d ≡ Some (array (text_items (λ name. name) names))) × AllPass is_short_identifier names

-- the object has an array of these marks in the field, each an identifier or `!` and an identifier
abbrev pub HasMarks : Data → Field → List Signed → Type 0
HasMarks d f marks =
    (get (key f) d ≡ Some (array (text_items mark_text marks)))
    × AllPass (λ mark. is_short_identifier mark.name) marks

-- what the object has in the field is right for it
abbrev pub HasRight : Field → Data → Type 0
HasRight field.Base d = (n : ℕ) × HasNumber d field.Base n
HasRight field.Class d = (name : List ℕ) × HasName d field.Class name
HasRight field.Member d = (m : MemberName) × HasMember d field.Member m
HasRight field.Path d = (s : Site) × HasSite d field.Path s
HasRight field.Text d = (text : List ℕ) × HasText d field.Text text
HasRight field.Super d = (text : List ℕ) × HasText d field.Super text
HasRight field.Colors d = (marks : List Signed) × HasMarks d field.Colors marks
HasRight field.Select d = (names : List (List ℕ)) × HasNames d field.Select names
HasRight field.Feature d = (text : List ℕ) × HasText d field.Feature text

-- what the object has in each of the fields is right for it
abbrev pub HasAllRight : List Field → Data → Type 0
HasAllRight [] d = Unit {0}
HasAllRight (f ∷ fs) d = HasRight f d × HasAllRight fs d

-- f is the first of the fields in which what the object has isn't right
abbrev pub IsFirstWrong : List Field → Data → Field → Type 0
IsFirstWrong [] d f = ⊥
IsFirstWrong (g ∷ gs) d f = ((f ≡ g) × (HasRight g d → ⊥)) ⊎ (HasRight g d × IsFirstWrong gs d f)
