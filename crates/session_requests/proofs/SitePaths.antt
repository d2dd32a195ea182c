-- A path's text is that of one site alone.
use Rattle.std.proofs.Common.{IfNone, MatchOption, ◌≡◌, ℕ, List, Option, Some, None, sym, ap, ◌∙◌, subst}
use Rattle.std.specs.Str.{IsUtf8}
use Rattle.cfj_model.specs.Paths.{candidate}
use Rattle.cfj_model.specs.Sites.{site_text, member_site, IsPath}
use Rattle.cfj_model.specs.declared.member_name.MemberName.{MemberName}
use Rattle.cfj_model.specs.declared.site.Site.{Site}
use Rattle.cfj_model.proofs.Paths.{site_read}

same_site : (a b : Site) → Some a ≡ Some b → a ≡ b
same_site a b e = cc

-- one text is the path of one site
one_site : (text : List ℕ) → IsUtf8 text → (a b : Site) → IsPath a → IsPath b → site_text a ≡ text → site_text b ≡ text → a ≡ b
one_site text u a b at bt ea eb =
    let first : candidate text ≡ Some a = ap candidate (sym ea) ∙ site_read a at (subst IsUtf8 (sym ea) u) in
    let second : candidate text ≡ Some b = ap candidate (sym eb) ∙ site_read b bt (subst IsUtf8 (sym eb) u) in
    same_site a b (sym first ∙ second)

-- the path of a site that is no member is the path of no member
pub no_member : (text : List ℕ) → IsUtf8 text → (s : Site) → site_text s ≡ text → IsPath s → ((m : MemberName) → s ≡ member_site m → ⊥)
    → (m : MemberName) → site_text (member_site m) ≡ text → IsPath (member_site m) → ⊥
no_member text u s e path none m is fine = none m (one_site text u s (member_site m) path fine e is)

-- the same of the member that a site is
pub no_member_of : (text : List ℕ) → IsUtf8 text → (s : Site) (r : Option MemberName) → site_text s ≡ text → IsPath s
    → MatchOption r ((m : MemberName) → s ≡ member_site m → ⊥) (λ m. s ≡ member_site m)
    → IfNone r ((m : MemberName) → site_text (member_site m) ≡ text → IsPath (member_site m) → ⊥)
no_member_of text u s None e path none = no_member text u s e path none
no_member_of text u s (Some m) e path is = tt
