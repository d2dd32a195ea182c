-- The text of a site: a path that names a node of a project.
use Rattle.std.specs.Prelude.{◌≡◌, ℕ, ◌<◌, ◌^◌, true, ◌==◌, List, [], ◌++◌, codes, if◌then◌else◌}
use Rattle.std.specs.Fmt.{decimal}
use Rattle.cfj_words.specs.Names.{is_short_identifier}
use Rattle.cfj_model.specs.declared.member_name.MemberName.{MemberName}
use Rattle.cfj_model.specs.declared.member_name.MemberName.TheVariants as member
use Rattle.cfj_model.specs.declared.site.Site.{Site}
use Rattle.cfj_model.specs.declared.site.Site.TheVariants as site
use Rattle.cfj_model.specs.declared.site_ref.SiteRef.{SiteRef}
use Rattle.cfj_model.specs.declared.site_ref.SiteRef.TheVariants as site_ref

-- `~` and its alt stand behind a member that isn't the first of its name
abbrev pub alt_text : ℕ → List ℕ
alt_text alt = if alt == 0 then [] else codes "~" ++ decimal alt

-- a member, and what follows
abbrev pub member_text : List ℕ → ℕ → List ℕ → List ℕ
member_text name alt rest = name ++ (alt_text alt ++ rest)

-- `*`, `C`, `C.f`, `C.new`, `C.new(i)`, `C.new.super(i)`, `C.new.this(i)`, `C.m()`, `C.m(i)`, `C.m()#n`
abbrev pub site_text : Site → List ℕ
site_text site.Model = codes "*"
site_text (site.Class c) = c
site_text (site.Field c f alt) = c ++ (codes "." ++ member_text f alt [])
site_text (site.Ctor c) = c ++ codes ".new"
site_text (site.CtorParam c i) = c ++ (codes ".new(" ++ (decimal i ++ codes ")"))
site_text (site.SuperArg c i) = c ++ (codes ".new.super(" ++ (decimal i ++ codes ")"))
site_text (site.Assign c i) = c ++ (codes ".new.this(" ++ (decimal i ++ codes ")"))
site_text (site.Method c m alt) = c ++ (codes "." ++ member_text m alt (codes "()"))
site_text (site.Param c m alt i) = c ++ (codes "." ++ member_text m alt (codes "(" ++ (decimal i ++ codes ")")))
site_text (site.Node c m alt n) = c ++ (codes "." ++ member_text m alt (codes "()#" ++ decimal n))

-- the site of a member
abbrev pub member_site : MemberName → Site
member_site (member.Field c f alt) = site.Field c f alt
member_site (member.Method c m alt) = site.Method c m alt

-- the site that a reference names
abbrev pub site_ref_seen : SiteRef → Site
site_ref_seen site_ref.Model = site.Model
site_ref_seen (site_ref.Class c) = site.Class c.now
site_ref_seen (site_ref.Field c f alt) = site.Field c.now f.now alt
site_ref_seen (site_ref.Ctor c) = site.Ctor c.now
site_ref_seen (site_ref.CtorParam c i) = site.CtorParam c.now i
site_ref_seen (site_ref.SuperArg c i) = site.SuperArg c.now i
site_ref_seen (site_ref.Assign c i) = site.Assign c.now i
site_ref_seen (site_ref.Method c m alt) = site.Method c.now m.now alt
site_ref_seen (site_ref.Param c m alt i) = site.Param c.now m.now alt i
site_ref_seen (site_ref.Node c m alt n) = site.Node c.now m.now alt n

-- a name that may stand in a path: an identifier of at most 255 bytes
abbrev pub IsPathName : List ℕ → Type 0
IsPathName name = is_short_identifier name ≡ true

-- a number that may stand in a path
abbrev pub IsPathNumber : ℕ → Type 0
IsPathNumber n = n < 2 ^ 16

-- the names and numbers of the site may stand in a path
abbrev pub IsPath : Site → Type 0
IsPath site.Model = Unit {0}
IsPath (site.Class c) = IsPathName c
IsPath (site.Field c f alt) = IsPathName c × IsPathName f × IsPathNumber alt
IsPath (site.Ctor c) = IsPathName c
IsPath (site.CtorParam c i) = IsPathName c × IsPathNumber i
IsPath (site.SuperArg c i) = IsPathName c × IsPathNumber i
IsPath (site.Assign c i) = IsPathName c × IsPathNumber i
IsPath (site.Method c m alt) = IsPathName c × IsPathName m × IsPathNumber alt
IsPath (site.Param c m alt i) = IsPathName c × IsPathName m × IsPathNumber alt × IsPathNumber i
IsPath (site.Node c m alt n) = IsPathName c × IsPathName m × IsPathNumber alt × IsPathNumber n
