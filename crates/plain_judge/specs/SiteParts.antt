-- No public contract cites this: it serves the proofs.
-- The parts of sites, by which they are compared.
use Rattle.std.specs.Prelude.{ℕ, List, []}
use Rattle.cfj_model.specs.declared.site.Site.{Site}
use Rattle.cfj_model.specs.declared.site.Site.TheVariants as site
use Rattle.plain_judge.specs.declared.site_parts.Kind.{Kind}
use Rattle.plain_judge.specs.declared.site_parts.Kind.TheVariants as kind
use Rattle.plain_judge.specs.declared.site_parts.Parts.{Parts}

pub record SiteParts : Type 0 where
  pub kind : Kind
  pub class : List ℕ
  pub member : List ℕ
  pub alt : ℕ
  pub slot : ℕ

-- the parts as they are read
abbrev pub seen : Parts → SiteParts
seen p = record { kind = p.kind; class = p.class.now; member = p.member.now; alt = p.alt; slot = p.slot }

-- the parts of what stands in no member
abbrev pub class_parts : Kind → List ℕ → ℕ → SiteParts
class_parts k class slot = record { kind = k; class = class; member = []; alt = 0; slot = slot }

-- the parts of a site, with no text and 0 for those that its kind lacks
abbrev pub parts_of : Site → SiteParts
parts_of site.Model = class_parts kind.Model [] 0
parts_of (site.Class c) = class_parts kind.Class c 0
parts_of (site.Field c f alt) = record { kind = kind.Field; class = c; member = f; alt = alt; slot = 0 }
parts_of (site.Ctor c) = class_parts kind.Ctor c 0
parts_of (site.CtorParam c i) = class_parts kind.CtorParam c i
parts_of (site.SuperArg c i) = class_parts kind.SuperArg c i
parts_of (site.Assign c i) = class_parts kind.Assign c i
parts_of (site.Method c m alt) = record { kind = kind.Method; class = c; member = m; alt = alt; slot = 0 }
parts_of (site.Param c m alt i) = record { kind = kind.Param; class = c; member = m; alt = alt; slot = i }
parts_of (site.Node c m alt n) = record { kind = kind.Node; class = c; member = m; alt = alt; slot = n }
