-- No public contract cites this: it serves the proofs.
-- The sites of a body's nodes.
use Rattle.std.specs.Prelude.{ℕ}
use Rattle.cfj_model.specs.declared.site.Site.{Site}
use Rattle.cfj_model.specs.declared.site.Site.TheVariants as site
use Rattle.plain_judge.specs.declared.body.Body.{Body}

-- the site of the node with this slot
abbrev pub node_site : Body → ℕ → Site
node_site b slot = site.Node b.class.now b.method.now b.alt slot
