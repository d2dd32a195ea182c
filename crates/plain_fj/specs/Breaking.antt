-- The pairs of a site and a rule that break, as code finds them part by part.
use Rattle.std.specs.Prelude.{◌≡◌, ℕ, not, List, [], ◌∷◌, ◌++◌, filter, flat_map, map}
use Rattle.cfj_model.specs.Judging.{RuleAt, Pair, Ruling, judged, judged_at, pair_of}
use Rattle.cfj_model.specs.LookUps.{Table, is_known}
use Rattle.cfj_model.specs.Sites.{site_ref_seen}
use Rattle.cfj_model.specs.declared.class.Class.{Class}
use Rattle.cfj_model.specs.declared.class.Method.{Method}
use Rattle.cfj_model.specs.declared.class.Param.{Param}
use Rattle.cfj_model.specs.declared.site.Rule.{Rule}
use Rattle.cfj_model.specs.declared.site.Rule.TheVariants.{K1}
use Rattle.cfj_model.specs.declared.site.Site.{Site}
use Rattle.cfj_model.specs.declared.site.Site.TheVariants as site
use Rattle.plain_fj.specs.declared.node_break.NodeBreak.{NodeBreak}
use Rattle.plain_fj.specs.declared.site_break.Break.{Break}

-- the pairs of those of these that break
abbrev pub broken : List RuleAt → List Pair
broken js = map pair_of (filter (λ j. j.breaks) js)

-- each pair of a project that breaks, in the order of the text, and at one site in the order of the rules
abbrev pub breaking : Table → List Pair
breaking p = broken (judged p)

-- the pair that a break is
abbrev pub told : Break → Pair
told b = (site_ref_seen b.site, b.rule)

-- the breaks are those before, and behind them each of these that breaks
abbrev pub Adds : List Break → List Break → List RuleAt → Type 0
Adds before after js = map told after ≡ map told before ++ broken js

-- what is judged at nodes, by the site of a slot
abbrev pub at_slots : (ℕ → Site) → List (ℕ × List Ruling) → List RuleAt
at_slots at ns = flat_map (λ n. judged_at (at n.0) n.1) ns

-- what is judged at a parameter of a constructor
abbrev pub judged_ctor_param : Table → Class → Param → List RuleAt
judged_ctor_param p k q = judged_at (site.CtorParam k.name q.slot) ((K1, not (is_known p q.of)) ∷ [])

-- what is judged at a parameter of a method
abbrev pub judged_param : Table → Class → Method → Param → List RuleAt
judged_param p k m q = judged_at (site.Param k.name m.name m.alt q.slot) ((K1, not (is_known p q.of)) ∷ [])

-- ---- nodes of an expression, by their slots

-- a rule, with the slot of the node at which it is judged
abbrev pub SlotRule : Type 0
SlotRule = ℕ × Rule

abbrev pub at_slot : ℕ → Ruling → SlotRule
at_slot slot v = (slot, v.0)

-- the rules of these that break at the node of a slot
abbrev pub broken_at : ℕ → List Ruling → List SlotRule
broken_at slot vs = map (at_slot slot) (filter (λ v. v.1) vs)

-- each rule that breaks at these nodes, in their order
abbrev pub broken_nodes : List (ℕ × List Ruling) → List SlotRule
broken_nodes ns = flat_map (λ n. broken_at n.0 n.1) ns

-- the slot and the rule of a break at a node
abbrev pub slot_rule : NodeBreak → SlotRule
slot_rule n = (n.slot, n.rule)

-- the breaks are those before, and behind them each rule that breaks at these nodes
abbrev pub AddsAtNodes : List NodeBreak → List NodeBreak → List (ℕ × List Ruling) → Type 0
AddsAtNodes before after ns = map slot_rule after ≡ map slot_rule before ++ broken_nodes ns
