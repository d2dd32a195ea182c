-- No public contract cites this: it serves the proofs.
-- The parts of pairs of a site and a rule, by which they are looked up.
use Rattle.std.specs.Prelude.{◌↔◌, List, map}
use Rattle.cfj_model.specs.Judging.{Pair}
use Rattle.cfj_words.specs.Lists.{Has}
use Rattle.cfj_model.specs.declared.site.Rule.{Rule}
use Rattle.plain_judge.specs.SiteParts.{SiteParts, parts_of, seen}
use Rattle.plain_judge.specs.declared.breaks.PairParts.{PairParts}

-- the parts of a pair, as they are read
abbrev pub seen_pair : PairParts → SiteParts × Rule
seen_pair p = (seen p.parts, p.rule)

-- the parts of a pair
abbrev pub pair_parts : Pair → SiteParts × Rule
pair_parts p = (parts_of p.0, p.1)

-- the set has the parts of these pairs and no others
abbrev pub IsSetOf : List Pair → List PairParts → Type 0
IsSetOf pairs keys = (x : SiteParts × Rule) → Has (map seen_pair keys) x ↔ Has (map pair_parts pairs) x
