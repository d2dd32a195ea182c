use Rattle.std.proofs.Common.{◌≡◌, ◌++◌, drop}
use Rattle.cfj_model.specs.Sites.{site_ref_seen}
use Rattle.unit_facts.specs.Pairs.{pairs_at}
use Rattle.plain_judge.proofs.site_rules.add.Given as goal

abbrev pub invariant-each : goal.invariant-each
invariant-each l = l.pairs.items ++ pairs_at (site_ref_seen l.site) (drop l.rule-index l.rules) ≡ l.initial.pairs.items ++ pairs_at (site_ref_seen l.site) l.rules
