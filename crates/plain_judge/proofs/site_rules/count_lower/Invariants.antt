use Rattle.std.proofs.Common.{◌≡◌, ◌++◌, drop, take}
use Rattle.cfj_model.specs.Judging.{insert_ranked, rank}
use Rattle.plain_judge.proofs.site_rules.count_lower.Given as goal

abbrev pub invariant-each : goal.invariant-each
invariant-each l = insert_ranked rank l.rule l.others ≡ take l.place l.others ++ insert_ranked rank l.rule (drop l.place l.others)
