use Rattle.std.proofs.Common.{◌-◌, ◌≤◌}
use Rattle.plain_judge.specs.Searching.{IsSearched}
use Rattle.plain_judge.proofs.judge.search_first.Given as goal

abbrev pub invariant-tried : goal.invariant-tried
invariant-tried l = (l.place ≤ l.most) × IsSearched l.project l.place l.search

abbrev pub decreases-tried : goal.decreases-tried
decreases-tried l = l.most - l.place
