use Rattle.std.proofs.Common.{◌≤◌, take, vec_len}
use Rattle.cfj_logic.specs.UnitClauses.{Values}
use Rattle.unit_propagation.specs.Lists.{AreMore}
use Rattle.unit_propagation.specs.Trails.{Grows}
use Rattle.unit_propagation.specs.Walks.{IsWithin}
use Rattle.unit_propagation.specs.Watched.{AreWatchedBut, Handled, HandledBut}
use Rattle.unit_propagation.proofs.watches.visit_each.Given as goal

abbrev pub invariant-visits : goal.invariant-visits
invariant-visits l = record {
  grown : Grows l.clauses l.initial.values l.initial.trail.items l.values l.trail.items;
  more : AreMore l.initial.watches.lists l.watches.lists;
  watched : AreWatchedBut l.falsified l.list.items l.clauses l.watches;
  handled : (ds : Values) → IsWithin ds l.initial.values → Handled l.clauses l.initial.watches.pairs.items ds l.initial.values →
      HandledBut l.clauses l.watches.pairs.items ds l.falsified (take l.at l.list.items) l.values;
  within : l.at ≤ vec_len l.list;
}

abbrev pub decreases-visits : goal.decreases-visits
decreases-visits l = l.at
