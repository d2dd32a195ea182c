use Rattle.std.proofs.Common.{◌≡◌, length}
use Rattle.fj_parser.specs.Counting.{Counted}
use Rattle.fj_machine.specs.Machine.{pending}
use Rattle.fj_parser.specs.GoalViews.{met_of, reader_of}
use Rattle.fj_machine.specs.MachineViews.{machine_seen}
use Rattle.fj_parser.specs.Listing.{IsListed}
use Rattle.fj_parser.specs.Waiting.{waiting_places, waiting_roles}
use Rattle.fj_tally.specs.Views.{tally_seen}
use Rattle.fj_parser.proofs.role_list.list_tokens.Given as goal

abbrev pub invariant-tokens : goal.invariant-tokens
invariant-tokens l = record {
  listed : IsListed (met_of l.fn.part) (reader_of l.fn.part) l.fn.lexer.text.now l.lexer.rest.now (machine_seen l.machine) (tally_seen l.tally) (waiting_places l.waiting) l.list.items;
  waits : waiting_roles l.waiting ≡ pending (machine_seen l.machine);
  counted : Counted (machine_seen l.machine) (tally_seen l.tally);
  whole : l.lexer.text.now ≡ l.fn.lexer.text.now;
}

abbrev pub decreases-tokens : goal.decreases-tokens
decreases-tokens l = length l.lexer.rest.now
