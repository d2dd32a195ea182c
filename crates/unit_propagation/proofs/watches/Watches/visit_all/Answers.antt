use Rattle.std.proofs.Common.{◌≡◌, true, false, sym, ◌∙◌}
use Rattle.unit_propagation.specs.Trails.{still}
use Rattle.unit_propagation.proofs.Watching.{uncovered_handled, watched_out, watched_back}
use Rattle.unit_propagation.proofs.watches.Watches.visit_all.Goals as goal

pub returns-then-not-covers-clause-grown : goal.returns-then-not-covers-clause-grown
returns-then-not-covers-clause-grown c = still c.args.values.now c.args.trail.now.items

pub returns-then-not-covers-clause-handled : goal.returns-then-not-covers-clause-handled
returns-then-not-covers-clause-handled c = λ ds _ h.
    uncovered_handled c.args.clauses.now c.args.self.now ds c.args.values.now c.args.falsified
    (λ covered. let t : c.covers.result ≡ true = c.covers.ensures.1 covered in let no : true ≡ false = sym t ∙ c.if-not-covers.true in cc no) c.requires.watched h

pub visit_each-found-requires-clause-watched : goal.visit_each-found-requires-clause-watched
visit_each-found-requires-clause-watched c =
    watched_out c.args.clauses.now c.args.self.now.pairs.items c.args.self.now.lists c.exchange-list.new.self c.args.falsified c.exchange-list.result.items c.exchange-list.ensures.taken c.requires.watched

pub returns-clause-watched : goal.returns-clause-watched
returns-clause-watched c =
    watched_back c.args.clauses.now c.visit_each-found.new.watches.pairs.items c.visit_each-found.new.watches.lists c.exchange-none.new.self c.args.falsified c.visit_each-found.new.list.items c.exchange-none.result.items
    c.exchange-none.ensures.taken c.exchange-none.ensures.put c.visit_each-found.ensures.watched
