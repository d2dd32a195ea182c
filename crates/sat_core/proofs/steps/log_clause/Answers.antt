use Rattle.std.proofs.Common.{◌≡◌, ◌++◌, ◌∷◌, []}
use Rattle.sat_core.specs.States.{IsLearned}
use Rattle.sat_core.proofs.Searching.{learned_push, on_ok}
use Rattle.sat_core.proofs.steps.log_clause.Goals as goal

pub returns-clause-known : goal.returns-clause-known
returns-clause-known c =
    let clause = c.args.learned.now.clause in
    let log = c.args.log.now in
    on_ok c.push.result (c.push.new.self ≡ log ++ clause ∷ []) (IsLearned c.args.clauses.now c.push.new.self c.learn.new.self)
    (λ pushed. learned_push c.args.clauses.now log c.push.new.self c.args.premises.now c.learn.new.self clause c.in_ok-list.list c.requires.known c.requires.entry c.requires.some c.in_ok-list.ensures c.in_ok-learn.ensures pushed)
    c.push.ensures.ok
