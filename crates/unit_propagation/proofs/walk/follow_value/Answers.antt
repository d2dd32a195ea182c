use Rattle.std.proofs.Common.{◌≡◌, not, Some, None, slice_set, sym, ◌∙◌}
use Rattle.cfj_logic.specs.declared.clauses.Literal.{Literal}
use Rattle.cfj_logic.specs.UnitClauses.{Values, value_of}
use Rattle.unit_propagation.specs.Trails.{still}
use Rattle.unit_propagation.specs.Walks.{IsWithin, FollowsOne}
use Rattle.unit_propagation.specs.Watched.{Handled, HandledWith}
use Rattle.unit_propagation.proofs.Walking.{grown_within, follows_one, none_of, if_none}
use Rattle.unit_propagation.proofs.walk.follow_value.Goals as goal

pub returns-in_default-clause-grown : goal.returns-in_default-clause-grown
returns-in_default-clause-grown c = still c.args.values.now c.args.trail.now.items

pub returns-then-is_some-clause-grown : goal.returns-then-is_some-clause-grown
returns-then-is_some-clause-grown c = still c.args.values.now c.args.trail.now.items

pub returns-clause-followed : goal.returns-clause-followed
returns-clause-followed c =
    let cs = c.args.clauses.now in
    let ds = c.args.done.now in
    let vs = c.args.values.now in
    let ws = c.visit_all.new.values in
    let qs = c.visit_all.new.self.pairs.items in
    let is : value_of vs c.args.var ≡ Some c.in-Some.on = sym c.value_of.ensures ∙ c.in-Some.is in
    let none : value_of ds c.args.var ≡ None = sym c.value_of-2.ensures ∙ none_of c.value_of-2.result (sym c.is_some.ensures ∙ c.if-is_some.false) in
    let l : Literal = record { var = c.args.var; on = not c.in-Some.on } in
    if_none c.in_ok-found.found ((es : Values) → IsWithin es vs → Handled cs c.args.watches.now.pairs.items es vs → HandledWith cs qs es l ws) (FollowsOne cs qs ds (slice_set ds c.args.var (Some c.in-Some.on)) ws c.args.var)
    (λ h. follows_one cs c.args.watches.now.pairs.items qs ds vs ws c.args.var c.in-Some.on c.requires.followed is none c.visit_all.auto.values
    (grown_within cs vs ws c.args.trail.now.items c.visit_all.new.trail.items c.in_ok-found.ensures.grown) (h ds c.requires.followed.within c.requires.followed.handled))
    c.in_ok-found.ensures.handled
