use Rattle.std.proofs.Common.{◌≡◌, ◌+◌, ◌-◌, suc, length, arith, sym, ap}
use Rattle.class_table.specs.ByName.{seen}
use Rattle.class_table.proofs.Walking.{untaken_is, walk_ends, walk_out, walk_on, walk_begins, marked_none, seen_push, marked_more}
use Rattle.class_table.proofs.superclasses.climb.Goals as goal

pub up-init : goal.up-init
up-init c = record {
  walked = walk_begins c.args.classes.now c.args.name.now (length c.args.classes.now - 0) (seen c.new-found.result.items) (omega arith) (ap seen c.new-found.ensures.items);
  marked = marked_none c.args.taken.now.entries (seen c.new-found.result.items) c.requires (ap seen c.new-found.ensures.items);
}

pub returns-in-None : goal.returns-in-None
returns-in-None c =
    let none = untaken_is c.args.classes.now (seen c.up.found.items) c.up.taken.entries c.up.at.now _ c.up.invariant.marked c.in-None.ensures in
    walk_ends c.args.classes.now c.args.name.now (length c.args.classes.now - c.up._step) (seen c.up.found.items) c.up.at.now c.up.invariant.walked (sym none)

pub up-preserved : goal.up-preserved
up-preserved c =
    let p = c.args.classes.now in
    let class = c.in-Some.class.now in
    let found = untaken_is p (seen c.up.found.items) c.up.taken.entries c.up.at.now _ c.up.invariant.marked c.in-Some.ensures in
    let pushed = seen_push c.up.found.items c.push.new.self.items c.in-Some.class c.in_ok-push-in-Some.ensures.items in
    let left : length p - c.up._step ≡ suc (length p - (c.up._step + 1)) = omega (arith, c.up-test.true, c.len-step-end.ensures) in
    record {
      walked = walk_on p c.args.name.now (length p - c.up._step) (length p - (c.up._step + 1)) (seen c.up.found.items) (seen c.push.new.self.items) c.up.at.now class
          c.up.invariant.walked (sym found) left pushed;
      marked = marked_more c.up.taken.entries c.insert.new.self.entries (seen c.up.found.items) (seen c.push.new.self.items) c.text.result c.in-Some.class class
          c.up.invariant.marked pushed c.text.ensures.value c.in_ok-insert-in-Some.ensures.updates.0;
    }

pub returns : goal.returns
returns c =
    let none : length c.args.classes.now - c.up._step ≡ 0 = omega (arith, c.up-test.false, c.len-step-end.ensures) in
    walk_out c.args.classes.now c.args.name.now (length c.args.classes.now - c.up._step) (seen c.up.found.items) c.up.at.now c.up.invariant.walked none
