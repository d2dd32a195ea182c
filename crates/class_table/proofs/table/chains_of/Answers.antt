use Rattle.std.proofs.Common.{◌≡◌, length, arith, sym, ◌∙◌, ap}
use Rattle.cfj_model.specs.LookUps.{Table, chain}
use Rattle.class_table.specs.ByName.{IsChainOf, seen}
use Rattle.class_table.proofs.ByNames.{knows_none, knows_more, knows_chains}
use Rattle.class_table.proofs.table.chains_of.Goals as goal

pub each-init : goal.each-init
each-init c = knows_none (IsChainOf c.args.project.now.classes) c.args.project.now.classes c.new-chains.result.entries c.new-chains.ensures.empty

pub each-preserved : goal.each-preserved
each-preserved c =
    let p = c.args.project.now.classes in
    let class = c.class-class.result.now in
    let found = ap seen c.of.ensures ∙ c.in_ok-found.ensures ∙ ap (λ (t : Table). chain t class.name) c.requires ∙ ap (chain p) (sym c.text.ensures.value) in
    knows_more (IsChainOf p) p c.each.place class c.text.result c.of.result c.each.chains.entries c.insert.new.self.entries
    c.each.invariant c.class-class.ensures c.text.ensures.value found c.in_ok-insert.ensures.updates.0

pub returns : goal.returns
returns c =
    let last : c.each.place ≡ length c.args.project.now.classes = omega (arith, c.each.auto, c.each-test.false, c.class_count-place-end.ensures.count) in
    knows_chains c.args.project.now.classes c.each.place c.each.chains.entries last c.each.invariant
