use Rattle.std.proofs.Common.{◌≡◌, ◌-◌, ◌+◌, ◌<◌, ◌≤◌, ◌++◌, suc, length, drop, slice_index_or, arith, sym, ◌∙◌, ap}
use Rattle.cfj_model.specs.LookUps.{fields_of}
use Rattle.class_table.specs.ByName.{seen}
use Rattle.plain_fj.specs.Found.{names}
use Rattle.plain_fj.proofs.TypeLists.{drop_past}
use Rattle.plain_fj.proofs.SameNames.{own_names, names_of_more}
use Rattle.plain_fj.proofs.same_names.field_names.Goals as goal

pub each-init : goal.each-init
each-init c =
    let end : length c.args.chain.now ≤ length c.args.chain.now - 0 = omega arith in
    ap names c.new-found.ensures.items ∙ ap (λ z. own_names (fields_of (seen z))) (sym (drop_past c.args.chain.now (length c.args.chain.now - 0) end))

pub each-preserved : goal.each-preserved
each-preserved c =
    let n = length c.args.chain.now in
    let less : n - c.each.step ≡ suc (n - (c.each.step + 1)) = omega (arith, c.each-test.true) in
    let within : n - (c.each.step + 1) < n = omega (arith, c.each-test.true) in
    let place : n - 1 - c.each.step ≡ n - (c.each.step + 1) = omega arith in
    names_of_more c.args.chain.now (n - c.each.step) (n - (c.each.step + 1)) c.index-chain-count.result (names c.push_names.new.found.items) (names c.each.found.items) c.each.invariant less within
    (c.index-chain-count.is ∙ ap (λ i. slice_index_or c.args.chain.now i c.index-chain-count.result) place)
    (c.in_ok-push_names.ensures ∙ ap (λ fs. names c.each.found.items ++ own_names fs) c.slice.ensures)

pub returns : goal.returns
returns c =
    let none : length c.args.chain.now - c.each.step ≡ 0 = omega (arith, c.each-test.false) in
    c.each.invariant ∙ ap (λ n. own_names (fields_of (seen (drop n c.args.chain.now)))) none
