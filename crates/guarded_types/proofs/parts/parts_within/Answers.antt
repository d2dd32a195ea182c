use Rattle.std.proofs.Common.{◌≡◌, ◌+◌, arith, ap, false, length, subst, sym, true, ◌∙◌}
use Rattle.cfj_logic.specs.Sides.{is_over}
use Rattle.cfj_model.specs.LookUps.{Table, chain}
use Rattle.cfj_model.specs.Projection.{is_present, presence_of}
use Rattle.cond_circuit.proofs.ValueLemmas.{Grown-trans, Is-grown}
use Rattle.cond_circuit.specs.Gates.{Grown, Is, value}
use Rattle.guarded_seq.specs.Sequences.{AreInside, present}
use Rattle.guarded_types.specs.Within.{IsWithin}
use Rattle.guarded_types.proofs.FirstItems.{within_grown}
use Rattle.guarded_types.proofs.FrontParts.{AreCounted, part_counted, part_inside, parts_counted, parts_inside}
use Rattle.guarded_types.proofs.Reached.{up_over}
use Rattle.guarded_types.proofs.parts.parts_within.Goals as goal

pub holds-requires : goal.holds-requires
holds-requires c =
    subst (λ n. is_over n c.union-up.result ≡ true) (sym c.each.invariant.grown.features)
    (subst (λ m. is_over c.args.circuit.now.features m ≡ true) (sym c.union-up.ensures)
    (up_over c.args.project.now c.model-features.ensures.kept c.args.circuit.now.features c.requires.features c.args.class.now c.chain-chain.result.now
    (c.chain-chain.ensures ∙ ap (λ (t : Table). chain t c.args.class.now) c.requires.table) c.each.place c.index-chain-place.result c.each-test.true c.index-chain-place.is c.each.up c.each.invariant.over))

pub returns-in_err-left-clause-grown : goal.returns-in_err-left-clause-grown
returns-in_err-left-clause-grown c =
    Grown-trans c.args.circuit.now c.holds.new.circuit c.not.new.self (Grown-trans c.args.circuit.now c.each.circuit c.holds.new.circuit c.each.invariant.grown c.holds.ensures.grown) c.not.ensures.grown

pub returns-in_err-here-clause-grown : goal.returns-in_err-here-clause-grown
returns-in_err-here-clause-grown c =
    Grown-trans c.args.circuit.now c.not.new.self c.and.new.self
    (Grown-trans c.args.circuit.now c.holds.new.circuit c.not.new.self (Grown-trans c.args.circuit.now c.each.circuit c.holds.new.circuit c.each.invariant.grown c.holds.ensures.grown) c.not.ensures.grown) c.and.ensures.grown

pub each-preserved : goal.each-preserved
each-preserved c =
    let d = c.holds.new.circuit in
    let e = c.not.new.self in
    let f = c.and.new.self in
    let behind : Grown d f = Grown-trans d e f c.not.ensures.grown c.and.ensures.grown in
    let grown : Grown c.each.circuit f = Grown-trans c.each.circuit d f c.holds.ensures.grown behind in
    let never : Is c.args.circuit.now 0 (λ s. false) = subst (λ n. Is c.args.circuit.now n (λ s. false)) c.constant-never.ensures.gate c.constant-never.ensures.worth in
    let never_here : Is c.each.circuit 0 (λ s. false) = Is-grown c.args.circuit.now c.each.circuit 0 (λ s. false) c.each.invariant.grown never in
    let next : IsWithin d c.args.within c.in_ok-next.next (λ s. is_present s c.union-up.result) = c.in_ok-next.ensures.worth in
    let k = c.index-chain-place.result in
    let ks = c.chain-chain.result.now in
    let next_is : IsWithin d c.args.within c.in_ok-next.next (λ s. is_present s (presence_of c.each.up k.now.colors)) =
    subst (λ m. IsWithin d c.args.within c.in_ok-next.next (λ s. is_present s m)) c.union-up.ensures next in
    record {
      grown = Grown-trans c.args.circuit.now c.each.circuit f c.each.invariant.grown grown;
      inside = subst (λ xs. AreInside f xs) (sym c.in_ok-push.ensures)
          (part_inside c.each.circuit d e f c.args.within c.each.up ks c.each.place k c.each-test.true c.index-chain-place.is c.each.reached c.in_ok-next.next c.in_ok-left.left c.in_ok-here.here
          c.holds.ensures.grown c.not.ensures.grown c.and.ensures.grown c.each.invariant.reached next_is c.in_ok-left.ensures.worth c.in_ok-here.ensures.worth c.each.found.items c.each.invariant.inside);
      over =
          subst (λ m. is_over c.args.circuit.now.features m ≡ true) (sym c.union-up.ensures)
          (up_over c.args.project.now c.model-features.ensures.kept c.args.circuit.now.features c.requires.features c.args.class.now ks
          (c.chain-chain.ensures ∙ ap (λ (t : Table). chain t c.args.class.now) c.requires.table) c.each.place k c.each-test.true c.index-chain-place.is c.each.up c.each.invariant.over);
      reached = within_grown d f c.args.within c.in_ok-next.next (λ s. is_present s c.union-up.result) behind next;
      counted = subst (λ m. AreCounted f c.args.within m (c.each.place + 1) ks c.push.new.found.items) (sym c.union-up.ensures)
          (subst (λ xs. AreCounted f c.args.within (presence_of c.each.up k.now.colors) (c.each.place + 1) ks xs) (sym c.in_ok-push.ensures)
          (part_counted c.each.circuit d e f c.args.within c.each.up ks c.each.place k c.each-test.true c.index-chain-place.is c.each.reached c.in_ok-next.next c.in_ok-left.left c.in_ok-here.here
          c.holds.ensures.grown c.not.ensures.grown c.and.ensures.grown c.each.invariant.reached next_is c.in_ok-left.ensures.worth c.in_ok-here.ensures.worth c.each.found.items c.each.invariant.inside never_here
          c.each.invariant.counted));
    }

pub returns-clause-inside : goal.returns-clause-inside
returns-clause-inside c =
    subst (λ xs. AreInside c.each.circuit xs) (sym c.in_ok-push-2.ensures)
    (parts_inside c.each.circuit c.each.found.items c.each.reached (length c.chain-chain.result.now) c.each.invariant.inside c.each.invariant.reached.inside)

pub returns-clause-parts : goal.returns-clause-parts
returns-clause-parts c s here =
    let never : Is c.args.circuit.now 0 (λ s. false) = subst (λ n. Is c.args.circuit.now n (λ s. false)) c.constant-never.ensures.gate c.constant-never.ensures.worth in
    let last : length c.chain-chain.result.now ≡ c.each.place = omega (arith, c.each.auto.place-end, c.each-test.false) in
    ap (present (value s c.each.circuit.parts)) c.in_ok-push-2.ensures
    ∙ parts_counted c.args.project.now c.model-features.ensures.kept c.args.class.now c.chain-chain.result.now (c.chain-chain.ensures ∙ ap (λ (t : Table). chain t c.args.class.now) c.requires.table)
    c.each.circuit c.args.within c.each.up c.each.place c.each-test.false (length c.chain-chain.result.now) last c.each.reached c.each.found.items c.each.invariant.reached
    (Is-grown c.args.circuit.now c.each.circuit 0 (λ s. false) c.each.invariant.grown never) c.each.invariant.counted s here
