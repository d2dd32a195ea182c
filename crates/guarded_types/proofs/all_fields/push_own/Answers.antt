use Rattle.std.proofs.Common.{false, refl, subst, sym}
use Rattle.cond_circuit.proofs.ValueLemmas.{Grown-trans, Is-grown}
use Rattle.cond_circuit.specs.Gates.{Is}
use Rattle.guarded_seq.specs.Sequences.{AreInside}
use Rattle.guarded_types.proofs.AllFields.{own_inside, own_more, told}
use Rattle.std.proofs.Common.{◌+◌, ◌++◌, take, ◌≡◌}
use Rattle.std.specs.List.{filter}
use Rattle.cfj_model.specs.Projection.{is_present}
use Rattle.guarded_types.proofs.all_fields.push_own.Goals as goal

pub each-preserved : goal.each-preserved
each-preserved c =
    let d = c.holds.new.circuit in
    let never : Is c.args.circuit.now 0 (λ s. false) = subst (λ n. Is c.args.circuit.now n (λ s. false)) c.constant-never.ensures.gate c.constant-never.ensures.worth in
    let never_here : Is c.each.circuit 0 (λ s. false) = Is-grown c.args.circuit.now c.each.circuit 0 (λ s. false) c.each.invariant.grown never in
    record {
      grown = Grown-trans c.args.circuit.now c.each.circuit d c.each.invariant.grown c.holds.ensures.grown;
      inside = subst (λ xs. AreInside d xs) (sym c.in_ok-push.ensures)
          (own_inside c.each.circuit d c.args.within c.args.fields.now c.each.field-index c.field-item.result c.each-test.true c.field-item.is c.in_ok-there.there _ refl c.holds.ensures.grown c.in_ok-there.ensures.worth
          never_here c.each.found.items c.each.invariant.inside);
      fields = λ s here.
          subst (λ xs. told s d xs ≡ told s c.args.circuit.now c.args.found.now.items ++ filter (λ f. is_present s f.colors) (take (c.each.field-index + 1) c.args.fields.now)) (sym c.in_ok-push.ensures)
          (own_more c.each.circuit d c.args.within c.args.fields.now c.each.field-index c.field-item.result c.each-test.true c.field-item.is c.in_ok-there.there _ refl c.holds.ensures.grown c.in_ok-there.ensures.worth
          never_here c.each.found.items c.each.invariant.inside (told s c.args.circuit.now c.args.found.now.items) s here (c.each.invariant.fields s here));
    }
