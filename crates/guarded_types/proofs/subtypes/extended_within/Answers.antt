use Rattle.std.proofs.Common.{◌≡◌, ◌+◌, ◌&&◌, ◌||◌, ap, drop, subst, sym, true, ◌∙◌}
use Rattle.std.specs.Str.{bytes_eq}
use Rattle.cfj_logic.specs.Sides.{is_over}
use Rattle.cfj_model.specs.LookUps.{Table, chain}
use Rattle.cond_circuit.proofs.ValueLemmas.{Grown-refl, Grown-trans}
use Rattle.cond_circuit.specs.Gates.{value}
use Rattle.cfj_model.specs.Projection.{is_present}
use Rattle.guarded_types.specs.Within.{IsWithin}
use Rattle.guarded_types.proofs.KnownMarks.{over_none}
use Rattle.guarded_types.proofs.Reached.{IsReaching, extended_is, reached_all, reached_more, reached_none, up_over}
use Rattle.guarded_types.proofs.subtypes.extended_within.Goals as goal

pub each-init : goal.each-init
each-init c = record {
  grown = Grown-refl c.args.circuit.now;
  inside = c.constant-found.ensures.worth.inside;
  over = subst (λ m. is_over c.args.circuit.now.features m ≡ true) (sym c.empty-up.ensures) (over_none c.args.circuit.now.features);
  reaching = subst (λ m. IsReaching c.args.circuit.now c.args.within c.constant-found.result c.args.upper.now m c.chain-chain.result.now c.chain-chain.result.now) (sym c.empty-up.ensures) (reached_none c.args.circuit.now c.args.within c.constant-found.result c.args.upper.now c.chain-chain.result.now c.constant-found.ensures.worth);
}

pub returns-clause-worth : goal.returns-clause-worth
returns-clause-worth c =
    extended_is c.args.project.now c.model-features.ensures.kept c.args.lower.now c.args.upper.now c.chain-chain.result.now
    (c.chain-chain.ensures ∙ ap (λ (t : Table). chain t c.args.lower.now) c.requires.table) c.each.circuit c.args.within c.each.found
    (reached_all c.each.circuit c.args.within c.each.found c.args.upper.now c.each.up c.chain-chain.result.now c.each.place c.each-test.false c.each.invariant.inside c.each.invariant.reaching)

pub with_class-requires-clause-marks : goal.with_class-requires-clause-marks
with_class-requires-clause-marks c =
    subst (λ n. is_over n c.union-up.result ≡ true) (sym c.each.invariant.grown.features)
    (subst (λ m. is_over c.args.circuit.now.features m ≡ true) (sym c.union-up.ensures)
    (up_over c.args.project.now c.model-features.ensures.kept c.args.circuit.now.features c.requires.features c.args.lower.now c.chain-chain.result.now
    (c.chain-chain.ensures ∙ ap (λ (t : Table). chain t c.args.lower.now) c.requires.table) c.each.place c.index-chain-place.result c.each-test.true c.index-chain-place.is c.each.up c.each.invariant.over))

pub each-preserved : goal.each-preserved
each-preserved c = record {
  grown = Grown-trans c.args.circuit.now c.each.circuit c.with_class.new.circuit c.each.invariant.grown c.with_class.ensures.grown;
  inside = c.in_ok-found.ensures.worth.inside;
  over =
      subst (λ m. is_over c.args.circuit.now.features m ≡ true) (sym c.union-up.ensures)
      (up_over c.args.project.now c.model-features.ensures.kept c.args.circuit.now.features c.requires.features c.args.lower.now c.chain-chain.result.now
      (c.chain-chain.ensures ∙ ap (λ (t : Table). chain t c.args.lower.now) c.requires.table) c.each.place c.index-chain-place.result c.each-test.true c.index-chain-place.is c.each.up c.each.invariant.over);
  reaching =
      subst (λ m. IsReaching c.with_class.new.circuit c.args.within c.in_ok-found.found c.args.upper.now m (drop (c.each.place + 1) c.chain-chain.result.now) c.chain-chain.result.now) (sym c.union-up.ensures)
      (reached_more c.each.circuit c.args.within c.each.found c.args.upper.now c.each.up c.chain-chain.result.now c.each.place c.index-chain-place.result c.each-test.true c.index-chain-place.is c.each.invariant.reaching
      c.with_class.new.circuit c.in_ok-found.found
      (subst (λ m. IsWithin c.with_class.new.circuit c.args.within c.in_ok-found.found (λ s. value s c.each.circuit.parts c.each.found || (bytes_eq c.index-chain-place.result.now.parent c.args.upper.now && is_present s m)))
      c.union-up.ensures c.in_ok-found.ensures.worth));
}
