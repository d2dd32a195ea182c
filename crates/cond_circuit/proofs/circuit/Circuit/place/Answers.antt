use Rattle.std.proofs.Common.{◌≡◌, ℕ, length, List, Result, Ok, Err, OnOk, OnErr, ◌∷◌, [], ◌++◌, ap, sym, subst}
use Rattle.cond_circuit.specs.declared.part.Part.{Part}
use Rattle.cond_circuit.specs.Folding as fold
use Rattle.cond_circuit.specs.Gates.{Gates, Stands, IsCircuit}
use Rattle.cond_circuit.proofs.FoldLemmas.{circuit_push}
use Rattle.cond_circuit.proofs.circuit.Circuit.place.Goals as goal

-- the part was added, or there was no memory and nothing was
added : {E : Type 0} (r : Result ℕ E) (n : ℕ) (old new : List Part) (p : Part) → IsCircuit n old → Stands n (length old) p →
    OnOk r (new ≡ old ++ p ∷ []) → OnErr r (new ≡ old) → IsCircuit n new
added (Ok g) n old new p k h e f = subst (IsCircuit n) (sym e) (circuit_push n old p k h)
added (Err x) n old new p k h e f = subst (IsCircuit n) (sym f) k

pub invariant_of-self : goal.invariant_of-self
invariant_of-self c =
    let few : c.self.inside.features ≡ c.args.self.now.features = ap (λ (v : Gates). v.features) c.self.view_is in
    let same : c.self.inside.parts.items ≡ c.args.self.now.parts = ap (λ (v : Gates). v.parts) c.self.view_is in
    let placeable : Stands c.args.self.now.features (length c.args.self.now.parts) c.in-New.part = subst (fold.IsPlaceable c.args.self.now) c.in-New.is c.requires in
    let stands : Stands c.self.inside.features (length c.self.inside.parts.items) c.in-New.part = subst (λ n. Stands n (length c.self.inside.parts.items) c.in-New.part) (sym few) (subst (λ ps. Stands c.args.self.now.features (length ps) c.in-New.part) (sym same) placeable) in
    record {
      circuit = added c.append.result c.self.inside.features c.self.inside.parts.items c.append.new.parts.items c.in-New.part c.self.invariant.circuit stands c.append.ensures.parts c.append.ensures.unchanged;
      index = c.append.ensures.indexed;
    }
