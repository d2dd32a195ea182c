use Rattle.std.proofs.Common.{◌≡◌, length, Some, slice_get, ap, sym, subst}
use Rattle.std.proofs.lemmas.Option.{slice_get_read}
use Rattle.cond_circuit.specs.Gates.{Gates, Stands}
use Rattle.cond_circuit.proofs.circuit.Circuit.part.Goals as goal

pub returns-clause-stands : goal.returns-clause-stands
returns-clause-stands c =
    let few : c.self.inside.features ≡ c.args.self.now.features = ap (λ (v : Gates). v.features) c.self.view_is in
    let many : length c.self.inside.parts.items ≡ length c.args.self.now.parts = ap (λ (v : Gates). length v.parts) c.self.view_is in
    let is : slice_get c.self.inside.parts.items c.args.gate ≡ Some c.index.result.now = slice_get_read c.self.inside.parts.items _ c.args.gate _ (sym many) c.requires c.index.ensures in
    subst (λ n. Stands n c.args.gate c.index.result.now) few (c.self.invariant.circuit.stands c.args.gate c.index.result.now is)
