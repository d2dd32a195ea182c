use Rattle.std.proofs.Common.{◌≡◌, ◌<◌, ◌^◌, sym, ap, subst, arith}
use Rattle.cfj_logic.specs.Selections.{Chosen}
use Rattle.cfj_logic.proofs.SetBits.{with_within}
use Rattle.cfj_logic.proofs.selection.Selection.with.Goals as goal

pub invariant_of-result : goal.invariant_of-result
invariant_of-result c =
    let same : c.self.inside.features ≡ c.args.self.features = ap (λ (w : Chosen). w.features) c.self.view_is in (
      c.self.invariant.0,
      subst (λ n. n < 2 ^ c.self.inside.features) (sym c.with.ensures)
          (with_within c.self.inside.on c.args.feature c.self.inside.features (omega (arith, same, c.requires)) c.self.invariant.1),
    )
