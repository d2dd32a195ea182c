use Rattle.std.proofs.Common.{◌+◌, ◌++◌, drop, take, ap, arith}
use Rattle.std.proofs.lemmas.Bool.{leb-true}
use Rattle.cfj_model.specs.ProductLines.{most_size, size}
use Rattle.cfj_model.proofs.SizeSums.{size_without}
use Rattle.cfj_model.proofs.project.Project.size_without.Goals as goal

pub overflow_sub-result : goal.overflow_sub-result
overflow_sub-result c =
    let sum = size_without c.self.inside.classes c.args.place c.get.result.now c.get.ensures in
    omega (arith, sum, c.self.invariant.0, c.size.ensures)

pub returns : goal.returns
returns c =
    let sum = size_without c.self.inside.classes c.args.place c.get.result.now c.get.ensures in
    let fits = leb-true (size c.self.inside.classes) most_size c.self.invariant.2.fits in
    let same = ap (λ p. size (take c.args.place p.classes ++ drop (c.args.place + 1) p.classes)) c.self.view_is in
    omega (arith, sum, fits, same, c.self.invariant.0, c.size.ensures)
