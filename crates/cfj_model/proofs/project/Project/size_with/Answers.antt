use Rattle.std.proofs.Common.{arith, slice_set}
use Rattle.std.proofs.lemmas.Bool.{leb-true}
use Rattle.cfj_model.specs.ProductLines.{most_size, size}
use Rattle.cfj_model.proofs.SizeSums.{size_with}
use Rattle.cfj_model.proofs.project.Project.size_with.Goals as goal

pub overflow_add-result : goal.overflow_add-result
overflow_add-result c =
    let sum = size_with c.args.self.now.classes c.args.place c.args.class.now c.requires.within in
    let fits = leb-true (size (slice_set c.args.self.now.classes c.args.place c.args.class.now)) most_size c.requires.fits in
    omega (arith, sum, fits, c.size_without.ensures, c.size.ensures)

pub returns : goal.returns
returns c =
    let sum = size_with c.args.self.now.classes c.args.place c.args.class.now c.requires.within in
    let fits = leb-true (size (slice_set c.args.self.now.classes c.args.place c.args.class.now)) most_size c.requires.fits in
    omega (arith, sum, fits, c.size_without.ensures, c.size.ensures)
