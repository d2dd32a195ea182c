use Rattle.std.proofs.Common.{◌≡◌, sym, ◌∙◌, rules, reverse, count_by}
use Rattle.formula_reader.specs.Machine.{nests}
use Rattle.formula_reader.proofs.Depths.{depth_is}
use Rattle.formula_reader.proofs.frames.depth_within.Goals as goal

pub returns-clause-depth : goal.returns-clause-depth
returns-clause-depth c =
    let counted : c.count.result ≡ count_by nests (reverse c.args.frames.now) = search rules in
    counted ∙ sym (depth_is (reverse c.args.frames.now))
