use Rattle.std.proofs.Common.{◌∙◌, le_trans}
use Rattle.cide_io.proofs.Pieces.{put_more, put_within}
use Rattle.cide_io.proofs.puts.put_all.Goals as goal

pub pieces-preserved : goal.pieces-preserved
pieces-preserved g c =
    let w = put_within c.args.piece.now c.pieces.done c.in-Ok.count c.put.result c.pieces-test.true c.in-Ok.is c.put.ensures.bound in
    record {
      within = w.1;
      added = put_more _ _ _ c.args.piece.now c.pieces.done c.in-Ok.count c.put.result c.pieces.invariant.added c.in-Ok.is c.put.ensures.bytes;
      named = c.put.ensures.named ∙ c.pieces.invariant.named;
      later = le_trans c.pieces.invariant.later c.put.ensures.cause.later;
    }
