use Rattle.std.proofs.Common.{◌++◌, ◌∙◌, take, ap, sym, arith, ◌≡◌, length, le_trans}
use Rattle.cide_io.specs.Known.{preceded}
use Rattle.cide_io.proofs.Pieces.{preceded-nil, preceded-take, ends, length-with, taken, taken_within, written_back, appended_items}
use Rattle.cide_io.proofs.sources.read_all.Goals as goal

pub pieces-init : goal.pieces-init
pieces-init g c = record {
  sized = c.in-Ok.ensures;
  within = omega arith;
  came = sym (ap (λ all. preceded all (g.S.Source.left c.args.source.now)) c.new-all.ensures.items ∙ preceded-nil _);
  later = omega arith;
}

pub returns-then-count-eq0-clause-bytes : goal.returns-then-count-eq0-clause-bytes
returns-then-count-eq0-clause-bytes g c =
    let t = taken _ _ c.take.new.into c.in-Ok-take.count c.take.result c.in-Ok-take.is c.take.ensures.bytes in
    let e = ends _ _ _ c.pieces.all.items c.take.new.into c.in-Ok-take.count c.pieces.invariant.came t.0 c.if-count-eq0.true t.1 in
    (e.0, e.1, omega arith)

pub returns-then-limit-len-clause-bytes : goal.returns-then-limit-len-clause-bytes
returns-then-limit-len-clause-bytes g c =
    let w = taken_within c.take.new.into c.in-Ok-take.count c.take.result c.in-Ok-take.is c.take.ensures.bound in
    let t = taken _ _ c.take.new.into c.in-Ok-take.count c.take.result c.in-Ok-take.is c.take.ensures.bytes in
    let n = length-with c.pieces.all.items c.take.new.into c.in-Ok-take.count w in (
      c.pieces.all.items ++ take c.in-Ok-take.count c.take.new.into,
      preceded-take _ _ _ _ _ c.pieces.invariant.came t.0,
      omega arith,
    )

pub returns-in-Err-extend_from_slice-clause-bytes : goal.returns-in-Err-extend_from_slice-clause-bytes
returns-in-Err-extend_from_slice-clause-bytes g c =
    let w = taken_within c.take.new.into c.in-Ok-take.count c.take.result c.in-Ok-take.is c.take.ensures.bound in
    let t = taken _ _ c.take.new.into c.in-Ok-take.count c.take.result c.in-Ok-take.is c.take.ensures.bytes in
    let n = length-with c.pieces.all.items c.take.new.into c.in-Ok-take.count w in (
      c.pieces.all.items ++ take c.in-Ok-take.count c.take.new.into,
      preceded-take _ _ _ _ _ c.pieces.invariant.came t.0,
      omega arith,
    )

pub pieces-preserved : goal.pieces-preserved
pieces-preserved g c =
    let w = taken_within c.take.new.into c.in-Ok-take.count c.take.result c.in-Ok-take.is c.take.ensures.bound in
    let t = taken _ _ c.take.new.into c.in-Ok-take.count c.take.result c.in-Ok-take.is c.take.ensures.bytes in
    let back : take c.in-Ok-take.count c.deref.result.now ≡ take c.in-Ok-take.count c.take.new.into =
    ap (take c.in-Ok-take.count) (c.deref.ensures.value ∙ written_back c.take.new.into _ c.pieces.piece.len (omega arith)) in
    let n = length-with c.pieces.all.items c.take.new.into c.in-Ok-take.count w in
    let items : c.extend_from_slice.new.self.items ≡ c.pieces.all.items ++ take c.in-Ok-take.count c.take.new.into =
    appended_items c.pieces.all.items c.extend_from_slice.new.self.items (take c.in-Ok-take.count c.deref.result.now) c.extend_from_slice.result _ c.in-Ok-extend_from_slice.is c.extend_from_slice.ensures.items ∙ ap (λ more. c.pieces.all.items ++ more) back in
    let size = ap length items in
    record {
      sized = c.pieces.invariant.sized;
      within = omega arith;
      came = preceded-take _ _ _ _ _ c.pieces.invariant.came t.0 ∙ ap (λ all. preceded all (g.S.Source.left c.take.new.self)) (sym items);
      later = le_trans c.pieces.invariant.later c.take.ensures.cause.later;
    }
