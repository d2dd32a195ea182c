use Rattle.fj_printer.proofs.Composing.{adds_as, adds_then, adds_failed}
use Rattle.fj_printer.proofs.Presences.{signed_is}
use Rattle.fj_printer.proofs.presence.signed.Goals as goal

pub returns-in_err-one : goal.returns-in_err-one
returns-in_err-one g c =
    adds_as (signed_is c.args.begun c.has-wanted.result c.has-unwanted.result c.args.colors c.args.number c.args.feature.now c.has-wanted.ensures c.has-unwanted.ensures)
    (adds_failed _ c.from_residual.result c.from_residual.ensures.0 c.in_err-one.ensures)

pub returns : goal.returns
returns g c =
    adds_as (signed_is c.args.begun c.has-wanted.result c.has-unwanted.result c.args.colors c.args.number c.args.feature.now c.has-wanted.ensures c.has-unwanted.ensures)
    (adds_then c.in_ok-one.ensures c.one-2.ensures)
