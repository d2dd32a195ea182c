use Rattle.std.proofs.Common.{arith, ap, sym, ◌∙◌, false, ◌||◌}
use Rattle.fj_printer.specs.Parts.{spaced_on}
use Rattle.fj_printer.proofs.Composing.{adds_as, adds_more, adds_stopped}
use Rattle.fj_printer.proofs.Presences.{names_more, names_there, names_whole, begun_more}
use Rattle.fj_printer.proofs.presence.names.Goals as goal

pub returns-in_err-signed : goal.returns-in_err-signed
returns-in_err-signed g c =
    adds_stopped _ c.from_residual.result c.from_residual.ensures.0 c.features.invariant.adds c.in_err-signed.ensures
    (names_there c.args.features.now c.args.colors c.features.number _ (omega arith) c.index-features-number.is c.features.begun c.features.invariant.begun)

pub features-preserved : goal.features-preserved
features-preserved g c =
    let features = c.args.features.now in
    let i = c.features.number in
    let was = c.features.invariant in
    record {
      begun = ap (λ b. c.features.begun || b) c.is_marked-begun.ensures
          ∙ begun_more features c.args.colors i _ (omega arith) c.index-features-number.is c.features.begun was.begun;
      adds = adds_more was.adds c.in_ok-signed.ensures
          (names_more features c.args.colors i _ (omega arith) c.index-features-number.is c.features.begun was.begun);
    }

pub returns : goal.returns
returns g c =
    adds_as (ap (spaced_on false) (sym (names_whole c.args.features.now c.args.colors c.features.number (omega arith)))) c.features.invariant.adds
