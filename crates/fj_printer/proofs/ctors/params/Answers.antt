use Rattle.std.proofs.Common.{arith, rules, ap, sym, ◌∙◌}
use Rattle.cfj_model.specs.declared.class.Param.{Param}
use Rattle.cfj_model.specs.Print.{joined, param_text}
use Rattle.fj_printer.specs.Shown.{names, shows, shown_params}
use Rattle.fj_printer.proofs.Composing.{adds_as, adds_more, adds_stopped}
use Rattle.fj_printer.proofs.Lists.{separator, kept_same, kept_separator, kept_joined_more, kept_joined_there}
use Rattle.fj_printer.proofs.ctors.params.Goals as goal
use Rattle.fj_printer.proofs.ctors.params.Goals.{then-shows+in_ok-param, else-shows}

pub returns-in_err-param : goal.returns-in_err-param
returns-in_err-param g c =
    adds_stopped _ c.from_residual.result c.from_residual.ensures.0 c.params.invariant.adds c.in_err-param.ensures
    (ap (λ list. joined (param_text (names c.args.showing.now)) (shown_params c.args.showing.now list)) (sym c.slice-list.ensures)
    ∙ kept_joined_there (param_text (names c.args.showing.now)) (λ (x : Param). shows c.args.showing.now x.colors) c.slice-list.result.now c.params.item-index c.item-item.result (omega arith) c.item-item.is
    (sym c.shows.ensures ∙ c.if-shows.true) _ c.params.invariant.between)

pub params-preserved : goal.params-preserved
params-preserved g c =
    elim c.if-shows.branch [
      | then-shows+in_ok-param w ↦
          rw (w.buffer-is, w.sink-is, w.separator-is)
          (record {
            utf8 = search rules;
            between = kept_separator (λ (x : Param). shows c.args.showing.now x.colors) c.slice-list.result.now c.params.item-index c.item-item.result (omega arith) c.item-item.is (sym c.shows.ensures ∙ w.if-shows.true);
            adds = adds_more c.params.invariant.adds w.in_ok-param.ensures
                (kept_joined_more (param_text (names c.args.showing.now)) (λ (x : Param). shows c.args.showing.now x.colors) c.slice-list.result.now c.params.item-index c.item-item.result (omega arith) c.item-item.is
                (sym c.shows.ensures ∙ w.if-shows.true) _ c.params.invariant.between);
          })
      | else-shows w ↦
          let same = kept_same (λ (x : Param). shows c.args.showing.now x.colors) c.slice-list.result.now c.params.item-index c.item-item.result (omega arith) c.item-item.is (sym c.shows.ensures ∙ w.if-shows.false) in
          rw (w.buffer-is, w.sink-is, w.separator-is)
          (record {
            utf8 = c.params.invariant.utf8;
            between = c.params.invariant.between ∙ ap separator (sym same);
            adds = adds_as (ap (joined (param_text (names c.args.showing.now))) same) c.params.invariant.adds;
          })
    ]
