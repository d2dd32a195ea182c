use Rattle.std.proofs.Common.{arith, ap, sym, ◌∙◌}
use Rattle.cfj_model.specs.declared.class.Method.{Method}
use Rattle.cfj_model.specs.Print.{texts}
use Rattle.fj_printer.specs.Shown.{shows, shown_methods, shown_method_text}
use Rattle.fj_printer.proofs.Composing.{adds_as, adds_more, adds_stopped}
use Rattle.fj_printer.proofs.Lists.{kept_same, kept_texts_more, kept_texts_there}
use Rattle.fj_printer.proofs.methods.methods.Goals as goal
use Rattle.fj_printer.proofs.methods.methods.Goals.{then-shows+in_ok-method, else-shows}

pub returns-in_err-method : goal.returns-in_err-method
returns-in_err-method g c =
    adds_stopped _ c.from_residual.result c.from_residual.ensures.0 c.methods.invariant c.in_err-method.ensures
    (ap (λ list. texts (shown_method_text c.args.showing.now) (shown_methods c.args.showing.now list)) (sym c.slice-list.ensures)
    ∙ kept_texts_there (shown_method_text c.args.showing.now) (λ (x : Method). shows c.args.showing.now x.colors) c.slice-list.result.now c.methods.item-index c.item-item.result (omega arith) c.item-item.is
    (sym c.shows.ensures ∙ c.if-shows.true))

pub methods-preserved : goal.methods-preserved
methods-preserved g c =
    elim c.if-shows.branch [
      | then-shows+in_ok-method w ↦
          rw (w.buffer-is, w.sink-is)
          (adds_more c.methods.invariant w.in_ok-method.ensures
          (kept_texts_more (shown_method_text c.args.showing.now) (λ (x : Method). shows c.args.showing.now x.colors) c.slice-list.result.now c.methods.item-index c.item-item.result (omega arith) c.item-item.is
          (sym c.shows.ensures ∙ w.if-shows.true)))
      | else-shows w ↦
          rw (w.buffer-is, w.sink-is)
          (adds_as
          (ap (texts (shown_method_text c.args.showing.now))
          (kept_same (λ (x : Method). shows c.args.showing.now x.colors) c.slice-list.result.now c.methods.item-index c.item-item.result (omega arith) c.item-item.is
          (sym c.shows.ensures ∙ w.if-shows.false)))
          c.methods.invariant)
    ]
