use Rattle.std.proofs.Common.{arith, ap, sym, ◌∙◌}
use Rattle.cfj_model.specs.declared.class.Sent.{Sent}
use Rattle.cfj_model.specs.Print.{texts, assign_text}
use Rattle.fj_printer.specs.Shown.{names, shows, shown_sents}
use Rattle.fj_printer.proofs.Composing.{adds_as, adds_more, adds_stopped}
use Rattle.fj_printer.proofs.Lists.{kept_same, kept_texts_more, kept_texts_there}
use Rattle.fj_printer.proofs.ctors.assigns.Goals as goal
use Rattle.fj_printer.proofs.ctors.assigns.Goals.{then-shows+in_ok-assign, else-shows}

pub returns-in_err-assign : goal.returns-in_err-assign
returns-in_err-assign g c =
    adds_stopped _ c.from_residual.result c.from_residual.ensures.0 c.assigns.invariant c.in_err-assign.ensures
    (ap (λ list. texts (assign_text (names c.args.showing.now)) (shown_sents c.args.showing.now list)) (sym c.slice-list.ensures)
    ∙ kept_texts_there (assign_text (names c.args.showing.now)) (λ (x : Sent). shows c.args.showing.now x.colors) c.slice-list.result.now c.assigns.item-index c.item-item.result (omega arith) c.item-item.is
    (sym c.shows.ensures ∙ c.if-shows.true))

pub assigns-preserved : goal.assigns-preserved
assigns-preserved g c =
    elim c.if-shows.branch [
      | then-shows+in_ok-assign w ↦
          rw (w.buffer-is, w.sink-is)
          (adds_more c.assigns.invariant w.in_ok-assign.ensures
          (kept_texts_more (assign_text (names c.args.showing.now)) (λ (x : Sent). shows c.args.showing.now x.colors) c.slice-list.result.now c.assigns.item-index c.item-item.result (omega arith) c.item-item.is
          (sym c.shows.ensures ∙ w.if-shows.true)))
      | else-shows w ↦
          rw (w.buffer-is, w.sink-is)
          (adds_as
          (ap (texts (assign_text (names c.args.showing.now)))
          (kept_same (λ (x : Sent). shows c.args.showing.now x.colors) c.slice-list.result.now c.assigns.item-index c.item-item.result (omega arith) c.item-item.is
          (sym c.shows.ensures ∙ w.if-shows.false)))
          c.assigns.invariant)
    ]
