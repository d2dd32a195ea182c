use Rattle.std.proofs.Common.{arith, ap, sym, ◌∙◌}
use Rattle.cfj_model.specs.declared.class.Field.{Field}
use Rattle.cfj_model.specs.Print.{texts, field_text}
use Rattle.fj_printer.specs.Shown.{names, shows, shown_fields}
use Rattle.fj_printer.proofs.Composing.{adds_as, adds_more, adds_stopped}
use Rattle.fj_printer.proofs.Lists.{kept_same, kept_texts_more, kept_texts_there}
use Rattle.fj_printer.proofs.classes.fields.Goals as goal
use Rattle.fj_printer.proofs.classes.fields.Goals.{then-shows+in_ok-field, else-shows}

pub returns-in_err-field : goal.returns-in_err-field
returns-in_err-field g c =
    adds_stopped _ c.from_residual.result c.from_residual.ensures.0 c.fields.invariant c.in_err-field.ensures
    (ap (λ list. texts (field_text (names c.args.showing.now)) (shown_fields c.args.showing.now list)) (sym c.slice-list.ensures)
    ∙ kept_texts_there (field_text (names c.args.showing.now)) (λ (x : Field). shows c.args.showing.now x.colors) c.slice-list.result.now c.fields.item-index c.item-item.result (omega arith) c.item-item.is
    (sym c.shows.ensures ∙ c.if-shows.true))

pub fields-preserved : goal.fields-preserved
fields-preserved g c =
    elim c.if-shows.branch [
      | then-shows+in_ok-field w ↦
          rw (w.buffer-is, w.sink-is)
          (adds_more c.fields.invariant w.in_ok-field.ensures
          (kept_texts_more (field_text (names c.args.showing.now)) (λ (x : Field). shows c.args.showing.now x.colors) c.slice-list.result.now c.fields.item-index c.item-item.result (omega arith) c.item-item.is
          (sym c.shows.ensures ∙ w.if-shows.true)))
      | else-shows w ↦
          rw (w.buffer-is, w.sink-is)
          (adds_as
          (ap (texts (field_text (names c.args.showing.now)))
          (kept_same (λ (x : Field). shows c.args.showing.now x.colors) c.slice-list.result.now c.fields.item-index c.item-item.result (omega arith) c.item-item.is
          (sym c.shows.ensures ∙ w.if-shows.false)))
          c.fields.invariant)
    ]
