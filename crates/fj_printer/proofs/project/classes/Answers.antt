use Rattle.std.proofs.Common.{arith, ap, sym, ◌∙◌}
use Rattle.std.proofs.lemmas.Option.{get_or_from_slice_get}
use Rattle.cfj_model.specs.declared.class.Class.{Class}
use Rattle.cfj_model.specs.Print.{texts}
use Rattle.fj_printer.specs.Shown.{shows, shown_class_text}
use Rattle.fj_printer.proofs.Composing.{adds_as, adds_more, adds_stopped}
use Rattle.fj_printer.proofs.Lists.{kept_same, kept_texts_more, kept_texts_there}
use Rattle.fj_printer.proofs.project.classes.Goals as goal
use Rattle.fj_printer.proofs.project.classes.Goals.{then-shows+in_ok-class, else-shows}

pub returns-in_err-class : goal.returns-in_err-class
returns-in_err-class g c =
    let classes = c.args.project.now.classes in
    let class = c.class-class.result.now in
    let here = sym (get_or_from_slice_get classes c.classes.place class class c.class-class.ensures) in
    adds_stopped _ c.from_residual.result c.from_residual.ensures.0 c.classes.invariant c.in_err-class.ensures
    (kept_texts_there (shown_class_text c.args.showing.now) (λ (k : Class). shows c.args.showing.now k.colors) classes c.classes.place class (omega arith) here
    (sym c.shows.ensures ∙ c.if-shows.true))

pub classes-preserved : goal.classes-preserved
classes-preserved g c =
    let classes = c.args.project.now.classes in
    let class = c.class-class.result.now in
    let here = sym (get_or_from_slice_get classes c.classes.place class class c.class-class.ensures) in
    elim c.if-shows.branch [
      | then-shows+in_ok-class w ↦
          rw (w.buffer-is, w.sink-is)
          (adds_more c.classes.invariant w.in_ok-class.ensures
          (kept_texts_more (shown_class_text c.args.showing.now) (λ (k : Class). shows c.args.showing.now k.colors) classes c.classes.place class (omega arith) here
          (sym c.shows.ensures ∙ w.if-shows.true)))
      | else-shows w ↦
          rw (w.buffer-is, w.sink-is)
          (adds_as
          (ap (texts (shown_class_text c.args.showing.now))
          (kept_same (λ (k : Class). shows c.args.showing.now k.colors) classes c.classes.place class (omega arith) here
          (sym c.shows.ensures ∙ w.if-shows.false)))
          c.classes.invariant)
    ]
