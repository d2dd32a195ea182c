use Rattle.std.proofs.Common.{◌≡◌, Some, inr, is_some, sym, ◌∙◌, ap, arith}
use Rattle.cfj_model.specs.LookUps.{is_called}
use Rattle.cfj_model.specs.declared.fault.LimitKind.TheVariants as limit
use Rattle.edit_ops.specs.declared.refused.EditRefused.TheVariants.{Exists, Limit}
use Rattle.edit_ops.proofs.Places.{found_both}
use Rattle.edit_ops.proofs.Refusing.{not_refused, refused_large, refused_many, refused_taken, size_more}
use Rattle.edit_ops.proofs.classes.may_be_added.Goals as goal

pub returns-then-is_some-clause-refused : goal.returns-then-is_some-clause-refused
returns-then-is_some-clause-refused c = λ why told.
    let k = c.args.class.now in
    let line = c.args.project.now in
    let taken = sym (found_both (is_called k.name) line.classes) ∙ ap is_some (sym c.find.ensures) ∙ sym c.is_some.ensures ∙ c.if-is_some.true in
    let e : Some (Exists k.name) ≡ Some why = cc (told, c.in_ok-copy.ensures) in
    inr (refused_taken k line taken ∙ e)

pub returns-then-class_count-ge-MOST_CLASSES-clause-refused : goal.returns-then-class_count-ge-MOST_CLASSES-clause-refused
returns-then-class_count-ge-MOST_CLASSES-clause-refused c = λ why told.
    let k = c.args.class.now in
    let line = c.args.project.now in
    let free = sym (found_both (is_called k.name) line.classes) ∙ ap is_some (sym c.find.ensures) ∙ sym c.is_some.ensures ∙ c.if-is_some.false in
    let e : Some (Limit limit.Classes) ≡ Some why = cc told in
    inr (refused_many k line free (omega (arith, c.class_count.ensures.count, c.if-class_count-ge-MOST_CLASSES.true)) ∙ e)

pub returns-then-saturating_add-gt-MOST_SIZE-clause-refused : goal.returns-then-saturating_add-gt-MOST_SIZE-clause-refused
returns-then-saturating_add-gt-MOST_SIZE-clause-refused c = λ why told.
    let k = c.args.class.now in
    let line = c.args.project.now in
    let free = sym (found_both (is_called k.name) line.classes) ∙ ap is_some (sym c.find.ensures) ∙ sym c.is_some.ensures ∙ c.if-is_some.false in
    let more = size_more line k in
    let e : Some (Limit limit.Size) ≡ Some why = cc told in
    inr
    (refused_large k line free (omega (arith, c.class_count.ensures.count, c.if-class_count-ge-MOST_CLASSES.false))
    (omega (arith, more, c.size.ensures, c.size-2.ensures, c.saturating_add.ensures, c.if-saturating_add-gt-MOST_SIZE.true))
    ∙ e)

pub returns-clause-fine : goal.returns-clause-fine
returns-clause-fine c =
    let k = c.args.class.now in
    let line = c.args.project.now in
    let free = sym (found_both (is_called k.name) line.classes) ∙ ap is_some (sym c.find.ensures) ∙ sym c.is_some.ensures ∙ c.if-is_some.false in
    let more = size_more line k in
    not_refused k line free (omega (arith, c.class_count.ensures.count, c.if-class_count-ge-MOST_CLASSES.false))
    (omega (arith, more, c.size.ensures, c.size-2.ensures, c.saturating_add.ensures, c.if-saturating_add-gt-MOST_SIZE.false))
