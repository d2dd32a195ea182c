use Rattle.std.proofs.Common.{◌∙◌, sym}
use Rattle.cfj_model.specs.declared.class.Class.{Class}
use Rattle.cfj_model.specs.Projection.{is_present, projected_class}
use Rattle.feature_views.proofs.Kept.{kept_taken, kept_passed}
use Rattle.feature_views.proofs.variant.classes.Goals as goal
use Rattle.feature_views.proofs.variant.classes.Goals.{then-is_kept_by+in_ok-class_of+in_ok-push, else-is_kept_by}

pub classes-preserved : goal.classes-preserved
classes-preserved c =
    let s = c.args.selection.now in
    let classes = c.args.project.now.classes in
    let class = c.class-class.result.now in
    elim c.if-is_kept_by.branch [
      | then-is_kept_by+in_ok-class_of+in_ok-push w ↦
          rw w.kept-is
          (kept_taken (projected_class s) (λ (k : Class). is_present s k.colors) classes c.classes.place class _ c.classes.kept.items _ _ c.class-class.ensures
          (sym c.is_kept_by.ensures ∙ w.if-is_kept_by.true)
          w.in_ok-class_of.ensures w.in_ok-push.ensures.items c.classes.invariant)
      | else-is_kept_by w ↦
          rw w.kept-is
          (kept_passed (projected_class s) (λ (k : Class). is_present s k.colors) classes c.classes.place class c.classes.kept.items _ c.class-class.ensures
          (sym c.is_kept_by.ensures ∙ w.if-is_kept_by.false)
          c.classes.invariant)
    ]
