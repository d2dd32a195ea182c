use Rattle.std.proofs.Common.{◌≡◌, refl, ℕ, true, List, ◌++◌, ap, sym, ◌∙◌, append-nil}
use Rattle.std.proofs.lemmas.List.{append_assoc}
use Rattle.std.specs.List.{filter}
use Rattle.cfj_model.specs.declared.class.Class.{Class}
use Rattle.cfj_model.specs.declared.feature_model.FeatureModel.{FeatureModel}
use Rattle.cfj_logic.specs.declared.formula.Formula.{Formula}
use Rattle.cfj_model.specs.declared.feature_model.Format.{Format}
use Rattle.cfj_model.specs.Print.{texts, format_text, constraint_text, class_text, features_text, printed}
use Rattle.cfj_model.specs.ProductLines.{ProductLine}
use Rattle.fj_printer.specs.Parts.{in_format}
use Rattle.fj_printer.proofs.Composing.{adds_then, all_flushed, all_failed, gains}
use Rattle.fj_printer.proofs.Parts.{all_classes}
use Rattle.fj_printer.proofs.project.print_in.Goals as goal

abbrev shown_text : List (List ℕ) → List Class → List ℕ
shown_text features classes = texts (class_text features) (filter (λ _. true) classes)

-- the text behind the line for format Two
abbrev behind_line : List (List ℕ) → List Formula → List Class → List ℕ
behind_line features constraints classes = features_text features ++ (texts (constraint_text features) constraints ++ shown_text features classes)

printed_is : (format : Format) (line : ProductLine) (model : FeatureModel) (features : List (List ℕ)) (constraints : List Formula)
    → model ≡ line.model → features ≡ model.features → constraints ≡ model.constraints
    → printed (in_format format line) ≡ format_text format ++ behind_line features constraints line.classes
printed_is format line model features constraints m f k =
    let front = format_text format in
    ap (λ (w : FeatureModel). front ++ (features_text w.features ++ (texts (constraint_text w.features) w.constraints ++ texts (class_text w.features) line.classes))) (sym m)
    ∙ ap (λ fs. front ++ (features_text fs ++ (texts (constraint_text fs) model.constraints ++ texts (class_text fs) line.classes))) (sym f)
    ∙ ap (λ ks. front ++ (features_text features ++ (texts (constraint_text features) ks ++ texts (class_text features) line.classes))) (sym k)
    ∙ ap (λ w. front ++ (features_text features ++ (texts (constraint_text features) constraints ++ w))) (all_classes features line.classes)

pub returns-in_err-format_line : goal.returns-in_err-format_line
returns-in_err-format_line g c =
    gains g.K.Sink _ _ _ _ _ _ (all_failed _ c.from_residual.result c.from_residual.ensures.0 c.new-buffer.ensures c.in_err-format_line.ensures
    (printed_is c.args.format c.args.project.now c.model-model.result.now c.slice-features.result.now _ c.model-model.ensures.model c.slice-features.ensures refl))

pub returns-in_err-feature_line : goal.returns-in_err-feature_line
returns-in_err-feature_line g c =
    let front = format_text c.args.format in
    let features = c.slice-features.result.now in
    let is = printed_is c.args.format c.args.project.now c.model-model.result.now features _ c.model-model.ensures.model c.slice-features.ensures refl in
    gains g.K.Sink _ _ _ _ _ _ (all_failed _ c.from_residual-in_err-feature_line.result c.from_residual-in_err-feature_line.ensures.0 c.new-buffer.ensures
    (adds_then c.in_ok-format_line.ensures c.in_err-feature_line.ensures)
    (is ∙ sym (append_assoc front (features_text features) _)))

pub returns-in_err-constraint_lines : goal.returns-in_err-constraint_lines
returns-in_err-constraint_lines g c =
    let front = format_text c.args.format in
    let features = c.slice-features.result.now in
    let lines = texts (constraint_text features) c.slice.result.now in
    let classes = shown_text features c.args.project.now.classes in
    let is = printed_is c.args.format c.args.project.now c.model-model.result.now features c.slice.result.now c.model-model.ensures.model c.slice-features.ensures c.slice.ensures in
    gains g.K.Sink _ _ _ _ _ _ (all_failed _ c.from_residual-in_err-constraint_lines.result c.from_residual-in_err-constraint_lines.ensures.0 c.new-buffer.ensures
    (adds_then c.in_ok-format_line.ensures (adds_then c.in_ok-feature_line.ensures c.in_err-constraint_lines.ensures))
    (is ∙ ap (λ w. front ++ w) (sym (append_assoc (features_text features) lines classes)) ∙ sym (append_assoc front (features_text features ++ lines) classes)))

pub returns-in_err-classes : goal.returns-in_err-classes
returns-in_err-classes g c =
    let is = printed_is c.args.format c.args.project.now c.model-model.result.now c.slice-features.result.now c.slice.result.now c.model-model.ensures.model c.slice-features.ensures c.slice.ensures in
    gains g.K.Sink _ _ _ _ _ _ (all_failed _ c.from_residual-in_err-classes.result c.from_residual-in_err-classes.ensures.0 c.new-buffer.ensures
    (adds_then c.in_ok-format_line.ensures (adds_then c.in_ok-feature_line.ensures (adds_then c.in_ok-constraint_lines.ensures c.in_err-classes.ensures)))
    (is ∙ sym (append-nil _)))

pub returns : goal.returns
returns g c =
    gains g.K.Sink _ _ _ _ _ _ (all_flushed c.flush.result c.new-buffer.ensures c.flush.ensures.empty
    (adds_then c.in_ok-format_line.ensures (adds_then c.in_ok-feature_line.ensures (adds_then c.in_ok-constraint_lines.ensures c.in_ok-classes.ensures)))
    c.flush.ensures.adds
    (printed_is c.args.format c.args.project.now c.model-model.result.now c.slice-features.result.now c.slice.result.now c.model-model.ensures.model c.slice-features.ensures c.slice.ensures))
