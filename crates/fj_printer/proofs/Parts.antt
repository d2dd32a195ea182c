-- The texts of what is printed of a project's classes, of a class, its constructor and a method, cut where the printer's calls cut them.
use Rattle.std.proofs.Common.{◌≡◌, refl, sym, ap, ◌∙◌, ℕ, Bor, ◌==◌, true, false, List, [], ◌∷◌, ◌++◌, length, codes}
use Rattle.std.specs.List.{filter}
use Rattle.std.proofs.lemmas.List.{append_assoc}
use Rattle.cfj_model.specs.declared.class.Field.{Field}
use Rattle.cfj_model.specs.declared.class.Param.{Param}
use Rattle.cfj_model.specs.declared.class.Sent.{Sent}
use Rattle.cfj_model.specs.declared.class.Class.{Class}
use Rattle.cfj_model.specs.declared.class.Constructor.{Constructor}
use Rattle.cfj_model.specs.declared.class.Method.{Method}
use Rattle.cfj_model.specs.Print.{line_end, texts, joined, field_text, param_text, sent_text, assign_text, ctor_text, expr_text, method_text, class_text, name_text, features_text, plain_printed}
use Rattle.cfj_model.specs.ProductLines.{ProductLine}
use Rattle.cfj_model.specs.Coloring.{no_colors}
use Rattle.cfj_model.specs.Projection.{is_present, bare_field, bare_param, bare_sent, projected, projected_class}
use Rattle.cfj_logic.specs.Selections.{Chosen}
use Rattle.feature_views.specs.Selected.{selected_nodes, selected_method}
use Rattle.feature_views.proofs.Presence.{ctor_is, class_is}
use Rattle.fj_printer.specs.declared.showing.Showing.{Showing}
use Rattle.fj_printer.specs.declared.showing.Showing.TheVariants as showing
use Rattle.fj_printer.specs.Parts.{class_head_text, ctor_head_text, method_head_text}
use Rattle.fj_printer.specs.Shown.{names, shows, shown_fields, shown_params, shown_sents, shown_methods, shown_expr, shown_ctor, shown_method_text, shown_class, shown_classes, shown_class_text}
use Rattle.fj_printer.proofs.Lists.{all_kept, texts-map, joined-map}

module _ (features : List (List ℕ)) where
  parts_of_class : (k : Class) → class_text features k ≡ class_head_text features k ++ (texts (field_text features) k.fields ++ (ctor_text features k.name k.ctor ++ (texts (method_text features) k.methods ++ (codes "}" ++ line_end))))
  unfolding class_text
  parts_of_class k = simp append_assoc

  parts_of_ctor : (name : List ℕ) (c : Constructor) → ctor_text features name c ≡ ctor_head_text name ++ (joined (param_text features) c.params ++ (codes ") { super(" ++ (joined (sent_text features) c.sends ++ (codes ");" ++ (texts (assign_text features) c.assigns ++ (codes " }" ++ line_end))))))
  unfolding ctor_text
  parts_of_ctor name c = simp append_assoc

  parts_of_method : (m : Method) → method_text features m ≡ method_head_text features m ++ (joined (param_text features) m.params ++ (codes ") { return " ++ (expr_text features m.body ++ (codes "; }" ++ line_end))))
  unfolding method_text
  parts_of_method m = simp append_assoc

-- what is printed of a constructor, and of a method
pub ctor_parts : (view : Showing) (name : List ℕ) (c : Constructor) → ctor_text (names view) name (shown_ctor view c) ≡ ctor_head_text name ++ (joined (param_text (names view)) (shown_params view c.params) ++ (codes ") { super(" ++ (joined (sent_text (names view)) (shown_sents view c.sends) ++ (codes ");" ++ (texts (assign_text (names view)) (shown_sents view c.assigns) ++ (codes " }" ++ line_end))))))
ctor_parts (showing.Marked features) name c =
    let params = all_kept c.params in
    let sends = all_kept c.sends in
    let assigns = all_kept c.assigns in
    rw (params, sends, assigns) (parts_of_ctor features.now name c)
ctor_parts (showing.Selected selection) name c =
    let s = selection.now in
    let params = joined-map (param_text []) bare_param (filter (λ (p : Param). is_present s p.colors) c.params) in
    let sends = joined-map (sent_text []) bare_sent (filter (λ (a : Sent). is_present s a.colors) c.sends) in
    let assigns = texts-map (assign_text []) bare_sent (filter (λ (a : Sent). is_present s a.colors) c.assigns) in
    rw (params, sends, assigns) at (parts_of_ctor [] name (shown_ctor (showing.Selected selection) c))

pub method_parts : (view : Showing) (m : Method) → shown_method_text view m ≡ method_head_text (names view) m ++ (joined (param_text (names view)) (shown_params view m.params) ++ (codes ") { return " ++ (expr_text (names view) (shown_expr view m.body) ++ (codes "; }" ++ line_end))))
method_parts (showing.Marked features) m = let params = all_kept m.params in rw params (parts_of_method features.now m)
method_parts (showing.Selected selection) m =
    let s = selection.now in
    let params = joined-map (param_text []) bare_param (filter (λ (p : Param). is_present s p.colors) m.params) in
    rw params at (parts_of_method [] (selected_method s m))

-- a class with its selected nodes; where it is present these are the present ones
abbrev selected_class : Bor Chosen → Class → Class
selected_class selection k =
    record {
      name = k.name;
      colors = no_colors;
      parent = k.parent;
      fields = selected_nodes (λ (f : Field). f.colors) bare_field selection.now k.fields;
      ctor = shown_ctor (showing.Selected selection) k.ctor;
      methods = selected_nodes (λ (m : Method). m.colors) (selected_method selection.now) selection.now k.methods;
    }

selected_is : (selection : Bor Chosen) (k : Class) → is_present selection.now k.colors ≡ true → selected_class selection k ≡ projected_class selection.now k
selected_is selection k here =
    let s = selection.now in
    class_is s k _ _ _ _ _ _ here refl refl refl refl (ctor_is s k.colors k.ctor _ _ _ here refl refl refl) refl

-- what is printed of a class
pub class_parts : (view : Showing) (k : Class) → shows view k.colors ≡ true → class_text (names view) (shown_class view k) ≡ class_head_text (names view) k ++ (texts (field_text (names view)) (shown_fields view k.fields) ++ (ctor_text (names view) k.name (shown_ctor view k.ctor) ++ (texts (shown_method_text view) (shown_methods view k.methods) ++ (codes "}" ++ line_end))))
class_parts (showing.Marked features) k here =
    let fields = all_kept k.fields in
    let methods = all_kept k.methods in
    rw (fields, methods) (parts_of_class features.now k)
class_parts (showing.Selected selection) k here =
    let s = selection.now in
    let fields = texts-map (field_text []) bare_field (filter (λ (f : Field). is_present s f.colors) k.fields) in
    let methods = texts-map (method_text []) (selected_method s) (filter (λ (m : Method). is_present s m.colors) k.methods) in
    ap (class_text []) (sym (selected_is selection k here)) ∙ (rw (fields, methods) at (parts_of_class [] (selected_class selection k)))

-- the text of all classes, and of those of a variant
pub all_classes : (features : List (List ℕ)) (ks : List Class) → texts (class_text features) ks ≡ texts (class_text features) (filter (λ _. true) ks)
all_classes features ks = ap (texts (class_text features)) (sym (all_kept ks))

pub variant_classes : (selection : Bor Chosen) (line : ProductLine) → plain_printed (projected selection.now line).classes ≡ texts (shown_class_text (showing.Selected selection)) (shown_classes (showing.Selected selection) line.classes)
unfolding projected
variant_classes selection line =
    texts-map (class_text []) (projected_class selection.now) (filter (λ (k : Class). is_present selection.now k.colors) line.classes)

-- the feature line, where there are features
pub line_of_some : (features : List (List ℕ)) → (length features == 0) ≡ false → features_text features ≡ codes "features " ++ (joined name_text features ++ (codes ";" ++ line_end))
line_of_some [] e = absurd (let no : ⊥ = cc e in no)
line_of_some (f ∷ fs) e = refl
