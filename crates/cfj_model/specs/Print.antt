-- The printed form of a product line. The colours of CIDE (Kästner, Apel, Kuhlemann, ICSE 2008) are marks before
-- their nodes; where no features are given there are none. The `!` of a mark and the line for format Two are this
-- project's own.
use Rattle.std.specs.Prelude.{ℕ, Bool, true, false, nat_lt, List, [], ◌∷◌, ◌++◌, codes, flat_map, get_or, if◌then◌else◌}
use Rattle.std.specs.List.{enumerate_from}
use Rattle.cfj_model.specs.declared.class.Field.{Field}
use Rattle.cfj_model.specs.declared.class.Param.{Param}
use Rattle.cfj_model.specs.declared.class.Sent.{Sent}
use Rattle.cfj_model.specs.declared.class.Constructor.{Constructor}
use Rattle.cfj_model.specs.declared.class.Method.{Method}
use Rattle.cfj_model.specs.declared.class.Class.{Class}
use Rattle.cfj_model.specs.declared.expr.Arg.{Arg-F}
use Rattle.cfj_model.specs.declared.expr.Expr.{Expr}
use Rattle.cfj_model.specs.declared.expr.Expr.TheOpen.{Expr-F}
use Rattle.cfj_model.specs.declared.expr.Expr.TheFolds.{fold-Expr}
use Rattle.cfj_logic.specs.declared.formula.Formula.{Formula}
use Rattle.cfj_logic.specs.declared.formula.Formula.TheOpen.{Formula-F}
use Rattle.cfj_logic.specs.declared.formula.Formula.TheFolds.{fold-Formula}
use Rattle.cfj_model.specs.ProductLines.{ProductLine}
use Rattle.cfj_logic.specs.Sides.{Sides}
use Rattle.cfj_model.specs.Coloring.{has_mark}
use Rattle.cfj_model.specs.declared.feature_model.Format.{Format}
use Rattle.cfj_model.specs.declared.feature_model.Format.TheVariants.{One, Two}

-- the end of a line
abbrev pub line_end : List ℕ
line_end = 10 ∷ []

-- the texts of items, one after another
abbrev pub texts : {A : Type 0} → (A → List ℕ) → List A → List ℕ
texts text [] = []
texts text (x ∷ xs) = text x ++ texts text xs

-- each behind `, `
abbrev pub texts_behind : {A : Type 0} → (A → List ℕ) → List A → List ℕ
texts_behind text [] = []
texts_behind text (x ∷ xs) = codes ", " ++ (text x ++ texts_behind text xs)

-- joined by `, `
abbrev pub joined : {A : Type 0} → (A → List ℕ) → List A → List ℕ
joined text [] = []
joined text (x ∷ xs) = text x ++ texts_behind text xs

-- each behind a space
abbrev pub spaced_behind : List (List ℕ) → List ℕ
spaced_behind [] = []
spaced_behind (x ∷ xs) = codes " " ++ (x ++ spaced_behind xs)

-- joined by a space
abbrev pub spaced : List (List ℕ) → List ℕ
spaced [] = []
spaced (x ∷ xs) = x ++ spaced_behind xs

abbrev pub name_text : List ℕ → List ℕ
name_text name = name

-- `@A ` where the feature of this number and name is wanted, and `@!A ` where it is one that isn't
abbrev pub mark_text : Sides → ℕ × List ℕ → List ℕ
mark_text colors feature =
    if has_mark false feature.0 colors then codes "@" ++ (feature.1 ++ codes " ") else
    if has_mark true feature.0 colors then codes "@!" ++ (feature.1 ++ codes " ") else []

-- the marks of a node, in declaration order
abbrev pub marks_text : List (List ℕ) → Sides → List ℕ
marks_text features colors = texts (mark_text colors) (enumerate_from 0 features)

-- `  T f;`
abbrev pub field_text : List (List ℕ) → Field → List ℕ
field_text features f = codes "  " ++ (marks_text features f.colors ++ (f.of ++ (codes " " ++ (f.name ++ (codes ";" ++ line_end)))))

-- `T p`
abbrev pub param_text : List (List ℕ) → Param → List ℕ
param_text features p = marks_text features p.colors ++ (p.of ++ (codes " " ++ p.name))

abbrev pub sent_text : List (List ℕ) → Sent → List ℕ
sent_text features s = marks_text features s.colors ++ s.name

-- ` this.f = f;`
abbrev pub assign_text : List (List ℕ) → Sent → List ℕ
assign_text features a = codes " " ++ (marks_text features a.colors ++ (codes "this." ++ (a.name ++ (codes " = " ++ (a.name ++ codes ";")))))

-- `  C(T p, ..) { super(p, ..); this.f = f; .. }`
unfoldable pub ctor_text : List (List ℕ) → List ℕ → Constructor → List ℕ
ctor_text features name c =
    codes "  "
    ++ (name
    ++ (codes "("
    ++ (joined (param_text features) c.params
    ++ (codes ") { super("
    ++ (joined (sent_text features) c.sends
    ++ (codes ");" ++ (texts (assign_text features) c.assigns ++ (codes " }" ++ line_end))))))))

-- an expression's text, and whether it is a cast
pub record Shown : Type 0 where
  pub is_cast : Bool
  pub text : List ℕ

-- a receiver; a cast stands in brackets there
abbrev pub receiver_text : Shown → List ℕ
receiver_text on = if on.is_cast then codes "(" ++ (on.text ++ codes ")") else on.text

abbrev pub itself : List ℕ → List ℕ
itself text = text

abbrev pub shown_step : Expr-F Shown (List ℕ) → Shown
shown_step (Expr-F.Var slot name) = record { is_cast = false; text = name }
shown_step (Expr-F.Get slot on field) = record { is_cast = false; text = receiver_text on ++ (codes "." ++ field) }
shown_step (Expr-F.Call slot on method args) = record { is_cast = false; text = receiver_text on ++ (codes "." ++ (method ++ (codes "(" ++ (joined itself args ++ codes ")")))) }
shown_step (Expr-F.New slot class args) = record { is_cast = false; text = codes "new " ++ (class ++ (codes "(" ++ (joined itself args ++ codes ")"))) }
shown_step (Expr-F.Cast slot class on) = record { is_cast = true; text = codes "(" ++ (class ++ (codes ") " ++ on.text)) }

-- an argument with its marks
abbrev pub shown_arg : List (List ℕ) → Arg-F Shown (List ℕ) → List ℕ
shown_arg features a = marks_text features a.colors ++ a.expr.text

-- `x`, `e.f`, `e.m(a, b)`, `new C(a, b)`, `(C) e`
abbrev pub expr_text : List (List ℕ) → Expr → List ℕ
expr_text features x = (fold-Expr Shown (List ℕ) shown_step (shown_arg features) x).text

-- `  R m(T p, ..) { return e; }`
unfoldable pub method_text : List (List ℕ) → Method → List ℕ
method_text features m =
    codes "  "
    ++ (marks_text features m.colors
    ++ (m.result
    ++ (codes " "
    ++ (m.name
    ++ (codes "("
    ++ (joined (param_text features) m.params ++ (codes ") { return " ++ (expr_text features m.body ++ (codes "; }" ++ line_end)))))))))

-- a class, on lines
unfoldable pub class_text : List (List ℕ) → Class → List ℕ
class_text features k =
    marks_text features k.colors
    ++ (codes "class "
    ++ (k.name
    ++ (codes " extends "
    ++ (k.parent
    ++ (codes " {" ++ (line_end ++ (texts (field_text features) k.fields ++ (ctor_text features k.name k.ctor ++ (texts (method_text features) k.methods ++ (codes "}" ++ line_end))))))))))

-- `format2;` on a line, in format Two
abbrev pub format_text : Format → List ℕ
format_text One = []
format_text Two = codes "format2;" ++ line_end

-- `features A, B;` on a line, where there are features
abbrev pub features_text : List (List ℕ) → List ℕ
features_text [] = []
features_text (f ∷ fs) = codes "features " ++ (joined name_text (f ∷ fs) ++ (codes ";" ++ line_end))

-- a formula's text, and how tightly it holds together: 1 for `<->`, 2 for `->`, 3 for `|`, 4 for `&`, else 5
pub record ShownFormula : Type 0 where
  pub level : ℕ
  pub text : List ℕ

-- an operand, in brackets where it holds less tightly than this
abbrev pub operand_text : ℕ → ShownFormula → List ℕ
operand_text least x = if nat_lt x.level least then codes "(" ++ (x.text ++ codes ")") else x.text

abbrev pub shown_formula_step : List (List ℕ) → Formula-F ShownFormula → ShownFormula
shown_formula_step features Formula-F.True = record { level = 5; text = codes "true" }
shown_formula_step features Formula-F.False = record { level = 5; text = codes "false" }
shown_formula_step features (Formula-F.Feat f) = record { level = 5; text = get_or features f [] }
shown_formula_step features (Formula-F.Not x) = record { level = 5; text = codes "!" ++ operand_text 5 x }
shown_formula_step features (Formula-F.And x y) = record { level = 4; text = operand_text 4 x ++ (codes " & " ++ operand_text 5 y) }
shown_formula_step features (Formula-F.Or x y) = record { level = 3; text = operand_text 3 x ++ (codes " | " ++ operand_text 4 y) }
shown_formula_step features (Formula-F.Implies x y) = record { level = 2; text = operand_text 3 x ++ (codes " -> " ++ operand_text 2 y) }
shown_formula_step features (Formula-F.Iff x y) = record { level = 1; text = operand_text 1 x ++ (codes " <-> " ++ operand_text 2 y) }

-- a formula over features with these names, with the fewest brackets
abbrev pub formula_text : List (List ℕ) → Formula → List ℕ
formula_text features f = (fold-Formula ShownFormula (shown_formula_step features) f).text

-- `constraint F;` on a line
abbrev pub constraint_text : List (List ℕ) → Formula → List ℕ
constraint_text features f = codes "constraint " ++ (formula_text features f ++ (codes ";" ++ line_end))

-- the line for format Two, the feature line, a line for each constraint, and the classes, one after another
abbrev pub printed : ProductLine → List ℕ
printed line =
    format_text line.model.format
    ++ (features_text line.model.features
    ++ (texts (constraint_text line.model.features) line.model.constraints ++ texts (class_text line.model.features) line.classes))

-- of a feature of this number and name, `A` where it is wanted and `!A` where it is one that isn't, in this order
-- where it is both
abbrev pub signed_names : Sides → ℕ × List ℕ → List (List ℕ)
signed_names colors feature =
    (if has_mark false feature.0 colors then feature.1 ∷ [] else [])
    ++ (if has_mark true feature.0 colors then (codes "!" ++ feature.1) ∷ [] else [])

-- `[A !B]`: what is wanted of a selection, in declaration order
abbrev pub presence_text : List (List ℕ) → Sides → List ℕ
presence_text features colors = codes "[" ++ (spaced (flat_map (signed_names colors) (enumerate_from 0 features)) ++ codes "]")

-- the classes alone, without marks
abbrev pub plain_printed : List Class → List ℕ
plain_printed = texts (class_text [])
