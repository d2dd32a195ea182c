-- The text of a project, and of each of its classes, gives the tokens of its tree.
use Rattle.std.proofs.Common.{◌≡◌, ℕ, Bool, true, false, List, [], ◌∷◌, length, map, refl, subst}
use Rattle.std.specs.List.{list_all}
use Rattle.std.specs.Str.{chars}
use Rattle.std.proofs.lemmas.Bool.{and_parts}
use Rattle.std.proofs.lemmas.List.{append-nil}
use Rattle.std.proofs.lemmas.Str.{chars-nil, IsUtf8-nil}
use Rattle.cfj_model.specs.declared.class.Field.{Field}
use Rattle.cfj_model.specs.declared.class.Param.{Param}
use Rattle.cfj_model.specs.declared.class.Sent.{Sent}
use Rattle.cfj_model.specs.declared.class.Method.{Method}
use Rattle.cfj_model.specs.declared.class.Class.{Class}
use Rattle.cfj_logic.specs.declared.formula.Formula.{Formula}
use Rattle.cfj_model.specs.declared.feature_model.Format.{Format}
use Rattle.cfj_model.specs.declared.feature_model.Format.TheVariants.{One, Two}
use Rattle.cfj_model.specs.Coloring.{Palette, palette_of}
use Rattle.cfj_model.specs.Grammar.{spell_name, spell_format, spell_features, spell_field, spell_param, spell_sent, spell_assign, spell_ctor, spell_method, spell_constraint, spell_class, spell}
use Rattle.cfj_words.specs.Lexemes.{skipped, lexeme_at, next_lexeme}
use Rattle.cfj_model.specs.Marks.{in_order, each_behind, separated}
use Rattle.cfj_words.specs.Names.{is_short_identifier}
use Rattle.cfj_model.specs.Print.{texts, texts_behind, joined, name_text, field_text, param_text, sent_text, assign_text, ctor_text, method_text, class_text, format_text, features_text, constraint_text, printed}
use Rattle.cfj_model.specs.ProductLines.{ProductLine, IsProject, is_field, is_param, is_sent, is_method, is_class, is_constraint, most_in_ctor, most_params}
use Rattle.cfj_words.specs.Tokens.{Token, Id, Comma}
use Rattle.print_law.proofs.ClassTrees.{tree_of_field, tree_of_param, tree_of_sent, tree_of_method, tree_of_class, tree_of, field_kept, param_kept, sent_kept, ParamsKept, method_kept, ClassKept, class_kept, constraint_kept}
use Rattle.print_law.proofs.ExprTexts.{expr_reads}
use Rattle.print_law.proofs.FormulaTrees.{as_identifier, formula_reads, tree_of_formula}
use Rattle.print_law.proofs.Lexing.{Lexes, Reads, both, asks_less, none, identifier, blank, line, comma, dot, semicolon, equals, open_paren, close_paren, open_brace, close_brace, class_word, extends_word, super_word, this_reads, return_word, format_reads, features_reads, constraint_reads}
use Rattle.print_law.proofs.MarkTexts.{marks_read}

-- ---- lists

module _ {A B : Type 0} (text : A → List ℕ) (tree : A → B) (spelled : B → List Token → List Token) (ok : A → Bool) where
  -- items that end in a word, each behind a comma
  behind_read : ((x : A) → ok x ≡ true → Reads false true (text x) (spelled (tree x))) → (xs : List A) → list_all ok xs ≡ true → Reads true true (texts_behind text xs) (each_behind Comma spelled (map tree xs))
  behind_read each [] h = none
  behind_read each (x ∷ xs) h = let p = and_parts (ok x) (list_all ok xs) h in both (both comma blank) (both (each x p.0) (behind_read each xs p.1))

  joined_read : ((x : A) → ok x ≡ true → Reads false true (text x) (spelled (tree x))) → (xs : List A) → list_all ok xs ≡ true → Reads false true (joined text xs) (separated Comma spelled (map tree xs))
  joined_read each [] h = asks_less none
  joined_read each (x ∷ xs) h = let p = and_parts (ok x) (list_all ok xs) h in both (each x p.0) (behind_read each xs p.1)

  -- items that end in no word, one behind another
  texts_read : ((x : A) → ok x ≡ true → Reads false false (text x) (spelled (tree x))) → (xs : List A) → list_all ok xs ≡ true → Reads false false (texts text xs) (in_order spelled (map tree xs))
  texts_read each [] h = none
  texts_read each (x ∷ xs) h = let p = and_parts (ok x) (list_all ok xs) h in both (each x p.0) (texts_read each xs p.1)

module _ (palette : Palette) (features : List (List ℕ)) (well : list_all is_short_identifier features ≡ true) where
  named : (w : List ℕ) → is_short_identifier w ≡ true → Reads false true w (λ ts. Id w ∷ ts)
  named w h = identifier w (as_identifier w h)

  field_reads : (f : Field) → is_field palette f ≡ true → Reads false false (field_text features f) (spell_field (tree_of_field features f))
  field_reads f h =
      let k = field_kept palette f h in
      both (both blank blank) (both (marks_read features f.colors well) (both (named f.of k.of) (both blank (both (named f.name k.name) (both semicolon line)))))

  param_reads : (p : Param) → is_param palette p ≡ true → Reads false true (param_text features p) (λ ts. spell_param (tree_of_param features p) ts)
  param_reads p h =
      let k = param_kept palette p h in
      both (marks_read features p.colors well) (both (named p.of k.of) (both blank (named p.name k.name)))

  sent_reads : (s : Sent) → is_sent palette s ≡ true → Reads false true (sent_text features s) (spell_sent (tree_of_sent features s))
  sent_reads s h = both (marks_read features s.colors well) (named s.name (sent_kept palette s h).name)

  assign_reads : (a : Sent) → is_sent palette a ≡ true → Reads false false (assign_text features a) (spell_assign (tree_of_sent features a))
  assign_reads a h =
      let k = (sent_kept palette a h).name in
      both blank (both (marks_read features a.colors well) (both (both this_reads dot) (both (named a.name k) (both (both blank (both equals blank)) (both (named a.name k) semicolon)))))

  params_read : (most : ℕ) (ps : List Param) → ParamsKept most palette ps → Reads false true (joined (param_text features) ps) (separated Comma spell_param (map (tree_of_param features) ps))
  params_read most ps k = joined_read (param_text features) (tree_of_param features) spell_param (is_param palette) param_reads ps k.each

  ctor_reads : (k : Class) → ClassKept palette k → Reads false false (ctor_text features k.name k.ctor) (spell_ctor (tree_of_class features k))
  unfolding ctor_text
  ctor_reads k c =
      both (both blank blank)
      (both (named k.name c.name)
      (both open_paren
      (both (params_read most_in_ctor k.ctor.params c.params)
      (both (both close_paren (both blank (both open_brace (both blank (both super_word open_paren)))))
      (both (joined_read (sent_text features) (tree_of_sent features) spell_sent (is_sent palette) sent_reads k.ctor.sends c.sends.each)
      (both (both close_paren semicolon)
      (both (texts_read (assign_text features) (tree_of_sent features) spell_assign (is_sent palette) assign_reads k.ctor.assigns c.assigns.each)
      (both (both blank close_brace) line))))))))

  method_reads : (m : Method) → is_method palette m ≡ true → Reads false false (method_text features m) (spell_method (tree_of_method features m))
  unfolding method_text
  method_reads m h =
      let k = method_kept palette m h in
      both (both blank blank)
      (both (marks_read features m.colors well)
      (both (named m.result k.result)
      (both blank
      (both (named m.name k.name)
      (both open_paren
      (both (params_read most_params m.params k.params)
      (both (both close_paren (both blank (both open_brace (both blank (both return_word blank)))))
      (both (expr_reads palette features well m.body k.named)
      (both (both semicolon (both blank close_brace)) line)))))))))

  -- the text of a class gives the tokens of its tree
  pub class_reads : (k : Class) → is_class palette k ≡ true → Reads false false (class_text features k) (spell_class (tree_of_class features k))
  unfolding class_text
  class_reads k h =
      let c = class_kept palette k h in
      both (marks_read features k.colors well)
      (both (both class_word blank)
      (both (named k.name c.name)
      (both (both blank (both extends_word blank))
      (both (named k.parent c.parent)
      (both (both blank open_brace)
      (both line
      (both (texts_read (field_text features) (tree_of_field features) spell_field (is_field palette) field_reads k.fields c.each_field)
      (both (ctor_reads k c)
      (both (texts_read (method_text features) (tree_of_method features) spell_method (is_method palette) method_reads k.methods c.each_method)
      (both close_brace line))))))))))

  constraint_reads_back : (x : Formula) → is_constraint (length features) x ≡ true → Reads false false (constraint_text features x) (spell_constraint (tree_of_formula features x))
  constraint_reads_back x h = both (both constraint_reads blank) (both (formula_reads features well x (constraint_kept (length features) x h).over) (both semicolon line))

  name_reads : (f : List ℕ) → is_short_identifier f ≡ true → Reads false true (name_text f) (spell_name f)
  name_reads f h = named f h

  -- the names that follow the first, each behind a comma
  names_behind : (fs : List (List ℕ)) → list_all is_short_identifier fs ≡ true → Reads true true (texts_behind name_text fs) (each_behind Comma spell_name fs)
  names_behind [] h = none
  names_behind (f ∷ fs) h = let p = and_parts (is_short_identifier f) (list_all is_short_identifier fs) h in both (both comma blank) (both (name_reads f p.0) (names_behind fs p.1))

  features_read : (fs : List (List ℕ)) → list_all is_short_identifier fs ≡ true → Reads false false (features_text fs) (spell_features fs)
  features_read [] h = none
  features_read (f ∷ fs) h =
      let p = and_parts (is_short_identifier f) (list_all is_short_identifier fs) h in
      both (both features_reads blank) (both (both (name_reads f p.0) (names_behind fs p.1)) (both semicolon line))

-- the line for format Two
format_line_reads : (format : Format) → Reads false false (format_text format) (spell_format format)
format_line_reads One = none
format_line_reads Two = both (both format_reads semicolon) line

-- ---- whole texts

-- behind the last piece nothing is left
nothing_left : Lexes false [] []
unfolding next_lexeme skipped lexeme_at chars
nothing_left = record { utf8 = IsUtf8-nil; rest = []; takes = chars-nil; ended = refl; apart = refl }

-- what a text gives by itself
pub alone : {x : List ℕ} {s : List Token → List Token} → Reads false false x s → Lexes false x (s [])
alone {x} {s} r = subst (λ t. Lexes false t (s [])) (append-nil x) (r.on [] [] nothing_left)

-- the text of a project gives the tokens of its tree
pub project_reads : (p : ProductLine) → IsProject p → Lexes false (printed p) (spell (tree_of p) [])
project_reads p k =
    let features = p.model.features in
    let palette = palette_of p.model in
    let well = k.features_named in
    alone
    (both (format_line_reads p.model.format)
    (both (features_read palette features well features well)
    (both (texts_read (constraint_text features) (tree_of_formula features) spell_constraint (is_constraint (length features)) (constraint_reads_back palette features well) p.model.constraints k.each_constraint)
    (texts_read (class_text features) (tree_of_class features) spell_class (is_class palette) (class_reads palette features well) p.classes k.each_class))))
