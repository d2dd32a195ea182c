-- The text of an expression gives the tokens of its tree.
use Rattle.std.proofs.Common.{◌≡◌, ℕ, Bool, true, false, ◌&&◌, ◌||◌, codes, if◌then◌else◌, List, [], ◌∷◌, ◌++◌, map, refl, sym, ap, subst, ◌∙◌, true≢false}
use Rattle.std.specs.List.{list_all}
use Rattle.std.specs.Str.{bytes_eq}
use Rattle.std.proofs.lemmas.Bool.{and_parts}
use Rattle.std.proofs.lemmas.List.Folds.{list_all-map}
use Rattle.std.proofs.lemmas.Slice.Eq.{bytes_eq-Decides}
use Rattle.cfj_model.specs.declared.expr.Arg.{Arg, Arg-F}
use Rattle.cfj_model.specs.declared.expr.Expr.{Expr}
use Rattle.cfj_model.specs.declared.expr.Expr.TheOpen.{Expr-F}
use Rattle.cfj_model.specs.declared.expr.Expr.TheFolds.{fold-Expr}
use Rattle.cfj_model.specs.ExpressionGrammar.{ExprTree, cast, chain, this_word, variable, StepsTree, stop, get, call, spell_expr, spell_start, spell_steps, spell_args, spell_more_args}
use Rattle.cfj_model.specs.Coloring.{Palette, are_known}
use Rattle.cfj_model.specs.Expressions.{is_named_step, is_named_arg, is_named}
use Rattle.cfj_model.specs.Marks.{spell_marks}
use Rattle.cfj_words.specs.Names.{is_name, is_short_identifier}
use Rattle.cfj_model.specs.Print.{Shown, shown_step, shown_arg, receiver_text, itself, joined, texts_behind, marks_text, expr_text}
use Rattle.cfj_words.specs.Tokens.{Token, Id, Dot, OpenParen, CloseParen}
use Rattle.cfj_model.proofs.ExprCases.{Proved, args_of, Cases, by_cases, fold_var, fold_get, fold_call, fold_new, fold_cast}
use Rattle.print_law.proofs.ExprTrees.{ArgTree, more_of, args_tree, with_steps, received, tree_step, arg_tree_step, tree_of_expr, tree_of_arg}
use Rattle.print_law.proofs.Features.{marks_of}
use Rattle.print_law.proofs.FormulaTrees.{as_identifier}
use Rattle.print_law.proofs.Lexing.{Reads, both, asks_less, wants_more, none, respelled, identifier, blank, comma, dot, open_paren, close_paren, this_reads, new_word}
use Rattle.print_law.proofs.MarkTexts.{marks_read}

abbrev pub is_cast_tree : ExprTree → Bool
is_cast_tree (cast c t) = true
is_cast_tree (chain s ss) = false

-- what is shown is the text of the tree
record IsShown (t : ExprTree) (s : Shown) : Type 0 where
  kind : s.is_cast ≡ is_cast_tree t
  reads : Reads false true s.text (spell_expr t)

shown_as : (t u : ExprTree) (s v : Shown) → t ≡ u → s ≡ v → IsShown u v → IsShown t s
shown_as t u s v e d h = subst (λ w. IsShown w s) (sym e) (subst (IsShown u) (sym d) h)

-- the tokens of a tree as a receiver
abbrev spell_received : ExprTree → List Token → List Token
spell_received (cast c t) rest = OpenParen ∷ spell_expr (cast c t) (CloseParen ∷ rest)
spell_received (chain s ss) rest = spell_expr (chain s ss) rest

steps_spell : (ss more : StepsTree) (rest : List Token) → spell_steps (with_steps ss more) rest ≡ spell_steps ss (spell_steps more rest)
steps_spell stop more rest = refl
steps_spell (get f ss) more rest = ap (λ w. Dot ∷ (Id f ∷ w)) (steps_spell ss more rest)
steps_spell (call m args ss) more rest = ap (λ w. Dot ∷ (Id m ∷ (OpenParen ∷ spell_args args (CloseParen ∷ w)))) (steps_spell ss more rest)

received_spell : (t : ExprTree) (more : StepsTree) (rest : List Token) → spell_received t (spell_steps more rest) ≡ spell_expr (received t more) rest
received_spell (cast c t) more rest = refl
received_spell (chain s ss) more rest = ap (spell_start s) (sym (steps_spell ss more rest))

receiver_as : (s : Shown) (spell : List Token → List Token) (b : Bool) → s.is_cast ≡ b → Reads false true (if b then codes "(" ++ (s.text ++ codes ")") else s.text) spell → Reads false true (receiver_text s) spell
receiver_as s spell b e r = subst (λ c. Reads false true (if c then codes "(" ++ (s.text ++ codes ")") else s.text) spell) (sym e) r

receiver_reads : (t : ExprTree) (s : Shown) → IsShown t s → Reads false true (receiver_text s) (spell_received t)
receiver_reads (cast c t) s h = receiver_as s _ true h.kind (both open_paren (both h.reads (wants_more close_paren)))
receiver_reads (chain c t) s h = receiver_as s _ false h.kind h.reads

-- with steps behind it nothing is a cast
pub received_kind : (t : ExprTree) (more : StepsTree) → false ≡ is_cast_tree (received t more)
received_kind (cast c t) more = refl
received_kind (chain s ss) more = refl

-- steps behind a receiver
on_receiver : (t : ExprTree) (s : Shown) (more : StepsTree) (text : List ℕ) (b : Bool) → IsShown t s → Reads true b text (spell_steps more) → Reads false b (receiver_text s ++ text) (spell_expr (received t more))
on_receiver t s more text b h r = respelled (received_spell t more) (both (receiver_reads t s h) r)

-- the first, where the second doesn't hold
pub or_left_of : (a b : Bool) → (a || b) ≡ true → b ≡ false → a ≡ true
or_left_of true b h e = refl
or_left_of false b h e = absurd (true≢false (sym h ∙ e))

module _ (palette : Palette) (features : List (List ℕ)) (well : list_all is_short_identifier features ≡ true) where
  abbrev shown : Expr → Shown
  shown = fold-Expr Shown (List ℕ) shown_step (shown_arg features)

  abbrev arg_text : Arg → List ℕ
  arg_text a = marks_text features a.colors ++ (shown a.expr).text

  abbrev arg_named : Arg → Bool
  arg_named a = are_known palette a.colors && is_named palette a.expr

  -- a well-named expression is shown as its tree
  record Printed (x : Expr) : Type 0 where
    printed : is_named palette x ≡ true → IsShown (tree_of_expr features x) (shown x)

  arg_reads : (y : Proved Printed) → arg_named y.0 ≡ true → {b : Bool} {more : List ℕ} {s : List Token → List Token} → Reads true b more s
      → Reads false b (arg_text y.0 ++ more) (λ ts. spell_marks (marks_of features (y.0).colors) (spell_expr (tree_of_expr features (y.0).expr) (s ts)))
  arg_reads y h r = both (both (marks_read features (y.0).colors well) (y.1.printed (and_parts (are_known palette (y.0).colors) (is_named palette (y.0).expr) h).1).reads) r

  more_read : (ys : List (Proved Printed)) → list_all arg_named (args_of Printed ys) ≡ true → Reads true true (texts_behind itself (map arg_text (args_of Printed ys))) (spell_more_args (more_of (map (tree_of_arg features) (args_of Printed ys))))
  more_read [] h = none
  more_read (y ∷ ys) h =
      let p = and_parts (arg_named y.0) (list_all arg_named (args_of Printed ys)) h in
      both (both comma blank) (arg_reads y p.0 (more_read ys p.1))

  args_read : (ys : List (Proved Printed)) → list_all arg_named (args_of Printed ys) ≡ true → Reads false true (joined itself (map arg_text (args_of Printed ys))) (spell_args (args_tree (map (tree_of_arg features) (args_of Printed ys))))
  args_read [] h = asks_less none
  args_read (y ∷ ys) h =
      let p = and_parts (arg_named y.0) (list_all arg_named (args_of Printed ys)) h in
      arg_reads y p.0 (more_read ys p.1)

  var_reads : (name : List ℕ) → is_name name ≡ true → (b : Bool) → bytes_eq name (codes "this") ≡ b → Reads false true name (spell_expr (chain (if b then this_word else variable name) stop))
  var_reads name h true e = subst (λ w. Reads false true w (spell_expr (chain this_word stop))) (sym ((bytes_eq-Decides name (codes "this")).0 e)) this_reads
  var_reads name h false e = identifier name (as_identifier name (or_left_of (is_short_identifier name) (bytes_eq name (codes "this")) h e))

  abbrev named : Expr-F Bool Bool → Bool
  named = is_named_step

  abbrev named_arg : Arg-F Bool Bool → Bool
  named_arg = is_named_arg palette

  abbrev step : Arg-F ExprTree ArgTree → ArgTree
  step = arg_tree_step features

  abbrev text_step : Arg-F Shown (List ℕ) → List ℕ
  text_step = shown_arg features

  printed_cases : Cases Printed
  printed_cases = record {
    var_case = λ slot name. record {
      printed = λ h.
          let k = sym (fold_var Bool Bool named named_arg slot name) ∙ h in
          shown_as _ _ _ _ (fold_var ExprTree ArgTree tree_step step slot name) (fold_var Shown (List ℕ) shown_step text_step slot name)
          (record { kind = refl; reads = var_reads name k (bytes_eq name (codes "this")) refl });
    };
    get_case = λ slot on ih field. record {
      printed = λ h.
          let p = and_parts (is_named palette on) (is_short_identifier field) (sym (fold_get Bool Bool named named_arg slot on field) ∙ h) in
          shown_as _ _ _ _ (fold_get ExprTree ArgTree tree_step step slot on field) (fold_get Shown (List ℕ) shown_step text_step slot on field)
          (record { kind = received_kind (tree_of_expr features on) (get field stop); reads = on_receiver (tree_of_expr features on) (shown on) (get field stop) (codes "." ++ field) true (ih.printed p.0) (both dot (identifier field (as_identifier field p.1))) });
    };
    call_case = λ slot on ih method ys. record {
      printed = λ h.
          let args = args_of Printed ys in
          let p = and_parts (is_named palette on && is_short_identifier method) _ (sym (fold_call Bool Bool named named_arg slot on method args) ∙ h) in
          let q = and_parts (is_named palette on) (is_short_identifier method) p.0 in
          let more = call method (args_tree (map (tree_of_arg features) args)) stop in
          shown_as _ _ _ _ (fold_call ExprTree ArgTree tree_step step slot on method args) (fold_call Shown (List ℕ) shown_step text_step slot on method args)
          (record {
            kind = received_kind (tree_of_expr features on) more;
            reads = on_receiver (tree_of_expr features on) (shown on) more _ true (ih.printed q.0)
                (both dot (both (identifier method (as_identifier method q.1)) (both open_paren (both (args_read ys (sym (list_all-map (λ b. b) arg_named args) ∙ p.1)) (wants_more close_paren)))));
          });
    };
    new_case = λ slot class ys. record {
      printed = λ h.
          let args = args_of Printed ys in
          let p = and_parts (is_short_identifier class) _ (sym (fold_new Bool Bool named named_arg slot class args) ∙ h) in
          shown_as _ _ _ _ (fold_new ExprTree ArgTree tree_step step slot class args) (fold_new Shown (List ℕ) shown_step text_step slot class args)
          (record {
            kind = refl;
            reads = both (both new_word blank) (both (identifier class (as_identifier class p.0)) (both open_paren (both (args_read ys (sym (list_all-map (λ b. b) arg_named args) ∙ p.1)) (wants_more close_paren))));
          });
    };
    cast_case = λ slot class on ih. record {
      printed = λ h.
          let p = and_parts (is_short_identifier class) (is_named palette on) (sym (fold_cast Bool Bool named named_arg slot class on) ∙ h) in
          shown_as _ _ _ _ (fold_cast ExprTree ArgTree tree_step step slot class on) (fold_cast Shown (List ℕ) shown_step text_step slot class on)
          (record { kind = refl; reads = both open_paren (both (identifier class (as_identifier class p.0)) (both (both close_paren blank) (ih.printed p.1).reads)) });
    };
  }

  -- the text of an expression gives the tokens of its tree
  pub expr_reads : (x : Expr) → is_named palette x ≡ true → Reads false true (expr_text features x) (spell_expr (tree_of_expr features x))
  expr_reads x h = let s = (by_cases Printed printed_cases x).printed h in s.reads
