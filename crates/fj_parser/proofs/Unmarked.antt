-- Expressions without marks, by their tokens.
use Rattle.std.proofs.Common.{◌≡◌, Bool, true, false, ◌&&◌, List, [], ◌∷◌, ◌++◌, refl, ◌∙◌}
use Rattle.std.proofs.lemmas.Bool.{and_parts}
use Rattle.cfj_model.specs.ExpressionGrammar.{ExprTree, cast, chain, StartTree, variable, this_word, made, bracket, StepsTree, stop, get, call, ArgsTree, no_args, first_arg, MoreArgsTree, no_more, next_arg, spell_expr, spell_start, spell_steps, spell_args, spell_more_args}
use Rattle.cfj_words.specs.Tokens.{Token, CloseParen, Semicolon, At, End}
use Rattle.expression_reader.proofs.Completing.{are_unmarked}
use Rattle.cfj_model.specs.PartLanguages.{IsUnmarked, IsStartUnmarked, AreStepsUnmarked, AreUnmarked, AreMoreUnmarked}

-- a token that stands inside an expression without marks
abbrev pub is_inner : Token → Bool
is_inner At = false
is_inner Semicolon = false
is_inner End = false
is_inner _ = true

abbrev pub are_inner : List Token → Bool
are_inner [] = true
are_inner (t ∷ ts) = is_inner t && are_inner ts

-- an expression without marks is spelled by such tokens
mutual
  pub expr_inner : (x : ExprTree) (rest : List Token) → IsUnmarked x → are_inner (spell_expr x rest) ≡ are_inner rest
  expr_inner (cast c t) rest u = expr_inner t rest u
  expr_inner (chain s ss) rest u = start_inner s (spell_steps ss rest) u.0 ∙ steps_inner ss rest u.1

  start_inner : (s : StartTree) (rest : List Token) → IsStartUnmarked s → are_inner (spell_start s rest) ≡ are_inner rest
  start_inner (variable w) rest u = refl
  start_inner this_word rest u = refl
  start_inner (made c xs) rest u = args_inner xs (CloseParen ∷ rest) u
  start_inner (bracket t) rest u = expr_inner t (CloseParen ∷ rest) u

  steps_inner : (ss : StepsTree) (rest : List Token) → AreStepsUnmarked ss → are_inner (spell_steps ss rest) ≡ are_inner rest
  steps_inner stop rest u = refl
  steps_inner (get f ss) rest u = steps_inner ss rest u
  steps_inner (call m xs ss) rest u = args_inner xs (CloseParen ∷ spell_steps ss rest) u.0 ∙ steps_inner ss rest u.1

  args_inner : (xs : ArgsTree) (rest : List Token) → AreUnmarked xs → are_inner (spell_args xs rest) ≡ are_inner rest
  args_inner no_args rest u = refl
  args_inner (first_arg [] t more) rest u = expr_inner t (spell_more_args more rest) u.0 ∙ more_inner more rest u.1
  args_inner (first_arg (w ∷ ws) t more) rest u = absurd u

  more_inner : (more : MoreArgsTree) (rest : List Token) → AreMoreUnmarked more → are_inner (spell_more_args more rest) ≡ are_inner rest
  more_inner no_more rest u = refl
  more_inner (next_arg [] t more) rest u = expr_inner t (spell_more_args more rest) u.0 ∙ more_inner more rest u.1
  more_inner (next_arg (w ∷ ws) t more) rest u = absurd u

-- a mark's sign is seen
a_mark : {A : Type 0} → false ≡ true → A
a_mark e = absurd (let no : ⊥ = cc e in no)

-- and where no token begins a mark, there is none; nor behind the expression
mutual
  expr_unmarked : (x : ExprTree) (rest : List Token) → are_unmarked (spell_expr x rest) ≡ true → IsUnmarked x × (are_unmarked rest ≡ true)
  expr_unmarked (cast c t) rest h = expr_unmarked t rest h
  expr_unmarked (chain s ss) rest h =
      let a = start_unmarked s (spell_steps ss rest) h in
      let b = steps_unmarked ss rest a.1 in
      ((a.0, b.0), b.1)

  start_unmarked : (s : StartTree) (rest : List Token) → are_unmarked (spell_start s rest) ≡ true → IsStartUnmarked s × (are_unmarked rest ≡ true)
  start_unmarked (variable w) rest h = (tt, h)
  start_unmarked this_word rest h = (tt, h)
  start_unmarked (made c xs) rest h = args_unmarked xs (CloseParen ∷ rest) h
  start_unmarked (bracket t) rest h = expr_unmarked t (CloseParen ∷ rest) h

  steps_unmarked : (ss : StepsTree) (rest : List Token) → are_unmarked (spell_steps ss rest) ≡ true → AreStepsUnmarked ss × (are_unmarked rest ≡ true)
  steps_unmarked stop rest h = (tt, h)
  steps_unmarked (get f ss) rest h = steps_unmarked ss rest h
  steps_unmarked (call m xs ss) rest h =
      let a = args_unmarked xs (CloseParen ∷ spell_steps ss rest) h in
      let b = steps_unmarked ss rest a.1 in
      ((a.0, b.0), b.1)

  args_unmarked : (xs : ArgsTree) (rest : List Token) → are_unmarked (spell_args xs rest) ≡ true → AreUnmarked xs × (are_unmarked rest ≡ true)
  args_unmarked no_args rest h = (tt, h)
  args_unmarked (first_arg [] t more) rest h =
      let a = expr_unmarked t (spell_more_args more rest) h in
      let b = more_unmarked more rest a.1 in
      ((a.0, b.0), b.1)
  args_unmarked (first_arg (w ∷ ws) t more) rest h = a_mark h

  more_unmarked : (more : MoreArgsTree) (rest : List Token) → are_unmarked (spell_more_args more rest) ≡ true → AreMoreUnmarked more × (are_unmarked rest ≡ true)
  more_unmarked no_more rest h = (tt, h)
  more_unmarked (next_arg [] t more) rest h =
      let a = expr_unmarked t (spell_more_args more rest) h in
      let b = more_unmarked more rest a.1 in
      ((a.0, b.0), b.1)
  more_unmarked (next_arg (w ∷ ws) t more) rest h = a_mark h

pub is_unmarked : (x : ExprTree) (rest : List Token) → are_unmarked (spell_expr x rest) ≡ true → IsUnmarked x
is_unmarked x rest h = (expr_unmarked x rest h).0

-- tokens of that kind begin no mark
begins_none : (t : Token) (ts : List Token) → is_inner t ≡ true → are_unmarked (t ∷ ts) ≡ are_unmarked ts
begins_none At ts e = a_mark e
begins_none _ ts e = refl

pub inner_unmarked : (us ts : List Token) → are_inner us ≡ true → are_unmarked ts ≡ true → are_unmarked (us ++ ts) ≡ true
inner_unmarked [] ts h k = k
inner_unmarked (u ∷ us) ts h k =
    let p = and_parts (is_inner u) (are_inner us) h in
    begins_none u (us ++ ts) p.0 ∙ inner_unmarked us ts p.1 k

-- no `;` is among them
pub no_semicolon : (us : List Token) → are_inner (us ++ Semicolon ∷ []) ≡ true → ⊥
no_semicolon [] h = a_mark h
no_semicolon (u ∷ us) h = no_semicolon us (and_parts (is_inner u) (are_inner (us ++ Semicolon ∷ [])) h).1
