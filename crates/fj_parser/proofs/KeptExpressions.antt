-- An expression without marks stands for the same over any features, and is a body that a project of any features keeps.
use Rattle.std.proofs.Common.{◌≡◌, ℕ, ◌+◌, true, List, [], ◌∷◌, ◌++◌, replicate, refl, sym, ap, subst, ◌∙◌, arith}
use Rattle.std.proofs.lemmas.List.{length-replicate}
use Rattle.cfj_model.specs.declared.expr.Arg.{Arg}
use Rattle.cfj_model.specs.declared.expr.Expr.{Expr}
use Rattle.cfj_model.specs.declared.expr.Expr.TheVariants as e
use Rattle.cfj_model.specs.ExpressionGrammar.{ExprTree, cast, chain, StartTree, variable, this_word, made, bracket, StepsTree, stop, get, call, ArgsTree, no_args, first_arg, MoreArgsTree, no_more, next_arg, Numbered, spell_expr, roles_expr, value_expr, value_start, value_steps, value_args, value_more_args}
use Rattle.cfj_model.specs.Coloring.{Palette, no_colors}
use Rattle.cfj_model.specs.declared.feature_model.Format.{Format}
use Rattle.cfj_model.specs.declared.feature_model.Format.TheVariants.{One, Two}
use Rattle.cfj_model.proofs.FormatTwo.{body_still}
use Rattle.cfj_model.specs.ProductLines.{is_body}
use Rattle.cfj_model.specs.Roles.{nothing, AreWithin}
use Rattle.fj_symbols.specs.Views.{are_read}
use Rattle.expression_reader.proofs.Kept.{body_kept}
use Rattle.expression_reader.proofs.KnownColors.{palette_over}
use Rattle.cfj_model.specs.PartLanguages.{IsUnmarked, IsStartUnmarked, AreStepsUnmarked, AreUnmarked, AreMoreUnmarked}

-- an argument without marks
abbrev plain_arg : Expr → Arg
plain_arg x = record { colors = no_colors; expr = x }

module _ (features : List (List ℕ)) where
  mutual
    expr_same : (n : ℕ) (t : ExprTree) → IsUnmarked t → value_expr features n t ≡ value_expr [] n t
    expr_same n (cast c t) u = ap (λ (v : Numbered Expr). (e.Cast n c v.0, v.1)) (expr_same (n + 1) t u)
    expr_same n (chain s ss) u =
        ap (λ (v : Numbered Expr). value_steps features v.1 v.0 ss) (start_same n s u.0)
        ∙ steps_same (value_start [] n s).1 (value_start [] n s).0 ss u.1

    start_same : (n : ℕ) (s : StartTree) → IsStartUnmarked s → value_start features n s ≡ value_start [] n s
    start_same n (variable w) u = refl
    start_same n this_word u = refl
    start_same n (made c xs) u = ap (λ (v : Numbered (List Arg)). (e.New n c v.0, v.1)) (args_same (n + 1) xs u)
    start_same n (bracket t) u = expr_same n t u

    steps_same : (n : ℕ) (on : Expr) (ss : StepsTree) → AreStepsUnmarked ss → value_steps features n on ss ≡ value_steps [] n on ss
    steps_same n on stop u = refl
    steps_same n on (get f ss) u = steps_same (n + 1) (e.Get n on f) ss u
    steps_same n on (call m xs ss) u =
        ap (λ (v : Numbered (List Arg)). value_steps features v.1 (e.Call n on m v.0) ss) (args_same (n + 1) xs u.0)
        ∙ steps_same (value_args [] (n + 1) xs).1 (e.Call n on m (value_args [] (n + 1) xs).0) ss u.1

    args_same : (n : ℕ) (xs : ArgsTree) → AreUnmarked xs → value_args features n xs ≡ value_args [] n xs
    args_same n no_args u = refl
    args_same n (first_arg [] t ts) u =
        ap (λ (v : Numbered Expr). value_more_args features v.1 (plain_arg v.0 ∷ []) ts) (expr_same n t u.0)
        ∙ more_same (value_expr [] n t).1 (plain_arg (value_expr [] n t).0 ∷ []) ts u.1
    args_same n (first_arg (w ∷ ws) t ts) u = absurd u

    more_same : (n : ℕ) (done : List Arg) (ts : MoreArgsTree) → AreMoreUnmarked ts → value_more_args features n done ts ≡ value_more_args [] n done ts
    more_same n done no_more u = refl
    more_same n done (next_arg [] t ts) u =
        ap (λ (v : Numbered Expr). value_more_args features v.1 (done ++ plain_arg v.0 ∷ []) ts) (expr_same n t u.0)
        ∙ more_same (value_expr [] n t).1 (done ++ plain_arg (value_expr [] n t).0 ∷ []) ts u.1
    more_same n done (next_arg (w ∷ ws) t ts) u = absurd u

  -- over these features it is a body that is kept
  body_over : (x : ExprTree) → IsUnmarked x → AreWithin nothing (roles_expr 0 x []) → are_read (spell_expr x []) ≡ true → is_body (palette_over One features) (value_expr [] 0 x).0 ≡ true
  body_over x u w r = subst (λ (v : Numbered Expr). is_body (palette_over One features) v.0 ≡ true) (expr_same 0 x u) (body_kept features nothing x [] [] refl (omega arith) w r).is

-- and over as many as there may be, in either format
pub kept_expression : (x : ExprTree) → IsUnmarked x → AreWithin nothing (roles_expr 0 x []) → are_read (spell_expr x []) ≡ true → (p : Palette) → is_body p (value_expr [] 0 x).0 ≡ true
kept_expression x u w r p = by p.format refl
  where
    over : is_body (record { features = p.features; format = One }) (value_expr [] 0 x).0 ≡ true
    over =
        subst (λ m. is_body (record { features = m; format = One }) (value_expr [] 0 x).0 ≡ true) (length-replicate p.features [])
        (body_over (replicate p.features []) x u w r)

    by : (f : Format) → p.format ≡ f → is_body p (value_expr [] 0 x).0 ≡ true
    by One e = subst (λ f. is_body (record { features = p.features; format = f }) (value_expr [] 0 x).0 ≡ true) (sym e) over
    by Two e =
        subst (λ f. is_body (record { features = p.features; format = f }) (value_expr [] 0 x).0 ≡ true) (sym e)
        (body_still (record { features = p.features; format = One }) (value_expr [] 0 x).0 over)
