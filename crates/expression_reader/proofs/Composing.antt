-- The roles of a tree, and those that a run gives, are settled; and a tree's text and roles stand before any others.
use Rattle.std.proofs.Common.{◌≡◌, ℕ, ◌+◌, ◌≤◌, Bool, true, false, List, [], ◌∷◌, ◌++◌, length, refl, ◌∙◌, ap, arith}
use Rattle.std.proofs.lemmas.Bool.{and_from, le-leb}
use Rattle.cfj_model.specs.declared.signed.Signed.{Signed}
use Rattle.cfj_model.specs.Marks.{spell_sign, spell_marks, roles_sign, roles_marks}
use Rattle.cfj_words.specs.Tokens.{Token, Id, NewWord, OpenParen, CloseParen, Comma, Dot, At}
use Rattle.cfj_model.specs.Roles.{Role, casts, node, opens, other_token, used_name, mark_name, are_settled}
use Rattle.cfj_model.specs.ExpressionGrammar.{ExprTree, cast, chain, StartTree, variable, this_word, made, bracket, StepsTree, stop, get, call, ArgsTree, no_args, first_arg, MoreArgsTree, no_more, next_arg, spell_expr, spell_start, spell_steps, spell_args, spell_more_args, roles_expr, roles_start, roles_steps, roles_args, roles_more_args}

-- ---- a longer text

sign_before : (off : Bool) (us rest : List Token) → spell_sign off us ++ rest ≡ spell_sign off (us ++ rest)
sign_before false us rest = refl
sign_before true us rest = refl

marks_before : (ms : List Signed) (us rest : List Token) → spell_marks ms us ++ rest ≡ spell_marks ms (us ++ rest)
marks_before [] us rest = refl
marks_before (m ∷ ms) us rest =
    ap (λ w. At ∷ w) (sign_before m.off (Id m.name ∷ spell_marks ms us) rest ∙ ap (λ w. spell_sign m.off (Id m.name ∷ w)) (marks_before ms us rest))

mutual
  -- What follows a tree's text may be longer.
  pub spell_before : (x : ExprTree) (us rest : List Token) → spell_expr x us ++ rest ≡ spell_expr x (us ++ rest)
  spell_before (cast c t) us rest = ap (λ w. OpenParen ∷ (Id c ∷ (CloseParen ∷ w))) (spell_before t us rest)
  spell_before (chain s ss) us rest = start_before s (spell_steps ss us) rest ∙ ap (spell_start s) (steps_before ss us rest)

  start_before : (s : StartTree) (us rest : List Token) → spell_start s us ++ rest ≡ spell_start s (us ++ rest)
  start_before (variable w) us rest = refl
  start_before this_word us rest = refl
  start_before (made c args) us rest = ap (λ w. NewWord ∷ (Id c ∷ (OpenParen ∷ w))) (args_before args (CloseParen ∷ us) rest)
  start_before (bracket t) us rest = ap (λ w. OpenParen ∷ w) (spell_before t (CloseParen ∷ us) rest)

  steps_before : (ss : StepsTree) (us rest : List Token) → spell_steps ss us ++ rest ≡ spell_steps ss (us ++ rest)
  steps_before stop us rest = refl
  steps_before (get f ss) us rest = ap (λ w. Dot ∷ (Id f ∷ w)) (steps_before ss us rest)
  steps_before (call m args ss) us rest = ap (λ w. Dot ∷ (Id m ∷ (OpenParen ∷ w))) (args_before args (CloseParen ∷ spell_steps ss us) rest ∙ ap (λ w. spell_args args (CloseParen ∷ w)) (steps_before ss us rest))

  args_before : (args : ArgsTree) (us rest : List Token) → spell_args args us ++ rest ≡ spell_args args (us ++ rest)
  args_before no_args us rest = refl
  args_before (first_arg ms t more) us rest = marks_before ms (spell_expr t (spell_more_args more us)) rest ∙ ap (spell_marks ms) (spell_before t (spell_more_args more us) rest ∙ ap (spell_expr t) (more_before more us rest))

  more_before : (more : MoreArgsTree) (us rest : List Token) → spell_more_args more us ++ rest ≡ spell_more_args more (us ++ rest)
  more_before no_more us rest = refl
  more_before (next_arg ms t more) us rest = ap (λ w. Comma ∷ w) (marks_before ms (spell_expr t (spell_more_args more us)) rest ∙ ap (spell_marks ms) (spell_before t (spell_more_args more us) rest ∙ ap (spell_expr t) (more_before more us rest)))

sign_role_before : (off : Bool) (us rest : List Role) → roles_sign off us ++ rest ≡ roles_sign off (us ++ rest)
sign_role_before false us rest = refl
sign_role_before true us rest = refl

mark_roles_before : (ms : List Signed) (us rest : List Role) → roles_marks ms us ++ rest ≡ roles_marks ms (us ++ rest)
mark_roles_before [] us rest = refl
mark_roles_before (m ∷ ms) us rest =
    ap (λ w. other_token ∷ w)
    (sign_role_before m.off (mark_name m.name ∷ roles_marks ms us) rest ∙ ap (λ w. roles_sign m.off (mark_name m.name ∷ w)) (mark_roles_before ms us rest))

mutual
  -- What follows a tree's roles may be longer.
  pub roles_before : (d : ℕ) (x : ExprTree) (us rest : List Role) → roles_expr d x us ++ rest ≡ roles_expr d x (us ++ rest)
  roles_before d (cast c t) us rest = ap (λ w. casts (d + 1) ∷ (used_name c ∷ (other_token ∷ w))) (roles_before (d + 1) t us rest)
  roles_before d (chain s ss) us rest = start_roles_before d s (roles_steps d ss us) rest ∙ ap (roles_start d s) (steps_roles_before d ss us rest)

  start_roles_before : (d : ℕ) (s : StartTree) (us rest : List Role) → roles_start d s us ++ rest ≡ roles_start d s (us ++ rest)
  start_roles_before d (variable w) us rest = refl
  start_roles_before d this_word us rest = refl
  start_roles_before d (made c args) us rest = ap (λ w. node ∷ (used_name c ∷ (opens (d + 1) ∷ w))) (args_roles_before (d + 1) args (other_token ∷ us) rest)
  start_roles_before d (bracket t) us rest = ap (λ w. opens (d + 1) ∷ w) (roles_before (d + 1) t (other_token ∷ us) rest)

  steps_roles_before : (d : ℕ) (ss : StepsTree) (us rest : List Role) → roles_steps d ss us ++ rest ≡ roles_steps d ss (us ++ rest)
  steps_roles_before d stop us rest = refl
  steps_roles_before d (get f ss) us rest = ap (λ w. node ∷ (used_name f ∷ w)) (steps_roles_before d ss us rest)
  steps_roles_before d (call m args ss) us rest = ap (λ w. node ∷ (used_name m ∷ (opens (d + 1) ∷ w))) (args_roles_before (d + 1) args (other_token ∷ roles_steps d ss us) rest ∙ ap (λ w. roles_args (d + 1) args (other_token ∷ w)) (steps_roles_before d ss us rest))

  args_roles_before : (d : ℕ) (args : ArgsTree) (us rest : List Role) → roles_args d args us ++ rest ≡ roles_args d args (us ++ rest)
  args_roles_before d no_args us rest = refl
  args_roles_before d (first_arg ms t more) us rest = mark_roles_before ms (roles_expr d t (roles_more_args d more us)) rest ∙ ap (roles_marks ms) (roles_before d t (roles_more_args d more us) rest ∙ ap (roles_expr d t) (more_roles_before d more us rest))

  more_roles_before : (d : ℕ) (more : MoreArgsTree) (us rest : List Role) → roles_more_args d more us ++ rest ≡ roles_more_args d more (us ++ rest)
  more_roles_before d no_more us rest = refl
  more_roles_before d (next_arg ms t more) us rest = ap (λ w. other_token ∷ w) (mark_roles_before ms (roles_expr d t (roles_more_args d more us)) rest ∙ ap (roles_marks ms) (roles_before d t (roles_more_args d more us) rest ∙ ap (roles_expr d t) (more_roles_before d more us rest)))

-- ---- as many roles as tokens

-- settled roles, and how many at least
record Fixed (rs : List Role) (least : ℕ) : Type 0 where
  settled : are_settled rs ≡ true
  enough : least ≤ length rs

-- roles before settled ones
mark_fixed : (off : Bool) (w : List ℕ) (rest : List Role) (k : ℕ) → Fixed rest k → Fixed (other_token ∷ roles_sign off (mark_name w ∷ rest)) k
mark_fixed false w rest k h = record { settled = h.settled; enough = omega (arith, h.enough) }
mark_fixed true w rest k h = record { settled = h.settled; enough = omega (arith, h.enough) }

marks_fixed : (ms : List Signed) (rest : List Role) (k : ℕ) → Fixed rest k → Fixed (roles_marks ms rest) k
marks_fixed [] rest k h = h
marks_fixed (m ∷ ms) rest k h = mark_fixed m.off m.name (roles_marks ms rest) k (marks_fixed ms rest k h)

mutual
  expr_fixed : (d : ℕ) (x : ExprTree) (rest : List Role) (k : ℕ) → Fixed rest k → Fixed (roles_expr d x rest) (k + 1)
  expr_fixed d (cast c t) rest k h =
      let g = expr_fixed (d + 1) t rest k h in
      record { settled = and_from _ _ (le-leb 3 (length (used_name c ∷ (other_token ∷ roles_expr (d + 1) t rest))) (omega (arith, g.enough))) g.settled; enough = omega (arith, g.enough) }
  expr_fixed d (chain s ss) rest k h = start_fixed d s (roles_steps d ss rest) k (steps_fixed d ss rest k h)

  start_fixed : (d : ℕ) (s : StartTree) (rest : List Role) (k : ℕ) → Fixed rest k → Fixed (roles_start d s rest) (k + 1)
  start_fixed d (variable w) rest k h = record { settled = h.settled; enough = omega (arith, h.enough) }
  start_fixed d this_word rest k h = record { settled = h.settled; enough = omega (arith, h.enough) }
  start_fixed d (made c args) rest k h =
      let g = args_fixed (d + 1) args (other_token ∷ rest) k (record { settled = h.settled; enough = omega (arith, h.enough) }) in
      record { settled = g.settled; enough = omega (arith, g.enough) }
  start_fixed d (bracket t) rest k h =
      let g = expr_fixed (d + 1) t (other_token ∷ rest) k (record { settled = h.settled; enough = omega (arith, h.enough) }) in
      record { settled = g.settled; enough = omega (arith, g.enough) }

  steps_fixed : (d : ℕ) (ss : StepsTree) (rest : List Role) (k : ℕ) → Fixed rest k → Fixed (roles_steps d ss rest) k
  steps_fixed d stop rest k h = h
  steps_fixed d (get f ss) rest k h = let g = steps_fixed d ss rest k h in record { settled = g.settled; enough = omega (arith, g.enough) }
  steps_fixed d (call m args ss) rest k h =
      let b = steps_fixed d ss rest k h in
      let g = args_fixed (d + 1) args (other_token ∷ roles_steps d ss rest) k (record { settled = b.settled; enough = omega (arith, b.enough) }) in
      record { settled = g.settled; enough = omega (arith, g.enough) }

  args_fixed : (d : ℕ) (args : ArgsTree) (rest : List Role) (k : ℕ) → Fixed rest k → Fixed (roles_args d args rest) k
  args_fixed d no_args rest k h = h
  args_fixed d (first_arg ms t more) rest k h =
      let g = expr_fixed d t (roles_more_args d more rest) k (more_fixed d more rest k h) in
      marks_fixed ms (roles_expr d t (roles_more_args d more rest)) k (record { settled = g.settled; enough = omega (arith, g.enough) })

  more_fixed : (d : ℕ) (more : MoreArgsTree) (rest : List Role) (k : ℕ) → Fixed rest k → Fixed (roles_more_args d more rest) k
  more_fixed d no_more rest k h = h
  more_fixed d (next_arg ms t more) rest k h =
      let g = expr_fixed d t (roles_more_args d more rest) k (more_fixed d more rest k h) in
      let b = marks_fixed ms (roles_expr d t (roles_more_args d more rest)) k (record { settled = g.settled; enough = omega (arith, g.enough) }) in
      record { settled = b.settled; enough = omega (arith, b.enough) }

-- The roles of a tree are settled, where those behind it are: each cast has three tokens behind it.
pub roles_settled : (d : ℕ) (x : ExprTree) (rest : List Role) → are_settled rest ≡ true → are_settled (roles_expr d x rest) ≡ true
roles_settled d x rest h = (expr_fixed d x rest 0 (record { settled = h; enough = omega arith })).settled
