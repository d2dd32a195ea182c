-- The text of each formula's tree is read: in the tree's roles, and to the tree's value.
use Rattle.std.proofs.Common.{◌≡◌, ℕ, ◌+◌, List, [], ◌∷◌, Some, refl, ◌∙◌, ap}
use Rattle.cfj_logic.specs.declared.formula.Formula.{Formula}
use Rattle.cfj_logic.specs.declared.formula.Formula.TheVariants as f
use Rattle.cfj_model.specs.FormulaGrammar.{IffTree, one_implies, iff, ImpliesTree, one_or, implies, OrTree, one_and, or, AndTree, one_unary, and, UnaryTree, negated, named, true_word, false_word, bracketed, spell_iff, spell_implies, spell_or, spell_and, spell_unary, roles_iff, roles_implies, roles_or, roles_and, roles_unary, value_iff, value_implies, value_or, value_and, value_unary}
use Rattle.cfj_model.specs.Roles.{Role, formula_node, formula_opens, opens, other_token}
use Rattle.cfj_words.specs.Tokens.{Token, CloseParen, Semicolon, Ampersand, Bar, Arrow, DoubleArrow}
use Rattle.formula_reader.specs.declared.frame.Frame.{Frame}
use Rattle.formula_reader.specs.declared.frame.Frame.TheVariants.{InAnd, InOr, InImplies, InIff, InNot, InBracket}
use Rattle.formula_reader.specs.declared.mode.Mode.TheVariants.{Want, After}
use Rattle.formula_reader.specs.Machine.{at, start, done, depth, Run, with_role, run}

-- The texts that may follow a tree: of an iff, of an implies, of an or, of an and, and of a unary.
pub data AfterIff : List Token → Type 0 where
  at_close : (ts : List Token) → AfterIff (CloseParen ∷ ts)
  at_semicolon : (ts : List Token) → AfterIff (Semicolon ∷ ts)

pub data AfterImplies : List Token → Type 0 where
  at_iff : (ts : List Token) → AfterImplies (DoubleArrow ∷ ts)
  behind_iff : {ts : List Token} → AfterIff ts → AfterImplies ts

pub data AfterOr : List Token → Type 0 where
  at_implies : (ts : List Token) → AfterOr (Arrow ∷ ts)
  behind_implies : {ts : List Token} → AfterImplies ts → AfterOr ts

pub data AfterAnd : List Token → Type 0 where
  at_or : (ts : List Token) → AfterAnd (Bar ∷ ts)
  behind_or : {ts : List Token} → AfterOr ts → AfterAnd ts

pub data AfterUnary : List Token → Type 0 where
  at_and : (ts : List Token) → AfterUnary (Ampersand ∷ ts)
  behind_and : {ts : List Token} → AfterAnd ts → AfterUnary ts

-- The frames within which a tree may stand: an iff, an implies, an or or the right side of `->`, and an and.
pub data WithinIff : List Frame → Type 0 where
  in_nothing : WithinIff []
  in_bracket : (fs : List Frame) → WithinIff (InBracket ∷ fs)

pub data WithinImplies : List Frame → Type 0 where
  in_iff : (x : Formula) {fs : List Frame} → WithinIff fs → WithinImplies (InIff x ∷ fs)
  as_iff : {fs : List Frame} → WithinIff fs → WithinImplies fs

pub data WithinOr : List Frame → Type 0 where
  in_implies : (x : Formula) {fs : List Frame} → WithinOr fs → WithinOr (InImplies x ∷ fs)
  as_implies : {fs : List Frame} → WithinImplies fs → WithinOr fs

pub data WithinAnd : List Frame → Type 0 where
  in_or : (x : Formula) {fs : List Frame} → WithinOr fs → WithinAnd (InOr x ∷ fs)
  as_or : {fs : List Frame} → WithinOr fs → WithinAnd fs

-- a run with more roles before its own
abbrev pub with_roles : (List Role → List Role) → Run → Run
with_roles g p = (p.0, g p.1)

module _ (features : List (List ℕ)) where
  -- ---- a frame is closed at what may follow what it holds

  pub not_done : (ts : List Token) → AfterUnary ts → (fs : List Frame) (y : Formula) → run features ts (at (InNot ∷ fs) (After y)) ≡ run features ts (at fs (After (f.Not y)))
  unfolding run
  not_done _ (at_and ts) fs y = refl
  not_done _ (behind_and (at_or ts)) fs y = refl
  not_done _ (behind_and (behind_or (at_implies ts))) fs y = refl
  not_done _ (behind_and (behind_or (behind_implies (at_iff ts)))) fs y = refl
  not_done _ (behind_and (behind_or (behind_implies (behind_iff (at_close ts))))) fs y = refl
  not_done _ (behind_and (behind_or (behind_implies (behind_iff (at_semicolon ts))))) fs y = refl

  pub and_done : (ts : List Token) → AfterUnary ts → (fs : List Frame) (x y : Formula) → run features ts (at (InAnd x ∷ fs) (After y)) ≡ run features ts (at fs (After (f.And x y)))
  unfolding run
  and_done _ (at_and ts) fs x y = refl
  and_done _ (behind_and (at_or ts)) fs x y = refl
  and_done _ (behind_and (behind_or (at_implies ts))) fs x y = refl
  and_done _ (behind_and (behind_or (behind_implies (at_iff ts)))) fs x y = refl
  and_done _ (behind_and (behind_or (behind_implies (behind_iff (at_close ts))))) fs x y = refl
  and_done _ (behind_and (behind_or (behind_implies (behind_iff (at_semicolon ts))))) fs x y = refl

  pub or_done : (ts : List Token) → AfterAnd ts → (fs : List Frame) (x y : Formula) → run features ts (at (InOr x ∷ fs) (After y)) ≡ run features ts (at fs (After (f.Or x y)))
  unfolding run
  or_done _ (at_or ts) fs x y = refl
  or_done _ (behind_or (at_implies ts)) fs x y = refl
  or_done _ (behind_or (behind_implies (at_iff ts))) fs x y = refl
  or_done _ (behind_or (behind_implies (behind_iff (at_close ts)))) fs x y = refl
  or_done _ (behind_or (behind_implies (behind_iff (at_semicolon ts)))) fs x y = refl

  pub implies_done : (ts : List Token) → AfterImplies ts → (fs : List Frame) (x y : Formula) → run features ts (at (InImplies x ∷ fs) (After y)) ≡ run features ts (at fs (After (f.Implies x y)))
  unfolding run
  implies_done _ (at_iff ts) fs x y = refl
  implies_done _ (behind_iff (at_close ts)) fs x y = refl
  implies_done _ (behind_iff (at_semicolon ts)) fs x y = refl

  pub iff_done : (ts : List Token) → AfterImplies ts → (fs : List Frame) (x y : Formula) → run features ts (at (InIff x ∷ fs) (After y)) ≡ run features ts (at fs (After (f.Iff x y)))
  unfolding run
  iff_done _ (at_iff ts) fs x y = refl
  iff_done _ (behind_iff (at_close ts)) fs x y = refl
  iff_done _ (behind_iff (at_semicolon ts)) fs x y = refl

  -- ---- a connective leaves the frames within which its left side stands

  pub and_waits : (fs : List Frame) → WithinAnd fs → (ts : List Token) (x : Formula) → run features (Ampersand ∷ ts) (at fs (After x)) ≡ with_role formula_node (run features ts (at (InAnd x ∷ fs) Want))
  unfolding run
  and_waits _ (in_or o w) ts x = refl
  and_waits _ (as_or (in_implies o w)) ts x = refl
  and_waits _ (as_or (as_implies (in_iff o w))) ts x = refl
  and_waits _ (as_or (as_implies (as_iff in_nothing))) ts x = refl
  and_waits _ (as_or (as_implies (as_iff (in_bracket fs)))) ts x = refl

  pub or_waits : (fs : List Frame) → WithinOr fs → (ts : List Token) (x : Formula) → run features (Bar ∷ ts) (at fs (After x)) ≡ with_role formula_node (run features ts (at (InOr x ∷ fs) Want))
  unfolding run
  or_waits _ (in_implies o w) ts x = refl
  or_waits _ (as_implies (in_iff o w)) ts x = refl
  or_waits _ (as_implies (as_iff in_nothing)) ts x = refl
  or_waits _ (as_implies (as_iff (in_bracket fs))) ts x = refl

  pub implies_waits : (fs : List Frame) → WithinOr fs → (ts : List Token) (x : Formula) → run features (Arrow ∷ ts) (at fs (After x)) ≡ with_role (formula_opens (depth fs + 1)) (run features ts (at (InImplies x ∷ fs) Want))
  unfolding run
  implies_waits _ (in_implies o w) ts x = refl
  implies_waits _ (as_implies (in_iff o w)) ts x = refl
  implies_waits _ (as_implies (as_iff in_nothing)) ts x = refl
  implies_waits _ (as_implies (as_iff (in_bracket fs))) ts x = refl

  pub iff_waits : (fs : List Frame) → WithinIff fs → (ts : List Token) (x : Formula) → run features (DoubleArrow ∷ ts) (at fs (After x)) ≡ with_role formula_node (run features ts (at (InIff x ∷ fs) Want))
  unfolding run
  iff_waits _ in_nothing ts x = refl
  iff_waits _ (in_bracket fs) ts x = refl

  -- ---- the text of a tree is read, before what may follow it

  mutual
    unfolding run

    pub unary_runs : (x : UnaryTree) (ts : List Token) → AfterUnary ts → (fs : List Frame) → run features (spell_unary x ts) (at fs Want) ≡ with_roles (roles_unary (depth fs) x) (run features ts (at fs (After (value_unary features x))))
    unary_runs (negated x) ts h fs = ap (with_role (formula_opens (depth fs + 1))) (unary_runs x ts h (InNot ∷ fs) ∙ ap (with_roles (roles_unary (depth fs + 1) x)) (not_done ts h fs (value_unary features x)))
    unary_runs (named w) ts h fs = refl
    unary_runs true_word ts h fs = refl
    unary_runs false_word ts h fs = refl
    unary_runs (bracketed x) ts h fs = ap (with_role (opens (depth fs + 1))) (iff_runs x (CloseParen ∷ ts) (behind_iff (at_close ts)) (InBracket ∷ fs) (in_bracket fs))

    pub and_runs : (x : AndTree) (ts : List Token) → AfterUnary ts → (fs : List Frame) → WithinAnd fs → run features (spell_and x ts) (at fs Want) ≡ with_roles (roles_and (depth fs) x) (run features ts (at fs (After (value_and features x))))
    and_runs (one_unary x) ts h fs w = unary_runs x ts h fs
    and_runs (and x y) ts h fs w =
        and_runs x (Ampersand ∷ spell_unary y ts) (at_and _) fs w
        ∙ ap (with_roles (roles_and (depth fs) x)) (and_waits fs w (spell_unary y ts) (value_and features x)
        ∙ ap (with_role formula_node) (unary_runs y ts h (InAnd (value_and features x) ∷ fs)
        ∙ ap (with_roles (roles_unary (depth fs) y)) (and_done ts h fs (value_and features x) (value_unary features y))))

    pub or_runs : (x : OrTree) (ts : List Token) → AfterAnd ts → (fs : List Frame) → WithinOr fs → run features (spell_or x ts) (at fs Want) ≡ with_roles (roles_or (depth fs) x) (run features ts (at fs (After (value_or features x))))
    or_runs (one_and x) ts h fs w = and_runs x ts (behind_and h) fs (as_or w)
    or_runs (or x y) ts h fs w =
        or_runs x (Bar ∷ spell_and y ts) (at_or _) fs w
        ∙ ap (with_roles (roles_or (depth fs) x)) (or_waits fs w (spell_and y ts) (value_or features x)
        ∙ ap (with_role formula_node) (and_runs y ts (behind_and h) (InOr (value_or features x) ∷ fs) (in_or (value_or features x) w)
        ∙ ap (with_roles (roles_and (depth fs) y)) (or_done ts h fs (value_or features x) (value_and features y))))

    pub implies_runs : (x : ImpliesTree) (ts : List Token) → AfterImplies ts → (fs : List Frame) → WithinOr fs → run features (spell_implies x ts) (at fs Want) ≡ with_roles (roles_implies (depth fs) x) (run features ts (at fs (After (value_implies features x))))
    implies_runs (one_or x) ts h fs w = or_runs x ts (behind_or (behind_implies h)) fs w
    implies_runs (implies x y) ts h fs w =
        or_runs x (Arrow ∷ spell_implies y ts) (behind_or (at_implies _)) fs w
        ∙ ap (with_roles (roles_or (depth fs) x)) (implies_waits fs w (spell_implies y ts) (value_or features x)
        ∙ ap (with_role (formula_opens (depth fs + 1))) (implies_runs y ts h (InImplies (value_or features x) ∷ fs) (in_implies (value_or features x) w)
        ∙ ap (with_roles (roles_implies (depth fs + 1) y)) (implies_done ts h fs (value_or features x) (value_implies features y))))

    pub iff_runs : (x : IffTree) (ts : List Token) → AfterImplies ts → (fs : List Frame) → WithinIff fs → run features (spell_iff x ts) (at fs Want) ≡ with_roles (roles_iff (depth fs) x) (run features ts (at fs (After (value_iff features x))))
    iff_runs (one_implies x) ts h fs w = implies_runs x ts h fs (as_implies (as_iff w))
    iff_runs (iff x y) ts h fs w =
        iff_runs x (DoubleArrow ∷ spell_implies y ts) (at_iff _) fs w
        ∙ ap (with_roles (roles_iff (depth fs) x)) (iff_waits fs w (spell_implies y ts) (value_iff features x)
        ∙ ap (with_role formula_node) (implies_runs y ts h (InIff (value_iff features x) ∷ fs) (as_implies (in_iff (value_iff features x) w))
        ∙ ap (with_roles (roles_implies (depth fs) y)) (iff_done ts h fs (value_iff features x) (value_implies features y))))

  -- a formula and its semicolon are read
  pub formula_runs : (x : IffTree) → run features (spell_iff x (Semicolon ∷ [])) start ≡ (Some (done (value_iff features x)), roles_iff 0 x (other_token ∷ []))
  unfolding run
  formula_runs x = iff_runs x (Semicolon ∷ []) (behind_iff (at_semicolon [])) [] in_nothing
