-- What the machine reads to its end is the text of a tree: one reader for each production, which finds the tree.
use Rattle.std.proofs.Common.{◌≡◌, ℕ, zero, suc, ◌<◌, ◌≤◌, Bool, true, false, List, [], ◌∷◌, length, Option, Some, None, refl, ◌∙◌, ap, subst, arith}
use Rattle.cfj_logic.specs.declared.formula.Formula.{Formula}
use Rattle.cfj_model.specs.FormulaGrammar.{IffTree, one_implies, iff, ImpliesTree, one_or, implies, OrTree, one_and, or, AndTree, one_unary, and, UnaryTree, negated, named, true_word, false_word, bracketed, spell_iff, spell_implies, spell_or, spell_and, spell_unary, value_iff, value_implies, value_or, value_and, value_unary}
use Rattle.cfj_words.specs.Tokens.{Token, Id, TrueWord, FalseWord, OpenParen, CloseParen, Semicolon, Bang, Ampersand, Bar, Arrow, DoubleArrow}
use Rattle.formula_reader.specs.declared.frame.Frame.{Frame}
use Rattle.formula_reader.specs.declared.frame.Frame.TheVariants.{InAnd, InOr, InImplies, InIff, InNot, InBracket}
use Rattle.formula_reader.specs.declared.mode.Mode.TheVariants.{Want, After, Done}
use Rattle.formula_reader.specs.Machine.{State, at, start, is_done, Run, run}
use Rattle.formula_reader.proofs.Complete.{AfterIff, at_close, at_semicolon, AfterImplies, at_iff, behind_iff, AfterOr, at_implies, behind_implies, AfterAnd, at_or, behind_or, AfterUnary, at_and, behind_and, WithinIff, in_nothing, in_bracket, in_iff, as_iff, WithinOr, in_implies, as_implies, WithinAnd, in_or, as_or, not_done, and_done, or_done, implies_done, iff_done, and_waits, or_waits, implies_waits, iff_waits}

-- a formula is read
abbrev pub is_whole : Option State → Bool
is_whole None = false
is_whole (Some s) = is_done s

-- a run to the end of a formula
abbrev pub Ends : Run → Type 0
Ends p = is_whole p.0 ≡ true

-- the tokens lead from this state to such an end
abbrev pub Accepts : List (List ℕ) → List Token → State → Type 0
Accepts features ts s = Ends (run features ts s)

-- no formula ends here
never : {A : Type 0} → false ≡ true → A
never h = absurd (let no : ⊥ = cc h in no)

-- The tokens begin with the text of a tree, and what may follow it is accepted from the state behind it.
record Read (features : List (List ℕ)) (X : Type 0) (text : X → List Token → List Token) (value : X → Formula) (Follows : List Token → Type 0) (fs : List Frame) (ts : List Token) : Type 0 where
  tree : X
  rest : List Token
  spelled : ts ≡ text tree rest
  shorter : length rest < length ts
  follows : Follows rest
  goes : Accepts features rest (at fs (After (value tree)))

-- A tree has been read already, and is the left end of this one.
record ReadOn (features : List (List ℕ)) (X : Type 0) (text : X → List Token → List Token) (value : X → Formula) (Follows : List Token → Type 0) (fs : List Frame) (left : X) (ts : List Token) : Type 0 where
  tree : X
  rest : List Token
  spelled : text left ts ≡ text tree rest
  shorter : length rest ≤ length ts
  follows : Follows rest
  goes : Accepts features rest (at fs (After (value tree)))

module _ (features : List (List ℕ)) where
  abbrev ReadUnary : List Frame → List Token → Type 0
  ReadUnary = Read features UnaryTree spell_unary (value_unary features) AfterUnary

  abbrev ReadAnd : List Frame → List Token → Type 0
  ReadAnd = Read features AndTree spell_and (value_and features) AfterAnd

  abbrev ReadOr : List Frame → List Token → Type 0
  ReadOr = Read features OrTree spell_or (value_or features) AfterOr

  abbrev ReadImplies : List Frame → List Token → Type 0
  ReadImplies = Read features ImpliesTree spell_implies (value_implies features) AfterImplies

  abbrev ReadIff : List Frame → List Token → Type 0
  ReadIff = Read features IffTree spell_iff (value_iff features) AfterIff

  abbrev ReadAndOn : List Frame → AndTree → List Token → Type 0
  ReadAndOn = ReadOn features AndTree spell_and (value_and features) AfterAnd

  abbrev ReadOrOn : List Frame → OrTree → List Token → Type 0
  ReadOrOn = ReadOn features OrTree spell_or (value_or features) AfterOr

  abbrev ReadIffOn : List Frame → IffTree → List Token → Type 0
  ReadIffOn = ReadOn features IffTree spell_iff (value_iff features) AfterIff

  -- A tree with which one of a looser level begins, and how that one goes on.
  begun : {X Y : Type 0} {text : X → List Token → List Token} {value : X → Formula} {Follows : List Token → Type 0} {whole : Y → List Token → List Token} {total : Y → Formula} {Follows_whole : List Token → Type 0} {fs : List Frame} {ts : List Token} (u : Read features X text value Follows fs ts) (left : Y) → text u.tree u.rest ≡ whole left u.rest → ReadOn features Y whole total Follows_whole fs left u.rest → Read features Y whole total Follows_whole fs ts
  begun u left is m = record { tree = m.tree; rest = m.rest; spelled = u.spelled ∙ is ∙ m.spelled; shorter = omega (arith, u.shorter, m.shorter); follows = m.follows; goes = m.goes }

  -- A tree behind a connective, the left end that they make, and how it goes on.
  joined : {X Y : Type 0} {text : X → List Token → List Token} {value : X → Formula} {Follows : List Token → Type 0} {whole : Y → List Token → List Token} {total : Y → Formula} {Follows_whole : List Token → Type 0} {fs gs : List Frame} {ts : List Token} (t : Token) (u : Read features X text value Follows gs ts) (left both : Y) → ((us : List Token) → whole left (t ∷ text u.tree us) ≡ whole both us) → ReadOn features Y whole total Follows_whole fs both u.rest → ReadOn features Y whole total Follows_whole fs left (t ∷ ts)
  joined {whole = whole} t u left both is m = record { tree = m.tree; rest = m.rest; spelled = ap (λ v. whole left (t ∷ v)) u.spelled ∙ is u.rest ∙ m.spelled; shorter = omega (arith, u.shorter, m.shorter); follows = m.follows; goes = m.goes }

  -- What is accepted behind an operand may follow it.
  follows_operand : (ts : List Token) (fs : List Frame) (y : Formula) → Accepts features ts (at fs (After y)) → AfterUnary ts
  unfolding run
  follows_operand (Ampersand ∷ ts) fs y h = at_and ts
  follows_operand (Bar ∷ ts) fs y h = behind_and (at_or ts)
  follows_operand (Arrow ∷ ts) fs y h = behind_and (behind_or (at_implies ts))
  follows_operand (DoubleArrow ∷ ts) fs y h = behind_and (behind_or (behind_implies (at_iff ts)))
  follows_operand (CloseParen ∷ ts) fs y h = behind_and (behind_or (behind_implies (behind_iff (at_close ts))))
  follows_operand (Semicolon ∷ ts) fs y h = behind_and (behind_or (behind_implies (behind_iff (at_semicolon ts))))
  follows_operand _ fs y h = never h

  -- a bracket's text goes on with the bracket that closes it
  record Closes (fs : List Frame) (y : Formula) (ts : List Token) : Type 0 where
    rest : List Token
    is : ts ≡ CloseParen ∷ rest
    goes : Accepts features rest (at fs (After y))

  closes : (ts : List Token) → AfterIff ts → (fs : List Frame) (y : Formula) → Accepts features ts (at (InBracket ∷ fs) (After y)) → Closes fs y ts
  unfolding run
  closes _ (at_close ts) fs y h = record { rest = ts; is = refl; goes = h }
  closes _ (at_semicolon ts) fs y h = never h

  -- What is read of texts up to a length. Each part of a longer text is read by these.
  record Readers (k : ℕ) : Type 0 where
    unary : (ts : List Token) → length ts ≤ k → (fs : List Frame) → Accepts features ts (at fs Want) → ReadUnary fs ts
    and_level : (ts : List Token) → length ts ≤ k → (fs : List Frame) → WithinAnd fs → Accepts features ts (at fs Want) → ReadAnd fs ts
    and_on : (ts : List Token) → AfterUnary ts → length ts ≤ k → (fs : List Frame) → WithinAnd fs → (x : AndTree) → Accepts features ts (at fs (After (value_and features x))) → ReadAndOn fs x ts
    or_on : (ts : List Token) → AfterAnd ts → length ts ≤ k → (fs : List Frame) → WithinOr fs → (x : OrTree) → Accepts features ts (at fs (After (value_or features x))) → ReadOrOn fs x ts
    implies_level : (ts : List Token) → length ts ≤ k → (fs : List Frame) → WithinOr fs → Accepts features ts (at fs Want) → ReadImplies fs ts
    iff_on : (ts : List Token) → AfterImplies ts → length ts ≤ k → (fs : List Frame) → WithinIff fs → (x : IffTree) → Accepts features ts (at fs (After (value_iff features x))) → ReadIffOn fs x ts
    iff_level : (ts : List Token) → length ts ≤ k → (fs : List Frame) → WithinIff fs → Accepts features ts (at fs Want) → ReadIff fs ts

  module _ (k : ℕ) (r : Readers k) where
    -- an operand that is one token
    one_token : (t : Token) (x : UnaryTree) (ts : List Token) (fs : List Frame) → t ∷ ts ≡ spell_unary x ts → Accepts features ts (at fs (After (value_unary features x))) → ReadUnary fs (t ∷ ts)
    one_token t x ts fs is h = record { tree = x; rest = ts; spelled = is; shorter = omega arith; follows = follows_operand ts fs _ h; goes = h }

    negated_read : (ts : List Token) → length ts ≤ k → (fs : List Frame) → Accepts features ts (at (InNot ∷ fs) Want) → ReadUnary fs (Bang ∷ ts)
    negated_read ts le fs h =
        let u = r.unary ts le (InNot ∷ fs) h in
        record {
          tree = negated u.tree;
          rest = u.rest;
          spelled = ap (λ w. Bang ∷ w) u.spelled;
          shorter = omega (arith, u.shorter);
          follows = u.follows;
          goes = subst Ends (not_done features u.rest u.follows fs (value_unary features u.tree)) u.goes;
        }

    bracketed_read : (ts : List Token) → length ts ≤ k → (fs : List Frame) → Accepts features ts (at (InBracket ∷ fs) Want) → ReadUnary fs (OpenParen ∷ ts)
    bracketed_read ts le fs h =
        let i = r.iff_level ts le (InBracket ∷ fs) (in_bracket fs) h in
        let c = closes i.rest i.follows fs (value_iff features i.tree) i.goes in
        let l : length i.rest ≡ suc (length c.rest) = ap length c.is in
        record {
          tree = bracketed i.tree;
          rest = c.rest;
          spelled = ap (λ w. OpenParen ∷ w) (i.spelled ∙ ap (spell_iff i.tree) c.is);
          shorter = omega (arith, i.shorter);
          follows = follows_operand c.rest fs _ c.goes;
          goes = c.goes;
        }

    -- unary
    unary_read : (ts : List Token) → length ts ≤ suc k → (fs : List Frame) → Accepts features ts (at fs Want) → ReadUnary fs ts
    unfolding run
    unary_read (Id w ∷ ts) le fs h = one_token (Id w) (named w) ts fs refl h
    unary_read (TrueWord ∷ ts) le fs h = one_token TrueWord true_word ts fs refl h
    unary_read (FalseWord ∷ ts) le fs h = one_token FalseWord false_word ts fs refl h
    unary_read (Bang ∷ ts) le fs h = negated_read ts (omega arith) fs h
    unary_read (OpenParen ∷ ts) le fs h = bracketed_read ts (omega arith) fs h
    unary_read _ le fs h = never h

    -- and
    and_on_read : (ts : List Token) → AfterUnary ts → length ts ≤ suc k → (fs : List Frame) → WithinAnd fs → (x : AndTree) → Accepts features ts (at fs (After (value_and features x))) → ReadAndOn fs x ts
    and_on_read _ (behind_and a) le fs w x h = record { tree = x; rest = _; spelled = refl; shorter = omega arith; follows = a; goes = h }
    and_on_read _ (at_and ts) le fs w x h =
        let u = r.unary ts (omega arith) (InAnd (value_and features x) ∷ fs) (subst Ends (and_waits features fs w ts (value_and features x)) h) in
        let m = r.and_on u.rest u.follows (omega (arith, u.shorter)) fs w (and x u.tree) (subst Ends (and_done features u.rest u.follows fs (value_and features x) (value_unary features u.tree)) u.goes) in
        joined Ampersand u x (and x u.tree) (λ us. refl) m

    and_read : (ts : List Token) → length ts ≤ suc k → (fs : List Frame) → WithinAnd fs → Accepts features ts (at fs Want) → ReadAnd fs ts
    and_read ts le fs w h =
        let u = unary_read ts le fs h in
        let m = r.and_on u.rest u.follows (omega (arith, u.shorter)) fs w (one_unary u.tree) u.goes in
        begun u (one_unary u.tree) refl m

    -- or
    or_on_read : (ts : List Token) → AfterAnd ts → length ts ≤ suc k → (fs : List Frame) → WithinOr fs → (x : OrTree) → Accepts features ts (at fs (After (value_or features x))) → ReadOrOn fs x ts
    or_on_read _ (behind_or a) le fs w x h = record { tree = x; rest = _; spelled = refl; shorter = omega arith; follows = a; goes = h }
    or_on_read _ (at_or ts) le fs w x h =
        let u = r.and_level ts (omega arith) (InOr (value_or features x) ∷ fs) (in_or (value_or features x) w) (subst Ends (or_waits features fs w ts (value_or features x)) h) in
        let m = r.or_on u.rest u.follows (omega (arith, u.shorter)) fs w (or x u.tree) (subst Ends (or_done features u.rest u.follows fs (value_or features x) (value_and features u.tree)) u.goes) in
        joined Bar u x (or x u.tree) (λ us. refl) m

    or_read : (ts : List Token) → length ts ≤ suc k → (fs : List Frame) → WithinOr fs → Accepts features ts (at fs Want) → ReadOr fs ts
    or_read ts le fs w h =
        let u = and_read ts le fs (as_or w) h in
        let m = r.or_on u.rest u.follows (omega (arith, u.shorter)) fs w (one_and u.tree) u.goes in
        begun u (one_and u.tree) refl m

    -- imp: behind its left side
    implies_on_read : (x : OrTree) (ts : List Token) → AfterOr ts → length ts ≤ k → (fs : List Frame) → WithinOr fs → Accepts features ts (at fs (After (value_or features x))) → ReadOn features ImpliesTree spell_implies (value_implies features) AfterImplies fs (one_or x) ts
    implies_on_read x _ (behind_implies a) le fs w h = record { tree = one_or x; rest = _; spelled = refl; shorter = omega arith; follows = a; goes = h }
    implies_on_read x _ (at_implies ts) le fs w h =
        let u = r.implies_level ts (omega arith) (InImplies (value_or features x) ∷ fs) (in_implies (value_or features x) w) (subst Ends (implies_waits features fs w ts (value_or features x)) h) in
        record {
          tree = implies x u.tree;
          rest = u.rest;
          spelled = ap (λ v. spell_or x (Arrow ∷ v)) u.spelled;
          shorter = omega (arith, u.shorter);
          follows = u.follows;
          goes = subst Ends (implies_done features u.rest u.follows fs (value_or features x) (value_implies features u.tree)) u.goes;
        }

    implies_read : (ts : List Token) → length ts ≤ suc k → (fs : List Frame) → WithinOr fs → Accepts features ts (at fs Want) → ReadImplies fs ts
    implies_read ts le fs w h =
        let u = or_read ts le fs w h in
        let m = implies_on_read u.tree u.rest u.follows (omega (arith, u.shorter)) fs w u.goes in
        begun u (one_or u.tree) refl m

    -- iff
    iff_on_read : (ts : List Token) → AfterImplies ts → length ts ≤ suc k → (fs : List Frame) → WithinIff fs → (x : IffTree) → Accepts features ts (at fs (After (value_iff features x))) → ReadIffOn fs x ts
    iff_on_read _ (behind_iff a) le fs w x h = record { tree = x; rest = _; spelled = refl; shorter = omega arith; follows = a; goes = h }
    iff_on_read _ (at_iff ts) le fs w x h =
        let u = r.implies_level ts (omega arith) (InIff (value_iff features x) ∷ fs) (as_implies (in_iff (value_iff features x) w)) (subst Ends (iff_waits features fs w ts (value_iff features x)) h) in
        let m = r.iff_on u.rest u.follows (omega (arith, u.shorter)) fs w (iff x u.tree) (subst Ends (iff_done features u.rest u.follows fs (value_iff features x) (value_implies features u.tree)) u.goes) in
        joined DoubleArrow u x (iff x u.tree) (λ us. refl) m

    iff_read : (ts : List Token) → length ts ≤ suc k → (fs : List Frame) → WithinIff fs → Accepts features ts (at fs Want) → ReadIff fs ts
    iff_read ts le fs w h =
        let u = implies_read ts le fs (as_implies (as_iff w)) h in
        let m = r.iff_on u.rest u.follows (omega (arith, u.shorter)) fs w (one_implies u.tree) u.goes in
        begun u (one_implies u.tree) refl m

  -- ---- no text is empty

  empty_wants : {A : Type 0} (ts : List Token) → length ts ≤ 0 → (fs : List Frame) → Accepts features ts (at fs Want) → A
  unfolding run
  empty_wants [] le fs h = never h
  empty_wants (t ∷ ts) le fs h = absurd (omega arith)

  empty_after : {A : Type 0} (ts : List Token) → length ts ≤ 0 → (fs : List Frame) (y : Formula) → Accepts features ts (at fs (After y)) → A
  unfolding run
  empty_after [] le fs y h = never h
  empty_after (t ∷ ts) le fs y h = absurd (omega arith)

  readers : (k : ℕ) → Readers k
  readers zero =
      record {
        unary = λ ts le fs h. empty_wants ts le fs h;
        and_level = λ ts le fs w h. empty_wants ts le fs h;
        and_on = λ ts a le fs w x h. empty_after ts le fs (value_and features x) h;
        or_on = λ ts a le fs w x h. empty_after ts le fs (value_or features x) h;
        implies_level = λ ts le fs w h. empty_wants ts le fs h;
        iff_on = λ ts a le fs w x h. empty_after ts le fs (value_iff features x) h;
        iff_level = λ ts le fs w h. empty_wants ts le fs h;
      }
  readers (suc k) =
      let r = readers k in
      record {
        unary = unary_read k r;
        and_level = and_read k r;
        and_on = and_on_read k r;
        or_on = or_on_read k r;
        implies_level = implies_read k r;
        iff_on = iff_on_read k r;
        iff_level = iff_read k r;
      }

  -- ---- a whole text

  -- Behind the formula there is nothing.
  nothing_behind : (ts : List Token) (fs : List Frame) (y : Formula) → Accepts features ts (at fs (Done y)) → ts ≡ []
  unfolding run
  nothing_behind [] fs y h = refl
  nothing_behind (t ∷ ts) fs y h = never h

  -- outside all brackets the formula ends with a semicolon
  semicolon_behind : (ts : List Token) → AfterIff ts → (y : Formula) → Accepts features ts (at [] (After y)) → ts ≡ Semicolon ∷ []
  unfolding run
  semicolon_behind _ (at_close ts) y h = never h
  semicolon_behind _ (at_semicolon ts) y h = ap (λ w. Semicolon ∷ w) (nothing_behind ts [] y h)

  -- tokens that are accepted are the text of a formula's tree, and a semicolon
  pub accepted_text : (ts : List Token) → Accepts features ts start → (x : IffTree) × (ts ≡ spell_iff x (Semicolon ∷ []))
  accepted_text ts h =
      let i = (readers (length ts)).iff_level ts (omega arith) [] in_nothing h in
      (i.tree, i.spelled ∙ ap (spell_iff i.tree) (semicolon_behind i.rest i.follows (value_iff features i.tree) i.goes))
