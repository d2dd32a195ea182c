-- The laws of the machine: what it has read begins a formula; where it is stuck, no formula goes on; and where a name can stand.
use Rattle.std.proofs.Common.{◌≡◌, ℕ, suc, Bool, true, false, List, [], ◌∷◌, ◌++◌, length, Option, Some, None, is_some, refl, sym, ◌∙◌, ap, arith}
use Rattle.cfj_logic.specs.declared.formula.Formula.{Formula}
use Rattle.cfj_logic.specs.declared.formula.Formula.TheVariants as f
use Rattle.cfj_model.specs.FormulaGrammar.{roles_iff, value_iff, feature_named}
use Rattle.cfj_model.specs.Roles.{Role, formula_node, other_token}
use Rattle.cfj_words.specs.Tokens.{Token, Id, TrueWord, FalseWord, OpenParen, CloseParen, Semicolon, Bang, Ampersand, Bar, Arrow, DoubleArrow}
use Rattle.formula_reader.specs.declared.frame.Frame.{Frame}
use Rattle.formula_reader.specs.declared.frame.Frame.TheVariants.{InAnd, InOr, InImplies, InIff, InNot, InBracket}
use Rattle.formula_reader.specs.declared.mode.Mode.{Mode}
use Rattle.formula_reader.specs.declared.mode.Mode.TheVariants.{Want, After, Done}
use Rattle.formula_reader.specs.Machine.{State, at, start, done, reduce, in_and, in_or, in_implies, in_iff, closed, ended, step_in, step, role, takes_name_in, takes_name, is_done_in, is_done, formula_in, formula_of, Run, with_role, then_run, run}
use Rattle.formula_reader.specs.Reading.{IsFormula, BeginsFormula}
use Rattle.formula_reader.proofs.Complete.{AfterIff, at_close, at_semicolon, behind_iff, behind_implies, behind_or, behind_and, AfterImplies, AfterUnary, not_done, and_done, or_done, implies_done, iff_done, formula_runs}
use Rattle.formula_reader.proofs.Sound.{is_whole, accepted_text}

-- a run over more tokens
abbrev pub on_from : List (List ℕ) → List Token → Run → Run
on_from features b (None, rs) = (None, rs)
on_from features b (Some s, rs) = ((run features b s).0, rs ++ (run features b s).1)

-- two lists of roles that begin one list, with the same length
same_front : (a b x y : List Role) → length a ≡ length b → a ++ x ≡ b ++ y → a ≡ b
same_front [] [] x y n e = refl
same_front [] (r ∷ b) x y n e = absurd (omega arith)
same_front (q ∷ a) [] x y n e = absurd (omega arith)
same_front (q ∷ a) (r ∷ b) x y n e =
    let first : q ≡ r = cc e in
    let others : a ++ x ≡ b ++ y = cc e in
    let rest : a ≡ b = same_front a b x y (omega arith) others in
    cc

-- states that are equal behind `Some`
pub some_same : (s n : State) → Some s ≡ Some n → s ≡ n
some_same s n e = cc

-- the text with which the open frames are closed
closing : List Frame → List Token
closing [] = Semicolon ∷ []
closing (InBracket ∷ fs) = CloseParen ∷ closing fs
closing (_ ∷ fs) = closing fs

closing_follows : (fs : List Frame) → AfterIff (closing fs)
unfolding closing
closing_follows [] = at_semicolon _
closing_follows (InBracket ∷ fs) = at_close _
closing_follows (InAnd x ∷ fs) = closing_follows fs
closing_follows (InOr x ∷ fs) = closing_follows fs
closing_follows (InImplies x ∷ fs) = closing_follows fs
closing_follows (InIff x ∷ fs) = closing_follows fs
closing_follows (InNot ∷ fs) = closing_follows fs

closing_follows_implies : (fs : List Frame) → AfterImplies (closing fs)
closing_follows_implies fs = behind_iff (closing_follows fs)

closing_follows_unary : (fs : List Frame) → AfterUnary (closing fs)
closing_follows_unary fs = behind_and (behind_or (behind_implies (closing_follows_implies fs)))

-- These tokens lead from the state to the end of a formula.
pub record Completes (features : List (List ℕ)) (s : State) : Type 0 where
  pub more : List Token
  pub value : Formula
  pub others : List Role
  pub goes : run features more s ≡ (Some (done value), others)

-- before the end there is no formula yet
pub no_formula : (s : State) → is_done s ≡ false → formula_of s ≡ None
no_formula s h = go s.mode h
  where
    go : (m : Mode) → is_done_in m ≡ false → formula_in m ≡ None
    go Want h = refl
    go (After y) h = refl
    go (Done y) h = absurd (let no : ⊥ = cc h in no)

-- and where there is one, it is read
pub formula_ends : (s : State) (y : Formula) → formula_of s ≡ Some y → is_done s ≡ true
formula_ends s y h = go s.mode h
  where
    go : (m : Mode) → formula_in m ≡ Some y → is_done_in m ≡ true
    go Want h = absurd (let no : ⊥ = cc h in no)
    go (After y) h = absurd (let no : ⊥ = cc h in no)
    go (Done y) h = refl

module _ (features : List (List ℕ)) where
  -- ---- a run in two parts

  -- a role before a run goes on with it
  role_on : (r : Role) (b : List Token) (p : Run) → with_role r (on_from features b p) ≡ on_from features b (with_role r p)
  role_on r b (None, rs) = refl
  role_on r b (Some s, rs) = refl

  -- the run of two lists of tokens is that of the first, gone on with
  pub run_append : (a b : List Token) (s : State) → run features (a ++ b) s ≡ on_from features b (run features a s)
  unfolding run
  run_append [] b s = refl
  run_append (t ∷ a) b s = go (λ n. run_append a b n) (role s t) (step features s t)
    where
      go : ((n : State) → run features (a ++ b) n ≡ on_from features b (run features a n)) → (r : Role) (o : Option State) → then_run (run features (a ++ b)) r o ≡ on_from features b (then_run (run features a) r o)
      go ih r None = refl
      go ih r (Some n) = ap (with_role r) (ih n) ∙ role_on r b (run features a n)

  -- one more token
  pub run_more : (front : List Token) (t : Token) (s n : State) (rs : List Role) → run features front start ≡ (Some s, rs) → step features s t ≡ Some n → run features (front ++ t ∷ []) start ≡ (Some n, rs ++ role s t ∷ [])
  unfolding run
  run_more front t s n rs h goes =
      run_append front (t ∷ []) start ∙ ap (on_from features (t ∷ [])) h ∙ ap (λ o. ((then_run (run features []) (role s t) o).0, rs ++ (then_run (run features []) (role s t) o).1)) goes

  -- a run that goes on gives each token a role
  pub run_long : (ts : List Token) (s n : State) → (run features ts s).0 ≡ Some n → length (run features ts s).1 ≡ length ts
  unfolding run
  run_long [] s n h = refl
  run_long (t ∷ ts) s n h = go (λ x e. run_long ts x n e) (role s t) (step features s t) h
    where
      go : ((x : State) → (run features ts x).0 ≡ Some n → length (run features ts x).1 ≡ length ts) → (r : Role) (o : Option State) → (then_run (run features ts) r o).0 ≡ Some n → length (then_run (run features ts) r o).1 ≡ suc (length ts)
      go ih r None h = absurd (let no : ⊥ = cc h in no)
      go ih r (Some x) h = ap suc (ih x h)

  -- ---- what is read to the end is a formula

  -- a state at which the formula is read holds the value of the tree whose text it is
  pub formula_read : (ts : List Token) (s : State) (rs : List Role) → run features ts start ≡ (Some s, rs) → is_done s ≡ true → IsFormula features ts rs s
  formula_read ts s rs h ends =
      let a = accepted_text features ts (ap (λ (p : Run). is_whole p.0) h ∙ ends) in
      let same : (Some s, rs) ≡ (Some (done (value_iff features a.0)), roles_iff 0 a.0 (other_token ∷ [])) = sym h ∙ ap (λ w. run features w start) a.1 ∙ formula_runs features a.0 in
      let reached : Some s ≡ Some (done (value_iff features a.0)) = ap (λ (p : Run). p.0) same in
      record { tree = a.0; spelled = a.1; in_roles = ap (λ (p : Run). p.1) same; valued = some_same s (done (value_iff features a.0)) reached }

  -- ---- every state can be completed

  -- behind an operand, by the closing text
  record Closes (fs : List Frame) (y : Formula) : Type 0 where
    value : Formula
    others : List Role
    goes : run features (closing fs) (at fs (After y)) ≡ (Some (done value), others)

  closes : (fs : List Frame) (y : Formula) → Closes fs y
  unfolding run closing
  closes [] y = record { value = y; others = other_token ∷ []; goes = refl }
  closes (InBracket ∷ fs) y = let c = closes fs y in record { value = c.value; others = other_token ∷ c.others; goes = ap (with_role other_token) c.goes }
  closes (InAnd x ∷ fs) y = let c = closes fs (f.And x y) in record { value = c.value; others = c.others; goes = and_done features (closing fs) (closing_follows_unary fs) fs x y ∙ c.goes }
  closes (InOr x ∷ fs) y = let c = closes fs (f.Or x y) in record { value = c.value; others = c.others; goes = or_done features (closing fs) (behind_or (behind_implies (closing_follows_implies fs))) fs x y ∙ c.goes }
  closes (InImplies x ∷ fs) y = let c = closes fs (f.Implies x y) in record { value = c.value; others = c.others; goes = implies_done features (closing fs) (closing_follows_implies fs) fs x y ∙ c.goes }
  closes (InIff x ∷ fs) y = let c = closes fs (f.Iff x y) in record { value = c.value; others = c.others; goes = iff_done features (closing fs) (closing_follows_implies fs) fs x y ∙ c.goes }
  closes (InNot ∷ fs) y = let c = closes fs (f.Not y) in record { value = c.value; others = c.others; goes = not_done features (closing fs) (closing_follows_unary fs) fs y ∙ c.goes }

  -- each state but the last has tokens that lead to the end
  pub completes : (s : State) → is_done s ≡ false → Completes features s
  unfolding run
  completes s h = go s.frames s.mode h
    where
      go : (fs : List Frame) (m : Mode) → is_done_in m ≡ false → Completes features (at fs m)
      go fs Want h = let c = closes fs f.True in record { more = TrueWord ∷ closing fs; value = c.value; others = formula_node ∷ c.others; goes = ap (with_role formula_node) c.goes }
      go fs (After y) h = let c = closes fs y in record { more = closing fs; value = c.value; others = c.others; goes = c.goes }
      go fs (Done y) h = absurd (let no : ⊥ = cc h in no)

  -- ---- what is read begins a formula

  -- tokens with which others run to the end of a formula begin it, in the first of its roles
  begins_of : (front more : List Token) (rs others : List Role) (n : State) → length rs ≡ length front → run features (front ++ more) start ≡ (Some n, rs ++ others) → is_done n ≡ true → BeginsFormula front rs
  begins_of front more rs others n each h ends =
      let t = formula_read (front ++ more) n (rs ++ others) h ends in
      record { tree = t.tree; more = more; others = others; text = sym t.spelled; in_roles = sym t.in_roles; each = each }

  -- what the machine has read begins a formula, in the roles that it gave
  pub reads_begin : (front : List Token) (s : State) (rs : List Role) → run features front start ≡ (Some s, rs) → BeginsFormula front rs
  unfolding run
  reads_begin front s rs h = go (is_done s) refl
    where
      each : length rs ≡ length front
      each = ap (λ (p : Run). length p.1) (sym h) ∙ run_long front start s (ap (λ (p : Run). p.0) h)

      go : (b : Bool) → is_done s ≡ b → BeginsFormula front rs
      go true e = begins_of front [] rs [] s each (run_append front [] start ∙ ap (on_from features []) h) e
      go false e =
          let c = completes s e in
          begins_of front c.more rs c.others (done c.value) each (run_append front c.more start ∙ ap (on_from features c.more) h ∙ ap (λ (p : Run). (p.0, rs ++ p.1)) c.goes) refl

  -- and what begins a formula is read, in its roles
  pub begins_reads : (front : List Token) (rs : List Role) → BeginsFormula front rs → (s : State) × (run features front start ≡ (Some s, rs))
  begins_reads front rs b = go (run features front start) refl (sym (run_append front b.more start) ∙ ap (λ w. run features w start) (sym b.text) ∙ formula_runs features b.tree)
    where
      go : (p : Run) → run features front start ≡ p → on_from features b.more p ≡ (Some (done (value_iff features b.tree)), roles_iff 0 b.tree (other_token ∷ [])) → (s : State) × (run features front start ≡ (Some s, rs))
      go (None, qs) e whole =
          let o : None ≡ Some (done (value_iff features b.tree)) = ap (λ (p : Run). p.0) whole in
          absurd (let no : ⊥ = cc o in no)
      go (Some s, qs) e whole =
          let long : length qs ≡ length front = ap (λ (p : Run). length p.1) (sym e) ∙ run_long front start s (ap (λ (p : Run). p.0) e) in
          let same : qs ≡ rs = same_front qs rs (run features b.more s).1 b.others (long ∙ sym b.each) (ap (λ (p : Run). p.1) whole ∙ b.in_roles) in
          (s, e ∙ ap (λ x. (Some s, x)) same)

  -- ---- where the machine is stuck, no formula goes on

  pub cannot_go_on : (front : List Token) (t : Token) (s : State) (rs qs : List Role) → run features front start ≡ (Some s, rs) → step features s t ≡ None → BeginsFormula (front ++ t ∷ []) qs → ⊥
  unfolding run
  cannot_go_on front t s rs qs h stuck b =
      let g = begins_reads (front ++ t ∷ []) qs b in
      let e : run features (front ++ t ∷ []) start ≡ on_from features (t ∷ []) (Some s, rs) = run_append front (t ∷ []) start ∙ ap (on_from features (t ∷ [])) h in
      let stops : run features (front ++ t ∷ []) start ≡ (None, rs ++ []) = e ∙ ap (λ o. ((then_run (run features []) (role s t) o).0, rs ++ (then_run (run features []) (role s t) o).1)) stuck in
      let o : None ≡ Some g.0 = ap (λ (p : Run). p.0) (sym stops ∙ g.1) in
      let no : ⊥ = cc o in no

  -- ---- the end

  -- behind the formula no token is taken
  pub done_stops : (s : State) (t : Token) → is_done s ≡ true → step features s t ≡ None
  done_stops s t h = go s.frames s.mode h
    where
      go : (fs : List Frame) (m : Mode) → is_done_in m ≡ true → step_in features fs m t ≡ None
      go fs Want h = absurd (let no : ⊥ = cc h in no)
      go fs (After y) h = absurd (let no : ⊥ = cc h in no)
      go fs (Done y) h = refl

  -- where frames are left, or none, a semicolon ends the formula or nothing
  end_is : (fs : List Frame) (y : Formula) (n : State) → ended fs y ≡ Some n → n ≡ done y
  end_is [] y n h = some_same n (done y) (sym h)
  end_is (fr ∷ fs) y n h = absurd (let no : ⊥ = cc h in no)

  -- a semicolon ends the formula
  pub semicolon_ends : (s n : State) → step features s Semicolon ≡ Some n → (y : Formula) × (n ≡ done y)
  semicolon_ends s n h = go s.frames s.mode h
    where
      go : (fs : List Frame) (m : Mode) → step_in features fs m Semicolon ≡ Some n → (y : Formula) × (n ≡ done y)
      go fs Want h = absurd (let no : ⊥ = cc h in no)
      go fs (After y) h = ((reduce 1 fs y).1, end_is (reduce 1 fs y).0 (reduce 1 fs y).1 n h)
      go fs (Done y) h = absurd (let no : ⊥ = cc h in no)

  -- a state at which the formula isn't read is none at which it is
  undone : {A : Type 0} (m n : State) → is_done m ≡ false → Some m ≡ Some n → is_done n ≡ true → A
  undone m n goes same h = absurd (let wrong : false ≡ true = sym goes ∙ ap is_done (some_same m n same) ∙ h in let impossible : ⊥ = cc wrong in impossible)

  -- a bracket that is closed doesn't end the formula
  closed_goes_on : {A : Type 0} (fs : List Frame) (y : Formula) (n : State) → closed fs y ≡ Some n → is_done n ≡ true → A
  closed_goes_on (InBracket ∷ fs) y n e h = undone (at fs (After y)) n refl e h
  closed_goes_on _ y n e h = absurd (let no : ⊥ = cc e in no)

  -- and nothing else does
  pub only_semicolon_ends : (s n : State) (t : Token) → step features s t ≡ Some n → is_done n ≡ true → t ≡ Semicolon
  only_semicolon_ends s n t e h = go s.frames s.mode t e
    where
      go : (fs : List Frame) (m : Mode) (t : Token) → step_in features fs m t ≡ Some n → t ≡ Semicolon
      go fs Want (Id w) e = undone (at fs (After (feature_named features w))) n refl e h
      go fs Want TrueWord e = undone (at fs (After f.True)) n refl e h
      go fs Want FalseWord e = undone (at fs (After f.False)) n refl e h
      go fs Want Bang e = undone (at (InNot ∷ fs) Want) n refl e h
      go fs Want OpenParen e = undone (at (InBracket ∷ fs) Want) n refl e h
      go fs (After y) Ampersand e = undone (in_and (reduce 4 fs y)) n refl e h
      go fs (After y) Bar e = undone (in_or (reduce 3 fs y)) n refl e h
      go fs (After y) Arrow e = undone (in_implies (reduce 3 fs y)) n refl e h
      go fs (After y) DoubleArrow e = undone (in_iff (reduce 1 fs y)) n refl e h
      go fs (After y) CloseParen e = closed_goes_on (reduce 1 fs y).0 (reduce 1 fs y).1 n e h
      go fs (After y) Semicolon e = refl
      go fs m t e = absurd (let no : ⊥ = cc e in no)

  -- ---- names

  -- where an identifier could stand, each can
  pub name_goes : (s : State) (w : List ℕ) → takes_name s ≡ true → step features s (Id w) ≡ Some (at s.frames (After (feature_named features w)))
  name_goes s w h = go s.frames s.mode h
    where
      go : (fs : List Frame) (m : Mode) → takes_name_in m ≡ true → step_in features fs m (Id w) ≡ Some (at fs (After (feature_named features w)))
      go fs Want h = refl
      go fs (After y) h = absurd (let no : ⊥ = cc h in no)
      go fs (Done y) h = absurd (let no : ⊥ = cc h in no)

  -- elsewhere none can
  pub name_stops : (s : State) (w : List ℕ) → takes_name s ≡ false → step features s (Id w) ≡ None
  name_stops s w h = go s.frames s.mode h
    where
      go : (fs : List Frame) (m : Mode) → takes_name_in m ≡ false → step_in features fs m (Id w) ≡ None
      go fs Want h = absurd (let no : ⊥ = cc h in no)
      go fs (After y) h = refl
      go fs (Done y) h = refl

  -- so one can where any can
  pub any_name : (s : State) (w : List ℕ) → is_some (step features s (Id w)) ≡ takes_name s
  any_name s w = go (takes_name s) refl
    where
      go : (b : Bool) → takes_name s ≡ b → is_some (step features s (Id w)) ≡ takes_name s
      go true e = ap is_some (name_goes s w e) ∙ sym e
      go false e = ap is_some (name_stops s w e) ∙ sym e
