-- What is read to the end is what a tree spells.
use Rattle.std.proofs.Common.{◌≡◌, ℕ, zero, suc, ◌+◌, ◌<◌, ◌≤◌, true, false, List, [], ◌∷◌, ◌++◌, length, refl, sym, ◌∙◌, ap, arith}
use Rattle.std.specs.Prelude.{codes}
use Rattle.cfj_model.specs.declared.expr.Arg.{Arg}
use Rattle.cfj_model.specs.declared.expr.Expr.{Expr}
use Rattle.cfj_model.specs.declared.expr.Expr.TheVariants as e
use Rattle.cfj_model.specs.declared.signed.Signed.{Signed}
use Rattle.cfj_logic.specs.Sides.{Sides}
use Rattle.cfj_model.specs.Coloring.{no_colors}
use Rattle.cfj_model.specs.Marks.{spell_marks, marked}
use Rattle.cfj_words.specs.Tokens.{Token, Id, NewWord, ThisWord, OpenParen, CloseParen, Comma, Dot, At, Bang, Semicolon}
use Rattle.cfj_model.specs.ExpressionGrammar.{ExprTree, cast, chain, variable, this_word, made, bracket, StepsTree, stop, get, call, ArgsTree, no_args, first_arg, MoreArgsTree, no_more, next_arg, spell_expr, spell_steps, spell_args, spell_more_args}
use Rattle.expression_reader.specs.declared.frame.Frame.{Frame}
use Rattle.expression_reader.specs.declared.frame.Frame.TheVariants.{InBracket, InCast, InArgs}
use Rattle.expression_reader.specs.declared.frame.Head.{Head}
use Rattle.expression_reader.specs.declared.frame.Head.TheVariants.{OfCall, OfNew}
use Rattle.expression_reader.specs.declared.mode.Mode.TheVariants.{Begin, FirstArg, InMarks, Paren, ParenName, ParenClosed, After, AfterDot, AfterNew}
use Rattle.expression_reader.specs.Machine.{State, at, start, applied, colored_arg, Run, run, is_read_whole}
use Rattle.expression_reader.proofs.Complete.{Ends, at_close, at_comma, at_semicolon, cast_ends, closed_ends}

-- these tokens lead from a state to the end of the expression
abbrev pub Accepts : List (List ℕ) → List Token → State → Type 0
Accepts fs ts s = is_read_whole (run fs ts s).0 ≡ true

-- the tokens begin with those of a tree
pub record ReadExpr (fs : List (List ℕ)) (ts : List Token) (frames : List Frame) : Type 0 where
  pub tree : ExprTree
  pub rest : List Token
  pub spelled : ts ≡ spell_expr tree rest
  pub ended : Ends rest
  pub shorter : length rest < length ts
  pub value : Expr
  pub slot : ℕ
  pub goes : Accepts fs rest (at frames (After value) slot)

record ReadSteps (fs : List (List ℕ)) (ts : List Token) (frames : List Frame) : Type 0 where
  steps : StepsTree
  rest : List Token
  spelled : ts ≡ spell_steps steps rest
  ended : Ends rest
  shorter : length rest ≤ length ts
  value : Expr
  slot : ℕ
  goes : Accepts fs rest (at frames (After value) slot)

record ReadArgs (fs : List (List ℕ)) (ts : List Token) (frames : List Frame) : Type 0 where
  args : ArgsTree
  rest : List Token
  spelled : ts ≡ spell_args args (CloseParen ∷ rest)
  shorter : length rest < length ts
  value : Expr
  slot : ℕ
  goes : Accepts fs rest (at frames (After value) slot)

-- an argument, its marks included, and those behind it
record ReadArg (fs : List (List ℕ)) (ts : List Token) (frames : List Frame) : Type 0 where
  marks : List Signed
  tree : ExprTree
  more : MoreArgsTree
  rest : List Token
  spelled : ts ≡ spell_marks marks (spell_expr tree (spell_more_args more (CloseParen ∷ rest)))
  shorter : length rest < length ts
  value : Expr
  slot : ℕ
  goes : Accepts fs rest (at frames (After value) slot)

record ReadMore (fs : List (List ℕ)) (ts : List Token) (frames : List Frame) : Type 0 where
  more : MoreArgsTree
  rest : List Token
  spelled : ts ≡ spell_more_args more (CloseParen ∷ rest)
  shorter : length rest < length ts
  value : Expr
  slot : ℕ
  goes : Accepts fs rest (at frames (After value) slot)

-- a machine that is stuck doesn't get there
pub never : {A : Type 0} → false ≡ true → A
never h = let no : ⊥ = cc h in absurd no

-- a bracket's text goes on with `)`, and then the chain goes on
record Closes (fs : List (List ℕ)) (ts : List Token) (frames : List Frame) (x : Expr) (n : ℕ) : Type 0 where
  rest : List Token
  is : ts ≡ CloseParen ∷ rest
  goes : Accepts fs rest (at frames (After x) n)

closes : (fs : List (List ℕ)) (ts : List Token) → Ends ts → (frames : List Frame) (x : Expr) (n : ℕ) → Accepts fs ts (at (InBracket ∷ frames) (After x) n) → Closes fs ts frames x n
unfolding run
closes fs _ (at_close ts) frames x n h = record { rest = ts; is = refl; goes = h }
closes fs _ (at_comma ts) frames x n h = never h
closes fs _ (at_semicolon ts) frames x n h = never h

cast_goes : (fs : List (List ℕ)) (ts : List Token) → Ends ts → (s : ℕ) (c : List ℕ) (frames : List Frame) (x : Expr) (n : ℕ) → Accepts fs ts (at (InCast s c ∷ frames) (After x) n) → Accepts fs ts (at frames (After (e.Cast s c x)) n)
cast_goes fs ts g s c frames x n h = ap (λ (p : Run). is_read_whole p.0) (sym (cast_ends fs ts g s c frames x n)) ∙ h

closed_goes : (fs : List (List ℕ)) (ts : List Token) → Ends ts → (w : List ℕ) (frames : List Frame) (n : ℕ) → Accepts fs ts (at frames (ParenClosed w) n) → Accepts fs ts (at frames (After (e.Var n w)) (n + 1))
closed_goes fs ts g w frames n h = ap (λ (p : Run). is_read_whole p.0) (sym (closed_ends fs ts g w frames n)) ∙ h

-- What is read of texts up to a length. Each piece of a longer text is read by these.
record Readers (fs : List (List ℕ)) (k : ℕ) : Type 0 where
  expr : (ts : List Token) → length ts ≤ k → (frames : List Frame) (n : ℕ) → Accepts fs ts (at frames Begin n) → ReadExpr fs ts frames
  steps : (ts : List Token) → length ts ≤ k → (frames : List Frame) (x : Expr) (n : ℕ) → Accepts fs ts (at frames (After x) n) → ReadSteps fs ts frames
  arg : (ts : List Token) → length ts ≤ k → (h : Head) (before : List Arg) (colors : Sides) (frames : List Frame) (n : ℕ) → Accepts fs ts (at frames (InMarks h before colors) n) → ReadArg fs ts frames
  more : (ts : List Token) → Ends ts → length ts ≤ k → (h : Head) (before : List Arg) (colors : Sides) (frames : List Frame) (x : Expr) (n : ℕ) → Accepts fs ts (at (InArgs h before colors ∷ frames) (After x) n) → ReadMore fs ts frames

-- an argument list that isn't empty
some_args : {fs : List (List ℕ)} {ts : List Token} {frames : List Frame} → ReadArg fs ts frames → ReadArgs fs ts frames
some_args a = record { args = first_arg a.marks a.tree a.more; rest = a.rest; spelled = a.spelled; shorter = a.shorter; value = a.value; slot = a.slot; goes = a.goes }

args_read : (fs : List (List ℕ)) (k : ℕ) (r : Readers fs k) (ts : List Token) → length ts ≤ k → (h : Head) (frames : List Frame) (n : ℕ) → Accepts fs ts (at frames (FirstArg h) n) → ReadArgs fs ts frames
unfolding run
args_read fs k r [] le h frames n g = never g
args_read fs k r (CloseParen ∷ ts) le h frames n g = record { args = no_args; rest = ts; spelled = refl; shorter = omega arith; value = applied h []; slot = n; goes = g }
args_read fs k r (At ∷ ts) le h frames n g = some_args (r.arg (At ∷ ts) le h [] no_colors frames n g)
args_read fs k r (Id w ∷ ts) le h frames n g = some_args (r.arg (Id w ∷ ts) le h [] no_colors frames n g)
args_read fs k r (ThisWord ∷ ts) le h frames n g = some_args (r.arg (ThisWord ∷ ts) le h [] no_colors frames n g)
args_read fs k r (NewWord ∷ ts) le h frames n g = some_args (r.arg (NewWord ∷ ts) le h [] no_colors frames n g)
args_read fs k r (OpenParen ∷ ts) le h frames n g = some_args (r.arg (OpenParen ∷ ts) le h [] no_colors frames n g)
args_read fs k r (_ ∷ ts) le h frames n g = never g

new_read : (fs : List (List ℕ)) (k : ℕ) (r : Readers fs k) (ts : List Token) → length ts ≤ k → (frames : List Frame) (n : ℕ) → Accepts fs ts (at frames AfterNew n) → ReadExpr fs (NewWord ∷ ts) frames
unfolding run
new_read fs k r [] le frames n h = never h
new_read fs k r (Id c ∷ []) le frames n h = never h
new_read fs k r (Id c ∷ (OpenParen ∷ ts)) le frames n h =
    let a = args_read fs k r ts (omega arith) (OfNew n c) frames (n + 1) h in
    let g = r.steps a.rest (omega (arith, a.shorter)) frames a.value a.slot a.goes in
    record {
      tree = chain (made c a.args) g.steps;
      rest = g.rest;
      spelled = ap (λ w. NewWord ∷ (Id c ∷ (OpenParen ∷ w))) a.spelled ∙ ap (λ w. NewWord ∷ (Id c ∷ (OpenParen ∷ spell_args a.args (CloseParen ∷ w)))) g.spelled;
      ended = g.ended;
      shorter = omega (arith, g.shorter, a.shorter);
      value = g.value;
      slot = g.slot;
      goes = g.goes;
    }
new_read fs k r (Id c ∷ (_ ∷ ts)) le frames n h = never h
new_read fs k r (_ ∷ ts) le frames n h = never h

bracket_read : (fs : List (List ℕ)) (k : ℕ) (r : Readers fs k) (ts : List Token) (frames : List Frame) → ReadExpr fs ts (InBracket ∷ frames) → length ts ≤ k + 1 → ReadExpr fs (OpenParen ∷ ts) frames
bracket_read fs k r ts frames a le =
    let c = closes fs a.rest a.ended frames a.value a.slot a.goes in
    let l : length a.rest ≡ suc (length c.rest) = ap length c.is in
    let g = r.steps c.rest (omega (arith, a.shorter)) frames a.value a.slot c.goes in
    record {
      tree = chain (bracket a.tree) g.steps;
      rest = g.rest;
      spelled = ap (λ w. OpenParen ∷ w) a.spelled ∙ ap (λ w. OpenParen ∷ spell_expr a.tree w) c.is ∙ ap (λ w. OpenParen ∷ spell_expr a.tree (CloseParen ∷ w)) g.spelled;
      ended = g.ended;
      shorter = omega (arith, g.shorter, a.shorter);
      value = g.value;
      slot = g.slot;
      goes = g.goes;
    }

cast_read : (fs : List (List ℕ)) (w : List ℕ) (ts : List Token) (frames : List Frame) (n : ℕ) → ReadExpr fs ts (InCast n w ∷ frames) → ReadExpr fs (OpenParen ∷ (Id w ∷ (CloseParen ∷ ts))) frames
cast_read fs w ts frames n a =
    record { tree = cast w a.tree; rest = a.rest; spelled = ap (λ v. OpenParen ∷ (Id w ∷ (CloseParen ∷ v))) a.spelled; ended = a.ended; shorter = omega (arith, a.shorter); value = e.Cast n w a.value; slot = a.slot; goes = cast_goes fs a.rest a.ended n w frames a.value a.slot a.goes }

-- a name in a bracket that isn't a cast's
named_read : (fs : List (List ℕ)) (w : List ℕ) (ts : List Token) (frames : List Frame) → ReadSteps fs ts frames → ReadExpr fs (OpenParen ∷ (Id w ∷ (CloseParen ∷ ts))) frames
named_read fs w ts frames g =
    record { tree = chain (bracket (chain (variable w) stop)) g.steps; rest = g.rest; spelled = ap (λ v. OpenParen ∷ (Id w ∷ (CloseParen ∷ v))) g.spelled; ended = g.ended; shorter = omega (arith, g.shorter); value = g.value; slot = g.slot; goes = g.goes }

closed_read : (fs : List (List ℕ)) (k : ℕ) (r : Readers fs k) (ts : List Token) → length ts ≤ k → (w : List ℕ) (frames : List Frame) (n : ℕ) → Accepts fs ts (at frames (ParenClosed w) n) → ReadExpr fs (OpenParen ∷ (Id w ∷ (CloseParen ∷ ts))) frames
unfolding run
closed_read fs k r [] le w frames n h = never h
closed_read fs k r (Id z ∷ ts) le w frames n h = cast_read fs w (Id z ∷ ts) frames n (r.expr (Id z ∷ ts) le (InCast n w ∷ frames) (n + 1) h)
closed_read fs k r (ThisWord ∷ ts) le w frames n h = cast_read fs w (ThisWord ∷ ts) frames n (r.expr (ThisWord ∷ ts) le (InCast n w ∷ frames) (n + 1) h)
closed_read fs k r (NewWord ∷ ts) le w frames n h = cast_read fs w (NewWord ∷ ts) frames n (r.expr (NewWord ∷ ts) le (InCast n w ∷ frames) (n + 1) h)
closed_read fs k r (OpenParen ∷ ts) le w frames n h = cast_read fs w (OpenParen ∷ ts) frames n (r.expr (OpenParen ∷ ts) le (InCast n w ∷ frames) (n + 1) h)
closed_read fs k r (Dot ∷ ts) le w frames n h = named_read fs w (Dot ∷ ts) frames (r.steps (Dot ∷ ts) le frames (e.Var n w) (n + 1) h)
closed_read fs k r (CloseParen ∷ ts) le w frames n h = named_read fs w (CloseParen ∷ ts) frames (r.steps (CloseParen ∷ ts) le frames (e.Var n w) (n + 1) (closed_goes fs (CloseParen ∷ ts) (at_close ts) w frames n h))
closed_read fs k r (Comma ∷ ts) le w frames n h = named_read fs w (Comma ∷ ts) frames (r.steps (Comma ∷ ts) le frames (e.Var n w) (n + 1) (closed_goes fs (Comma ∷ ts) (at_comma ts) w frames n h))
closed_read fs k r (Semicolon ∷ ts) le w frames n h = named_read fs w (Semicolon ∷ ts) frames (r.steps (Semicolon ∷ ts) le frames (e.Var n w) (n + 1) (closed_goes fs (Semicolon ∷ ts) (at_semicolon ts) w frames n h))
closed_read fs k r (_ ∷ ts) le w frames n h = never h

paren_name_read : (fs : List (List ℕ)) (k : ℕ) (r : Readers fs k) (ts : List Token) → length ts ≤ k → (w : List ℕ) (frames : List Frame) (n : ℕ) → Accepts fs ts (at frames (ParenName w) n) → ReadExpr fs (OpenParen ∷ (Id w ∷ ts)) frames
unfolding run
paren_name_read fs k r [] le w frames n h = never h
paren_name_read fs k r (Dot ∷ ts) le w frames n h =
    let g = r.steps (Dot ∷ ts) le (InBracket ∷ frames) (e.Var n w) (n + 1) h in
    bracket_read fs k r (Id w ∷ (Dot ∷ ts)) frames (record { tree = chain (variable w) g.steps; rest = g.rest; spelled = ap (λ v. Id w ∷ v) g.spelled; ended = g.ended; shorter = omega (arith, g.shorter); value = g.value; slot = g.slot; goes = g.goes }) (omega arith)
paren_name_read fs k r (CloseParen ∷ ts) le w frames n h = closed_read fs k r ts (omega arith) w frames n h
paren_name_read fs k r (_ ∷ ts) le w frames n h = never h

paren_read : (fs : List (List ℕ)) (k : ℕ) (r : Readers fs k) (ts : List Token) → length ts ≤ k → (frames : List Frame) (n : ℕ) → Accepts fs ts (at frames Paren n) → ReadExpr fs (OpenParen ∷ ts) frames
unfolding run
paren_read fs k r [] le frames n h = never h
paren_read fs k r (Id w ∷ ts) le frames n h = paren_name_read fs k r ts (omega arith) w frames n h
paren_read fs k r (ThisWord ∷ ts) le frames n h = bracket_read fs k r (ThisWord ∷ ts) frames (r.expr (ThisWord ∷ ts) le (InBracket ∷ frames) n h) (omega arith)
paren_read fs k r (NewWord ∷ ts) le frames n h = bracket_read fs k r (NewWord ∷ ts) frames (r.expr (NewWord ∷ ts) le (InBracket ∷ frames) n h) (omega arith)
paren_read fs k r (OpenParen ∷ ts) le frames n h = bracket_read fs k r (OpenParen ∷ ts) frames (r.expr (OpenParen ∷ ts) le (InBracket ∷ frames) n h) (omega arith)
paren_read fs k r (_ ∷ ts) le frames n h = never h

dot_read : (fs : List (List ℕ)) (k : ℕ) (r : Readers fs k) (ts : List Token) → length ts ≤ k → (frames : List Frame) (x : Expr) (n : ℕ) → Accepts fs ts (at frames (AfterDot x) n) → ReadSteps fs (Dot ∷ ts) frames
unfolding run
dot_read fs k r [] le frames x n h = never h
dot_read fs k r (Id f ∷ []) le frames x n h = never h
dot_read fs k r (Id f ∷ (OpenParen ∷ ts)) le frames x n h =
    let a = args_read fs k r ts (omega arith) (OfCall n x f) frames (n + 1) h in
    let g = r.steps a.rest (omega (arith, a.shorter)) frames a.value a.slot a.goes in
    record {
      steps = call f a.args g.steps;
      rest = g.rest;
      spelled = ap (λ w. Dot ∷ (Id f ∷ (OpenParen ∷ w))) a.spelled ∙ ap (λ w. Dot ∷ (Id f ∷ (OpenParen ∷ spell_args a.args (CloseParen ∷ w)))) g.spelled;
      ended = g.ended;
      shorter = omega (arith, g.shorter, a.shorter);
      value = g.value;
      slot = g.slot;
      goes = g.goes;
    }
dot_read fs k r (Id f ∷ (t ∷ ts)) le frames x n h =
    let g = r.steps (t ∷ ts) (omega arith) frames (e.Get n x f) (n + 1) h in
    record { steps = get f g.steps; rest = g.rest; spelled = ap (λ w. Dot ∷ (Id f ∷ w)) g.spelled; ended = g.ended; shorter = omega (arith, g.shorter); value = g.value; slot = g.slot; goes = g.goes }
dot_read fs k r (_ ∷ ts) le frames x n h = never h

expr_read : (fs : List (List ℕ)) (k : ℕ) (r : Readers fs k) (ts : List Token) → length ts ≤ suc k → (frames : List Frame) (n : ℕ) → Accepts fs ts (at frames Begin n) → ReadExpr fs ts frames
unfolding run
expr_read fs k r [] le frames n h = never h
expr_read fs k r (Id w ∷ ts) le frames n h =
    let g = r.steps ts (omega arith) frames (e.Var n w) (n + 1) h in
    record { tree = chain (variable w) g.steps; rest = g.rest; spelled = ap (λ v. Id w ∷ v) g.spelled; ended = g.ended; shorter = omega (arith, g.shorter); value = g.value; slot = g.slot; goes = g.goes }
expr_read fs k r (ThisWord ∷ ts) le frames n h =
    let g = r.steps ts (omega arith) frames (e.Var n (codes "this")) (n + 1) h in
    record { tree = chain this_word g.steps; rest = g.rest; spelled = ap (λ v. ThisWord ∷ v) g.spelled; ended = g.ended; shorter = omega (arith, g.shorter); value = g.value; slot = g.slot; goes = g.goes }
expr_read fs k r (NewWord ∷ ts) le frames n h = new_read fs k r ts (omega arith) frames n h
expr_read fs k r (OpenParen ∷ ts) le frames n h = paren_read fs k r ts (omega arith) frames n h
expr_read fs k r (_ ∷ ts) le frames n h = never h

steps_read : (fs : List (List ℕ)) (k : ℕ) (r : Readers fs k) (ts : List Token) → length ts ≤ suc k → (frames : List Frame) (x : Expr) (n : ℕ) → Accepts fs ts (at frames (After x) n) → ReadSteps fs ts frames
unfolding run
steps_read fs k r [] le frames x n h = never h
steps_read fs k r (Dot ∷ ts) le frames x n h = dot_read fs k r ts (omega arith) frames x n h
steps_read fs k r (CloseParen ∷ ts) le frames x n h = record { steps = stop; rest = CloseParen ∷ ts; spelled = refl; ended = at_close ts; shorter = omega arith; value = x; slot = n; goes = h }
steps_read fs k r (Comma ∷ ts) le frames x n h = record { steps = stop; rest = Comma ∷ ts; spelled = refl; ended = at_comma ts; shorter = omega arith; value = x; slot = n; goes = h }
steps_read fs k r (Semicolon ∷ ts) le frames x n h = record { steps = stop; rest = Semicolon ∷ ts; spelled = refl; ended = at_semicolon ts; shorter = omega arith; value = x; slot = n; goes = h }
steps_read fs k r (_ ∷ ts) le frames x n h = never h

-- an argument without marks, and those behind it
plain_arg : (fs : List (List ℕ)) (k : ℕ) (r : Readers fs k) (ts : List Token) → length ts ≤ suc k → (h : Head) (before : List Arg) (colors : Sides) (frames : List Frame) → ReadExpr fs ts (InArgs h before colors ∷ frames) → ReadArg fs ts frames
plain_arg fs k r ts le h before colors frames a =
    let m = r.more a.rest a.ended (omega (arith, a.shorter)) h before colors frames a.value a.slot a.goes in
    record { marks = []; tree = a.tree; more = m.more; rest = m.rest; spelled = a.spelled ∙ ap (spell_expr a.tree) m.spelled; shorter = omega (arith, a.shorter, m.shorter); value = m.value; slot = m.slot; goes = m.goes }

arg_read : (fs : List (List ℕ)) (k : ℕ) (r : Readers fs k) (ts : List Token) → length ts ≤ suc k → (h : Head) (before : List Arg) (colors : Sides) (frames : List Frame) (n : ℕ) → Accepts fs ts (at frames (InMarks h before colors) n) → ReadArg fs ts frames
unfolding run
arg_read fs k r [] le h before colors frames n g = never g
arg_read fs k r (At ∷ []) le h before colors frames n g = never g
arg_read fs k r (At ∷ (Id m ∷ ts)) le h before colors frames n g =
    let mark : Signed = record { off = false; name = m } in
    let a = r.arg ts (omega arith) h before (marked fs colors mark) frames n g in
    record { marks = mark ∷ a.marks; tree = a.tree; more = a.more; rest = a.rest; spelled = ap (λ w. At ∷ (Id m ∷ w)) a.spelled; shorter = omega (arith, a.shorter); value = a.value; slot = a.slot; goes = a.goes }
arg_read fs k r (At ∷ (Bang ∷ [])) le h before colors frames n g = never g
arg_read fs k r (At ∷ (Bang ∷ (Id m ∷ ts))) le h before colors frames n g =
    let mark : Signed = record { off = true; name = m } in
    let a = r.arg ts (omega arith) h before (marked fs colors mark) frames n g in
    record { marks = mark ∷ a.marks; tree = a.tree; more = a.more; rest = a.rest; spelled = ap (λ w. At ∷ (Bang ∷ (Id m ∷ w))) a.spelled; shorter = omega (arith, a.shorter); value = a.value; slot = a.slot; goes = a.goes }
arg_read fs k r (At ∷ (Bang ∷ (_ ∷ ts))) le h before colors frames n g = never g
arg_read fs k r (At ∷ (_ ∷ ts)) le h before colors frames n g = never g
arg_read fs k r (Id w ∷ ts) le h before colors frames n g = plain_arg fs k r (Id w ∷ ts) le h before colors frames (expr_read fs k r (Id w ∷ ts) le (InArgs h before colors ∷ frames) n g)
arg_read fs k r (ThisWord ∷ ts) le h before colors frames n g = plain_arg fs k r (ThisWord ∷ ts) le h before colors frames (expr_read fs k r (ThisWord ∷ ts) le (InArgs h before colors ∷ frames) n g)
arg_read fs k r (NewWord ∷ ts) le h before colors frames n g = plain_arg fs k r (NewWord ∷ ts) le h before colors frames (expr_read fs k r (NewWord ∷ ts) le (InArgs h before colors ∷ frames) n g)
arg_read fs k r (OpenParen ∷ ts) le h before colors frames n g = plain_arg fs k r (OpenParen ∷ ts) le h before colors frames (expr_read fs k r (OpenParen ∷ ts) le (InArgs h before colors ∷ frames) n g)
arg_read fs k r (_ ∷ ts) le h before colors frames n g = never g

more_read : (fs : List (List ℕ)) (k : ℕ) (r : Readers fs k) (ts : List Token) → Ends ts → length ts ≤ suc k → (h : Head) (before : List Arg) (colors : Sides) (frames : List Frame) (x : Expr) (n : ℕ) → Accepts fs ts (at (InArgs h before colors ∷ frames) (After x) n) → ReadMore fs ts frames
unfolding run
more_read fs k r _ (at_close ts) le h before colors frames x n g = record { more = no_more; rest = ts; spelled = refl; shorter = omega arith; value = applied h (before ++ colored_arg colors x ∷ []); slot = n; goes = g }
more_read fs k r _ (at_comma ts) le h before colors frames x n g =
    let a = r.arg ts (omega arith) h (before ++ colored_arg colors x ∷ []) no_colors frames n g in
    record { more = next_arg a.marks a.tree a.more; rest = a.rest; spelled = ap (λ w. Comma ∷ w) a.spelled; shorter = omega (arith, a.shorter); value = a.value; slot = a.slot; goes = a.goes }
more_read fs k r _ (at_semicolon ts) le h before colors frames x n g = never g

-- no text is empty
zero_expr : (fs : List (List ℕ)) (ts : List Token) → length ts ≤ 0 → (frames : List Frame) (n : ℕ) → Accepts fs ts (at frames Begin n) → ReadExpr fs ts frames
unfolding run
zero_expr fs [] le frames n h = never h
zero_expr fs (t ∷ ts) le frames n h = absurd (omega arith)

zero_steps : (fs : List (List ℕ)) (ts : List Token) → length ts ≤ 0 → (frames : List Frame) (x : Expr) (n : ℕ) → Accepts fs ts (at frames (After x) n) → ReadSteps fs ts frames
unfolding run
zero_steps fs [] le frames x n h = never h
zero_steps fs (t ∷ ts) le frames x n h = absurd (omega arith)

zero_arg : (fs : List (List ℕ)) (ts : List Token) → length ts ≤ 0 → (h : Head) (before : List Arg) (colors : Sides) (frames : List Frame) (n : ℕ) → Accepts fs ts (at frames (InMarks h before colors) n) → ReadArg fs ts frames
unfolding run
zero_arg fs [] le h before colors frames n g = never g
zero_arg fs (t ∷ ts) le h before colors frames n g = absurd (omega arith)

zero_more : (fs : List (List ℕ)) (ts : List Token) → Ends ts → length ts ≤ 0 → (h : Head) (before : List Arg) (colors : Sides) (frames : List Frame) (x : Expr) (n : ℕ) → Accepts fs ts (at (InArgs h before colors ∷ frames) (After x) n) → ReadMore fs ts frames
unfolding run
zero_more fs [] e le h before colors frames x n g = never g
zero_more fs (t ∷ ts) e le h before colors frames x n g = absurd (omega arith)

readers : (fs : List (List ℕ)) (k : ℕ) → Readers fs k
readers fs zero = record { expr = zero_expr fs; steps = zero_steps fs; arg = zero_arg fs; more = zero_more fs }
readers fs (suc k) =
    let r = readers fs k in
    record { expr = expr_read fs k r; steps = steps_read fs k r; arg = arg_read fs k r; more = more_read fs k r }

-- behind a whole expression by itself, only the token that ends it
only_end : (fs : List (List ℕ)) (ts : List Token) → Ends ts → (x : Expr) (n : ℕ) → Accepts fs ts (at [] (After x) n) → ts ≡ Semicolon ∷ []
unfolding run
only_end fs _ (at_close ts) x n h = never h
only_end fs _ (at_comma ts) x n h = never h
only_end fs _ (at_semicolon []) x n h = refl
only_end fs _ (at_semicolon (t ∷ ts)) x n h = never h

-- tokens that the machine reads to the end are the text of a tree
pub text_of : (fs : List (List ℕ)) (ts : List Token) → is_read_whole (run fs ts start).0 ≡ true → (x : ExprTree) × (ts ≡ spell_expr x (Semicolon ∷ []))
text_of fs ts h =
    let r = (readers fs (length ts)).expr ts (omega arith) [] 0 h in
    (r.tree, r.spelled ∙ ap (spell_expr r.tree) (only_end fs r.rest r.ended r.value r.slot r.goes))
