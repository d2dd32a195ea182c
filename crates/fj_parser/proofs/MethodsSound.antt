-- The methods of a class, read to their end; a body's expression is read by the expression reader's machine.
use Rattle.std.proofs.Common.{◌≡◌, ℕ, zero, suc, ◌<◌, Bool, true, false, List, [], ◌∷◌, ◌++◌, length, map, Option, Some, None, refl, sym, ◌∙◌, ap, subst, arith, append_assoc}
use Rattle.std.proofs.lemmas.List.{append-nil}
use Rattle.std.proofs.lemmas.Option.{same_Some}
use Rattle.cfj_model.specs.declared.signed.Signed.{Signed}
use Rattle.cfj_model.specs.Coloring.{no_colors}
use Rattle.cfj_model.specs.declared.class.Method.{Method}
use Rattle.cfj_model.specs.declared.expr.Expr.{Expr}
use Rattle.cfj_words.specs.Tokens.{Token, Id, ReturnWord, OpenBrace, CloseBrace, OpenParen, Semicolon, At, Bang}
use Rattle.cfj_model.specs.ExpressionGrammar.{ExprTree, spell_expr, value_expr}
use Rattle.cfj_model.specs.Grammar.{Declared, MethodTree, spell_method, value_param, value_method, numbered}
use Rattle.cfj_model.specs.Marks.{in_order, spell_mark, marked, colored}
use Rattle.expression_reader.specs.Machine as expression
use Rattle.expression_reader.specs.declared.mode.Mode as expression_mode
use Rattle.expression_reader.specs.declared.mode.Mode.TheVariants as reading
use Rattle.expression_reader.proofs.Law.{ends_once}
use Rattle.expression_reader.proofs.Complete as expression_complete
use Rattle.expression_reader.proofs.Sound as expression_sound
use Rattle.fj_machine.specs.declared.mode.Owner.TheVariants as owner
use Rattle.fj_machine.specs.declared.mode.Node.TheVariants as node
use Rattle.fj_machine.specs.declared.mode.Mode.TheVariants.{AfterMark, InParams, InMethods, InExpression, AfterBody}
use Rattle.fj_machine.specs.Machine.{unnamed, State, with_class, with_method, after_expression, in_expression, emitted, run}
use Rattle.fj_machine.specs.Readers.{then_run, run_of}
use Rattle.fj_parser.proofs.Complete.{after_params, in_methods, with_a_method}
use Rattle.fj_parser.proofs.Expressions.{in_body, expression_text}
use Rattle.fj_parser.proofs.ListsSound.{sign_longer, is_whole, Accepts, Stops, never, Read, Fixed, params_text, Params, params_read}

-- ---- expr ";"

-- Some of the tokens are an expression's, with its semicolon; what follows is accepted behind it.
pub record ReadExpression (ts : List Token) (s : State) (e : expression.State) : Type 0 where
  pub us : List Token
  pub rest : List Token
  pub last : expression.State
  pub value : Expr
  pub split : ts ≡ us ++ rest
  pub shorter : length rest < length ts
  pub ran : (expression.run s.features us e).0 ≡ Some last
  pub whole : expression.expression last ≡ Some value
  pub goes : Accepts rest (with_method s value)

-- the last token of an expression
ends_expression : (t : Token) (ts : List Token) (s : State) (e n : expression.State) (x : Expr) → expression.step s.features e t ≡ Some n → expression.expression n ≡ Some x → Accepts ts (with_method s x) → ReadExpression (t ∷ ts) s e
unfolding expression.run
ends_expression t ts s e n x goes whole h =
    record {
      us = t ∷ [];
      rest = ts;
      last = n;
      value = x;
      split = refl;
      shorter = omega arith;
      ran = ap (λ o. (expression.then_run (expression.run s.features []) (expression.emitted e t) o).0) goes;
      whole = whole;
      goes = h;
    }

-- one more token of an expression
more_of_expression : (t : Token) (ts : List Token) (s : State) (e n : expression.State) → expression.step s.features e t ≡ Some n → ReadExpression ts s n → ReadExpression (t ∷ ts) s e
unfolding expression.run
more_of_expression t ts s e n goes r =
    record {
      us = t ∷ r.us;
      rest = r.rest;
      last = r.last;
      value = r.value;
      split = ap (λ u. t ∷ u) r.split;
      shorter = omega (arith, r.shorter);
      ran = ap (λ o. (expression.then_run (expression.run s.features r.us) (expression.emitted e t) o).0) goes ∙ r.ran;
      whole = r.whole;
      goes = r.goes;
    }

-- an expression and its semicolon
pub expression_read : (ts : List Token) (s : State) (e : expression.State) → Accepts ts (in_body s e) → ReadExpression ts s e
unfolding run_of
expression_read [] s e h = never h
expression_read (t ∷ ts) s e h = go (λ n g. expression_read ts s n g) (expression.step s.features e t) refl h
  where
    go : ((n : expression.State) → Accepts ts (in_body s n) → ReadExpression ts s n) → (o : Option expression.State) → expression.step s.features e t ≡ o → Stops (then_run (run ts) (emitted (in_body s e) t) (in_expression (in_body s e) o)) → ReadExpression (t ∷ ts) s e
    go ih None goes h = never h
    go ih (Some n) goes h = by (expression.expression n) refl h
      where
        by : (q : Option Expr) → expression.expression n ≡ q → Accepts ts (after_expression (in_body s e) n q) → ReadExpression (t ∷ ts) s e
        by None open_ g = more_of_expression t ts s e n goes (ih n g)
        by (Some x) whole g = ends_expression t ts s e n x goes whole g

-- an expression behind which no token goes on isn't read
pub read_goes : (ts : List Token) (s : State) (e : expression.State) → Accepts ts (in_body s e) → expression.is_done e ≡ false
unfolding run_of
read_goes [] s e h = never h
read_goes (t ∷ ts) s e h = by (expression.is_done e) refl
  where
    by : (b : Bool) → expression.is_done e ≡ b → expression.is_done e ≡ false
    by false g = g
    by true g = never (sym (ap (λ o. is_whole (then_run (run ts) (emitted (in_body s e) t) (in_expression (in_body s e) o)).0) (ends_once s.features e t g)) ∙ h)

-- an expression with a value is whole
pub whole_done : (e : expression.State) (x : Expr) → expression.expression e ≡ Some x → expression.is_done e ≡ true
whole_done e x h = go e.mode h
  where
    go : (m : expression_mode.Mode) → expression.expression_in m ≡ Some x → expression.is_done_mode m ≡ true
    go (reading.Done y) h = refl
    go _ h = absurd (let no : ⊥ = cc h in no)

-- the text of a body's expression, and its semicolon
abbrev body_text : ExprTree → List Token → List Token
body_text x rest = spell_expr x (Semicolon ∷ rest)

-- what it is read as
abbrev Body : List Token → State → Type 0
Body ts s = Read ExprTree body_text (λ x. with_method s (value_expr s.features 0 x).0) ts

-- the tokens of an expression are those of a tree, and its value is the tree's
body_read : (ts : List Token) (s : State) → Accepts ts (in_body s expression.start) → Body ts s
body_read ts s h = of_tree (expression_sound.text_of s.features r.us (ap expression.is_read_whole r.ran ∙ whole_done r.last r.value r.whole))
  where
    r : ReadExpression ts s expression.start
    r = expression_read ts s expression.start h

    of_tree : (x : ExprTree) × (r.us ≡ spell_expr x (Semicolon ∷ [])) → Body ts s
    of_tree (x, is) =
        let ended : Some r.last ≡ Some (expression.done (value_expr s.features 0 x).0) = sym r.ran ∙ ap (λ u. (expression.run s.features u expression.start).0) is ∙ ap (λ (p : expression.Run). p.0) (expression_complete.text_runs s.features x) in
        let value : Some r.value ≡ Some (value_expr s.features 0 x).0 = sym r.whole ∙ ap expression.expression (same_Some r.last (expression.done (value_expr s.features 0 x).0) ended) in
        record {
          part = x;
          rest = r.rest;
          spelled = r.split ∙ ap (λ u. u ++ r.rest) is ∙ sym (expression_text x r.rest);
          shorter = r.shorter;
          goes = subst (λ y. Accepts r.rest (with_method s y)) (same_Some r.value (value_expr s.features 0 x).0 value) r.goes;
        }

-- ---- method

-- a method with the colours in hand
abbrev colored_method : State → MethodTree → State
colored_method s m = in_methods (record s { methods = s.methods ++ record (value_method s.features m) { colors = colored s.features s.colors m.marks } ∷ [] })

-- what it is read as
abbrev ReadMethod : List Token → State → Type 0
ReadMethod ts s = Read MethodTree spell_method (colored_method s) ts

-- what opens the body, up to the expression
abbrev Opening : List Token → State → Type 0
Opening ts s = Fixed (λ rest. OpenBrace ∷ (ReturnWord ∷ rest)) (record s { mode = InExpression; colors = no_colors; of = unnamed }) ts

opening_read : (ts : List Token) (s : State) → Accepts ts (after_params owner.Method s) → Opening ts s
unfolding run_of
opening_read (OpenBrace ∷ (ReturnWord ∷ ts)) s h = record { rest = ts; spelled = refl; shorter = omega arith; goes = h }
opening_read _ s h = never h

-- the brace behind the body
abbrev Brace : List Token → State → Type 0
Brace ts s = Fixed (λ rest. CloseBrace ∷ rest) (record s { mode = InMethods }) ts

brace_read : (ts : List Token) (s : State) → Accepts ts (record s { mode = AfterBody }) → Brace ts s
unfolding run_of
brace_read (CloseBrace ∷ ts) s h = record { rest = ts; spelled = refl; shorter = omega arith; goes = h }
brace_read _ s h = never h

-- the marks in hand, a type and a name are a method's
abbrev with_words : State → List ℕ → List ℕ → State
with_words s result name = record (in_methods s) { method_colors = s.colors; result_type = result; method = name }

-- and these parameters
abbrev with_params : State → List ℕ → List ℕ → List Declared → State
with_params s result name ds = record (with_words s result name) { params = numbered (value_param s.features) 0 ds }

-- a method of its parts
method_of : (a b : List ℕ) (ts : List Token) (s : State) (p : Params owner.Method ts (with_words s a b)) (o : Opening p.rest (with_params s a b p.part)) (x : Body o.rest (with_params s a b p.part)) → Brace x.rest (with_method (with_params s a b p.part) (value_expr s.features 0 x.part).0) → ReadMethod (Id a ∷ (Id b ∷ (OpenParen ∷ ts))) s
method_of a b ts s p o x e =
    record {
      part = record { marks = []; result = a; name = b; params = p.part; body = x.part };
      rest = e.rest;
      spelled = ap (λ w. Id a ∷ (Id b ∷ (OpenParen ∷ w))) (p.spelled ∙ ap (params_text p.part) (o.spelled ∙ ap (λ w. OpenBrace ∷ (ReturnWord ∷ w)) (x.spelled ∙ ap (body_text x.part) e.spelled)));
      shorter = omega (arith, p.shorter, o.shorter, x.shorter, e.shorter);
      goes = e.goes;
    }

-- a method behind its name and the bracket
words_read : (k : ℕ) (a b : List ℕ) (ts : List Token) → length ts < k → (s : State) → Accepts ts (record (with_words s a b) { mode = InParams owner.Method }) → ReadMethod (Id a ∷ (Id b ∷ (OpenParen ∷ ts))) s
words_read k a b ts le s h =
    let p = params_read owner.Method k ts le (with_words s a b) h in
    let n : State = with_params s a b p.part in
    let o = opening_read p.rest n p.goes in
    let x = body_read o.rest n o.goes in
    method_of a b ts s p o x (brace_read x.rest (with_method n (value_expr s.features 0 x.part).0) x.goes)

-- one more mark of a method
mark_method : (m : Signed) (ts : List Token) (s : State) → ReadMethod ts (record s { colors = marked s.features s.colors m }) → ReadMethod (spell_mark m ts) s
mark_method m ts s r =
    record {
      part = record { marks = m ∷ r.part.marks; result = r.part.result; name = r.part.name; params = r.part.params; body = r.part.body };
      rest = r.rest;
      spelled = ap (spell_mark m) r.spelled;
      shorter = omega (arith, r.shorter, sign_longer m.off m.name ts);
      goes = r.goes;
    }

-- a method behind marks
marked_method_read : (k : ℕ) (ts : List Token) → length ts < k → (s : State) → Accepts ts (record (in_methods s) { mode = AfterMark node.Method; colors = s.colors }) → ReadMethod ts s
unfolding run_of
marked_method_read k (At ∷ (Id word ∷ ts)) le s h =
    let m : Signed = record { off = false; name = word } in
    mark_method m ts s (marked_method_read k ts (omega arith) (record s { colors = marked s.features s.colors m }) h)
marked_method_read k (At ∷ (Bang ∷ (Id word ∷ ts))) le s h =
    let m : Signed = record { off = true; name = word } in
    mark_method m ts s (marked_method_read k ts (omega arith) (record s { colors = marked s.features s.colors m }) h)
marked_method_read k (Id a ∷ (Id b ∷ (OpenParen ∷ ts))) le s h = words_read k a b ts (omega arith) s h
marked_method_read k _ le s h = never h

-- ---- {method} "}"

-- their text, and the brace
abbrev pub methods_text : List MethodTree → List Token → List Token
methods_text ms rest = in_order spell_method ms (CloseBrace ∷ rest)

-- the state behind these methods, and the brace
abbrev behind_methods : State → List Method → State
behind_methods s ms = with_class (in_methods (record s { methods = ms }))

-- what they are read as
abbrev pub Methods : List Token → State → Type 0
Methods ts s = Read (List MethodTree) methods_text (λ ms. behind_methods s (s.methods ++ map (value_method s.features) ms)) ts

-- a method and more
methods_of : (ts : List Token) (s : State) (d : ReadMethod ts (record s { colors = no_colors })) → Methods d.rest (with_a_method s d.part) → Methods ts s
methods_of ts s d m =
    record {
      part = d.part ∷ m.part;
      rest = m.rest;
      spelled = d.spelled ∙ ap (spell_method d.part) m.spelled;
      shorter = omega (arith, d.shorter, m.shorter);
      goes = subst (λ ms. Accepts m.rest (behind_methods s ms)) (append_assoc s.methods (value_method s.features d.part ∷ []) (map (value_method s.features) m.part)) m.goes;
    }

-- {method}, and the brace
pub methods_read : (k : ℕ) (ts : List Token) → length ts < k → (s : State) → Accepts ts (in_methods s) → Methods ts s
unfolding run_of
methods_read zero ts le s h = absurd (omega arith)
methods_read (suc k) (CloseBrace ∷ ts) le s h = record { part = []; rest = ts; spelled = refl; shorter = omega arith; goes = subst (λ ms. Accepts ts (behind_methods s ms)) (sym (append-nil s.methods)) h }
methods_read (suc k) (At ∷ (Id w ∷ ts)) le s h =
    let m : Signed = record { off = false; name = w } in
    let d = mark_method m ts (record s { colors = no_colors }) (marked_method_read (suc k) ts (omega arith) (record s { colors = marked s.features no_colors m }) h) in
    methods_of (spell_mark m ts) s d (methods_read k d.rest (omega (arith, d.shorter)) (with_a_method s d.part) d.goes)
methods_read (suc k) (At ∷ (Bang ∷ (Id w ∷ ts))) le s h =
    let m : Signed = record { off = true; name = w } in
    let d = mark_method m ts (record s { colors = no_colors }) (marked_method_read (suc k) ts (omega arith) (record s { colors = marked s.features no_colors m }) h) in
    methods_of (spell_mark m ts) s d (methods_read k d.rest (omega (arith, d.shorter)) (with_a_method s d.part) d.goes)
methods_read (suc k) (Id a ∷ (Id b ∷ (OpenParen ∷ ts))) le s h =
    let d = words_read (suc k) a b ts (omega arith) (record s { colors = no_colors }) h in
    methods_of (Id a ∷ (Id b ∷ (OpenParen ∷ ts))) s d (methods_read k d.rest (omega (arith, d.shorter)) (with_a_method s d.part) d.goes)
methods_read (suc k) _ le s h = never h
