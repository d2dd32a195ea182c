-- The lists of a constructor and of a method's head, each read to its end: one reader for each production, which finds the tree.
use Rattle.std.proofs.Common.{◌≡◌, ℕ, zero, suc, ◌<◌, Bool, true, false, if◌then◌else◌, List, [], ◌∷◌, ◌++◌, length, Option, Some, None, refl, sym, ◌∙◌, ap, subst, arith}
use Rattle.std.proofs.lemmas.List.{append-nil}
use Rattle.std.proofs.lemmas.Slice.Eq.{bytes_eq-Decides}
use Rattle.std.specs.Str.{bytes_eq}
use Rattle.cfj_model.specs.declared.signed.Signed.{Signed}
use Rattle.cfj_model.specs.Coloring.{no_colors}
use Rattle.cfj_model.specs.declared.class.Sent.{Sent}
use Rattle.cfj_words.specs.Tokens.{Token, Id, ThisWord, CloseBrace, CloseParen, Semicolon, Comma, Dot, Equals, At, Bang}
use Rattle.cfj_model.specs.Grammar.{Declared, Named, spell_param, spell_sent, spell_assign, value_param, value_sent, numbered}
use Rattle.cfj_model.specs.Marks.{in_order, each_behind, separated, spell_sign, spell_mark, marked, colored}
use Rattle.cfj_model.specs.Roles.{Role, used_name}
use Rattle.fj_machine.specs.declared.mode.Owner.{Owner}
use Rattle.fj_machine.specs.declared.mode.Node.TheVariants as node
use Rattle.fj_machine.specs.declared.mode.Mode.{Mode}
use Rattle.fj_machine.specs.declared.mode.Mode.TheVariants.{Begin, Start, BetweenClasses, AfterMark, AfterThis, AfterSecondName, AtEnd}
use Rattle.fj_machine.specs.Machine.{unnamed, State, with_ctor, run}
use Rattle.fj_machine.specs.Readers.{Run, then_run, run_of}
use Rattle.fj_parser.proofs.Complete.{numbered_on, in_params, after_param_comma, after_param, after_params, in_sends, after_send_comma, after_send, after_sends, in_assigns, with_a_param, with_a_sent, with_an_assign}

-- a text may stop in this mode
abbrev pub is_whole_in : Mode → Bool
is_whole_in Begin = true
is_whole_in Start = true
is_whole_in BetweenClasses = true
is_whole_in AtEnd = true
is_whole_in _ = false

-- a text may stop at this state
abbrev pub is_whole : Option State → Bool
is_whole None = false
is_whole (Some s) = is_whole_in s.mode

-- a run that stops where a text may
abbrev pub Stops : Run State → Type 0
Stops p = is_whole p.0 ≡ true

-- the tokens lead from this state to such a stop
abbrev pub Accepts : List Token → State → Type 0
Accepts ts s = Stops (run ts s)

-- no text stops here
pub never : {A : Type 0} → false ≡ true → A
never h = absurd (let no : ⊥ = cc h in no)

-- where a test has to hold, it holds, and the run goes on
pub passed : (b : Bool) (f : State → Run State) (rs : List Role) (n : State) → Stops (then_run f rs (if b then Some n else None)) → (b ≡ true) × Stops (f n)
passed true f rs n h = (refl, h)
passed false f rs n h = never h

-- The tokens begin with the text of a part, and what follows it is accepted from the state after it.
pub record Read (X : Type 0) (spell_part : X → List Token → List Token) (after : X → State) (ts : List Token) : Type 0 where
  pub part : X
  pub rest : List Token
  pub spelled : ts ≡ spell_part part rest
  pub shorter : length rest < length ts
  pub goes : Accepts rest (after part)

-- The tokens begin with fixed ones.
pub record Fixed (front : List Token → List Token) (after : State) (ts : List Token) : Type 0 where
  pub rest : List Token
  pub spelled : ts ≡ front rest
  pub shorter : length rest < length ts
  pub goes : Accepts rest after

-- a list's text, with the bracket or the brace behind it
abbrev pub params_text : List Declared → List Token → List Token
params_text ds rest = separated Comma spell_param ds (CloseParen ∷ rest)

abbrev more_params_text : List Declared → List Token → List Token
more_params_text ds rest = each_behind Comma spell_param ds (CloseParen ∷ rest)

abbrev pub sends_text : List Named → List Token → List Token
sends_text ds rest = separated Comma spell_sent ds (CloseParen ∷ rest)

abbrev more_sends_text : List Named → List Token → List Token
more_sends_text ds rest = each_behind Comma spell_sent ds (CloseParen ∷ rest)

abbrev pub assigns_text : List Named → List Token → List Token
assigns_text ds rest = in_order spell_assign ds (CloseBrace ∷ rest)

-- a mark is longer than nothing
pub sign_longer : (off : Bool) (w : List ℕ) (ts : List Token) → length ts < length (spell_sign off (Id w ∷ ts))
sign_longer false w ts = omega arith
sign_longer true w ts = omega arith

-- ---- list(param)

-- a parameter with the colours in hand
abbrev colored_param : Owner → State → Declared → State
colored_param o s d = after_param o (record s { params = s.params ++ record { slot = length s.params; colors = colored s.features s.colors d.marks; of = d.of; name = d.name } ∷ [] })

-- one more mark of a parameter
mark_param : (o : Owner) (m : Signed) (ts : List Token) (s : State) → Read Declared spell_param (colored_param o (record s { colors = marked s.features s.colors m })) ts → Read Declared spell_param (colored_param o s) (spell_mark m ts)
mark_param o m ts s r =
    record {
      part = record { marks = m ∷ r.part.marks; of = r.part.of; name = r.part.name };
      rest = r.rest;
      spelled = ap (spell_mark m) r.spelled;
      shorter = omega (arith, r.shorter, sign_longer m.off m.name ts);
      goes = r.goes;
    }

-- a parameter behind marks
marked_param_read : (o : Owner) (ts : List Token) (s : State) → Accepts ts (record s { mode = AfterMark (node.Param o); of = unnamed }) → Read Declared spell_param (colored_param o s) ts
unfolding run_of
marked_param_read o (At ∷ (Id word ∷ ts)) s h =
    let m : Signed = record { off = false; name = word } in
    mark_param o m ts s (marked_param_read o ts (record s { colors = marked s.features s.colors m }) h)
marked_param_read o (At ∷ (Bang ∷ (Id word ∷ ts))) s h =
    let m : Signed = record { off = true; name = word } in
    mark_param o m ts s (marked_param_read o ts (record s { colors = marked s.features s.colors m }) h)
marked_param_read o (Id a ∷ (Id b ∷ ts)) s h = record { part = record { marks = []; of = a; name = b }; rest = ts; spelled = refl; shorter = omega arith; goes = h }
marked_param_read o _ s h = never h

-- a parameter, behind a comma or as the first
param_read : (o : Owner) (ts : List Token) (s : State) → Accepts ts (after_param_comma o s) → Read Declared spell_param (λ d. after_param o (with_a_param s d)) ts
unfolding run_of
param_read o (At ∷ (Id word ∷ ts)) s h =
    let m : Signed = record { off = false; name = word } in
    mark_param o m ts (record s { colors = no_colors }) (marked_param_read o ts (record s { colors = marked s.features no_colors m }) h)
param_read o (At ∷ (Bang ∷ (Id word ∷ ts))) s h =
    let m : Signed = record { off = true; name = word } in
    mark_param o m ts (record s { colors = no_colors }) (marked_param_read o ts (record s { colors = marked s.features no_colors m }) h)
param_read o (Id a ∷ (Id b ∷ ts)) s h = record { part = record { marks = []; of = a; name = b }; rest = ts; spelled = refl; shorter = omega arith; goes = h }
param_read o _ s h = never h

-- what the parameters after the first are read as
abbrev MoreParams : Owner → List Token → State → Type 0
MoreParams o ts s = Read (List Declared) more_params_text (λ ds. after_params o (record s { params = s.params ++ numbered (value_param s.features) (length s.params) ds })) ts

-- a comma, a parameter and more
more_params_of : (o : Owner) (ts : List Token) (s : State) (d : Read Declared spell_param (λ d. after_param o (with_a_param s d)) ts) → MoreParams o d.rest (with_a_param s d.part) → MoreParams o (Comma ∷ ts) s
more_params_of o ts s d m =
    let is : Comma ∷ ts ≡ more_params_text (d.part ∷ m.part) m.rest = ap (λ w. Comma ∷ w) (d.spelled ∙ ap (spell_param d.part) m.spelled) in
    record {
      part = d.part ∷ m.part;
      rest = m.rest;
      spelled = is;
      shorter = omega (arith, d.shorter, m.shorter);
      goes = subst (λ ps. Accepts m.rest (after_params o (record s { params = ps }))) (numbered_on (value_param s.features) s.params d.part m.part) m.goes;
    }

-- the parameters after the first, and the bracket
more_params_read : (o : Owner) (k : ℕ) (ts : List Token) → length ts < k → (s : State) → Accepts ts (after_param o s) → MoreParams o ts s
unfolding run_of
more_params_read o zero ts le s h = absurd (omega arith)
more_params_read o (suc k) (CloseParen ∷ ts) le s h = record { part = []; rest = ts; spelled = refl; shorter = omega arith; goes = subst (λ ps. Accepts ts (after_params o (record s { params = ps }))) (sym (append-nil s.params)) h }
more_params_read o (suc k) (Comma ∷ ts) le s h =
    let d = param_read o ts s h in
    more_params_of o ts s d (more_params_read o k d.rest (omega (arith, d.shorter)) (with_a_param s d.part) d.goes)
more_params_read o (suc k) _ le s h = never h

-- what list(param) is read as
abbrev pub Params : Owner → List Token → State → Type 0
Params o ts s = Read (List Declared) params_text (λ ds. after_params o (record s { params = numbered (value_param s.features) 0 ds })) ts

-- a parameter and more
params_of : (o : Owner) (ts : List Token) (s : State) (d : Read Declared spell_param (λ d. after_param o (with_a_param (record s { params = [] }) d)) ts) → MoreParams o d.rest (record s { params = value_param s.features 0 d.part ∷ [] }) → Params o ts s
params_of o ts s d m = record { part = d.part ∷ m.part; rest = m.rest; spelled = d.spelled ∙ ap (spell_param d.part) m.spelled; shorter = omega (arith, d.shorter, m.shorter); goes = m.goes }

-- list(param), and the bracket
pub params_read : (o : Owner) (k : ℕ) (ts : List Token) → length ts < k → (s : State) → Accepts ts (in_params o s) → Params o ts s
unfolding run_of
params_read o k (CloseParen ∷ ts) le s h = record { part = []; rest = ts; spelled = refl; shorter = omega arith; goes = h }
params_read o k (Id w ∷ ts) le s h =
    let d = param_read o (Id w ∷ ts) (record s { params = [] }) h in
    params_of o (Id w ∷ ts) s d (more_params_read o k d.rest (omega (arith, d.shorter)) (record s { params = value_param s.features 0 d.part ∷ [] }) d.goes)
params_read o k (At ∷ ts) le s h =
    let d = param_read o (At ∷ ts) (record s { params = [] }) h in
    params_of o (At ∷ ts) s d (more_params_read o k d.rest (omega (arith, d.shorter)) (record s { params = value_param s.features 0 d.part ∷ [] }) d.goes)
params_read o k _ le s h = never h

-- ---- list(sent)

-- a sent name with the colours in hand
abbrev colored_sent : State → Named → State
colored_sent s d = after_send (record s { sends = s.sends ++ record { slot = length s.sends; colors = colored s.features s.colors d.marks; name = d.name } ∷ [] })

-- one more mark of a sent name
mark_sent : (m : Signed) (ts : List Token) (s : State) → Read Named spell_sent (colored_sent (record s { colors = marked s.features s.colors m })) ts → Read Named spell_sent (colored_sent s) (spell_mark m ts)
mark_sent m ts s r =
    record {
      part = record { marks = m ∷ r.part.marks; name = r.part.name };
      rest = r.rest;
      spelled = ap (spell_mark m) r.spelled;
      shorter = omega (arith, r.shorter, sign_longer m.off m.name ts);
      goes = r.goes;
    }

-- a sent name behind marks
marked_sent_read : (ts : List Token) (s : State) → Accepts ts (record s { mode = AfterMark node.Send }) → Read Named spell_sent (colored_sent s) ts
unfolding run_of
marked_sent_read (At ∷ (Id word ∷ ts)) s h =
    let m : Signed = record { off = false; name = word } in
    mark_sent m ts s (marked_sent_read ts (record s { colors = marked s.features s.colors m }) h)
marked_sent_read (At ∷ (Bang ∷ (Id word ∷ ts))) s h =
    let m : Signed = record { off = true; name = word } in
    mark_sent m ts s (marked_sent_read ts (record s { colors = marked s.features s.colors m }) h)
marked_sent_read (Id a ∷ ts) s h = record { part = record { marks = []; name = a }; rest = ts; spelled = refl; shorter = omega arith; goes = h }
marked_sent_read _ s h = never h

-- a sent name, behind a comma or as the first
sent_read : (ts : List Token) (s : State) → Accepts ts (after_send_comma s) → Read Named spell_sent (λ d. after_send (with_a_sent s d)) ts
unfolding run_of
sent_read (At ∷ (Id word ∷ ts)) s h =
    let m : Signed = record { off = false; name = word } in
    mark_sent m ts (record s { colors = no_colors }) (marked_sent_read ts (record s { colors = marked s.features no_colors m }) h)
sent_read (At ∷ (Bang ∷ (Id word ∷ ts))) s h =
    let m : Signed = record { off = true; name = word } in
    mark_sent m ts (record s { colors = no_colors }) (marked_sent_read ts (record s { colors = marked s.features no_colors m }) h)
sent_read (Id a ∷ ts) s h = record { part = record { marks = []; name = a }; rest = ts; spelled = refl; shorter = omega arith; goes = h }
sent_read _ s h = never h

-- what the sent names after the first are read as
abbrev MoreSends : List Token → State → Type 0
MoreSends ts s = Read (List Named) more_sends_text (λ ds. after_sends (record s { sends = s.sends ++ numbered (value_sent s.features) (length s.sends) ds })) ts

-- a comma, a sent name and more
more_sends_of : (ts : List Token) (s : State) (d : Read Named spell_sent (λ d. after_send (with_a_sent s d)) ts) → MoreSends d.rest (with_a_sent s d.part) → MoreSends (Comma ∷ ts) s
more_sends_of ts s d m =
    let is : Comma ∷ ts ≡ more_sends_text (d.part ∷ m.part) m.rest = ap (λ w. Comma ∷ w) (d.spelled ∙ ap (spell_sent d.part) m.spelled) in
    record {
      part = d.part ∷ m.part;
      rest = m.rest;
      spelled = is;
      shorter = omega (arith, d.shorter, m.shorter);
      goes = subst (λ ds. Accepts m.rest (after_sends (record s { sends = ds }))) (numbered_on (value_sent s.features) s.sends d.part m.part) m.goes;
    }

-- the sent names after the first, and the bracket
more_sends_read : (k : ℕ) (ts : List Token) → length ts < k → (s : State) → Accepts ts (after_send s) → MoreSends ts s
unfolding run_of
more_sends_read zero ts le s h = absurd (omega arith)
more_sends_read (suc k) (CloseParen ∷ ts) le s h = record { part = []; rest = ts; spelled = refl; shorter = omega arith; goes = subst (λ ds. Accepts ts (after_sends (record s { sends = ds }))) (sym (append-nil s.sends)) h }
more_sends_read (suc k) (Comma ∷ ts) le s h =
    let d = sent_read ts s h in
    more_sends_of ts s d (more_sends_read k d.rest (omega (arith, d.shorter)) (with_a_sent s d.part) d.goes)
more_sends_read (suc k) _ le s h = never h

-- what list(sent) is read as
abbrev pub Sends : List Token → State → Type 0
Sends ts s = Read (List Named) sends_text (λ ds. after_sends (record s { sends = numbered (value_sent s.features) 0 ds })) ts

-- a sent name and more
sends_of : (ts : List Token) (s : State) (d : Read Named spell_sent (λ d. after_send (with_a_sent (record s { sends = [] }) d)) ts) → MoreSends d.rest (record s { sends = value_sent s.features 0 d.part ∷ [] }) → Sends ts s
sends_of ts s d m = record { part = d.part ∷ m.part; rest = m.rest; spelled = d.spelled ∙ ap (spell_sent d.part) m.spelled; shorter = omega (arith, d.shorter, m.shorter); goes = m.goes }

-- list(sent), and the bracket
pub sends_read : (k : ℕ) (ts : List Token) → length ts < k → (s : State) → Accepts ts (in_sends s) → Sends ts s
unfolding run_of
sends_read k (CloseParen ∷ ts) le s h = record { part = []; rest = ts; spelled = refl; shorter = omega arith; goes = h }
sends_read k (Id w ∷ ts) le s h =
    let d = sent_read (Id w ∷ ts) (record s { sends = [] }) h in
    sends_of (Id w ∷ ts) s d (more_sends_read k d.rest (omega (arith, d.shorter)) (record s { sends = value_sent s.features 0 d.part ∷ [] }) d.goes)
sends_read k (At ∷ ts) le s h =
    let d = sent_read (At ∷ ts) (record s { sends = [] }) h in
    sends_of (At ∷ ts) s d (more_sends_read k d.rest (omega (arith, d.shorter)) (record s { sends = value_sent s.features 0 d.part ∷ [] }) d.goes)
sends_read k _ le s h = never h

-- ---- {assign}

-- an assignment with the colours in hand
abbrev colored_assign : State → Named → State
colored_assign s d = in_assigns (record s { assigns = s.assigns ++ record { slot = length s.assigns; colors = colored s.features s.colors d.marks; name = d.name } ∷ [] })

-- behind the second name of an assignment
second_read : (ts : List Token) (s : State) → Accepts ts (record s { mode = AfterSecondName; colors = no_colors; last = unnamed }) → Fixed (λ rest. Semicolon ∷ rest) (in_assigns s) ts
unfolding run_of
second_read (Semicolon ∷ ts) s h = record { rest = ts; spelled = refl; shorter = omega arith; goes = h }
second_read _ s h = never h

-- an assignment whose two names are the same
assign_of : (a b : List ℕ) (ts : List Token) (s : State) → b ≡ a → Fixed (λ rest. Semicolon ∷ rest) (colored_assign s (record { marks = []; name = a })) ts → Read Named spell_assign (colored_assign s) (ThisWord ∷ (Dot ∷ (Id a ∷ (Equals ∷ (Id b ∷ ts)))))
assign_of a b ts s same r =
    record {
      part = record { marks = []; name = a };
      rest = r.rest;
      spelled = ap (λ w. ThisWord ∷ (Dot ∷ (Id a ∷ (Equals ∷ (Id w ∷ ts))))) same ∙ ap (λ w. ThisWord ∷ (Dot ∷ (Id a ∷ (Equals ∷ (Id a ∷ w))))) r.spelled;
      shorter = omega (arith, r.shorter);
      goes = r.goes;
    }

-- an assignment behind its first word
assign_words_read : (ts : List Token) (s : State) → Accepts ts (record s { mode = AfterThis; last = unnamed }) → Read Named spell_assign (colored_assign s) (ThisWord ∷ ts)
unfolding run_of
assign_words_read (Dot ∷ (Id a ∷ (Equals ∷ (Id b ∷ ts)))) s h =
    let n : State = record s { assigns = s.assigns ++ record { slot = length s.assigns; colors = s.colors; name = a } ∷ [] } in
    let p = passed (bytes_eq b a) (run ts) (used_name b ∷ []) (record n { mode = AfterSecondName; colors = no_colors; last = unnamed }) h in
    assign_of a b ts s ((bytes_eq-Decides b a).0 p.0) (second_read ts n p.1)
assign_words_read _ s h = never h

-- one more mark of an assignment
mark_assign : (m : Signed) (ts : List Token) (s : State) → Read Named spell_assign (colored_assign (record s { colors = marked s.features s.colors m })) ts → Read Named spell_assign (colored_assign s) (spell_mark m ts)
mark_assign m ts s r =
    record {
      part = record { marks = m ∷ r.part.marks; name = r.part.name };
      rest = r.rest;
      spelled = ap (spell_mark m) r.spelled;
      shorter = omega (arith, r.shorter, sign_longer m.off m.name ts);
      goes = r.goes;
    }

-- an assignment behind marks
marked_assign_read : (ts : List Token) (s : State) → Accepts ts (record s { mode = AfterMark node.Assign; last = unnamed }) → Read Named spell_assign (colored_assign s) ts
unfolding run_of
marked_assign_read (At ∷ (Id word ∷ ts)) s h =
    let m : Signed = record { off = false; name = word } in
    mark_assign m ts s (marked_assign_read ts (record s { colors = marked s.features s.colors m }) h)
marked_assign_read (At ∷ (Bang ∷ (Id word ∷ ts))) s h =
    let m : Signed = record { off = true; name = word } in
    mark_assign m ts s (marked_assign_read ts (record s { colors = marked s.features s.colors m }) h)
marked_assign_read (ThisWord ∷ ts) s h = assign_words_read ts s h
marked_assign_read _ s h = never h

-- an assignment whose first mark has this sign before it
mark_assign_read : (ts : List Token) (s : State) → Accepts (At ∷ ts) (in_assigns s) → Read Named spell_assign (λ d. in_assigns (with_an_assign s d)) (At ∷ ts)
unfolding run_of
mark_assign_read (Id word ∷ ts) s h =
    let m : Signed = record { off = false; name = word } in
    mark_assign m ts (record s { colors = no_colors }) (marked_assign_read ts (record s { colors = marked s.features no_colors m }) h)
mark_assign_read (Bang ∷ (Id word ∷ ts)) s h =
    let m : Signed = record { off = true; name = word } in
    mark_assign m ts (record s { colors = no_colors }) (marked_assign_read ts (record s { colors = marked s.features no_colors m }) h)
mark_assign_read _ s h = never h

-- the state behind these assignments, and the brace
abbrev pub behind_assigns : State → List Sent → State
behind_assigns s ds = record (with_ctor (record s { assigns = ds })) { colors = no_colors; last = unnamed }

-- what {assign} is read as
abbrev pub Assigns : List Token → State → Type 0
Assigns ts s = Read (List Named) assigns_text (λ ds. behind_assigns s (s.assigns ++ numbered (value_sent s.features) (length s.assigns) ds)) ts

-- an assignment and more
assigns_of : (ts : List Token) (s : State) (d : Read Named spell_assign (λ d. in_assigns (with_an_assign s d)) ts) → Assigns d.rest (with_an_assign s d.part) → Assigns ts s
unfolding run_of
assigns_of ts s d m =
    let is : ts ≡ assigns_text (d.part ∷ m.part) m.rest = d.spelled ∙ ap (spell_assign d.part) m.spelled in
    record {
      part = d.part ∷ m.part;
      rest = m.rest;
      spelled = is;
      shorter = omega (arith, d.shorter, m.shorter);
      goes = subst (λ ds. Accepts m.rest (behind_assigns s ds)) (numbered_on (value_sent s.features) s.assigns d.part m.part) m.goes;
    }

-- {assign}, and the brace
pub assigns_read : (k : ℕ) (ts : List Token) → length ts < k → (s : State) → Accepts ts (in_assigns s) → Assigns ts s
unfolding run_of
assigns_read zero ts le s h = absurd (omega arith)
assigns_read (suc k) (CloseBrace ∷ ts) le s h = record { part = []; rest = ts; spelled = refl; shorter = omega arith; goes = subst (λ ds. Accepts ts (behind_assigns s ds)) (sym (append-nil s.assigns)) h }
assigns_read (suc k) (At ∷ ts) le s h =
    let d = mark_assign_read ts s h in
    assigns_of (At ∷ ts) s d (assigns_read k d.rest (omega (arith, d.shorter)) (with_an_assign s d.part) d.goes)
assigns_read (suc k) (ThisWord ∷ ts) le s h =
    let d = assign_words_read ts (record s { colors = no_colors }) h in
    assigns_of (ThisWord ∷ ts) s d (assigns_read k d.rest (omega (arith, d.shorter)) (with_an_assign s d.part) d.goes)
assigns_read (suc k) _ le s h = never h
