-- The names in the roles of tokens: they are identifiers, and short where the roles break nothing.
use Rattle.std.proofs.Common.{◌≡◌, ℕ, Bool, true, false, not, if◌then◌else◌, List, [], ◌∷◌, ◌++◌, Option, Some, None, refl, sym, ap, subst, ◌∙◌}
use Rattle.std.specs.Borrow.{Bor}
use Rattle.std.proofs.lemmas.Bool.{true≢false, and_from}
use Rattle.std.proofs.lemmas.Slice.Eq.{bytes_eq-Decides}
use Rattle.std.specs.Str.{bytes_eq}
use Rattle.std.proofs.lemmas.Option.{none-some}
use Rattle.cfj_model.specs.declared.fault.FaultKind.{FaultKind}
use Rattle.cfj_words.specs.Names.{is_identifier, is_name}
use Rattle.cfj_words.proofs.Identifiers.{format_is_identifier}
use Rattle.cfj_model.specs.Grammar.{format_word}
use Rattle.cfj_model.specs.Roles.{Role, format_line, used_name, Tally, broken_by, is_long, AreWithin}
use Rattle.cfj_words.specs.Tokens.{Token, Id, NewWord, ThisWord, TrueWord, FalseWord, OpenParen, Bang, Ampersand, Bar, Arrow, DoubleArrow, Dot}
use Rattle.expression_reader.specs.declared.mode.Mode as reading
use Rattle.expression_reader.specs.declared.mode.Mode.TheVariants as at
use Rattle.expression_reader.specs.Machine as expression
use Rattle.expression_reader.specs.Views.{settles_short}
use Rattle.expression_reader.proofs.Short.{is_name_of, own_short, roles_short}
use Rattle.formula_reader.specs.Machine as formula
use Rattle.fj_machine.specs.Machine.{State, name_role, pending_in, role, role_in, settles_in, token_role, waits, waits_in}
use Rattle.fj_machine.specs.MachineViews.{names_fit_in}
use Rattle.fj_parser.specs.Waiting.{WaitedWithin}
use Rattle.fj_machine.specs.declared.mode.Mode.{Mode}
use Rattle.fj_machine.specs.declared.mode.Mode.TheVariants.{Begin, InConstraint, AfterMark, AfterClass, AfterParamType, InExpression}
use Rattle.fj_machine.specs.declared.mode.Node.TheVariants as node
use Rattle.fj_machine.specs.declared.mode.Owner.TheVariants as owner
use Rattle.fj_symbols.specs.Views.{is_identifier_role, is_name_token, is_read, symbol_seen}
use Rattle.fj_symbols.specs.declared.symbol.Symbol.{Symbol}
use Rattle.fj_symbols.specs.declared.symbol.Symbol.TheVariants as symbol

-- ---- identifiers

-- the word of the line for format Two is an identifier
line_is : (w : List ℕ) (b : Bool) → bytes_eq w format_word ≡ b → is_identifier_role (if b then format_line else used_name w) ≡ is_identifier w
line_is w true h = sym (ap is_identifier ((bytes_eq-Decides w format_word).0 h) ∙ format_is_identifier)
line_is w false h = refl

name_is : (m : Mode) (w : List ℕ) → is_identifier_role (name_role m w) ≡ is_identifier w
name_is Begin w = line_is w (bytes_eq w format_word) refl
name_is (AfterMark node.Class) w = refl
name_is (AfterMark node.Member) w = refl
name_is (AfterMark node.Method) w = refl
name_is (AfterMark (node.Param o)) w = refl
name_is (AfterMark node.Send) w = refl
name_is (AfterMark node.Assign) w = refl
name_is (AfterParamType owner.Constructor) w = refl
name_is (AfterParamType owner.Method) w = refl
name_is _ w = refl

token_named : (m : Mode) (token : Token) → is_read token ≡ true → is_identifier_role (token_role m token) ≡ true
token_named m (Id w) h = name_is m w ∙ h
token_named m _ h = refl

formula_named : (f : formula.State) (token : Token) → is_read token ≡ true → is_identifier_role (formula.role f token) ≡ true
formula_named f (Id w) h = h
formula_named f TrueWord h = refl
formula_named f FalseWord h = refl
formula_named f Bang h = refl
formula_named f OpenParen h = refl
formula_named f Ampersand h = refl
formula_named f Bar h = refl
formula_named f Arrow h = refl
formula_named f DoubleArrow h = refl
formula_named f _ h = refl

expression_name_is : (m : reading.Mode) (w : List ℕ) → is_identifier_role (expression.name_role m w) ≡ is_identifier w
expression_name_is (at.AfterAt h before colors off) w = refl
expression_name_is (at.AfterDot x) w = refl
expression_name_is at.AfterNew w = refl
expression_name_is _ w = refl

expression_named : (m : reading.Mode) (d : ℕ) (token : Token) → is_read token ≡ true → is_identifier_role (expression.role_in m d token) ≡ true
expression_named m d (Id w) h = expression_name_is m w ∙ h
expression_named m d _ h = refl

role_in_named : (m : Mode) (s : State) (token : Token) → is_read token ≡ true → is_identifier_role (role_in m s token) ≡ true
role_in_named InConstraint s token h = formula_named s.formula token h
role_in_named InExpression s token h = expression_named s.expression.mode (expression.depth s.expression) token h
role_in_named m s token h = token_named m token h

-- The name in a token's role is an identifier where the token is read.
pub role_named : (s : State) (token : Token) → is_read token ≡ true → is_identifier_role (role s token) ≡ true
role_named s token h = role_in_named s.mode s token h

-- ---- short names

-- a first test that doesn't hold
untold : (b : Bool) (k : FaultKind) (o : Option FaultKind) → (if b then Some k else o) ≡ None → b ≡ false
untold true k o e = absurd (none-some k (sym e))
untold false k o e = refl

-- and a second one
untold_next : (b c : Bool) (k j : FaultKind) (o : Option FaultKind) → (if b then Some k else (if c then Some j else o)) ≡ None → c ≡ false
untold_next true c k j o e = absurd (none-some k (sym e))
untold_next false c k j o e = untold c j o e

line_short : (w : List ℕ) (t : Tally) (b : Bool) → bytes_eq w format_word ≡ b → broken_by t (if b then format_line else used_name w) ≡ None → is_long w ≡ false
line_short w t true e h = ap is_long ((bytes_eq-Decides w format_word).0 e)
line_short w t false e h = untold _ _ _ h

name_short : (m : Mode) (w : List ℕ) (t : Tally) → broken_by t (name_role m w) ≡ None → is_long w ≡ false
name_short Begin w t h = line_short w t (bytes_eq w format_word) refl h
name_short AfterClass w t h = untold_next _ _ _ _ _ h
name_short (AfterMark node.Class) w t h = untold _ _ _ h
name_short (AfterMark node.Member) w t h = untold _ _ _ h
name_short (AfterMark node.Method) w t h = untold _ _ _ h
name_short (AfterMark (node.Param o)) w t h = untold _ _ _ h
name_short (AfterMark node.Send) w t h = untold _ _ _ h
name_short (AfterMark node.Assign) w t h = untold _ _ _ h
name_short (AfterParamType owner.Constructor) w t h = untold _ _ _ h
name_short (AfterParamType owner.Method) w t h = untold _ _ _ h
name_short _ w t h = untold _ _ _ h

-- a short identifier is a name
named : (w : List ℕ) → is_identifier w ≡ true → is_long w ≡ false → is_name w ≡ true
named w h short = is_name_of w h (ap not short)

token_fits : (m : Mode) (token : Token) (t : Tally) → is_read token ≡ true → broken_by t (token_role m token) ≡ None → is_name_token token ≡ true
token_fits m (Id w) t h fine = named w h (name_short m w t fine)
token_fits m _ t h fine = refl

formula_fits : (f : formula.State) (token : Token) (t : Tally) → is_read token ≡ true → broken_by t (formula.role f token) ≡ None → is_name_token token ≡ true
formula_fits f (Id w) t h fine = named w h (untold _ _ _ fine)
formula_fits f _ t h fine = refl

fits_in : (m : Mode) (s : State) (token : Token) (t u : Tally) → is_read token ≡ true → AreWithin t (expression.settled (settles_in m s token) (pending_in m s)) → broken_by u (role_in m s token) ≡ None → names_fit_in m s token ≡ true
fits_in InExpression s token t u h within fine = own_short s.expression token t u within fine
fits_in InConstraint s token t u h within fine = formula_fits s.formula token u h fine
fits_in m s token t u h within fine = token_fits m token u h fine

-- The names that a token settles are short where what waited breaks nothing, and the token's own role breaks nothing.
pub names_fit : (s : State) (token : Token) (u : Tally) → is_read token ≡ true → WaitedWithin s token → broken_by u (role s token) ≡ None → names_fit_in s.mode s token ≡ true
names_fit s token u h w fine = fits_in s.mode s token w.met u h w.within fine

-- ---- where the token itself waits

nothing_more : (rs : List Role) → rs ++ [] ≡ rs
nothing_more [] = refl
nothing_more (r ∷ rs) = ap (λ x. r ∷ x) (nothing_more rs)

waiting_fits_in : (m : Mode) (s : State) (token : Token) (t : Tally) → waits_in m s token ≡ true → AreWithin t (expression.settled (settles_in m s token) (pending_in m s)) → names_fit_in m s token ≡ true
waiting_fits_in InExpression s token t own within =
    let waited : List Role = expression.settled (expression.settles s.expression token) (expression.pending s.expression) in
    roles_short s.expression token t (subst (λ b. AreWithin t (waited ++ expression.unless b (expression.role s.expression token))) (sym own) (subst (AreWithin t) (sym (nothing_more waited)) within))
waiting_fits_in _ s token t own within = absurd (true≢false (sym own))

pub waiting_fits : (s : State) (token : Token) → waits s token ≡ true → WaitedWithin s token → names_fit_in s.mode s token ≡ true
waiting_fits s token own w = waiting_fits_in s.mode s token w.met own w.within

-- ---- where the token itself is no name

abbrev pub is_id : Token → Bool
is_id (Id w) = true
is_id _ = false

unnamed_short : (m : reading.Mode) (d : ℕ) (token : Token) (t : Tally) → is_id token ≡ false → AreWithin t (expression.settled (expression.settles_in m token) (expression.pending_in m d)) → settles_short m token ≡ true
unnamed_short at.Paren d token t other h = refl
unnamed_short (at.ParenName w) d Dot t other h = ap not (untold _ _ _ h.1.0)
unnamed_short (at.ParenName w) d _ t other h = refl
unnamed_short (at.ParenClosed w) d (Id v) t other h = absurd (true≢false other)
unnamed_short (at.ParenClosed w) d ThisWord t other h = and_from _ _ (ap not (untold _ _ _ h.1.0)) refl
unnamed_short (at.ParenClosed w) d NewWord t other h = and_from _ _ (ap not (untold _ _ _ h.1.0)) refl
unnamed_short (at.ParenClosed w) d OpenParen t other h = and_from _ _ (ap not (untold _ _ _ h.1.0)) refl
unnamed_short (at.ParenClosed w) d _ t other h = and_from _ _ (ap not (untold _ _ _ h.1.0)) refl
unnamed_short m d (Id v) t other h = absurd (true≢false other)
unnamed_short m d _ t other h = refl

unnamed_token : (token : Token) → is_id token ≡ false → is_name_token token ≡ true
unnamed_token (Id w) other = absurd (true≢false other)
unnamed_token _ other = refl

unnamed_fits_in : (m : Mode) (s : State) (token : Token) (t : Tally) → is_id token ≡ false → AreWithin t (expression.settled (settles_in m s token) (pending_in m s)) → names_fit_in m s token ≡ true
unnamed_fits_in InExpression s token t other h = unnamed_short s.expression.mode (expression.open_frames s.expression.frames) token t other h
unnamed_fits_in m s token t other h = unnamed_token token other

pub unnamed_fits : (s : State) (token : Token) → is_id token ≡ false → WaitedWithin s token → names_fit_in s.mode s token ≡ true
unnamed_fits s token other h = unnamed_fits_in s.mode s token h.met other h.within

-- a symbol that is no identifier
pub unnamed_symbol : (x : Symbol) → ((w : Bor (List ℕ)) → x ≡ symbol.Id w → ⊥) → is_id (symbol_seen x) ≡ false
unnamed_symbol (symbol.Id w) other = absurd (other w refl)
unnamed_symbol _ other = refl
