-- Names that are short: what an identifier may name, and where a step settles no long name.
use Rattle.std.proofs.Common.{◌≡◌, ℕ, ◌+◌, Bool, true, false, ◌&&◌, ◌||◌, not, List, [], ◌∷◌, ◌++◌, None, refl, sym, subst}
use Rattle.std.proofs.lemmas.Bool.{and_parts, and_from, ltb-false, le-leb}
use Rattle.std.proofs.lemmas.Option.{none-some}
use Rattle.cfj_model.specs.declared.fault.FaultKind.{FaultKind}
use Rattle.cfj_model.specs.declared.fault.FaultKind.TheVariants.{Limit, NoFeature, Twice}
use Rattle.cfj_model.specs.declared.fault.LimitKind.TheVariants as limit
use Rattle.cfj_words.specs.Names.{is_among, is_identifier, is_short_identifier, is_name}
use Rattle.cfj_words.specs.Tokens.{Token, Id, NewWord, ThisWord, OpenParen, Dot}
use Rattle.cfj_model.specs.Roles.{Role, casts, opens, used_name, var_name, mark_name, Tally, counted, tallied, first_of, is_long, past_nodes, past_size, broken_by, AreWithin}
use Rattle.fj_symbols.specs.Views.{is_read, is_name_token}
use Rattle.expression_reader.specs.declared.mode.Mode.{Mode}
use Rattle.expression_reader.specs.declared.mode.Mode.TheVariants.{AfterAt, AfterDot, AfterNew, Paren, ParenName, ParenClosed}
use Rattle.expression_reader.specs.Machine.{State, open_frames, emitted, pending, pending_in, settled, settles, settles_in, waits, waits_in, unless, role, name_role}
use Rattle.expression_reader.specs.Views.{is_short, is_short_token, settles_short}

-- ---- short names

not_false : (b : Bool) → not b ≡ true → b ≡ false
not_false false h = refl
not_false true h = absurd (let no : ⊥ = cc h in no)

pub not_long : (w : List ℕ) → is_short w ≡ true → is_long w ≡ false
not_long w h = not_false (is_long w) h

-- an identifier that isn't long
pub short_identifier : (w : List ℕ) → is_identifier w ≡ true → is_long w ≡ false → is_short_identifier w ≡ true
short_identifier w i l = and_from _ _ i (le-leb _ _ (ltb-false _ _ l))

-- a name of a variable
pub or_left : (a b : Bool) → a ≡ true → (a || b) ≡ true
or_left true b h = refl
or_left false b h = absurd (let no : ⊥ = cc h in no)

-- A short identifier is a name,
pub is_name_of : (w : List ℕ) → is_identifier w ≡ true → is_short w ≡ true → is_name w ≡ true
is_name_of w i s = or_left _ _ (short_identifier w i (not_long w s))

-- and so is what a token calls one.
pub named_token : (t : Token) → is_read t ≡ true → is_short_token t ≡ true → is_name_token t ≡ true
named_token (Id w) r s = is_name_of w r s
named_token _ r s = refl

-- two short names
pub both_short : (w : List ℕ) (t : Token) → (is_short w && is_short_token t) ≡ true → (is_short w ≡ true) × (is_short_token t ≡ true)
both_short w t h = and_parts (is_short w) (is_short_token t) h

-- ---- roles that break nothing

-- a test of a list of tests that finds none holding
pub none_first : (b : Bool) (k : FaultKind) (rest : List (Bool × FaultKind)) → first_of ((b, k) ∷ rest) ≡ None → (b ≡ false) × (first_of rest ≡ None)
none_first true k rest e = absurd (none-some k (sym e))
none_first false k rest e = (refl, e)

is_short_of : (w : List ℕ) → is_long w ≡ false → is_short w ≡ true
is_short_of w h = by (is_long w) h
  where
    by : (b : Bool) → b ≡ false → not b ≡ true
    by false h = refl
    by true h = absurd (let no : ⊥ = cc h in no)

-- a name that breaks nothing
used_short : (w : List ℕ) (t : Tally) → broken_by t (used_name w) ≡ None → is_short w ≡ true
used_short w t h = is_short_of w (none_first (is_long w) (Limit limit.Name) [] h).0

var_short : (w : List ℕ) (t : Tally) → broken_by t (var_name w) ≡ None → is_short w ≡ true
var_short w t h = is_short_of w (none_first (is_long w) (Limit limit.Name) (past_nodes t ∷ (past_size t ∷ [])) h).0

mark_short : (w : List ℕ) (t : Tally) → broken_by t (mark_name w) ≡ None → is_short w ≡ true
mark_short w t h = is_short_of w (none_first (is_long w) (Limit limit.Name) ((not (is_among t.features w), NoFeature w) ∷ ((is_among t.marks w, Twice w) ∷ [])) h).0

name_short : (m : Mode) (w : List ℕ) (t : Tally) → broken_by t (name_role m w) ≡ None → is_short w ≡ true
name_short (AfterAt x before colors off) w t h = mark_short w t h
name_short (AfterDot x) w t h = used_short w t h
name_short AfterNew w t h = used_short w t h
name_short _ w t h = var_short w t h

-- The names are short where what waited breaks nothing, and so what the token calls a name that doesn't wait.
settled_short : (m : Mode) (d : ℕ) (token : Token) (t : Tally) → AreWithin t (settled (settles_in m token) (pending_in m d)) → ((w : List ℕ) → token ≡ Id w → waits_in m token ≡ false → is_short w ≡ true) → settles_short m token ≡ true
settled_short Paren d token t h own = refl
settled_short (ParenName w) d Dot t h own = var_short w (counted t (opens (d + 1))) h.1.0
settled_short (ParenName w) d _ t h own = refl
settled_short (ParenClosed w) d (Id v) t h own = and_from _ _ (used_short w (counted t (casts (d + 1))) h.1.0) (own v refl refl)
settled_short (ParenClosed w) d ThisWord t h own = and_from _ _ (used_short w (counted t (casts (d + 1))) h.1.0) refl
settled_short (ParenClosed w) d NewWord t h own = and_from _ _ (used_short w (counted t (casts (d + 1))) h.1.0) refl
settled_short (ParenClosed w) d OpenParen t h own = and_from _ _ (used_short w (counted t (casts (d + 1))) h.1.0) refl
settled_short (ParenClosed w) d _ t h own = and_from _ _ (var_short w (counted t (opens (d + 1))) h.1.0) refl
settled_short m d (Id v) t h own = own v refl refl
settled_short m d _ t h own = refl

-- Where the roles that waited and that a step settles break nothing, and the token's own role breaks nothing, the names whose
-- roles it settles are short.
pub own_short : (s : State) (token : Token) (t u : Tally) → AreWithin t (settled (settles s token) (pending s)) → broken_by u (role s token) ≡ None → settles_short s.mode token ≡ true
own_short s token t u h own = settled_short s.mode (open_frames s.frames) token t h (λ w is none. by token w is own)
  where
    by : (a : Token) (w : List ℕ) → a ≡ Id w → broken_by u (role s a) ≡ None → is_short w ≡ true
    by a w is h = name_short s.mode w u (subst (λ b. broken_by u (role s b) ≡ None) is h)

-- the roles of a list's two parts
within_parts : (t : Tally) (rs qs : List Role) → AreWithin t (rs ++ qs) → AreWithin t rs × AreWithin (tallied t rs) qs
within_parts t [] qs h = (tt, h)
within_parts t (r ∷ rs) qs h = let p = within_parts (counted t r) rs qs h.1 in ((h.0, p.0), p.1)

-- Where the roles that a step settles break nothing, their names are short.
pub roles_short : (s : State) (token : Token) (t : Tally) → AreWithin t (emitted s token) → settles_short s.mode token ≡ true
roles_short s token t h =
    let p = within_parts t (settled (settles s token) (pending s)) (unless (waits s token) (role s token)) h in
    let u : Tally = tallied t (settled (settles s token) (pending s)) in
    settled_short s.mode (open_frames s.frames) token t p.0 (λ w is none. by u w is (subst (λ b. AreWithin u (unless b (role s token))) none p.1).0)
  where
    by : (u : Tally) (w : List ℕ) → token ≡ Id w → broken_by u (role s token) ≡ None → is_short w ≡ true
    by u w is h = name_short s.mode w u (subst (λ b. broken_by u (role s b) ≡ None) is h)
