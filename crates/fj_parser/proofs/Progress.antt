-- Reading goes on by one token, or ends: with what the text stands for, or with its first fault.
use Rattle.std.proofs.Common.{◌≡◌, ℕ, suc, ◌+◌, List, [], ◌∷◌, ◌++◌, length, take, Some, refl, sym, ap, subst, ◌∙◌, arith, append_assoc, length-append}
use Rattle.std.proofs.lemmas.List.{take-append-le, take_all}
use Rattle.std.proofs.lemmas.Option.{none-some, some_pair_parts}
use Rattle.std.specs.Str.{chars, IsUtf8}
use Rattle.cfj_model.specs.declared.fault.FaultKind.{FaultKind}
use Rattle.cfj_model.specs.Faults.{Begins, Front, IsLongest, before_no_lexeme, before_misplaced, before_the_end, StandsBehind, IsFirstFault, breaking, no_lexeme, no_place, lexical_fault}
use Rattle.cfj_model.specs.Languages.{Language, IsTextOf}
use Rattle.cfj_words.specs.Lexemes.{Lexeme, Lexed, Found, AtEnd, NoToken, NoClose, next_lexeme}
use Rattle.cfj_model.specs.Roles.{Role, other_token, Tally, counted, tallied, broken_by, AreWithin}
use Rattle.cfj_words.specs.Tokens.{Token, End, Takes, token_of, token_seen, place_of}
use Rattle.fj_parser.specs.Accepting.{BreaksAt, IsAccepted, IsRefused, settled, waiting, misplaced}
use Rattle.fj_parser.specs.Laws.{Reads}
use Rattle.fj_machine.specs.Readers.{Reader, SettlesEach, run_of}
use Rattle.fj_parser.specs.Reading.{IsReading}
use Rattle.fj_parser.proofs.FirstFault.{front_of, LongestFrom, longest_from, standing_one}
use Rattle.fj_parser.proofs.Readers.{run_more, roles_long, settles_each, cannot_go_on, can_go_on, begun, misplaced_is, WholeText, text_read}
use Rattle.fj_parser.proofs.Texts.{takes_more, takes_read, scalars_of}

-- ---- lists of roles in two parts

pub tallied_append : (t : Tally) (rs qs : List Role) → tallied t (rs ++ qs) ≡ tallied (tallied t rs) qs
tallied_append t [] qs = refl
tallied_append t (r ∷ rs) qs = tallied_append (counted t r) rs qs

pub within_append : (t : Tally) (rs qs : List Role) → AreWithin t rs → AreWithin (tallied t rs) qs → AreWithin t (rs ++ qs)
within_append t [] qs h k = k
within_append t (r ∷ rs) qs h k = (h.0, within_append (counted t r) rs qs h.1 k)

pub within_front : (t : Tally) (rs qs : List Role) → AreWithin t (rs ++ qs) → AreWithin t rs
within_front t [] qs h = tt
within_front t (r ∷ rs) qs h = (h.0, within_front (counted t r) rs qs h.1)

-- A role that breaks something isn't the last of these.
record Before (xs : List Role) (r : Role) (zs : List Role) : Type 0 where
  after : List Role
  all : zs ≡ xs ++ r ∷ after

not_last : (t : Tally) (xs : List Role) (r : Role) (ys zs : List Role) (kind : FaultKind) → broken_by t r ≡ Some kind → xs ++ r ∷ ys ≡ zs ++ other_token ∷ [] → Before xs r zs
not_last t [] r ys [] kind b e =
    let is : r ≡ other_token = cc e in
    absurd (none-some kind (ap (broken_by t) (sym is) ∙ b))
not_last t [] r ys (z ∷ zs) kind b e = let is : r ≡ z = cc e in record { after = zs; all = ap (λ x. x ∷ zs) (sym is) }
not_last t (x ∷ xs) r ys [] kind b e = no xs e
  where
    no : (ws : List Role) → x ∷ (ws ++ r ∷ ys) ≡ other_token ∷ [] → Before (x ∷ xs) r []
    no [] e = absurd (let f : r ∷ ys ≡ [] = cc e in let clash : ⊥ = cc f in clash)
    no (w ∷ ws) e = absurd (let f : w ∷ (ws ++ r ∷ ys) ≡ [] = cc e in let clash : ⊥ = cc f in clash)
not_last t (x ∷ xs) r ys (z ∷ zs) kind b e =
    let h : Before xs r zs = not_last t xs r ys zs kind b (cc e) in
    let is : x ≡ z = cc e in
    let rest : zs ≡ xs ++ r ∷ h.after = h.all in
    record { after = h.after; all = cc (is, rest) }

-- ---- reading goes on

module _ (met : Tally) (m : Reader) where
  pub reads_nothing : (text : List ℕ) → IsReading met m text text m.start met
  unfolding run_of
  reads_nothing text = record { tokens = []; roles = []; taken = refl; ran = refl; within = tt; counts = refl }

  -- before the first token
  pub reads_first : (text a b : List ℕ) (s : m.State) (t : Tally) → a ≡ text → b ≡ text → s ≡ m.start → t ≡ met → IsReading met m a b s t
  reads_first text a b s t p q r u =
      subst (λ x. IsReading met m x b s t) (sym p)
      (subst (λ x. IsReading met m text x s t) (sym q) (subst (λ x. IsReading met m text text x t) (sym r) (subst (λ x. IsReading met m text text m.start x) (sym u) (reads_nothing text))))

  abbrev pub reads_more : (text rest : List ℕ) (s n : m.State) (t u : Tally) (x : Lexeme) (from next : List ℕ) → IsReading met m text rest s t → next_lexeme (chars rest) ≡ Found x from (chars next) → IsAccepted m s t (token_of x) n u → IsReading met m text next n u
  reads_more text rest s n t u x from next h found a =
      record {
        tokens = h.tokens ++ token_of x ∷ [];
        roles = h.roles ++ m.emitted s (token_of x);
        taken = takes_more (chars text) h.tokens (chars rest) x from (chars next) h.taken found;
        ran = run_more m h.tokens (token_of x) s n h.roles h.ran a.goes;
        within = within_append met h.roles (m.emitted s (token_of x)) h.within (subst (λ z. AreWithin z (m.emitted s (token_of x))) h.counts a.within);
        counts = a.counts ∙ ap (λ z. tallied z (m.emitted s (token_of x))) h.counts ∙ sym (tallied_append met h.roles (m.emitted s (token_of x)));
      }

-- what is behind all tokens that are read
pub stands_here : (met : Tally) (m : Reader) → SettlesEach m → (text rest : List ℕ) (s : m.State) (t : Tally) (token : Token) (here : List ℕ) (h : IsReading met m text rest s t) → token_seen (next_lexeme (chars rest)) ≡ Some (token, here) → StandsBehind text (take (length h.roles + length (m.pending s)) h.tokens) here
stands_here met m settles text rest s t token here h seen =
    let long : length h.roles + length (m.pending s) ≡ length h.tokens = roles_long m settles h.tokens s h.roles h.ran in
    let all : take (length h.roles + length (m.pending s)) h.tokens ≡ h.tokens = take_all (length h.roles + length (m.pending s)) h.tokens (omega arith) in
    subst (λ z. StandsBehind text z here) (sym all) (record { t = token; rest = chars rest; taken = h.taken; seen = seen })

module _ {V : Type 0} (l : Language V) (m : Reader) (laws : Reads l m) where
  -- ---- reading ends with a fault

  abbrev front : (text rest : List ℕ) (s : m.State) (t : Tally) → IsUtf8 text → IsReading l.met m text rest s t → Front l text
  front text rest s t utf8 h = front_of l m laws text utf8 h.tokens (chars rest) s h.roles h.taken h.ran

  -- a role among those of a front breaks something
  broken_in : (text rest : List ℕ) (s : m.State) (t : Tally) (rs : List Role) (place : ℕ) (kind : FaultKind) (from : List ℕ) (h : IsReading l.met m text rest s t) (f : Front l text) → IsLongest l f → (b : BreaksAt t rs place kind) → (others : List Role) → f.roles ≡ (h.roles ++ b.before) ++ b.r ∷ others → take (length h.roles + place) f.tokens ≡ take (length h.roles + place) h.tokens → StandsBehind text (take (length h.roles + place) h.tokens) from → IsFirstFault l text (place_of text from) kind
  broken_in text rest s t rs place kind from h f longest b others all tokens stands =
      let long : length (h.roles ++ b.before) ≡ length h.roles + place = length-append h.roles b.before ∙ ap (λ z. length h.roles + z) b.there in
      breaking f longest (h.roles ++ b.before) others b.r all
      (within_append l.met h.roles b.before h.within (subst (λ z. AreWithin z b.before) h.counts b.within))
      kind
      (ap (λ z. broken_by z b.r) (tallied_append l.met h.roles b.before ∙ ap (λ z. tallied z b.before) (sym h.counts)) ∙ b.breaks)
      from
      (subst (λ z. StandsBehind text z from) (sym (ap (λ z. take z f.tokens) long ∙ tokens)) stands)

  -- one that waits, where the text doesn't go on
  waiting_breaks : (text rest : List ℕ) (s : m.State) (t : Tally) (place : ℕ) (kind : FaultKind) (from : List ℕ) (utf8 : IsUtf8 text) (h : IsReading l.met m text rest s t) → IsLongest l (front text rest s t utf8 h) → BreaksAt t (m.pending s) place kind → StandsBehind text (take (length h.roles + place) h.tokens) from → IsFirstFault l text (place_of text from) kind
  waiting_breaks text rest s t place kind from utf8 h longest b stands =
      broken_in text rest s t (m.pending s) place kind from h (front text rest s t utf8 h) longest b b.after (ap (λ z. h.roles ++ z) b.all ∙ sym (append_assoc h.roles b.before (b.r ∷ b.after))) refl stands

  within_all : (text rest : List ℕ) (s : m.State) (t : Tally) (h : IsReading l.met m text rest s t) → AreWithin t (m.pending s) → AreWithin l.met (h.roles ++ m.pending s)
  within_all text rest s t h w = within_append l.met h.roles (m.pending s) h.within (subst (λ z. AreWithin z (m.pending s)) h.counts w)

  -- one that is settled, where it goes on
  settled_breaks : (text rest : List ℕ) (s n : m.State) (t : Tally) (x : Lexeme) (here mid : List ℕ) (place : ℕ) (kind : FaultKind) (from : List ℕ) → IsUtf8 text → (h : IsReading l.met m text rest s t) → next_lexeme (chars rest) ≡ Found x here mid → m.step s (token_of x) ≡ Some n → BreaksAt t (m.emitted s (token_of x)) place kind → StandsBehind text (take (length h.roles + place) h.tokens) from → IsFirstFault l text (place_of text from) kind
  settled_breaks text rest s n t x here mid place kind from utf8 h found goes b stands =
      let token = token_of x in
      let all = h.roles ++ m.emitted s token in
      let f : LongestFrom l m laws text (h.tokens ++ token ∷ []) all = longest_from l m laws (suc (length mid)) text utf8 (h.tokens ++ token ∷ []) mid n all (omega arith) (takes_more (chars text) h.tokens (chars rest) x here mid h.taken found) (run_more m h.tokens token s n h.roles h.ran goes) in
      let roles : f.front.roles ≡ (h.roles ++ b.before) ++ b.r ∷ (b.after ++ f.others) =
      f.in_roles ∙ ap (λ z. (h.roles ++ z) ++ f.others) b.all ∙ ap (λ z. z ++ f.others) (sym (append_assoc h.roles b.before (b.r ∷ b.after))) ∙ append_assoc (h.roles ++ b.before) (b.r ∷ b.after) f.others in
      let long : length h.roles + length (m.pending s) ≡ length h.tokens = roles_long m (settles_each l m laws) h.tokens s h.roles h.ran in
      let each : length (m.emitted s token) + length (m.pending n) ≡ suc (length (m.pending s)) = laws.each h.tokens s n h.roles token h.ran goes in
      let some : length (m.emitted s token) ≡ length b.before + suc (length b.after) = ap length b.all ∙ length-append b.before (b.r ∷ b.after) in
      let there : length b.before ≡ place = b.there in
      let some_tokens : length (h.tokens ++ token ∷ []) ≡ length h.tokens + 1 = length-append h.tokens (token ∷ []) in
      let tokens : take (length h.roles + place) f.front.tokens ≡ take (length h.roles + place) h.tokens =
      ap (take (length h.roles + place)) f.tokens ∙ take-append-le (length h.roles + place) (h.tokens ++ token ∷ []) f.more (omega arith) ∙ take-append-le (length h.roles + place) h.tokens (token ∷ []) (omega arith) in
      broken_in text rest s t (m.emitted s token) place kind from h f.front f.longest b (b.after ++ f.others) roles tokens stands

  -- one that the end settles
  end_breaks : (text rest : List ℕ) (s n : m.State) (t : Tally) (place : ℕ) (kind : FaultKind) (from : List ℕ) → IsUtf8 text → (h : IsReading l.met m text rest s t) → next_lexeme (chars rest) ≡ AtEnd → m.step s End ≡ Some n → BreaksAt t (m.emitted s End) place kind → StandsBehind text (take (length h.roles + place) h.tokens) from → IsFirstFault l text (place_of text from) kind
  end_breaks text rest s n t place kind from utf8 h ended goes b stands =
      let w : WholeText l m laws h.tokens n (h.roles ++ m.emitted s End) = text_read l m laws h.tokens s n h.roles h.ran goes in
      let both : (h.roles ++ b.before) ++ b.r ∷ b.after ≡ l.roles w.tree [] ++ other_token ∷ [] = append_assoc h.roles b.before (b.r ∷ b.after) ∙ ap (λ z. h.roles ++ z) (sym b.all) ∙ w.in_roles in
      let k : Before (h.roles ++ b.before) b.r (l.roles w.tree []) = not_last (tallied t b.before) (h.roles ++ b.before) b.r b.after (l.roles w.tree []) kind b.breaks both in
      let f : Front l text = record { utf8 = utf8; tokens = h.tokens; rest = chars rest; taken = h.taken; roles = l.roles w.tree []; begins = subst (λ z. Begins l z (l.roles w.tree [])) (sym w.spelled) (begun l m laws w.tree); settled = laws.grammar.settled w.tree } in
      broken_in text rest s t (m.emitted s End) place kind from h f (before_the_end ended (can_go_on l m laws h.tokens End s n h.roles h.ran goes)) b k.after k.all refl stands

  -- a token is refused
  pub ends_at_token : (text rest : List ℕ) (s : m.State) (t : Tally) (token : Token) (here : List ℕ) (place : ℕ) (kind : FaultKind) (from : List ℕ) → IsUtf8 text → (h : IsReading l.met m text rest s t) → token_seen (next_lexeme (chars rest)) ≡ Some (token, here) → IsRefused m s t token place kind → StandsBehind text (take (length h.roles + place) h.tokens) from → IsFirstFault l text (place_of text from) kind
  ends_at_token text rest s t token here place kind from utf8 h seen (settled _ _ n goes b) stands = go (next_lexeme (chars rest)) refl seen
    where
      go : (x : Lexed) → next_lexeme (chars rest) ≡ x → token_seen x ≡ Some (token, here) → IsFirstFault l text (place_of text from) kind
      go (Found x there mid) e is =
          let same : token_of x ≡ token = (some_pair_parts _ _ _ _ is).0 in
          settled_breaks text rest s n t x there mid place kind from utf8 h e (ap (m.step s) same ∙ goes) (subst (λ z. BreaksAt t (m.emitted s z) place kind) (sym same) b) stands
      go AtEnd e is =
          let same : End ≡ token = (some_pair_parts _ _ _ _ is).0 in
          end_breaks text rest s n t place kind from utf8 h e (ap (m.step s) same ∙ goes) (subst (λ z. BreaksAt t (m.emitted s z) place kind) (sym same) b) stands
      go (NoToken there) e is = absurd (none-some (token, here) is)
      go (NoClose there) e is = absurd (none-some (token, here) is)
  ends_at_token text rest s t token here place kind from utf8 h seen (waiting _ _ stuck b) stands =
      waiting_breaks text rest s t place kind from utf8 h (before_misplaced token here seen (cannot_go_on l m laws h.tokens token s h.roles h.ran stuck)) b stands
  ends_at_token text rest s t token here place kind from utf8 h seen (misplaced stuck within) stands =
      subst (λ z. IsFirstFault l text (place_of text z) kind) (standing_one text _ _ here from refl (stands_here l.met m (settles_each l m laws) text rest s t token here h seen) stands)
      (no_place (front text rest s t utf8 h) (within_all text rest s t h within) token here seen (cannot_go_on l m laws h.tokens token s h.roles h.ran stuck) kind
      (misplaced_is l m laws h.tokens token s h.roles h.ran (takes_read (chars text) h.tokens (chars rest) (scalars_of text utf8) h.taken)))

  -- no lexeme stands next
  pub ends_at_lexeme : (text rest : List ℕ) (s : m.State) (t : Tally) (kind : FaultKind) (from : List ℕ) → IsUtf8 text → IsReading l.met m text rest s t → AreWithin t (m.pending s) → lexical_fault (next_lexeme (chars rest)) ≡ Some (kind, from) → IsFirstFault l text (place_of text from) kind
  ends_at_lexeme text rest s t kind from utf8 h within e = no_lexeme (front text rest s t utf8 h) (within_all text rest s t h within) kind from e

  pub waiting_at_lexeme : (text rest : List ℕ) (s : m.State) (t : Tally) (wrong : FaultKind) (there : List ℕ) (place : ℕ) (kind : FaultKind) (from : List ℕ) → IsUtf8 text → (h : IsReading l.met m text rest s t) → lexical_fault (next_lexeme (chars rest)) ≡ Some (wrong, there) → BreaksAt t (m.pending s) place kind → StandsBehind text (take (length h.roles + place) h.tokens) from → IsFirstFault l text (place_of text from) kind
  waiting_at_lexeme text rest s t wrong there place kind from utf8 h e b stands = waiting_breaks text rest s t place kind from utf8 h (before_no_lexeme wrong there e) b stands

  -- ---- reading ends with the whole text

  unfoldable pub ends_whole : (text rest : List ℕ) (s n : m.State) (t u : Tally) → IsUtf8 text → IsReading l.met m text rest s t → next_lexeme (chars rest) ≡ AtEnd → IsAccepted m s t End n u → IsTextOf l text (laws.stands_for n)
  ends_whole text rest s n t u utf8 h e a =
      let w : WholeText l m laws h.tokens n (h.roles ++ m.emitted s End) = text_read l m laws h.tokens s n h.roles h.ran a.goes in
      let all : AreWithin l.met (h.roles ++ m.emitted s End) = within_append l.met h.roles (m.emitted s End) h.within (subst (λ z. AreWithin z (m.emitted s End)) h.counts a.within) in
      record {
        utf8 = utf8;
        tree = w.tree;
        rest = chars rest;
        spelled = subst (λ ts. Takes (chars text) ts (chars rest)) w.spelled h.taken;
        ended = e;
        within = within_front l.met (l.roles w.tree []) (other_token ∷ []) (subst (AreWithin l.met) w.in_roles all);
        valued = w.valued;
      }
