-- The tokens that wait stand at their places, and the fault of one of them, or of the token behind them, is told at its place.
use Rattle.std.proofs.Common.{◌≡◌, ℕ, zero, suc, ◌+◌, ◌-◌, ◌<◌, ◌≤◌, List, [], ◌∷◌, ◌++◌, length, take, drop, Some, refl, sym, ap, subst, ◌∙◌, arith, length-append, length-drop}
use Rattle.std.proofs.lemmas.List.{take-append-le}
use Rattle.std.proofs.lemmas.Option.{none-some, same_Some}
use Rattle.std.specs.List.{slice_get}
use Rattle.std.specs.Str.{chars, IsUtf8}
use Rattle.cfj_model.specs.declared.fault.FaultKind.{FaultKind}
use Rattle.cfj_model.specs.Faults.{IsFirstFault, StandsBehind, lexical_fault}
use Rattle.cfj_model.specs.Languages.{Language}
use Rattle.cfj_words.specs.Lexemes.{Lexeme, Found, next_lexeme}
use Rattle.cfj_model.specs.Roles.{Tally}
use Rattle.cfj_words.specs.Tokens.{Token, token_of, token_seen, place_of}
use Rattle.fj_parser.specs.Accepting.{IsAccepted, IsBrokenAt, IsToldAt}
use Rattle.fj_parser.specs.Laws.{Reads}
use Rattle.fj_machine.specs.Readers.{Reader, SettlesEach}
use Rattle.fj_parser.specs.Reading.{IsPlaced}
use Rattle.fj_parser.specs.TokenRoles.{IsStanding}
use Rattle.fj_parser.proofs.Progress.{reads_first, reads_more, stands_here, ends_at_token, waiting_at_lexeme}
use Rattle.fj_parser.proofs.Readers.{roles_long, settles_each}

-- ---- elements of a list

pub get-drop : {A : Type 0} (n : ℕ) (xs : List A) (i : ℕ) → slice_get (drop n xs) i ≡ slice_get xs (n + i)
get-drop zero xs i = let e : i ≡ zero + i = omega arith in ap (slice_get xs) e
get-drop (suc n) [] i = refl
get-drop (suc n) (x ∷ xs) i = let e : suc (n + i) ≡ suc n + i = omega arith in get-drop n xs i ∙ ap (slice_get (x ∷ xs)) e

-- an element of a list and one more is one of the list, or the last
pub data Among (xs : List ℕ) (y i at : ℕ) : Type 0 where
  before : slice_get xs i ≡ Some at → i < length xs → Among xs y i at
  last : i ≡ length xs → at ≡ y → Among xs y i at

pub among : (xs : List ℕ) (y i at : ℕ) → slice_get (xs ++ y ∷ []) i ≡ Some at → Among xs y i at
among [] y zero at e = last refl (sym (same_Some y at e))
among [] y (suc i) at e = absurd (none-some at e)
among (x ∷ xs) y zero at e = before e (omega arith)
among (x ∷ xs) y (suc i) at e = go (among xs y i at e)
  where
    go : Among xs y i at → Among (x ∷ xs) y (suc i) at
    go (before h few) = before h (omega arith)
    go (last h is) = last (ap suc h) is

pub no_more : {A : Type 0} (xs : List A) → length xs ≡ 0 → xs ≡ []
no_more [] h = refl
no_more (x ∷ xs) h = absurd (omega arith)

module _ (met : Tally) (m : Reader) (settles : SettlesEach m) where
  -- before the first token none waits
  pub placed_first : (text a b : List ℕ) (s : m.State) (t : Tally) → a ≡ text → b ≡ text → s ≡ m.start → t ≡ met → IsPlaced met m a b s t []
  placed_first text a b s t p q r u =
      record {
        reading = reads_first met m text a b s t p q r u;
        each = sym (ap length (ap m.pending r ∙ settles.first));
        stand = λ i at e. absurd (none-some at e);
      }

  -- where no token has a place, none waits
  pub none_waits : (text rest : List ℕ) (s : m.State) (t : Tally) → IsPlaced met m text rest s t [] → m.pending s ≡ []
  none_waits text rest s t h = no_more (m.pending s) (sym h.each)

  -- those that wait, and the one that comes next
  pub all_stand : (text rest : List ℕ) (s : m.State) (t : Tally) (places : List ℕ) (h : IsPlaced met m text rest s t places) (token : Token) (here : List ℕ) (at : ℕ) → token_seen (next_lexeme (chars rest)) ≡ Some (token, here) → at ≡ place_of text here → (i told : ℕ) → slice_get (places ++ at ∷ []) i ≡ Some told → IsStanding text (take (length h.reading.roles + i) h.reading.tokens) told
  all_stand text rest s t places h token here at seen is i told e = go (among places at i told e)
    where
      go : Among places at i told → IsStanding text (take (length h.reading.roles + i) h.reading.tokens) told
      go (before f few) = h.stand i told f
      go (last all same) =
          record {
            from = here;
            stands = subst (λ n. StandsBehind text (take (length h.reading.roles + n) h.reading.tokens) here) (sym (all ∙ h.each)) (stands_here met m settles text rest s t token here h.reading seen);
            is = same ∙ is;
          }

  pub within_places : (places : List ℕ) (at i told : ℕ) → slice_get (places ++ at ∷ []) i ≡ Some told → i ≤ length places
  within_places places at i told e = go (among places at i told e)
    where
      go : Among places at i told → i ≤ length places
      go (before f few) = omega arith
      go (last all same) = omega arith

  -- reading goes on by one token
  unfoldable pub placed_more : (text rest : List ℕ) (s n : m.State) (t u : Tally) (places left : List ℕ) (x : Lexeme) (from next : List ℕ) (at : ℕ) → IsPlaced met m text rest s t places → next_lexeme (chars rest) ≡ Found x from (chars next) → at ≡ place_of text from → IsAccepted m s t (token_of x) n u → left ≡ drop (length (m.emitted s (token_of x))) (places ++ at ∷ []) → IsPlaced met m text next n u left
  placed_more text rest s n t u places left x from next at h found is a e =
      let k : ℕ = length (m.emitted s (token_of x)) in
      let once : k + length (m.pending n) ≡ suc (length (m.pending s)) = settles.each h.reading.tokens s n h.reading.roles (token_of x) h.reading.ran a.goes in
      let others : length left ≡ length (places ++ at ∷ []) - k = ap length e ∙ length-drop k (places ++ at ∷ []) in
      let more : length (places ++ at ∷ []) ≡ length places + 1 = length-append places (at ∷ []) in
      let waited : length places ≡ length (m.pending s) = h.each in
      record {
        reading = reads_more met m text rest s n t u x from next h.reading found a;
        each = omega arith;
        stand = λ i told f.
            let g : slice_get (places ++ at ∷ []) (k + i) ≡ Some told = sym (get-drop k (places ++ at ∷ []) i) ∙ ap (λ ps. slice_get ps i) (sym e) ∙ f in
            let few : k + i ≤ length places = within_places places at (k + i) told g in
            let stand : IsStanding text (take (length h.reading.roles + (k + i)) h.reading.tokens) told = all_stand text rest s t places h (token_of x) from at (ap (λ y. token_seen y) found) is (k + i) told g in
            let long : length h.reading.roles + length (m.pending s) ≡ length h.reading.tokens = roles_long m settles h.reading.tokens s h.reading.roles h.reading.ran in
            let same : take (length h.reading.roles + (k + i)) (h.reading.tokens ++ token_of x ∷ []) ≡ take (length h.reading.roles + (k + i)) h.reading.tokens = take-append-le (length h.reading.roles + (k + i)) h.reading.tokens (token_of x ∷ []) (omega arith) in
            let sum : length (h.reading.roles ++ m.emitted s (token_of x)) ≡ length h.reading.roles + k = length-append h.reading.roles (m.emitted s (token_of x)) in
            let at_sum : length (h.reading.roles ++ m.emitted s (token_of x)) + i ≡ length h.reading.roles + (k + i) = omega arith in
            subst (λ ts. IsStanding text ts told) (sym (ap (λ j. take j (h.reading.tokens ++ token_of x ∷ [])) at_sum ∙ same)) stand;
      }

module _ {V : Type 0} (l : Language V) (m : Reader) (laws : Reads l m) where
  -- a token that is refused has the first fault, which is told at its place
  pub told_first : (text rest : List ℕ) (s : m.State) (t : Tally) (places : List ℕ) (token : Token) (here : List ℕ) (at told : ℕ) (kind : FaultKind) → IsUtf8 text → IsPlaced l.met m text rest s t places → token_seen (next_lexeme (chars rest)) ≡ Some (token, here) → at ≡ place_of text here → IsToldAt m s t places token at told kind → IsFirstFault l text told kind
  told_first text rest s t places token here at told kind utf8 h seen is a =
      let stand : IsStanding text (take (length h.reading.roles + a.place) h.reading.tokens) told = all_stand l.met m (settles_each l m laws) text rest s t places h token here at seen is a.place told a.there in
      subst (λ p. IsFirstFault l text p kind) (sym stand.is)
      (ends_at_token l m laws text rest s t token here a.place kind stand.from utf8 h.reading seen a.refused stand.stands)

  -- and so has one that waits where no lexeme stands next
  pub waiting_first : (text rest : List ℕ) (s : m.State) (t : Tally) (places : List ℕ) (wrong : FaultKind) (there : List ℕ) (told : ℕ) (kind : FaultKind) → IsUtf8 text → IsPlaced l.met m text rest s t places → lexical_fault (next_lexeme (chars rest)) ≡ Some (wrong, there) → IsBrokenAt t (m.pending s) places told kind → IsFirstFault l text told kind
  waiting_first text rest s t places wrong there told kind utf8 h e b =
      let stand : IsStanding text (take (length h.reading.roles + b.place) h.reading.tokens) told = h.stand b.place told b.there in
      subst (λ p. IsFirstFault l text p kind) (sym stand.is)
      (waiting_at_lexeme l m laws text rest s t wrong there b.place kind stand.from utf8 h.reading e b.breaks stand.stands)
