-- The tokens that are read are listed in their roles, at their places.
use Rattle.std.proofs.Common.{◌≡◌, ℕ, ◌+◌, ◌≤◌, true, List, [], ◌∷◌, ◌++◌, length, take, drop, refl, sym, ap, subst, ◌∙◌, arith, append_assoc, length-append}
use Rattle.std.proofs.lemmas.List.{length-map, take-append-drop, take-append-le, take_all}
use Rattle.std.proofs.lemmas.Option.{none-some}
use Rattle.std.specs.Str.{chars, IsUtf8}
use Rattle.cfj_model.specs.Languages.{Language, projects}
use Rattle.cfj_model.specs.Roles.{Role, Tally, nothing, other_token}
use Rattle.cfj_words.specs.Lexemes.{Lexeme, Found, next_lexeme}
use Rattle.cfj_words.specs.Tokens.{Token, End, token_of, token_seen, place_of}
use Rattle.fj_symbols.specs.Views.{role_seen}
use Rattle.fj_machine.specs.Machine.{State, pending_in, reader}
use Rattle.fj_machine.specs.Readers.{Reader, SettlesEach, run_of}
use Rattle.fj_machine.specs.declared.mode.Mode.{Mode}
use Rattle.fj_machine.specs.declared.mode.Mode.TheVariants.{Begin, Start, BetweenClasses}
use Rattle.fj_parser.specs.Accepting.{IsAccepted, IsTaken}
use Rattle.fj_parser.specs.Laws.{Reads}
use Rattle.fj_parser.specs.Listing.{Adds, IsListed, IsListedTo}
use Rattle.fj_parser.specs.TokenRoles.{IsStanding, ArePlacesOf, roles_in, places_in, AreRolesOf}
use Rattle.fj_parser.specs.declared.token_role.TokenRole.{TokenRole}
use Rattle.fj_parser.proofs.CountedRoles.{get-append}
use Rattle.fj_parser.proofs.Law.{end_at_open, laws, may_end}
use Rattle.fj_parser.proofs.Places.{Among, before, last, among, placed_more}
use Rattle.fj_parser.proofs.Progress.{ends_whole}
use Rattle.fj_parser.proofs.Readers.{WholeText, begun, roles_long, same_front, settles_each, text_read}
use Rattle.fj_parser.proofs.TokenReads.{TokenRead}

-- ---- lists of places

-- a list has as many roles as places
as_many : (list : List TokenRole) → length (places_in list) ≡ length (roles_in list)
as_many list = length-map list (λ (t : TokenRole). t.at) ∙ sym (length-map list (λ (t : TokenRole). role_seen t.role))

-- A list behind which the first ones of others stand, and then the rest of these.
in_two : (ws bs xs ys : List ℕ) (k : ℕ) → ws ≡ bs ++ take k xs → ys ≡ drop k xs → ws ++ ys ≡ bs ++ xs
in_two ws bs xs ys k front back =
    ap (λ q. q ++ ys) front ∙ ap (λ q. (bs ++ take k xs) ++ q) back ∙ append_assoc bs (take k xs) (drop k xs) ∙ ap (λ q. bs ++ q) (take-append-drop k xs)

-- One more token, at its place.
one_more : (text : List ℕ) (tokens : List Token) (token : Token) (places : List ℕ) (at : ℕ) → length places ≡ length tokens → ArePlacesOf text tokens places → IsStanding text tokens at → ArePlacesOf text (tokens ++ token ∷ []) (places ++ at ∷ [])
one_more text tokens token places at long stand here = λ i told e. go i told (among places at i told e)
  where
    behind : (i told : ℕ) → i ≤ length tokens → IsStanding text (take i tokens) told → IsStanding text (take i (tokens ++ token ∷ [])) told
    behind i told few h = subst (λ ts. IsStanding text ts told) (sym (take-append-le i tokens (token ∷ []) few)) h

    go : (i told : ℕ) → Among places at i told → IsStanding text (take i (tokens ++ token ∷ [])) told
    go i told (before e few) = behind i told (omega arith) (stand i told e)
    go i told (last all is) =
        let few : length tokens ≤ i = omega arith in
        let whole : take i tokens ≡ tokens = take_all i tokens few in
        behind i told (omega arith) (subst (λ x. IsStanding text (take i tokens) x) (sym is) (subst (λ ts. IsStanding text ts at) (sym whole) here))

-- ---- reading goes on

module _ (met : Tally) (m : Reader) (settles : SettlesEach m) where
  -- before the first token none is listed
  listed_nothing : (text : List ℕ) → IsListed met m text text m.start met [] []
  unfolding run_of
  listed_nothing text =
      record {
        placed =
            record {
              reading = record { tokens = []; roles = []; taken = refl; ran = refl; within = tt; counts = refl };
              each = sym (ap length settles.first);
              stand = λ i at e. absurd (none-some at e);
            };
        roles = refl;
        stand = λ i at e. absurd (none-some at e);
      }

  pub listed_first : (text a b : List ℕ) (s : m.State) (t : Tally) (list : List TokenRole) → a ≡ text → b ≡ text → s ≡ m.start → t ≡ met → list ≡ [] → IsListed met m a b s t [] list
  listed_first text a b s t list p q r u none =
      subst (IsListed met m a b s t []) (sym none)
      (subst (λ x. IsListed met m x b s t [] []) (sym p)
      (subst (λ x. IsListed met m text x s t [] []) (sym q)
      (subst (λ x. IsListed met m text text x t [] []) (sym r) (subst (λ x. IsListed met m text text m.start x [] []) (sym u) (listed_nothing text)))))

  -- reading goes on by one token
  listed_more : (text rest : List ℕ) (s n : m.State) (t u : Tally) (places left : List ℕ) (x : Lexeme) (from next : List ℕ) (at : ℕ) (old new : List TokenRole) → IsListed met m text rest s t places old → next_lexeme (chars rest) ≡ Found x from (chars next) → at ≡ place_of text from → IsAccepted m s t (token_of x) n u
      → left ≡ drop (length (m.emitted s (token_of x))) (places ++ at ∷ []) → Adds old (m.emitted s (token_of x)) (take (length (m.emitted s (token_of x))) (places ++ at ∷ [])) new → IsListed met m text next n u left new
  unfolding placed_more
  listed_more text rest s n t u places left x from next at old new h found is a e adds =
      let k : ℕ = length (m.emitted s (token_of x)) in
      let reading = h.placed.reading in
      let long : length reading.roles + length (m.pending s) ≡ length reading.tokens = roles_long m settles reading.tokens s reading.roles reading.ran in
      let listed : length (places_in old) ≡ length reading.roles = as_many old ∙ ap length h.roles in
      let wait : length places ≡ length (m.pending s) = h.placed.each in
      let both : length (places_in old ++ places) ≡ length (places_in old) + length places = length-append (places_in old) places in
      let here : IsStanding text reading.tokens at = record { from = from; stands = record { t = token_of x; rest = chars rest; taken = reading.taken; seen = ap (λ y. token_seen y) found }; is = is } in
      let all : places_in new ++ left ≡ (places_in old ++ places) ++ at ∷ [] = in_two (places_in new) (places_in old) (places ++ at ∷ []) left k adds.at_places e ∙ sym (append_assoc (places_in old) places (at ∷ [])) in
      record {
        placed = placed_more met m settles text rest s n t u places left x from next at h.placed found is a e;
        roles = adds.in_roles ∙ ap (λ q. q ++ m.emitted s (token_of x)) h.roles;
        stand = subst (ArePlacesOf text (reading.tokens ++ token_of x ∷ [])) (sym all) (one_more text reading.tokens (token_of x) (places_in old ++ places) at (omega arith) h.stand here);
      }

  pub listed_goes : (text rest next : List ℕ) (at : ℕ) (seen : Token) (s n : m.State) (t u : Tally) (places : List ℕ) (roles : List Role) (left : List ℕ) (old new : List TokenRole) → IsListed met m text rest s t places old → TokenRead text rest next at seen → IsTaken m s t places seen at n u roles left
      → Adds old (m.emitted s seen) (take (length (m.emitted s seen)) (places ++ at ∷ [])) new → IsListed met m text next n u left new
  listed_goes text rest next at seen s n t u places roles left old new h r a adds =
      let b : IsTaken m s t places (token_of r.lexeme) at n u roles left = subst (λ x. IsTaken m s t places x at n u roles left) r.is a in
      let c = subst (λ x. Adds old (m.emitted s x) (take (length (m.emitted s x)) (places ++ at ∷ [])) new) r.is adds in
      listed_more text rest s n t u places left r.lexeme r.from next at old new h r.found r.place b.accepted b.stand c

-- ---- reading ends

module _ {V : Type 0} (l : Language V) (m : Reader) (laws : Reads l m) where
  -- where nothing waits before the end, the list is that of the text
  pub roles_of_text : (text : List ℕ) (n : m.State) (list : List TokenRole) → IsUtf8 text → (h : IsListedTo l.met m text n list) → m.pending h.s ≡ [] → AreRolesOf l text list
  unfolding ends_whole
  roles_of_text text n list utf8 h none =
      let reading = h.listed.placed.reading in
      let w : WholeText l m laws reading.tokens n (reading.roles ++ m.emitted h.s End) = text_read l m laws reading.tokens h.s n reading.roles reading.ran h.accepted.goes in
      let long : length reading.roles + length (m.pending h.s) ≡ length reading.tokens = roles_long m (settles_each l m laws) reading.tokens h.s reading.roles reading.ran in
      let each : length (l.roles w.tree []) ≡ length (l.spell w.tree []) = (begun l m laws w.tree).each in
      let spelled : length reading.tokens ≡ length (l.spell w.tree []) = ap length w.spelled in
      let waits : length (m.pending h.s) ≡ 0 = ap length none in
      let same : reading.roles ≡ l.roles w.tree [] = same_front reading.roles (l.roles w.tree []) (m.emitted h.s End) (other_token ∷ []) (omega arith) w.in_roles in
      record {
        value = laws.stands_for n;
        read = ends_whole l m laws text h.rest h.s n h.before h.after utf8 reading h.ended h.accepted;
        roles = h.listed.roles ∙ same;
        places = λ i at e. subst (λ ts. IsStanding text (take i ts) at) w.spelled (h.listed.stand i at (get-append (places_in list) h.places i at e));
      }

-- before the end of a project nothing waits
nothing_open : (m : Mode) (s : State) → may_end m ≡ true → pending_in m s ≡ []
nothing_open Begin s e = refl
nothing_open Start s e = refl
nothing_open BetweenClasses s e = refl
nothing_open _ s e = absurd (let no : ⊥ = cc e in no)

pub roles_of_project : (text : List ℕ) (n : State) (list : List TokenRole) → IsUtf8 text → IsListedTo nothing reader text n list → AreRolesOf projects text list
roles_of_project text n list utf8 h = roles_of_text projects reader laws text n list utf8 h (nothing_open h.s.mode h.s (end_at_open h.s.mode h.s n h.accepted.goes))
