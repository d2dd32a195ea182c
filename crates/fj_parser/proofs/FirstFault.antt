-- A text of a language that a reader reads stands for one value, or has one first fault, and not both.
use Rattle.std.proofs.Common.{◌≡◌, ℕ, zero, suc, ◌+◌, ◌<◌, List, [], ◌∷◌, ◌++◌, length, take, drop, refl, sym, ap, subst, ◌∙◌, Option, Some, None, chars, IsUtf8, arith, append_assoc, length-append}
use Rattle.std.proofs.lemmas.Bool.{true≢false}
use Rattle.std.proofs.lemmas.Option.{none-some, same_Some, some_pair_parts}
use Rattle.std.proofs.lemmas.List.{length-take-le, take-append-drop}
use Rattle.std.proofs.lemmas.Str.{utf8_valid_len-IsValidUpTo}
use Rattle.cfj_model.specs.declared.fault.FaultKind.{FaultKind}
use Rattle.cfj_model.specs.declared.fault.FaultKind.TheVariants as fault
use Rattle.cfj_words.specs.Lexemes.{Lexeme, Lexed, Found, AtEnd, NoToken, NoClose, next_lexeme}
use Rattle.cfj_words.specs.Tokens.{Token, End, token_of, token_seen, Takes, place_of}
use Rattle.cfj_model.specs.Roles.{Role, other_token, Tally, counted, tallied, broken_by, AreWithin}
use Rattle.cfj_model.specs.Faults.{Begins, CanGoOn, IsMisplaced, reserved, other, no_name, Front, lexical_fault, IsLongest, before_no_lexeme, before_misplaced, before_the_end, StandsBehind, IsFirstFault, no_text, breaking, no_lexeme, no_place}
use Rattle.cfj_model.specs.Languages.{Language, IsTextOf}
use Rattle.fj_parser.specs.Laws.{Reads}
use Rattle.fj_machine.specs.Readers.{Reader, run_of}
use Rattle.fj_parser.proofs.Readers.{run_more, reads_begin, ReadTo, begins_reads, cannot_go_on, can_go_on, begun, same_value}
use Rattle.fj_parser.proofs.Texts.{takes_same, takes_split, takes_more, found_shorter, Order, same, shorter, longer, takes_order}

-- Each role within the limits breaks nothing behind those before it.
pub within_at : (t : Tally) (rs : List Role) (r : Role) (others : List Role) → AreWithin t (rs ++ r ∷ others) → broken_by (tallied t rs) r ≡ None
within_at t [] r others w = w.0
within_at t (s ∷ rs) r others w = within_at (counted t s) rs r others w.1

-- The first role that breaks something is one.
first_break : (t : Tally) (a : List Role) (r : Role) (x : List Role) (b : List Role) (s : Role) (y : List Role) (k j : FaultKind) → AreWithin t a → broken_by (tallied t a) r ≡ Some k → AreWithin t b → broken_by (tallied t b) s ≡ Some j → a ++ r ∷ x ≡ b ++ s ∷ y → (a ≡ b) × (r ≡ s)
first_break t [] r x [] s y k j v p w q e = (refl, cc e)
first_break t [] r x (c ∷ b) s y k j v p w q e =
    let is : r ≡ c = cc e in
    absurd (none-some k (sym w.0 ∙ ap (broken_by t) (sym is) ∙ p))
first_break t (c ∷ a) r x [] s y k j v p w q e =
    let is : c ≡ s = cc e in
    absurd (none-some j (sym v.0 ∙ ap (broken_by t) is ∙ q))
first_break t (c ∷ a) r x (d ∷ b) s y k j v p w q e = go (first_break (counted t c) a r x b s y k j v.1 p (subst (λ z. AreWithin (counted t z) b) (sym is) w.1) (ap (λ z. broken_by (tallied (counted t z) b) s) is ∙ q) (cc e))
  where
    is : c ≡ d
    is = cc e

    go : (a ≡ b) × (r ≡ s) → (c ∷ a ≡ d ∷ b) × (r ≡ s)
    go (f, g) = (cc (is, f), g)

-- A longer list of tokens says what stands behind a shorter one.
pub next_found : (cs : List ℕ) (ts : List Token) (t : Token) (more us : List Token) (rest others : List ℕ) → Takes cs ts rest → Takes cs us others → us ≡ ts ++ t ∷ more → (l : Lexeme) × (from mid : List ℕ) × (next_lexeme rest ≡ Found l from mid) × (token_of l ≡ t)
next_found cs ts t more us rest others p q e = go (takes_split cs ts (t ∷ more) others (subst (λ x. Takes cs x others) e q))
  where
    go : ((mid : List ℕ) × Takes cs ts mid × Takes mid (t ∷ more) others) → (l : Lexeme) × (from mid : List ℕ) × (next_lexeme rest ≡ Found l from mid) × (token_of l ≡ t)
    go (mid, a, (l, from, next, found, is, b)) = (l, from, next, ap next_lexeme (takes_same cs ts rest mid p a) ∙ found, is)

end_found : {A : Type 0} {l : Lexeme} {from rest : List ℕ} → Found l from rest ≡ AtEnd → A
end_found e = absurd (let no : ⊥ = cc e in no)

no_both : (s : Lexed) (wrong : FaultKind × List ℕ) (seen : Token × List ℕ) → lexical_fault s ≡ Some wrong → token_seen s ≡ Some seen → ⊥
no_both (Found l from rest) wrong seen p q = none-some wrong p
no_both AtEnd wrong seen p q = none-some wrong p
no_both (NoToken from) wrong seen p q = none-some seen q
no_both (NoClose from) wrong seen p q = none-some seen q

-- What stands behind tokens stands at one place.
pub standing_one : (text : List ℕ) (ts us : List Token) (from place : List ℕ) → ts ≡ us → StandsBehind text ts from → StandsBehind text us place → from ≡ place
standing_one text ts us from place e a b =
    let rests : a.rest ≡ b.rest = takes_same (chars text) us a.rest b.rest (subst (λ x. Takes (chars text) x a.rest) e a.taken) b.taken in
    (some_pair_parts _ _ _ _ (sym a.seen ∙ ap (λ x. token_seen (next_lexeme x)) rests ∙ b.seen)).1

module _ {V : Type 0} (l : Language V) where
  -- A text of the language begins with the first of the tokens that begin one.
  begins_front : (ts us : List Token) (rs : List Role) → Begins l (ts ++ us) rs → CanGoOn l ts
  begins_front ts us rs b =
      let long : length rs ≡ length ts + length us = b.each ∙ length-append ts us in (
        take (length ts) rs,
        record {
          tree = b.tree;
          more = us ++ b.more;
          others = drop (length ts) rs ++ b.others;
          text = b.text ∙ append_assoc ts us b.more;
          in_roles = b.in_roles ∙ ap (λ x. x ++ b.others) (sym (take-append-drop (length ts) rs)) ∙ append_assoc (take (length ts) rs) (drop (length ts) rs) b.others;
          each = length-take-le (length ts) rs (omega arith);
        },
      )

  -- The kind of a misplaced token is one.
  same_misplaced : {front : List Token} {t : Token} {k j : FaultKind} → IsMisplaced l front t k → IsMisplaced l front t j → k ≡ j
  same_misplaced (reserved a w b c) (reserved d v e f) = refl
  same_misplaced (reserved a w b c) (other d) = absurd (true≢false (sym a ∙ d))
  same_misplaced (reserved a w b c) (no_name never) = absurd (never w b c)
  same_misplaced (other a) (reserved d v e f) = absurd (true≢false (sym d ∙ a))
  same_misplaced (other a) (other d) = refl
  same_misplaced (other a) (no_name never) = refl
  same_misplaced (no_name never) (reserved d v e f) = absurd (never v e f)
  same_misplaced (no_name never) (other d) = refl
  same_misplaced (no_name never) (no_name none) = refl

  -- No front goes on where a longest one ends.
  longest_ends : {text : List ℕ} (f g : Front l text) (t : Token) (more : List Token) → IsLongest l f → g.tokens ≡ f.tokens ++ t ∷ more → ⊥
  longest_ends {text} f g t more longest e = go longest (next_found (chars text) f.tokens t more g.tokens f.rest g.rest f.taken g.taken e)
    where
      on : CanGoOn l (f.tokens ++ t ∷ [])
      on = begins_front (f.tokens ++ t ∷ []) more g.roles (subst (λ x. Begins l x g.roles) (e ∙ sym (append_assoc f.tokens (t ∷ []) more)) g.begins)

      go : IsLongest l f → ((x : Lexeme) × (from mid : List ℕ) × (next_lexeme f.rest ≡ Found x from mid) × (token_of x ≡ t)) → ⊥
      go (before_no_lexeme kind from wrong) (x, place, mid, found, is) = none-some (kind, from) (sym (ap lexical_fault found) ∙ wrong)
      go (before_misplaced u from seen never) (x, place, mid, found, is) =
          let token : u ≡ t = sym (some_pair_parts _ _ _ _ (sym (ap token_seen found) ∙ seen)).0 ∙ is in
          never (subst (λ z. CanGoOn l (f.tokens ++ z ∷ [])) (sym token) on)
      go (before_the_end ended can) (x, place, mid, found, is) = end_found (sym found ∙ ended)

  fronts_order : {text : List ℕ} (f g : Front l text) → Order f.tokens g.tokens
  fronts_order {text} f g = takes_order (chars text) f.tokens g.tokens f.rest g.rest f.taken g.taken

  -- A text has one longest front.
  longest_same : {text : List ℕ} (f g : Front l text) → IsLongest l f → IsLongest l g → f.tokens ≡ g.tokens
  longest_same f g a b = go (fronts_order f g)
    where
      go : Order f.tokens g.tokens → f.tokens ≡ g.tokens
      go (same e) = e
      go (shorter t more e) = absurd (longest_ends f g t more a e)
      go (longer t more e) = absurd (longest_ends g f t more b e)

  -- Fronts with the same tokens have the same text behind them.
  fronts_rest : (text : List ℕ) (f g : Front l text) → f.tokens ≡ g.tokens → f.rest ≡ g.rest
  fronts_rest text f g p = takes_same (chars text) g.tokens f.rest g.rest (subst (λ x. Takes (chars text) x f.rest) p f.taken) g.taken

  -- how a text goes wrong in a front or behind it
  data IsStop (text : List ℕ) (f : Front l text) : ℕ → FaultKind → Type 0 where
    broken : (before after : List Role) (r : Role) → f.roles ≡ before ++ r ∷ after → AreWithin l.met before
        → (kind : FaultKind) → broken_by (tallied l.met before) r ≡ Some kind
        → (from : List ℕ) → StandsBehind text (take (length before) f.tokens) from → IsStop text f (place_of text from) kind
    lexical : AreWithin l.met f.roles → (kind : FaultKind) (from : List ℕ) → lexical_fault (next_lexeme f.rest) ≡ Some (kind, from) → IsStop text f (place_of text from) kind
    at_token : AreWithin l.met f.roles → (t : Token) (from : List ℕ) → token_seen (next_lexeme f.rest) ≡ Some (t, from) → (CanGoOn l (f.tokens ++ t ∷ []) → ⊥) → (kind : FaultKind) → IsMisplaced l f.tokens t kind → IsStop text f (place_of text from) kind

  record Stopped (text : List ℕ) (at : ℕ) (kind : FaultKind) : Type 0 where
    front : Front l text
    longest : IsLongest l front
    stop : IsStop text front at kind

  -- The first fault is in the longest front or behind it.
  stopped : {text : List ℕ} {at : ℕ} {kind : FaultKind} → IsUtf8 text → IsFirstFault l text at kind → Stopped text at kind
  stopped utf8 (no_text at never v) = absurd (never utf8)
  stopped utf8 (breaking front longest before after r all within kind breaks from stands) = record { front = front; longest = longest; stop = broken before after r all within kind breaks from stands }
  stopped utf8 (no_lexeme front within kind from wrong) = record { front = front; longest = before_no_lexeme kind from wrong; stop = lexical within kind from wrong }
  stopped utf8 (no_place front within t from seen never kind is) = record { front = front; longest = before_misplaced t from seen never; stop = at_token within t from seen never kind is }

  -- Roles that break something aren't within the limits.
  within_broken : (rs before after : List Role) (r : Role) (kind : FaultKind) → rs ≡ before ++ r ∷ after → broken_by (tallied l.met before) r ≡ Some kind → AreWithin l.met rs → ⊥
  within_broken rs before after r kind all breaks within = none-some kind (sym (within_at l.met before r after (subst (AreWithin l.met) all within)) ∙ breaks)

module _ {V : Type 0} (l : Language V) (m : Reader) (laws : Reads l m) where
  -- Fronts with the same tokens have the same roles.
  fronts_roles : (text : List ℕ) (f g : Front l text) → f.tokens ≡ g.tokens → f.roles ≡ g.roles
  fronts_roles text f g e = go (begins_reads l m laws f.tokens f.roles f.begins) (begins_reads l m laws f.tokens g.roles (subst (λ x. Begins l x g.roles) (sym e) g.begins))
    where
      go : ReadTo l m laws f.tokens f.roles → ReadTo l m laws f.tokens g.roles → f.roles ≡ g.roles
      go a b =
          let ran : (Some a.s, a.rs) ≡ (Some b.s, b.rs) = sym a.ran ∙ b.ran in
          a.in_roles f.settled ∙ ap (λ x. x ++ m.pending a.s) (ap (λ p. p.1) ran) ∙ ap (λ x. b.rs ++ m.pending x) (same_Some a.s b.s (ap (λ p. p.0) ran)) ∙ sym (b.in_roles g.settled)

  -- In a longest front, or behind it, a text goes wrong in one way.
  same_stop : {text : List ℕ} {at bt : ℕ} {kind lind : FaultKind} (f g : Front l text) → f.tokens ≡ g.tokens → IsStop l text f at kind → IsStop l text g bt lind → (at ≡ bt) × (kind ≡ lind)
  same_stop {text} f g e (broken a x r p v kind j from there) (broken b y s q w lind k place stands) =
      let one : (a ≡ b) × (r ≡ s) = first_break l.met a r x b s y kind lind v j w k (sym p ∙ fronts_roles text f g e ∙ q) in
      let tokens : take (length a) f.tokens ≡ take (length b) g.tokens = ap (λ z. take (length z) f.tokens) one.0 ∙ ap (take (length b)) e in
      (ap (place_of text) (standing_one text (take (length a) f.tokens) (take (length b) g.tokens) from place tokens there stands), same_Some kind lind (sym j ∙ ap (λ z. broken_by (tallied l.met z) r) one.0 ∙ ap (broken_by (tallied l.met b)) one.1 ∙ k))
  same_stop {text} f g e (broken a x r p v kind j from there) (lexical w lind place d) = absurd (within_broken l g.roles a x r kind (sym (fronts_roles text f g e) ∙ p) j w)
  same_stop {text} f g e (broken a x r p v kind j from there) (at_token w t place d never lind is) = absurd (within_broken l g.roles a x r kind (sym (fronts_roles text f g e) ∙ p) j w)
  same_stop {text} f g e (lexical v kind from c) (broken b y s q w lind k place stands) = absurd (within_broken l f.roles b y s lind (fronts_roles text f g e ∙ q) k v)
  same_stop {text} f g e (at_token v t from c never kind is) (broken b y s q w lind k place stands) = absurd (within_broken l f.roles b y s lind (fronts_roles text f g e ∙ q) k v)
  same_stop {text} f g e (lexical v kind from c) (lexical w lind place d) =
      let both : Some (kind, from) ≡ Some (lind, place) = sym c ∙ ap (λ x. lexical_fault (next_lexeme x)) (fronts_rest l text f g e) ∙ d in
      (ap (place_of text) (some_pair_parts _ _ _ _ both).1, (some_pair_parts _ _ _ _ both).0)
  same_stop {text} f g e (lexical v kind from c) (at_token w t place d never lind is) = absurd (no_both (next_lexeme g.rest) (kind, from) (t, place) (sym (ap (λ x. lexical_fault (next_lexeme x)) (fronts_rest l text f g e)) ∙ c) d)
  same_stop {text} f g e (at_token v t from c never kind is) (lexical w lind place d) = absurd (no_both (next_lexeme g.rest) (lind, place) (t, from) d (sym (ap (λ x. token_seen (next_lexeme x)) (fronts_rest l text f g e)) ∙ c))
  same_stop {text} f g e (at_token v t from c never kind is) (at_token w u place d none lind so) =
      let both : Some (t, from) ≡ Some (u, place) = sym c ∙ ap (λ x. token_seen (next_lexeme x)) (fronts_rest l text f g e) ∙ d in
      (ap (place_of text) (some_pair_parts _ _ _ _ both).1, same_misplaced l (subst (λ x. IsMisplaced l x u kind) e (subst (λ x. IsMisplaced l f.tokens x kind) (some_pair_parts _ _ _ _ both).0 is)) so)

  one_stop : (text : List ℕ) (at bt : ℕ) (kind lind : FaultKind) → Stopped l text at kind → Stopped l text bt lind → (at ≡ bt) × (kind ≡ lind)
  one_stop text at bt kind lind a b = same_stop a.front b.front (longest_same l a.front b.front a.longest b.longest) a.stop b.stop

  -- the first fault is one
  pub one_fault : (text : List ℕ) (at bt : ℕ) (kind lind : FaultKind) → IsFirstFault l text at kind → IsFirstFault l text bt lind → (at ≡ bt) × (kind ≡ lind)
  one_fault text at bt kind lind (no_text a never v) (no_text b none w) = (sym (utf8_valid_len-IsValidUpTo text a v) ∙ utf8_valid_len-IsValidUpTo text b w, refl)
  one_fault text at bt kind lind (no_text a never v) (breaking g longest before after r all within k breaks from stands) = absurd (never g.utf8)
  one_fault text at bt kind lind (no_text a never v) (no_lexeme g within k place d) = absurd (never g.utf8)
  one_fault text at bt kind lind (no_text a never v) (no_place g within u place d none k is) = absurd (never g.utf8)
  one_fault text at bt kind lind (breaking f longest before after r all within k breaks from stands) b = one_stop text at bt kind lind (stopped l f.utf8 (breaking f longest before after r all within k breaks from stands)) (stopped l f.utf8 b)
  one_fault text at bt kind lind (no_lexeme f within k from wrong) b = one_stop text at bt kind lind (stopped l f.utf8 (no_lexeme f within k from wrong)) (stopped l f.utf8 b)
  one_fault text at bt kind lind (no_place f within t from seen never k is) b = one_stop text at bt kind lind (stopped l f.utf8 (no_place f within t from seen never k is)) (stopped l f.utf8 b)

  -- ---- a text of the language

  -- behind a text the end may stand
  ends : (x : l.Tree) → CanGoOn l (l.spell x [] ++ End ∷ [])
  ends x =
      let ran : run_of m (l.spell x [] ++ End ∷ []) m.start ≡ (Some (laws.ended x), l.roles x (other_token ∷ [])) = ap (λ w. run_of m w m.start) (sym (laws.grammar.spells x [] (End ∷ []))) ∙ laws.complete x in
      (l.roles x (other_token ∷ []) ++ m.pending (laws.ended x), reads_begin l m laws (l.spell x [] ++ End ∷ []) (laws.ended x) (l.roles x (other_token ∷ [])) ran)

  -- A text of the language is a front, and the longest.
  abbrev whole_front : {text : List ℕ} {v : V} → IsTextOf l text v → Front l text
  whole_front is = record { utf8 = is.utf8; tokens = l.spell is.tree []; rest = is.rest; taken = is.spelled; roles = l.roles is.tree []; begins = begun l m laws is.tree; settled = laws.grammar.settled is.tree }

  whole_longest : {text : List ℕ} {v : V} (is : IsTextOf l text v) → IsLongest l (whole_front is)
  whole_longest is = before_the_end is.ended (ends is.tree)

  -- a text of the language has no fault
  pub no_fault : (text : List ℕ) (v : V) (at : ℕ) (kind : FaultKind) → IsTextOf l text v → IsFirstFault l text at kind → ⊥
  no_fault text v at kind is wrong = go (stopped l is.utf8 wrong)
    where
      clash : {a : ℕ} {k : FaultKind} (f : Front l text) → l.spell is.tree [] ≡ f.tokens → IsStop l text f a k → ⊥
      clash f e (broken before after r all within k breaks from stands) = within_broken l (l.roles is.tree []) before after r k (fronts_roles text (whole_front is) f e ∙ all) breaks is.within
      clash f e (lexical within k from d) = none-some (k, from) (sym (ap lexical_fault is.ended) ∙ ap (λ x. lexical_fault (next_lexeme x)) (fronts_rest l text (whole_front is) f e) ∙ d)
      clash f e (at_token within t from d never k misplaced) =
          let seen : Some (End, []) ≡ Some (t, from) = sym (ap token_seen is.ended) ∙ ap (λ x. token_seen (next_lexeme x)) (fronts_rest l text (whole_front is) f e) ∙ d in
          never (subst (λ x. CanGoOn l (f.tokens ++ x ∷ [])) (some_pair_parts _ _ _ _ seen).0 (subst (λ x. CanGoOn l (x ++ End ∷ [])) e (ends is.tree)))

      go : Stopped l text at kind → ⊥
      go s = clash s.front (longest_same l (whole_front is) s.front (whole_longest is) s.longest) s.stop

  -- a text stands for one value
  pub one_value : (text : List ℕ) (p q : V) → IsTextOf l text p → IsTextOf l text q → p ≡ q
  one_value text p q a b = a.valued ∙ same_value l m laws a.tree b.tree (longest_same l (whole_front a) (whole_front b) (whole_longest a) (whole_longest b)) ∙ sym b.valued

  -- ---- the longest front is there

  abbrev pub front_of : (text : List ℕ) → IsUtf8 text → (ts : List Token) (rest : List ℕ) (s : m.State) (rs : List Role) → Takes (chars text) ts rest → run_of m ts m.start ≡ (Some s, rs) → Front l text
  front_of text utf8 ts rest s rs taken ran = record { utf8 = utf8; tokens = ts; rest = rest; taken = taken; roles = rs ++ m.pending s; begins = reads_begin l m laws ts s rs ran; settled = laws.settled ts s rs ran }

  -- a longest front that goes on from these tokens, in the roles that they settle
  pub record LongestFrom (text : List ℕ) (ts : List Token) (rs : List Role) : Type 0 where
    pub front : Front l text
    pub longest : IsLongest l front
    pub more : List Token
    pub others : List Role
    pub tokens : front.tokens ≡ ts ++ more
    pub in_roles : front.roles ≡ rs ++ others

  nothing_more : {A : Type 0} (xs : List A) → xs ≡ xs ++ []
  nothing_more [] = refl
  nothing_more (x ∷ xs) = ap (λ ys. x ∷ ys) (nothing_more xs)

  -- where a run stops
  stops : (text : List ℕ) (utf8 : IsUtf8 text) (ts : List Token) (rest : List ℕ) (s : m.State) (rs : List Role) (taken : Takes (chars text) ts rest) (ran : run_of m ts m.start ≡ (Some s, rs)) → IsLongest l (front_of text utf8 ts rest s rs taken ran) → LongestFrom text ts rs
  stops text utf8 ts rest s rs taken ran longest = record { front = front_of text utf8 ts rest s rs taken ran; longest = longest; more = []; others = m.pending s; tokens = nothing_more ts; in_roles = refl }

  pub longest_from : (k : ℕ) (text : List ℕ) (utf8 : IsUtf8 text) (ts : List Token) (rest : List ℕ) (s : m.State) (rs : List Role) → length rest < k → Takes (chars text) ts rest → run_of m ts m.start ≡ (Some s, rs) → LongestFrom text ts rs
  longest_from zero text utf8 ts rest s rs few taken ran = absurd (omega arith)
  longest_from (suc k) text utf8 ts rest s rs few taken ran = go (λ us mid n qs less took goes. longest_from k text utf8 us mid n qs less took goes) (next_lexeme rest) refl
    where
      by_end : next_lexeme rest ≡ AtEnd → (o : Option m.State) → m.step s End ≡ o → LongestFrom text ts rs
      by_end e None stuck = stops text utf8 ts rest s rs taken ran (before_misplaced End [] (ap token_seen e) (cannot_go_on l m laws ts End s rs ran stuck))
      by_end e (Some n) goes = stops text utf8 ts rest s rs taken ran (before_the_end e (can_go_on l m laws ts End s n rs ran goes))

      further : (t : Token) → LongestFrom text (ts ++ t ∷ []) (rs ++ m.emitted s t) → LongestFrom text ts rs
      further t f = record { front = f.front; longest = f.longest; more = t ∷ f.more; others = m.emitted s t ++ f.others; tokens = f.tokens ∙ append_assoc ts (t ∷ []) f.more; in_roles = f.in_roles ∙ append_assoc rs (m.emitted s t) f.others }

      by_token : ((us : List Token) (mid : List ℕ) (n : m.State) (qs : List Role) → length mid < k → Takes (chars text) us mid → run_of m us m.start ≡ (Some n, qs) → LongestFrom text us qs) → (x : Lexeme) (from mid : List ℕ) → next_lexeme rest ≡ Found x from mid → (o : Option m.State) → m.step s (token_of x) ≡ o → LongestFrom text ts rs
      by_token ih x from mid e None stuck = stops text utf8 ts rest s rs taken ran (before_misplaced (token_of x) from (ap token_seen e) (cannot_go_on l m laws ts (token_of x) s rs ran stuck))
      by_token ih x from mid e (Some n) goes = further (token_of x) (ih (ts ++ token_of x ∷ []) mid n (rs ++ m.emitted s (token_of x)) (omega (arith, found_shorter rest x from mid e)) (takes_more (chars text) ts rest x from mid taken e) (run_more m ts (token_of x) s n rs ran goes))

      go : ((us : List Token) (mid : List ℕ) (n : m.State) (qs : List Role) → length mid < k → Takes (chars text) us mid → run_of m us m.start ≡ (Some n, qs) → LongestFrom text us qs) → (x : Lexed) → next_lexeme rest ≡ x → LongestFrom text ts rs
      go ih (Found x from mid) e = by_token ih x from mid e (m.step s (token_of x)) refl
      go ih AtEnd e = by_end e (m.step s End) refl
      go ih (NoToken from) e = stops text utf8 ts rest s rs taken ran (before_no_lexeme fault.BadChar from (ap lexical_fault e))
      go ih (NoClose from) e = stops text utf8 ts rest s rs taken ran (before_no_lexeme fault.OpenComment from (ap lexical_fault e))
