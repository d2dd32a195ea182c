-- Runs of a reader, and what they say of its language: what is read begins a text, in its roles, and where the reader is stuck no
-- text goes on.
use Rattle.std.proofs.Common.{◌≡◌, ℕ, suc, ◌+◌, ◌<◌, ◌≤◌, Bool, true, false, ◌&&◌, if◌then◌else◌, List, [], ◌∷◌, ◌++◌, length, Option, Some, None, refl, sym, ◌∙◌, ap, subst, arith, append_assoc, length-append, nat_le}
use Rattle.std.proofs.lemmas.Bool.{leb-true, and_parts}
use Rattle.std.proofs.lemmas.Option.{none-some, same_Some}
use Rattle.cfj_words.specs.Tokens.{Token, Id, End, is_reserved_word}
use Rattle.cfj_model.specs.Roles.{Role, casts, other_token, is_settled, are_settled}
use Rattle.cfj_model.specs.declared.fault.FaultKind.TheVariants as fault
use Rattle.cfj_model.specs.Faults.{Begins, CanGoOn, IsMisplaced, reserved, other, no_name}
use Rattle.cfj_model.specs.Languages.{Language}
use Rattle.fj_symbols.specs.Views.{are_read}
use Rattle.fj_parser.specs.Laws.{Settles, alike, as_cast, Closes, GoesByName, Reads}
use Rattle.fj_machine.specs.Readers.{Reader, SettlesEach, Run, with_roles, then_run, run_of, misplaced_kind}

-- two lists that begin one list, with the same length
pub same_front : (a b x y : List Role) → length a ≡ length b → a ++ x ≡ b ++ y → a ≡ b
same_front [] [] x y n e = refl
same_front [] (r ∷ b) x y n e = absurd (omega arith)
same_front (q ∷ a) [] x y n e = absurd (omega arith)
same_front (q ∷ a) (r ∷ b) x y n e =
    let first : q ≡ r = cc e in
    let others : a ++ x ≡ b ++ y = cc e in
    let rest : a ≡ b = same_front a b x y (omega arith) others in
    cc

-- A bracket of a cast isn't settled where fewer than three roles stand behind it.
unsettled : (es qs o others : List Role) (n : ℕ) → es ++ casts n ∷ o ≡ qs ++ others → length es < length qs → length qs ≤ length es + 3 → are_settled qs ≡ true → ⊥
unsettled es [] o others n e some few h = omega arith
unsettled [] (q ∷ qs) o others n e some few h =
    let is : casts n ≡ q = cc e in
    let long : nat_le 3 (length qs) ≡ true = subst (λ x. is_settled x qs ≡ true) (sym is) (and_parts _ _ h).0 in
    let many : 3 ≤ length qs = leb-true 3 (length qs) long in
    omega arith
unsettled (r ∷ es) (q ∷ qs) o others n e some few h =
    let rest : es ++ casts n ∷ o ≡ qs ++ others = cc e in
    unsettled es qs o others n rest (omega arith) (omega arith) (and_parts _ _ h).1

-- ---- a run in two parts

module _ (m : Reader) where
  -- a run over more tokens
  abbrev pub on_from : List Token → Run m.State → Run m.State
  on_from b (None, rs) = (None, rs)
  on_from b (Some s, rs) = with_roles rs (run_of m b s)

  pub roles_on : (rs : List Role) (b : List Token) (p : Run m.State) → with_roles rs (on_from b p) ≡ on_from b (with_roles rs p)
  roles_on rs b (None, qs) = refl
  roles_on rs b (Some s, qs) = ap (λ x. ((run_of m b s).0, x)) (sym (append_assoc rs qs (run_of m b s).1))

  -- the run of two lists of tokens is that of the first, gone on with
  pub run_append : (a b : List Token) (s : m.State) → run_of m (a ++ b) s ≡ on_from b (run_of m a s)
  unfolding run_of
  run_append [] b s = refl
  run_append (t ∷ a) b s = go (λ n. run_append a b n) (m.emitted s t) (m.step s t)
    where
      go : ((n : m.State) → run_of m (a ++ b) n ≡ on_from b (run_of m a n)) → (rs : List Role) (o : Option m.State) → then_run (run_of m (a ++ b)) rs o ≡ on_from b (then_run (run_of m a) rs o)
      go ih rs None = refl
      go ih rs (Some n) = ap (with_roles rs) (ih n) ∙ roles_on rs b (run_of m a n)

  nothing_more : (rs : List Role) → rs ++ [] ≡ rs
  nothing_more [] = refl
  nothing_more (r ∷ rs) = ap (λ x. r ∷ x) (nothing_more rs)

  one_run : (t : Token) (s n : m.State) → m.step s t ≡ Some n → run_of m (t ∷ []) s ≡ (Some n, m.emitted s t)
  unfolding run_of
  one_run t s n goes = ap (then_run (run_of m []) (m.emitted s t)) goes ∙ ap (λ x. (Some n, x)) (nothing_more (m.emitted s t))

  -- one more token
  pub run_more : (front : List Token) (t : Token) (s n : m.State) (rs : List Role) → run_of m front m.start ≡ (Some s, rs) → m.step s t ≡ Some n → run_of m (front ++ t ∷ []) m.start ≡ (Some n, rs ++ m.emitted s t)
  run_more front t s n rs h goes = run_append front (t ∷ []) m.start ∙ ap (on_from (t ∷ [])) h ∙ ap (with_roles rs) (one_run t s n goes)

  stuck_run : (t : Token) (s : m.State) → m.step s t ≡ None → (run_of m (t ∷ []) s).0 ≡ None
  unfolding run_of
  stuck_run t s stuck = ap (λ o. (then_run (run_of m []) (m.emitted s t) o).0) stuck

  stuck_on : (more : List Token) (p : Run m.State) → p.0 ≡ None → (on_from more p).0 ≡ None
  stuck_on more (None, rs) e = refl
  stuck_on more (Some s, rs) e = absurd (none-some s (sym e))

  -- a run that a token stops
  pub run_stuck : (front : List Token) (t : Token) (more : List Token) (s : m.State) (rs : List Role) → run_of m front m.start ≡ (Some s, rs) → m.step s t ≡ None → (run_of m ((front ++ t ∷ []) ++ more) m.start).0 ≡ None
  run_stuck front t more s rs h stuck =
      let one : (run_of m (front ++ t ∷ []) m.start).0 ≡ None = ap (λ p. p.0) (run_append front (t ∷ []) m.start ∙ ap (on_from (t ∷ [])) h) ∙ stuck_run t s stuck in
      ap (λ p. p.0) (run_append (front ++ t ∷ []) more m.start) ∙ stuck_on more (run_of m (front ++ t ∷ []) m.start) one

-- ---- where each token is settled or waits

module _ (m : Reader) (settles : SettlesEach m) where
  -- before the first token nothing is read
  nothing_read : run_of m [] m.start ≡ (Some m.start, [])
  unfolding run_of
  nothing_read = refl

  -- each token behind what was read gives a role, at once or later
  run_long : (front ts : List Token) (s n : m.State) (qs : List Role) → run_of m front m.start ≡ (Some s, qs) → (run_of m ts s).0 ≡ Some n → length (run_of m ts s).1 + length (m.pending n) ≡ length (m.pending s) + length ts
  unfolding run_of
  run_long front [] s n qs ran h =
      let alike : length (m.pending s) ≡ length (m.pending n) = ap (λ x. length (m.pending x)) (same_Some s n h) in
      omega arith
  run_long front (t ∷ ts) s n qs ran h = go (λ x goes e. run_long (front ++ t ∷ []) ts x n (qs ++ m.emitted s t) (run_more m front t s x qs ran goes) e) (m.step s t) refl h
    where
      go : ((x : m.State) → m.step s t ≡ Some x → (run_of m ts x).0 ≡ Some n → length (run_of m ts x).1 + length (m.pending n) ≡ length (m.pending x) + length ts) → (o : Option m.State) → m.step s t ≡ o → (then_run (run_of m ts) (m.emitted s t) o).0 ≡ Some n → length (then_run (run_of m ts) (m.emitted s t) o).1 + length (m.pending n) ≡ length (m.pending s) + suc (length ts)
      go ih None goes h = absurd (none-some n h)
      go ih (Some x) goes h =
          let long : length (m.emitted s t ++ (run_of m ts x).1) ≡ length (m.emitted s t) + length (run_of m ts x).1 = length-append (m.emitted s t) (run_of m ts x).1 in
          let one : length (m.emitted s t) + length (m.pending x) ≡ suc (length (m.pending s)) = settles.each front s x qs t ran goes in
          let others : length (run_of m ts x).1 + length (m.pending n) ≡ length (m.pending x) + length ts = ih x goes h in
          omega arith

  -- behind a front as many roles are settled or wait as it has tokens
  pub roles_long : (ts : List Token) (s : m.State) (rs : List Role) → run_of m ts m.start ≡ (Some s, rs) → length rs + length (m.pending s) ≡ length ts
  roles_long ts s rs h =
      let long : length (run_of m ts m.start).1 + length (m.pending s) ≡ length (m.pending m.start) + length ts = run_long [] ts m.start s [] nothing_read (ap (λ p. p.0) h) in
      let is : length (run_of m ts m.start).1 ≡ length rs = ap (λ p. length p.1) h in
      let none : length (m.pending m.start) ≡ 0 = ap length settles.first in
      omega arith

-- ---- what the laws give

pub settles_each : {V : Type 0} (l : Language V) (m : Reader) → Reads l m → SettlesEach m
settles_each l m laws = record { first = laws.first; each = laws.each }

module _ {V : Type 0} (l : Language V) (m : Reader) (laws : Reads l m) where
  front_long : (ts : List Token) (s : m.State) (rs : List Role) → run_of m ts m.start ≡ (Some s, rs) → length rs + length (m.pending s) ≡ length ts
  front_long ts s rs h = roles_long m (settles_each l m laws) ts s rs h

  -- what is read begins a text, in the roles that are settled and those that wait
  pub reads_begin : (ts : List Token) (s : m.State) (rs : List Role) → run_of m ts m.start ≡ (Some s, rs) → Begins l ts (rs ++ m.pending s)
  reads_begin ts s rs h =
      let c : Closes l ts rs (m.pending s) = laws.closes ts s rs h in
      record {
        tree = c.tree;
        more = c.more;
        others = c.others;
        text = sym c.text;
        in_roles = c.in_roles ∙ sym (append_assoc rs (m.pending s) c.others);
        each = length-append rs (m.pending s) ∙ front_long ts s rs h;
      }

  -- what is left of a text behind what is read
  record Left (ts more : List Token) (x : l.Tree) : Type 0 where
    s : m.State
    rs : List Role
    others : List Role
    ran : run_of m ts m.start ≡ (Some s, rs)
    onwards : run_of m more s ≡ (Some (laws.ended x), others)
    all : l.roles x (other_token ∷ []) ≡ rs ++ others

  left : (ts more : List Token) (x : l.Tree) → l.spell x (End ∷ []) ≡ ts ++ more → Left ts more x
  left ts more x e = go (run_of m ts m.start) refl (sym (laws.complete x) ∙ ap (λ w. run_of m w m.start) e ∙ run_append m ts more m.start)
    where
      go : (p : Run m.State) → run_of m ts m.start ≡ p → (Some (laws.ended x), l.roles x (other_token ∷ [])) ≡ on_from m more p → Left ts more x
      go (None, qs) r h = absurd (none-some (laws.ended x) (sym (ap (λ p. p.0) h)))
      go (Some s, qs) r h =
          record { s = s; rs = qs; others = (run_of m more s).1; ran = r; onwards = ap (λ o. (o, (run_of m more s).1)) (sym (ap (λ p. p.0) h)); all = ap (λ p. p.1) h }

  -- What begins a text is read.
  pub record ReadTo (ts : List Token) (qs : List Role) : Type 0 where
    pub s : m.State
    pub rs : List Role
    pub ran : run_of m ts m.start ≡ (Some s, rs)
    pub in_roles : are_settled qs ≡ true → qs ≡ rs ++ m.pending s

  pub begins_reads : (ts : List Token) (qs : List Role) → Begins l ts qs → ReadTo ts qs
  begins_reads ts qs b = go (left ts b.more b.tree b.text)
    where
      same : (h : Left ts b.more b.tree) → Settles (m.pending h.s) h.others → are_settled qs ≡ true → qs ≡ h.rs ++ m.pending h.s
      same h (alike others e) is =
          let all : (h.rs ++ m.pending h.s) ++ others ≡ qs ++ b.others = append_assoc h.rs (m.pending h.s) others ∙ ap (λ x. h.rs ++ x) (sym e) ∙ sym h.all ∙ b.in_roles in
          sym (same_front (h.rs ++ m.pending h.s) qs others b.others (length-append h.rs (m.pending h.s) ∙ front_long ts h.s h.rs h.ran ∙ sym b.each) all)
      same h (as_cast n others e some few) is =
          let all : h.rs ++ casts n ∷ others ≡ qs ++ b.others = ap (λ x. h.rs ++ x) (sym e) ∙ sym h.all ∙ b.in_roles in
          let long : length h.rs + length (m.pending h.s) ≡ length ts = front_long ts h.s h.rs h.ran in
          let each : length qs ≡ length ts = b.each in
          absurd (unsettled h.rs qs others b.others n all (omega arith) (omega arith) is)

      go : Left ts b.more b.tree → ReadTo ts qs
      go h = record { s = h.s; rs = h.rs; ran = h.ran; in_roles = same h (laws.settles b.more h.s b.tree h.others h.onwards) }

  -- with a token that the reader refuses, no text begins so
  pub cannot_go_on : (front : List Token) (t : Token) (s : m.State) (rs : List Role) → run_of m front m.start ≡ (Some s, rs) → m.step s t ≡ None → CanGoOn l (front ++ t ∷ []) → ⊥
  cannot_go_on front t s rs h stuck (qs, b) =
      let whole : (run_of m ((front ++ t ∷ []) ++ b.more) m.start).0 ≡ Some (laws.ended b.tree) = ap (λ w. (run_of m w m.start).0) (sym b.text) ∙ ap (λ p. p.0) (laws.complete b.tree) in
      none-some (laws.ended b.tree) (sym (run_stuck m front t b.more s rs h stuck) ∙ whole)

  -- with one that it takes, one does
  pub can_go_on : (front : List Token) (t : Token) (s n : m.State) (rs : List Role) → run_of m front m.start ≡ (Some s, rs) → m.step s t ≡ Some n → CanGoOn l (front ++ t ∷ [])
  can_go_on front t s n rs h goes = ((rs ++ m.emitted s t) ++ m.pending n, reads_begin (front ++ t ∷ []) n (rs ++ m.emitted s t) (run_more m front t s n rs h goes))

  -- the name that a misplaced token gets is the right one
  pub misplaced_is : (front : List Token) (t : Token) (s : m.State) (rs : List Role) → run_of m front m.start ≡ (Some s, rs) → are_read front ≡ true → IsMisplaced l front t (misplaced_kind m s t)
  misplaced_is front t s rs h read = go (is_reserved_word t) (m.takes_name s) refl refl
    where
      go : (a b : Bool) → is_reserved_word t ≡ a → m.takes_name s ≡ b → IsMisplaced l front t (if a && b then fault.Reserved else fault.Unexpected)
      go false b word name = other word
      go true false word name = no_name (λ w is can. cannot_go_on front (Id w) s rs h (laws.unnamed s w is name) can)
      go true true word name =
          let n : GoesByName m s = laws.named front s rs h read name in
          reserved word n.name n.is (can_go_on front (Id n.name) s n.next rs h n.goes)

  -- what is read to its end is the text of a tree
  pub record WholeText (front : List Token) (n : m.State) (rs : List Role) : Type 0 where
    pub tree : l.Tree
    pub spelled : front ≡ l.spell tree []
    pub in_roles : rs ≡ l.roles tree [] ++ other_token ∷ []
    pub valued : laws.stands_for n ≡ l.value tree

  pub text_read : (front : List Token) (s n : m.State) (rs : List Role) → run_of m front m.start ≡ (Some s, rs) → m.step s End ≡ Some n → WholeText front n (rs ++ m.emitted s End)
  text_read front s n rs h ends = go (laws.sound front s n rs h ends)
    where
      go : ((x : l.Tree) × (front ≡ l.spell x [])) → WholeText front n (rs ++ m.emitted s End)
      go (x, is) =
          let whole : (Some n, rs ++ m.emitted s End) ≡ (Some (laws.ended x), l.roles x (other_token ∷ [])) = sym (run_more m front End s n rs h ends) ∙ ap (λ w. run_of m (w ++ End ∷ []) m.start) is ∙ ap (λ w. run_of m w m.start) (sym (laws.grammar.spells x [] (End ∷ []))) ∙ laws.complete x in
          record {
            tree = x;
            spelled = is;
            in_roles = ap (λ p. p.1) whole ∙ laws.grammar.gives x [] (other_token ∷ []);
            valued = ap laws.stands_for (same_Some n (laws.ended x) (ap (λ p. p.0) whole)) ∙ laws.valued x;
          }

  -- a text of the language begins with all its tokens
  pub begun : (x : l.Tree) → Begins l (l.spell x []) (l.roles x [])
  begun x =
      let long : length (l.roles x (other_token ∷ [])) + length (m.pending (laws.ended x)) ≡ length (l.spell x (End ∷ [])) = front_long (l.spell x (End ∷ [])) (laws.ended x) (l.roles x (other_token ∷ [])) (laws.complete x) in
      let none : length (m.pending (laws.ended x)) ≡ 0 = ap length (laws.last x) in
      let tokens : length (l.spell x (End ∷ [])) ≡ length (l.spell x []) + 1 = ap length (laws.grammar.spells x [] (End ∷ [])) ∙ length-append (l.spell x []) (End ∷ []) in
      let given : length (l.roles x (other_token ∷ [])) ≡ length (l.roles x []) + 1 = ap length (laws.grammar.gives x [] (other_token ∷ [])) ∙ length-append (l.roles x []) (other_token ∷ []) in
      record {
        tree = x;
        more = End ∷ [];
        others = other_token ∷ [];
        text = laws.grammar.spells x [] (End ∷ []);
        in_roles = laws.grammar.gives x [] (other_token ∷ []);
        each = omega arith;
      }

  -- Trees that spell the same stand for the same.
  pub same_value : (a b : l.Tree) → l.spell a [] ≡ l.spell b [] → l.value a ≡ l.value b
  same_value a b e =
      let texts : l.spell a (End ∷ []) ≡ l.spell b (End ∷ []) = laws.grammar.spells a [] (End ∷ []) ∙ ap (λ x. x ++ End ∷ []) e ∙ sym (laws.grammar.spells b [] (End ∷ [])) in
      let ran : (Some (laws.ended a), l.roles a (other_token ∷ [])) ≡ (Some (laws.ended b), l.roles b (other_token ∷ [])) = sym (laws.complete a) ∙ ap (λ x. run_of m x m.start) texts ∙ laws.complete b in
      sym (laws.valued a) ∙ ap laws.stands_for (same_Some (laws.ended a) (laws.ended b) (ap (λ p. p.0) ran)) ∙ laws.valued b
