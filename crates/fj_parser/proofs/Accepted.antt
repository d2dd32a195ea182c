-- What becomes of a token, by what the code tests.
use Rattle.std.proofs.Common.{◌≡◌, ℕ, suc, ◌+◌, Bool, true, false, List, [], ◌∷◌, ◌++◌, length, drop, Option, Some, None, refl, sym, ap, subst, ◌∙◌, arith, length-append}
use Rattle.std.proofs.lemmas.Bool.{true≢false}
use Rattle.std.proofs.lemmas.List.{drop_all, length-map}
use Rattle.std.specs.List.{slice_get}
use Rattle.std.specs.Prelude.{is_some}
use Rattle.cfj_model.specs.declared.fault.FaultKind.{FaultKind}
use Rattle.cfj_model.specs.Roles.{Role, Tally, counted, tallied, broken_by, AreWithin}
use Rattle.cfj_words.specs.Tokens.{Token}
use Rattle.expression_reader.specs.declared.roles.Settling.{Settling}
use Rattle.expression_reader.specs.declared.roles.Settling.TheVariants.{Stays, Bracket, Cast}
use Rattle.expression_reader.specs.Machine as expression
use Rattle.fj_parser.specs.Accepting.{BreaksAt, IsRefused, settled, waiting, misplaced, IsBrokenAt, AreCounted, IsTaken, IsToldAt, OwnFault, broken, stuck, OwnTaken}
use Rattle.fj_machine.specs.Machine.{State, emitted, pending, role, settles, waits}
use Rattle.fj_parser.specs.GoalViews.{GoesFor, reader_of}
use Rattle.fj_parser.specs.Goals.{step_for}
use Rattle.fj_machine.specs.Readers.{misplaced_kind}
use Rattle.fj_parser.specs.declared.part.Part.{Part}
use Rattle.fj_parser.specs.Waiting.{waiting_left, waiting_places, waiting_roles, WaitedWithin}
use Rattle.fj_parser.specs.declared.waiting.Refusal.{Refusal}
use Rattle.fj_parser.specs.declared.waiting.Waiting.{Waiting}
use Rattle.fj_parser.specs.declared.waiting.Waiting.TheVariants as waiting
use Rattle.fj_parser.proofs.Behind.{nothing_left, IsOnce}
use Rattle.fj_parser.proofs.GoalBehind.{cast_goes_for, waits_behind_for}
use Rattle.fj_parser.proofs.CountedRoles.{breaks_more, get-append}
use Rattle.fj_parser.proofs.Progress.{tallied_append, within_append}

abbrev pub step_of : Part → State → Token → Option State
step_of p s t = step_for p.goal s.mode s t

-- ---- whether a step could be taken

pub gone_is : (p : Part) (b : Bool) (s n : State) (token : Token) → GoesFor p.goal b s token n → b ≡ is_some (step_of p s token)
gone_is p true s n token h = sym (ap is_some h)
gone_is p false s n token h = sym (ap is_some h)

-- a step that could be taken, and one that couldn't
pub gone : (p : Part) (b : Bool) (s n : State) (token : Token) → is_some (step_of p s token) ≡ true → GoesFor p.goal b s token n → step_of p s token ≡ Some n
gone p true s n token can h = h
gone p false s n token can h = absurd (true≢false (sym can ∙ ap is_some h))

pub cannot_go : (p : Part) (s : State) (token : Token) → is_some (step_of p s token) ≡ false → step_of p s token ≡ None
cannot_go p s token can = go (step_of p s token) refl
  where
    go : (o : Option State) → step_of p s token ≡ o → step_of p s token ≡ None
    go None e = e
    go (Some m) e = absurd (true≢false (ap is_some (sym e) ∙ can))

pub not_gone : (p : Part) (b : Bool) (s n : State) (token : Token) → b ≡ false → GoesFor p.goal b s token n → step_of p s token ≡ None
not_gone p false s n token e h = h
not_gone p true s n token e h = absurd (true≢false e)

pub gone_on : (p : Part) (b : Bool) (s n : State) (token : Token) → b ≡ true → GoesFor p.goal b s token n → step_of p s token ≡ Some n
gone_on p true s n token e h = h
gone_on p false s n token e h = absurd (true≢false (sym e))

-- ---- a token's own role

pub own_broken : (p : Part) (s : State) (t : Tally) (token : Token) (kind : FaultKind) → is_some (step_of p s token) ≡ true → broken_by t (role s token) ≡ Some kind → OwnFault (reader_of p) s t (role s token) token kind
own_broken p s t token kind can h = go (step_of p s token) refl
  where
    go : (o : Option State) → step_of p s token ≡ o → OwnFault (reader_of p) s t (role s token) token kind
    go None e = absurd (true≢false (sym can ∙ ap is_some e))
    go (Some n) e = broken kind n e h

pub own_stuck : (p : Part) (s : State) (t : Tally) (token : Token) (kind : FaultKind) → step_of p s token ≡ None → kind ≡ misplaced_kind (reader_of p) s token → OwnFault (reader_of p) s t (role s token) token kind
own_stuck p s t token kind no_step is = subst (λ k. OwnFault (reader_of p) s t (role s token) token k) (sym is) (stuck no_step)

-- ---- places

-- each token that waits has a place
places_long : (w : Waiting) → length (waiting_places w) ≡ length (waiting_roles w)
places_long waiting.Nothing = refl
places_long (waiting.Bracket b) = refl
places_long (waiting.Name b n) = refl
places_long (waiting.Closed b n x) = refl

pub left_roles : (c : Settling) (w : Waiting) → waiting_roles (waiting_left c w) ≡ expression.left c (waiting_roles w)
left_roles Stays w = refl
left_roles Bracket w = refl
left_roles Cast w = refl

settled_behind : (c : Settling) (w : Waiting) (at : ℕ) → waiting_places (waiting_left c w) ++ at ∷ [] ≡ drop (length (expression.settled c (waiting_roles w))) (waiting_places w ++ at ∷ [])
settled_behind Stays w at = refl
settled_behind Bracket waiting.Nothing at = refl
settled_behind Bracket (waiting.Bracket b) at = refl
settled_behind Bracket (waiting.Name b n) at = refl
settled_behind Bracket (waiting.Closed b n x) at = refl
settled_behind Cast waiting.Nothing at = refl
settled_behind Cast (waiting.Bracket b) at = refl
settled_behind Cast (waiting.Name b n) at = refl
settled_behind Cast (waiting.Closed b n x) at = refl

-- the last of a list
get-last : (xs : List ℕ) (i x : ℕ) → i ≡ length xs → slice_get (xs ++ x ∷ []) i ≡ Some x
get-last xs i x e = subst (λ k. slice_get (xs ++ x ∷ []) k ≡ Some x) (sym e) (go xs)
  where
    go : (ys : List ℕ) → slice_get (ys ++ x ∷ []) (length ys) ≡ Some x
    go [] = refl
    go (y ∷ ys) = go ys

-- ---- what waited

-- where the token itself is settled, so is all that waited
all_settled : (s : State) (token : Token) → waits s token ≡ false → length (expression.settled (settles s token) (pending s)) ≡ length (pending s)
all_settled s token own = go (settles s token) refl
  where
    go : (c : Settling) → settles s token ≡ c → length (expression.settled c (pending s)) ≡ length (pending s)
    go Stays e = sym (ap length (sym (ap (λ k. expression.left k (pending s)) e) ∙ nothing_left s token own))
    go Bracket e = refl
    go Cast e = length-map (pending s) expression.as_cast

-- and where it can't stand here, as it is
as_it_is : (p : Part) (s : State) (t : Tally) (token : Token) → waits s token ≡ false → step_of p s token ≡ None → AreWithin t (expression.settled (settles s token) (pending s)) → AreWithin t (pending s)
as_it_is p s t token own no_step within = go (settles s token) refl
  where
    go : (c : Settling) → settles s token ≡ c → AreWithin t (pending s)
    go Stays e = subst (AreWithin t) (sym (sym (ap (λ k. expression.left k (pending s)) e) ∙ nothing_left s token own)) tt
    go Bracket e = subst (λ k. AreWithin t (expression.settled k (pending s))) e within
    go Cast e = absurd (true≢false (sym (cast_goes_for p.goal s token e) ∙ ap is_some no_step))

nothing_breaks : {A : Type 0} (t : Tally) (place : ℕ) (kind : FaultKind) → BreaksAt t [] place kind → A
nothing_breaks t place kind b = go b.before b.all
  where
    go : {A : Type 0} (before : List Role) → [] ≡ before ++ b.r ∷ b.after → A
    go [] e = absurd (let no : ⊥ = cc e in no)
    go (x ∷ xs) e = absurd (let no : ⊥ = cc e in no)

-- A role that waited breaks something.
pub waited_told : (p : Part) (s : State) (t : Tally) (w : Waiting) (token : Token) (at : ℕ) (u : Tally) (c : Settling) (found : Option Refusal) (refusal : Refusal) → c ≡ settles s token → found ≡ Some refusal → waiting_roles w ≡ pending s → AreCounted t (expression.settled c (waiting_roles w)) (waiting_places w) u found → IsToldAt (reader_of p) s t (waiting_places w) token at refusal.at refusal.kind
waited_told p s t w token at u c found refusal settling some is h =
    let first : IsBrokenAt t (expression.settled c (waiting_roles w)) (waiting_places w) refusal.at refusal.kind = subst (AreCounted t (expression.settled c (waiting_roles w)) (waiting_places w) u) some h in
    let same : expression.settled c (waiting_roles w) ≡ expression.settled (settles s token) (pending s) = ap (λ k. expression.settled k (waiting_roles w)) settling ∙ ap (expression.settled (settles s token)) is in
    let b : IsBrokenAt t (expression.settled (settles s token) (pending s)) (waiting_places w) refusal.at refusal.kind = subst (λ rs. IsBrokenAt t rs (waiting_places w) refusal.at refusal.kind) same first in
    record { place = b.place; refused = go b.place b.breaks (step_of p s token) refl; there = get-append (waiting_places w) (at ∷ []) b.place refusal.at b.there }
  where
    waits_so : (place : ℕ) → step_of p s token ≡ None → (c : Settling) → settles s token ≡ c → BreaksAt t (expression.settled c (pending s)) place refusal.kind → IsRefused (reader_of p) s t token place refusal.kind
    waits_so place no_step Stays e b = nothing_breaks t place refusal.kind b
    waits_so place no_step Bracket e b = waiting place refusal.kind no_step b
    waits_so place no_step Cast e b = absurd (true≢false (sym (cast_goes_for p.goal s token e) ∙ ap is_some no_step))

    go : (place : ℕ) → BreaksAt t (expression.settled (settles s token) (pending s)) place refusal.kind → (o : Option State) → step_of p s token ≡ o → IsRefused (reader_of p) s t token place refusal.kind
    go place b (Some n) e = settled place refusal.kind n e (breaks_more t _ (expression.unless (waits s token) (role s token)) place refusal.kind b)
    go place b None e = waits_so place e (settles s token) refl b

-- It breaks nothing.
pub record Waited (s : State) (t : Tally) (token : Token) (u : Tally) : Type 0 where
  pub within : AreWithin t (expression.settled (settles s token) (pending s))
  pub counts : u ≡ tallied t (expression.settled (settles s token) (pending s))

pub waited : (s : State) (t : Tally) (w : Waiting) (token : Token) (u : Tally) (c : Settling) (found : Option Refusal) → c ≡ settles s token → found ≡ None → waiting_roles w ≡ pending s → AreCounted t (expression.settled c (waiting_roles w)) (waiting_places w) u found → Waited s t token u
waited s t w token u c found settling none is h =
    let fine : AreCounted t (expression.settled c (waiting_roles w)) (waiting_places w) u None = subst (AreCounted t (expression.settled c (waiting_roles w)) (waiting_places w) u) none h in
    let same : expression.settled c (waiting_roles w) ≡ expression.settled (settles s token) (pending s) = ap (λ k. expression.settled k (waiting_roles w)) settling ∙ ap (expression.settled (settles s token)) is in
    record { within = subst (AreWithin t) same fine.0; counts = fine.1 ∙ ap (tallied t) same }

pub waited_within : (s : State) (t : Tally) (token : Token) (u : Tally) → Waited s t token u → WaitedWithin s token
waited_within s t token u h = record { met = t; within = h.within }

-- Behind what a token settles nothing waits, where the token itself doesn't.
nothing_is : (x : Waiting) → waiting_roles x ≡ [] → x ≡ waiting.Nothing
nothing_is waiting.Nothing e = refl
nothing_is (waiting.Bracket b) e = absurd (let no : ⊥ = cc e in no)
nothing_is (waiting.Name b n) e = absurd (let no : ⊥ = cc e in no)
nothing_is (waiting.Closed b n x) e = absurd (let no : ⊥ = cc e in no)

pub nothing_waits : (s : State) (w x : Waiting) (token : Token) (c : Settling) → waiting_roles w ≡ pending s → waits s token ≡ false → c ≡ settles s token → x ≡ waiting_left c w → x ≡ waiting.Nothing
nothing_waits s w x token c is own settling left =
    nothing_is x (ap waiting_roles left ∙ left_roles c w ∙ ap (λ k. expression.left k (waiting_roles w)) settling ∙ ap (expression.left (settles s token)) is ∙ nothing_left s token own)

-- ---- the token

nothing_more : (rs : List Role) → rs ++ [] ≡ rs
nothing_more [] = refl
nothing_more (r ∷ rs) = ap (λ x. r ∷ x) (nothing_more rs)

-- what a token settles, where it waits itself, and where it doesn't
pub settles_others : (s : State) (token : Token) → waits s token ≡ true → emitted s token ≡ expression.settled (settles s token) (pending s)
settles_others s token own = ap (λ b. expression.settled (settles s token) (pending s) ++ expression.unless b (role s token)) own ∙ nothing_more _

pub settles_itself : (s : State) (token : Token) → waits s token ≡ false → emitted s token ≡ expression.settled (settles s token) (pending s) ++ role s token ∷ []
settles_itself s token own = ap (λ b. expression.settled (settles s token) (pending s) ++ expression.unless b (role s token)) own

-- A token that waits is taken.
pub waiting_taken : (p : Part) (s n : State) (t u : Tally) (w x : Waiting) (token : Token) (at : ℕ) → waiting_roles w ≡ pending s → waits s token ≡ true → step_of p s token ≡ Some n → IsOnce s n token → Waited s t token u → waiting_roles x ≡ waiting_roles (waiting_left (settles s token) w) ++ role s token ∷ [] → waiting_places x ≡ waiting_places (waiting_left (settles s token) w) ++ at ∷ [] → IsTaken (reader_of p) s t (waiting_places w) token at n u (waiting_roles x) (waiting_places x)
waiting_taken p s n t u w x token at is own goes once h roles places =
    let c : Settling = settles s token in
    let all : emitted s token ≡ expression.settled c (pending s) = settles_others s token own in
    record {
      accepted = record { goes = goes; within = subst (AreWithin t) (sym all) h.within; counts = h.counts ∙ ap (tallied t) (sym all) };
      waits =
          roles ∙ ap (λ rs. rs ++ role s token ∷ []) (left_roles c w ∙ ap (expression.left c) is)
          ∙ ap (λ b. expression.left c (pending s) ++ expression.where_so b (role s token)) (sym own) ∙ sym (waits_behind_for p.goal s n token goes once);
      stand = places ∙ settled_behind c w at ∙ ap (λ rs. drop (length rs) (waiting_places w ++ at ∷ [])) (ap (expression.settled c) is ∙ sym all);
    }

-- One that doesn't is taken by its own role.
pub settled_taken : (p : Part) (s n : State) (t u v : Tally) (w : Waiting) (token : Token) (at : ℕ) → waiting_roles w ≡ pending s → waits s token ≡ false → IsOnce s n token → Waited s t token u → OwnTaken (reader_of p) s u (role s token) token n v → IsTaken (reader_of p) s t (waiting_places w) token at n v [] []
settled_taken p s n t u v w token at is own once h a =
    let c : Settling = settles s token in
    let before : List Role = expression.settled c (pending s) in
    let all : emitted s token ≡ before ++ role s token ∷ [] = settles_itself s token own in
    let none : pending n ≡ [] = waits_behind_for p.goal s n token a.goes once ∙ ap (λ b. expression.left c (pending s) ++ expression.where_so b (role s token)) own ∙ nothing_more _ ∙ nothing_left s token own in
    let long : length (waiting_places w) ≡ length (pending s) = places_long w ∙ ap length is in
    let more : length (waiting_places w ++ at ∷ []) ≡ length (waiting_places w) + 1 = length-append (waiting_places w) (at ∷ []) in
    let each : length (emitted s token) + length (pending n) ≡ suc (length (pending s)) = once in
    let no_more : length (pending n) ≡ 0 = ap length none in
    record {
      accepted =
          record {
            goes = a.goes;
            within = subst (AreWithin t) (sym all) (within_append t before (role s token ∷ []) h.within (subst (λ z. AreWithin z (role s token ∷ [])) h.counts (a.fine, tt)));
            counts = a.counts ∙ ap (λ z. counted z (role s token)) h.counts ∙ sym (tallied_append t before (role s token ∷ [])) ∙ ap (tallied t) (sym all);
          };
      waits = sym none;
      stand = sym (drop_all (length (emitted s token)) (waiting_places w ++ at ∷ []) (omega arith));
    }

-- Its own role breaks something, or it can't stand here.
pub settled_told : (p : Part) (s : State) (t u : Tally) (w : Waiting) (token : Token) (at : ℕ) (kind : FaultKind) → waiting_roles w ≡ pending s → waits s token ≡ false → Waited s t token u → OwnFault (reader_of p) s u (role s token) token kind → IsToldAt (reader_of p) s t (waiting_places w) token at at kind
settled_told p s t u w token at kind is own h (broken _ n goes breaks) =
    let before : List Role = expression.settled (settles s token) (pending s) in
    let all : emitted s token ≡ before ++ role s token ∷ [] = settles_itself s token own in
    let long : length before ≡ length (waiting_places w) = all_settled s token own ∙ sym (places_long w ∙ ap length is) in
    record {
      place = length before;
      refused = settled (length before) kind n goes (record { before = before; r = role s token; after = []; all = all; within = h.within; breaks = ap (λ z. broken_by z (role s token)) (sym h.counts) ∙ breaks; there = refl });
      there = get-last (waiting_places w) (length before) at long;
    }
settled_told p s t u w token at kind is own h (stuck no_step) =
    record {
      place = length (pending s);
      refused = misplaced no_step (as_it_is p s t token own no_step h.within);
      there = get-last (waiting_places w) (length (pending s)) at (sym (places_long w ∙ ap length is));
    }
