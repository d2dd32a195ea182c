-- No public contract cites this: it serves the proofs.
-- What becomes of one token.
use Rattle.std.specs.Prelude.{◌≡◌, ℕ, List, [], ◌∷◌, ◌++◌, length, drop, slice_get, Option, Some, None}
use Rattle.cfj_model.specs.declared.fault.FaultKind.{FaultKind}
use Rattle.cfj_words.specs.Tokens.{Token}
use Rattle.cfj_model.specs.Roles.{Role, Tally, broken_by, counted, tallied, AreWithin}
use Rattle.fj_lexer.specs.declared.token.LexFault.{LexFault}
use Rattle.fj_machine.specs.Readers.{Reader, misplaced_kind}
use Rattle.fj_parser.specs.Reading.{fault_kind, fault_place}
use Rattle.fj_parser.specs.Waiting.{waiting_places, waiting_roles}
use Rattle.fj_parser.specs.declared.waiting.Refusal.{Refusal}
use Rattle.fj_parser.specs.declared.waiting.Waiting.{Waiting}

-- The first of these roles that breaks a rule or a limit has so many before it.
pub record BreaksAt (t : Tally) (rs : List Role) (place : ℕ) (kind : FaultKind) : Type 0 where
  pub before : List Role
  pub r : Role
  pub after : List Role
  pub all : rs ≡ before ++ r ∷ after
  pub within : AreWithin t before
  pub breaks : broken_by (tallied t before) r ≡ Some kind
  pub there : length before ≡ place

-- The reader goes on, and the roles that are settled break nothing and are counted.
pub record IsAccepted (m : Reader) (s : m.State) (t : Tally) (token : Token) (n : m.State) (u : Tally) : Type 0 where
  pub goes : m.step s token ≡ Some n
  pub within : AreWithin t (m.emitted s token)
  pub counts : u ≡ tallied t (m.emitted s token)

-- What refuses a token: a role that it settles, where it can go on; else a role that waits; else that it can't stand here. The
-- number tells the place, among the tokens whose roles wait and then this token.
pub data IsRefused (m : Reader) (s : m.State) (t : Tally) (token : Token) : ℕ → FaultKind → Type 0 where
  settled : (place : ℕ) (kind : FaultKind) (n : m.State) → m.step s token ≡ Some n
      → BreaksAt t (m.emitted s token) place kind → IsRefused m s t token place kind
  waiting : (place : ℕ) (kind : FaultKind) → m.step s token ≡ None
      → BreaksAt t (m.pending s) place kind → IsRefused m s t token place kind
  misplaced : m.step s token ≡ None → AreWithin t (m.pending s)
      → IsRefused m s t token (length (m.pending s)) (misplaced_kind m s token)

-- The first of these roles that breaks something is that of the token at this place, of the places of their tokens.
pub record IsBrokenAt (t : Tally) (rs : List Role) (places : List ℕ) (at : ℕ) (kind : FaultKind) : Type 0 where
  pub place : ℕ
  pub breaks : BreaksAt t rs place kind
  pub there : slice_get places place ≡ Some at

-- These roles break nothing and are counted; or the fault of the first that breaks something is told, at its token's place.
abbrev pub AreCounted : Tally → List Role → List ℕ → Tally → Option Refusal → Type 0
AreCounted t rs places u None = AreWithin t rs × (u ≡ tallied t rs)
AreCounted t rs places u (Some refusal) = IsBrokenAt t rs places refusal.at refusal.kind

-- The token is accepted, and these are the roles that wait behind it, and the places of their tokens: of those that waited, at
-- `places`, and then the token itself, those whose roles aren't settled.
pub record IsTaken (m : Reader) (s : m.State) (t : Tally) (places : List ℕ) (token : Token) (at : ℕ) (n : m.State) (u : Tally) (roles : List Role) (left : List ℕ) : Type 0 where
  pub accepted : IsAccepted m s t token n u
  pub waits : roles ≡ m.pending n
  pub stand : left ≡ drop (length (m.emitted s token)) (places ++ at ∷ [])

-- The token is refused, and the fault is that of the token at this place: of those that wait, at `places`, or the token itself.
pub record IsToldAt (m : Reader) (s : m.State) (t : Tally) (places : List ℕ) (token : Token) (at : ℕ) (told : ℕ) (kind : FaultKind) : Type 0 where
  pub place : ℕ
  pub refused : IsRefused m s t token place kind
  pub there : slice_get (places ++ at ∷ []) place ≡ Some told

-- What becomes of a token at a place: it is taken, or refused.
abbrev pub Outcome : (m : Reader) → m.State → Tally → List ℕ → Token → ℕ → m.State → Tally → Waiting → Option Refusal → Type 0
Outcome m s t places token at n u left None = IsTaken m s t places token at n u (waiting_roles left) (waiting_places left)
Outcome m s t places token at n u left (Some refusal) = IsToldAt m s t places token at refusal.at refusal.kind

-- What is told where no lexeme stands next: the fault of the first role that waits and breaks something, at its token's place; or
-- the lexer's.
pub data IsTold (t : Tally) (rs : List Role) (places : List ℕ) (found : LexFault) : ℕ → FaultKind → Type 0 where
  of_waiting : (at : ℕ) (kind : FaultKind) → IsBrokenAt t rs places at kind → IsTold t rs places found at kind
  of_lexer : AreWithin t rs → IsTold t rs places found (fault_place found) (fault_kind found)

-- What becomes of a token by its own role alone: the reader goes on, and the role is counted; or it breaks something, and is told
-- where the reader can go on.
pub data OwnFault (m : Reader) (s : m.State) (t : Tally) (r : Role) (token : Token) : FaultKind → Type 0 where
  broken : (kind : FaultKind) (n : m.State) → m.step s token ≡ Some n → broken_by t r ≡ Some kind → OwnFault m s t r token kind
  stuck : m.step s token ≡ None → OwnFault m s t r token (misplaced_kind m s token)

pub record OwnTaken (m : Reader) (s : m.State) (t : Tally) (r : Role) (token : Token) (n : m.State) (u : Tally) : Type 0 where
  pub goes : m.step s token ≡ Some n
  pub fine : broken_by t r ≡ None
  pub counts : u ≡ counted t r

abbrev pub OwnOutcome : (m : Reader) → m.State → Tally → Role → Token → m.State → Tally → Option FaultKind → Type 0
OwnOutcome m s t r token n u None = OwnTaken m s t r token n u
OwnOutcome m s t r token n u (Some kind) = OwnFault m s t r token kind
