-- No public contract cites this: it serves the proofs.
-- How the parser stands towards the text that it reads.
use Rattle.std.specs.Prelude.{◌≡◌, ℕ, ◌+◌, List, length, take, slice_get, Some}
use Rattle.std.specs.Str.{chars}
use Rattle.cfj_model.specs.Roles.{Role, Tally, tallied, AreWithin}
use Rattle.cfj_words.specs.Tokens.{Token, Takes}
use Rattle.cfj_model.specs.declared.fault.FaultKind.{FaultKind}
use Rattle.cfj_model.specs.declared.fault.FaultKind.TheVariants as fault
use Rattle.fj_lexer.specs.declared.token.LexFault.{LexFault}
use Rattle.fj_lexer.specs.declared.token.LexFault.TheVariants.{BadChar, OpenComment}
use Rattle.fj_machine.specs.Readers.{Reader, run_of}
use Rattle.fj_parser.specs.TokenRoles.{IsStanding}

-- The tokens before the rest of a text are read: by the reader, and by the tally behind what was met, which found nothing that
-- breaks among the roles that are settled.
pub record IsReading (met : Tally) (m : Reader) (text rest : List ℕ) (s : m.State) (t : Tally) : Type 0 where
  pub tokens : List Token
  pub roles : List Role
  pub taken : Takes (chars text) tokens (chars rest)
  pub ran : run_of m tokens m.start ≡ (Some s, roles)
  pub within : AreWithin met roles
  pub counts : t ≡ tallied met roles

-- And the tokens whose roles wait, which stand behind those whose roles are settled, stand at these places.
pub record IsPlaced (met : Tally) (m : Reader) (text rest : List ℕ) (s : m.State) (t : Tally) (places : List ℕ) : Type 0 where
  pub reading : IsReading met m text rest s t
  pub each : length places ≡ length (m.pending s)
  pub stand : (i at : ℕ) → slice_get places i ≡ Some at → IsStanding text (take (length reading.roles + i) reading.tokens) at

-- the fault that the lexer tells, as the grammar names it
abbrev pub fault_place : LexFault → ℕ
fault_place (BadChar at) = at
fault_place (OpenComment at) = at

abbrev pub fault_kind : LexFault → FaultKind
fault_kind (BadChar at) = fault.BadChar
fault_kind (OpenComment at) = fault.OpenComment
