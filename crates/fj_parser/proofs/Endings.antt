-- What the end of a reading says of the text: its value, or its first fault.
use Rattle.std.proofs.Common.{◌≡◌, ℕ, List, Some, sym, subst}
use Rattle.std.specs.Str.{chars, IsUtf8}
use Rattle.cfj_model.specs.declared.fault.FaultKind.{FaultKind}
use Rattle.cfj_model.specs.Faults.{IsFirstFault, lexical_fault}
use Rattle.cfj_model.specs.Languages.{Language, IsTextOf}
use Rattle.cfj_words.specs.Lexemes.{next_lexeme}
use Rattle.cfj_model.specs.Roles.{Tally}
use Rattle.cfj_words.specs.Tokens.{place_of}
use Rattle.fj_lexer.specs.declared.token.LexFault.{LexFault}
use Rattle.fj_parser.specs.Accepting.{IsTold, of_waiting, of_lexer}
use Rattle.fj_parser.specs.Ending.{IsReadTo, IsStopped, at_token, at_no_lexeme}
use Rattle.fj_parser.specs.Laws.{Reads}
use Rattle.fj_machine.specs.Readers.{Reader}
use Rattle.fj_parser.specs.Reading.{IsPlaced, fault_kind, fault_place}
use Rattle.fj_parser.proofs.Places.{told_first, waiting_first}
use Rattle.fj_parser.proofs.Progress.{ends_at_lexeme, ends_whole}

module _ {V : Type 0} (l : Language V) (m : Reader) (laws : Reads l m) where
  pub whole_text : (text : List ℕ) (n : m.State) → IsUtf8 text → IsReadTo l.met m text n → IsTextOf l text (laws.stands_for n)
  whole_text text n utf8 h = ends_whole l m laws text h.rest h.s n h.before h.after utf8 h.reading h.ended h.accepted

  told_at_lexeme : (text rest : List ℕ) (s : m.State) (t : Tally) (places : List ℕ) (found : LexFault) (from : List ℕ) (told : ℕ) (kind : FaultKind) → IsUtf8 text → IsPlaced l.met m text rest s t places → lexical_fault (next_lexeme (chars rest)) ≡ Some (fault_kind found, from) → fault_place found ≡ place_of text from → IsTold t (m.pending s) places found told kind → IsFirstFault l text told kind
  told_at_lexeme text rest s t places found from told kind utf8 h e is (of_waiting _ _ b) = waiting_first l m laws text rest s t places (fault_kind found) from told kind utf8 h e b
  told_at_lexeme text rest s t places found from told kind utf8 h e is (of_lexer within) =
      subst (λ x. IsFirstFault l text x (fault_kind found)) (sym is) (ends_at_lexeme l m laws text rest s t (fault_kind found) from utf8 h.reading within e)

  pub stops_first : (text : List ℕ) (at : ℕ) (kind : FaultKind) → IsUtf8 text → IsStopped l.met m text at kind → IsFirstFault l text at kind
  stops_first text at kind utf8 (at_token rest s t places h token from seen place is _ _ a) = told_first l m laws text rest s t places token from place at kind utf8 h seen is a
  stops_first text at kind utf8 (at_no_lexeme rest s t places h found from e is _ _ a) = told_at_lexeme text rest s t places found from at kind utf8 h e is a
