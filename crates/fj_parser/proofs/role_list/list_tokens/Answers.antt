use Rattle.std.proofs.Common.{◌≡◌, ℕ, List, Err, refl, ap, subst, sym, ◌∙◌, length}
use Rattle.std.proofs.lemmas.Result.{err_from_is_err_and, on_ok_weaker}
use Rattle.std.specs.Str.{chars}
use Rattle.cfj_words.specs.Lexemes.{next_lexeme}
use Rattle.fj_lexer.specs.Lexing.{Gives}
use Rattle.cfj_model.specs.declared.fault.ParseFault.TheVariants.{At}
use Rattle.cfj_model.specs.declared.fault.FaultKind.{FaultKind}
use Rattle.cfj_words.specs.Tokens.{End}
use Rattle.fj_machine.specs.MachineViews.{machine_seen}
use Rattle.fj_tally.specs.Views.{tally_seen}
use Rattle.fj_symbols.specs.Views.{symbol_seen}
use Rattle.fj_parser.specs.Accepting.{IsToldAt, IsTold}
use Rattle.fj_parser.specs.Ending.{IsStopped}
use Rattle.fj_parser.specs.GoalViews.{met_of, reader_of}
use Rattle.fj_machine.specs.Machine.{pending}
use Rattle.fj_parser.specs.Waiting.{waiting_places, waiting_roles}
use Rattle.fj_parser.specs.declared.part.Part.{Part}
use Rattle.fj_parser.proofs.LexedTokens.{end_given}
use Rattle.fj_parser.proofs.Counted.{roomy}
use Rattle.fj_parser.proofs.Listed.{listed_goes}
use Rattle.fj_parser.proofs.GoalCounted.{counts_on}
use Rattle.fj_parser.proofs.Places.{none_waits}
use Rattle.fj_parser.proofs.TokenReads.{TokenRead, token_reads, token_is_read, token_stops, end_stops, lexeme_stops, reached}
use Rattle.fj_parser.proofs.role_list.list_tokens.Goals as goal

same_place : (a b : ℕ) (k l : FaultKind) → At a k ≡ At b l → a ≡ b
same_place a b k l e = cc e

same_kind : (a b : ℕ) (k l : FaultKind) → At a k ≡ At b l → k ≡ l
same_kind a b k l e = cc e

-- the same fault
moved : (p : Part) (text : List ℕ) (a b : ℕ) (k l : FaultKind) → At a k ≡ At b l → IsStopped (met_of p) (reader_of p) text a k → IsStopped (met_of p) (reader_of p) text b l
moved p text a b k l e h = subst (λ x. IsStopped (met_of p) (reader_of p) text x l) (same_place a b k l e) (subst (λ x. IsStopped (met_of p) (reader_of p) text a x) (same_kind a b k l e) h)

pub tokens-init : goal.tokens-init
tokens-init c =
    record {
      listed = c.requires.listed;
      waits = sym (none_waits (met_of c.args.part) (reader_of c.args.part) c.requires.settles _ _ (machine_seen c.args.machine.now) (tally_seen c.args.tally.now) c.requires.listed.placed);
      counted = c.requires.counted;
      whole = refl;
    }

pub returns-in-Err-clause-fault : goal.returns-in-Err-clause-fault
returns-in-Err-clause-fault c = λ at kind e.
    let s = machine_seen c.tokens.machine in
    let t = tally_seen c.tokens.tally in
    let places = waiting_places c.tokens.waiting in
    let found = c.in_ok-first_fault-in-Err.field-0 in
    let told : At found.at found.kind ≡ At at kind = cc (e, c.fault_of.ensures) in
    let first : IsTold t (pending s) places c.in-Err.fault found.at found.kind = subst (λ rs. IsTold t rs places c.in-Err.fault found.at found.kind) c.tokens.invariant.waits c.in_ok-first_fault-in-Err.ensures in
    moved c.args.part c.args.lexer.now.text.now found.at at found.kind kind told
    (lexeme_stops (met_of c.args.part) (reader_of c.args.part) c.tokens.lexer c.next.new.self c.in-Some.next c.in-Err.fault c.args.lexer.now.text.now s t places found.at found.kind c.tokens.invariant.whole c.tokens.invariant.listed.placed c.in-Some.ensures.given c.in-Err.is first)

pub take-requires-clause-read : goal.take-requires-clause-read
take-requires-clause-read c =
    let read = token_reads c.tokens.lexer c.next.new.self c.in-Some.next c.in-Ok.token (symbol_seen c.symbol_of-symbol.result) c.in-Some.ensures.given c.in-Ok.is c.symbol_of-symbol.ensures in
    let r = subst (λ x. TokenRead x c.tokens.lexer.rest.now c.next.new.self.rest.now c.in-Ok.token.at (symbol_seen c.symbol_of-symbol.result)) c.tokens.invariant.whole read in
    token_is_read (met_of c.args.part) (reader_of c.args.part) _ _ _ _ _ (machine_seen c.tokens.machine) (tally_seen c.tokens.tally) c.requires.utf8 c.tokens.invariant.listed.placed.reading r

pub take-requires-clause-waiting : goal.take-requires-clause-waiting
take-requires-clause-waiting c = c.tokens.invariant.waits

pub take-requires-clause-settles : goal.take-requires-clause-settles
take-requires-clause-settles c = c.requires.settles

pub take-requires-clause-reached : goal.take-requires-clause-reached
take-requires-clause-reached c = reached (met_of c.args.part) (reader_of c.args.part) _ _ (machine_seen c.tokens.machine) (tally_seen c.tokens.tally) c.tokens.invariant.listed.placed.reading

pub take-requires-clause-room : goal.take-requires-clause-room
take-requires-clause-room c = roomy (machine_seen c.tokens.machine) (tally_seen c.tokens.tally) c.tokens.invariant.counted

pub tokens-preserved : goal.tokens-preserved
tokens-preserved c =
    let read = token_reads c.tokens.lexer c.next.new.self c.in-Some.next c.in-Ok.token (symbol_seen c.symbol_of-symbol.result) c.in-Some.ensures.given c.in-Ok.is c.symbol_of-symbol.ensures in
    let r = subst (λ x. TokenRead x c.tokens.lexer.rest.now c.next.new.self.rest.now c.in-Ok.token.at (symbol_seen c.symbol_of-symbol.result)) c.tokens.invariant.whole read in
    let taken = c.in_ok-take.ensures.ok in
    record {
      listed = listed_goes (met_of c.args.part) (reader_of c.args.part) c.requires.settles _ _ _ _ _ (machine_seen c.tokens.machine) (machine_seen c.take.new.machine) (tally_seen c.tokens.tally) (tally_seen c.take.new.tally) (waiting_places c.tokens.waiting) (waiting_roles c.take.new.waiting) (waiting_places c.take.new.waiting) c.tokens.list.items c.add_settled.new.list.items c.tokens.invariant.listed r taken c.in_ok-add_settled.ensures;
      waits = taken.waits;
      counted = counts_on c.args.part.goal c.args.part.format c.args.part.features.now c.args.part.class.now _ _ _ _ (symbol_seen c.symbol_of-symbol.result) c.tokens.invariant.counted taken.accepted;
      whole = c.in-Some.ensures.same ∙ c.tokens.invariant.whole;
    }

pub returns-in_err-take-clause-fault : goal.returns-in_err-take-clause-fault
returns-in_err-take-clause-fault c = λ at kind e.
    let read = token_reads c.tokens.lexer c.next.new.self c.in-Some.next c.in-Ok.token (symbol_seen c.symbol_of-symbol.result) c.in-Some.ensures.given c.in-Ok.is c.symbol_of-symbol.ensures in
    let r = subst (λ x. TokenRead x c.tokens.lexer.rest.now c.next.new.self.rest.now c.in-Ok.token.at (symbol_seen c.symbol_of-symbol.result)) c.tokens.invariant.whole read in
    let p = err_from_is_err_and c.from_residual-in_err-take.result c.from_residual-in_err-take.ensures.1 in
    let told : c.take.result ≡ Err (At at kind) = cc (p.1, p.2, e, c.in_err-take.was) in
    token_stops (met_of c.args.part) (reader_of c.args.part) _ _ _ _ _ (machine_seen c.tokens.machine) (tally_seen c.tokens.tally) (waiting_places c.tokens.waiting) at kind c.tokens.invariant.listed.placed r (c.take.ensures.fault at kind told)

pub returns-clause-read : goal.returns-clause-read
returns-clause-read c =
    let ended = end_given _ c.tokens.lexer c.next.new.self (subst (λ x. Gives (next_lexeme (chars c.tokens.lexer.rest.now)) c.tokens.lexer c.next.new.self x) c.in_default.is c.next.ensures.given) in
    on_ok_weaker c.take-2.result (λ a. record { rest = c.tokens.lexer.rest.now; s = machine_seen c.tokens.machine; before = tally_seen c.tokens.tally; after = tally_seen c.take-2.new.tally; places = waiting_places c.tokens.waiting; listed = c.tokens.invariant.listed; ended = ended; accepted = a.accepted }) c.take-2.ensures.ok

pub returns-clause-fault : goal.returns-clause-fault
returns-clause-fault c = λ at kind e.
    let ended = end_given _ c.tokens.lexer c.next.new.self (subst (λ x. Gives (next_lexeme (chars c.tokens.lexer.rest.now)) c.tokens.lexer c.next.new.self x) c.in_default.is c.next.ensures.given) in
    let same = ap length (c.next.ensures.same ∙ c.tokens.invariant.whole) in
    let told = c.take-2.ensures.fault at kind e in
    end_stops (met_of c.args.part) (reader_of c.args.part) _ _ (machine_seen c.tokens.machine) (tally_seen c.tokens.tally) (waiting_places c.tokens.waiting) at kind c.tokens.invariant.listed.placed ended
    (subst (λ n. IsToldAt (reader_of c.args.part) (machine_seen c.tokens.machine) (tally_seen c.tokens.tally) (waiting_places c.tokens.waiting) End n at kind) same told)
