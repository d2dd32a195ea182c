-- How one way to say what a run came to gives another.
use Rattle.std.proofs.Common.{◌≡◌, ℕ, List, [], Option, Some, None, Result, Ok, Err, IfErr, IsErrAnd, refl, sym, subst}
use Rattle.cide_io.specs.declared.faults.Failed.{Failed}
use Rattle.cide_io.specs.Known.{Known}
use Rattle.command_words.specs.Asked.{Asked}
use Rattle.cide_tool.specs.declared.refusal.Refusal.{Refusal}
use Rattle.cide_tool.specs.declared.refusal.Refusal.TheVariants as refusal
use Rattle.command_words.specs.declared.asked.WordsFault.{WordsFault}
use Rattle.command_words.specs.declared.asked.WordsFault.TheVariants as words
use Rattle.cide_io.specs.declared.faults.ReadAll.{ReadAll}
use Rattle.cide_io.specs.declared.faults.ReadAll.TheVariants.{TooLong, ReadFault, NoMemory}
use Rattle.cide_tool.specs.Endings.{Ending, Ends, IsRun, done, project_of, refused}
use Rattle.cide_tool.specs.Lines.{limit_line, usage_line}
use Rattle.cide_tool.specs.ProjectTexts.{IsTooLong}
use Rattle.cide_tool.specs.Refusals.{IsAnswer, IsInput, IsRefusal, PutsNothing, line_of, status_of, unread, unasked}

-- What the ends say may be weaker.
pub run_as : {inputs : List ℕ → Known} {F G : Type 0} {Puts Puts' : List ℕ → Result Unit Failed → Type 0} {Says Says' : List ℕ → Type 0} {asks : Option Asked} {status : ℕ}
    → (F → G) → ((output : List ℕ) (r : Result Unit Failed) → Puts output r → Puts' output r) → ((line : List ℕ) → Says line → Says' line)
    → IsRun inputs F Puts Says asks status → IsRun inputs G Puts' Says' asks status
run_as f p s (IsRun.ended asks e ends puts says) = IsRun.ended asks e ends (p _ _ puts) (s _ says)
run_as f p s (IsRun.read_fault a fails puts says) = IsRun.read_fault a (f fails) (p _ _ puts) (s _ says)
run_as f p s (IsRun.write_fault asks e fault ends puts says) = IsRun.write_fault asks e fault ends (p _ _ puts) (s _ says)
run_as f p s (IsRun.no_memory asks puts says) = IsRun.no_memory asks (p _ _ puts) (s _ says)

-- Where there is no memory.
pub memory_refused : (inputs : List ℕ → Known) (F : Type 0) (asks : Option Asked) (r : Refusal) → r ≡ refusal.NoMemory → IsRefusal inputs F asks r
memory_refused inputs F asks r e = subst (IsRefusal inputs F asks) (sym e) (IsRun.no_memory asks (refl, refl) refl)

-- An ending that puts nothing out, told by its line.
pub ending_refused : (inputs : List ℕ → Known) (F : Type 0) (asks : Option Asked) (status : ℕ) (line told : List ℕ) → Ends inputs asks (refused status line) → told ≡ line
    → IsRun inputs F PutsNothing (λ l. l ≡ told) asks status
ending_refused inputs F asks status line told ends e = IsRun.ended asks (refused status line) ends (refl, refl) (sym e)

-- An input that wasn't read.
pub unread_refused : (inputs : List ℕ → Known) (F : Type 0) (name : List ℕ) (fault : ReadAll) (r : Refusal) → r ≡ unread fault
    → IsInput (inputs name) (Err fault) → (fault ≡ ReadFault → F) → (asked : Asked) → project_of asked ≡ name → IsRefusal inputs F (Some asked) r
unread_refused inputs F name fault r e came fails asked named = subst (IsRefusal inputs F (Some asked)) (sym e) (go fault came fails)
  where
    go : (f : ReadAll) → IsInput (inputs name) (Err f) → (f ≡ ReadFault → F) → IsRefusal inputs F (Some asked) (unread f)
    go TooLong long fail =
        ending_refused inputs F (Some asked) 11 limit_line limit_line (Ends.too_long asked (subst (λ (n : List ℕ). IsTooLong (inputs n)) (sym named) long)) refl
    go ReadFault _ fail = IsRun.read_fault asked (fail refl) (refl, refl) refl
    go NoMemory _ fail = IsRun.no_memory (Some asked) (refl, refl) refl

-- Words that weren't read.
pub unasked_refused : (inputs : List ℕ → Known) (F : Type 0) (asks : Option Asked) (fault : WordsFault) (r : Refusal) → r ≡ unasked fault
    → (fault ≡ words.NoCommand → asks ≡ None) → IsRefusal inputs F asks r
unasked_refused inputs F asks fault r e none = subst (IsRefusal inputs F asks) (sym e) (go fault none)
  where
    go : (f : WordsFault) → (f ≡ words.NoCommand → asks ≡ None) → IsRefusal inputs F asks (unasked f)
    go words.NoCommand cause = subst (λ (a : Option Asked). IsRefusal inputs F a refusal.Usage) (sym (cause refl)) (ending_refused inputs F None 4 usage_line usage_line Ends.usage refl)
    go words.NoMemory cause = IsRun.no_memory asks (refl, refl) refl

module _ {inputs : List ℕ → Known} {F G : Type 0} {Puts : List ℕ → Result Unit Failed → Type 0} {Says : List ℕ → Type 0} {asks : Option Asked} {status : ℕ} where
  -- A read fault may be told in another way.
  pub fault_as : (F → G) → IsRun inputs F Puts Says asks status → IsRun inputs G Puts Says asks status
  fault_as f h = run_as f (λ output r puts. puts) (λ line says. says) h

puts_nothing : (Puts : List ℕ → Result Unit Failed → Type 0) → Puts [] (Ok tt) → (output : List ℕ) (r : Result Unit Failed) → PutsNothing output r → Puts output r
puts_nothing Puts nothing output r h =
    let at_output : Puts output (Ok tt) = subst (λ (o : List ℕ). Puts o (Ok tt)) (sym h.0) nothing in
    subst (λ (q : Result Unit Failed). Puts output q) (sym h.1) at_output

module _ {inputs : List ℕ → Known} {F : Type 0} {Puts : List ℕ → Result Unit Failed → Type 0} {Says : List ℕ → Type 0} {asks : Option Asked} {status : ℕ} where
  -- A refusal before anything is put out is a command's answer.
  pub refusal_answers : Puts [] (Ok tt) → IsRun inputs F PutsNothing Says asks status → IsRun inputs F Puts Says asks status
  refusal_answers nothing h = run_as (λ f. f) (puts_nothing Puts nothing) (λ line says. says) h

-- An answer after the input was read.
pub answer_as : (inputs : List ℕ → Known) (F G : Type 0) (Puts : List ℕ → Result Unit Failed → Type 0) (asks : Option Asked) (result : Result ℕ Refusal)
    → (F → G) → IsAnswer inputs F Puts asks result → IsAnswer inputs G Puts asks result
answer_as inputs F G Puts asks (Ok status) f h = fault_as f h
answer_as inputs F G Puts asks (Err r) f h = fault_as f h

-- A write fault.
pub write_refused : {inputs : List ℕ → Known} {F : Type 0} {Puts : List ℕ → Result Unit Failed → Type 0} {asks : Option Asked} (e : Ending) (fault : Failed) (r : Refusal)
    → Ends inputs asks e → Puts e.output (Err fault) → r ≡ refusal.WriteFault → IsAnswer inputs F Puts asks (Err r)
write_refused {inputs} {F} {Puts} {asks} e fault r ends puts is =
    subst (λ (q : Refusal). IsAnswer inputs F Puts asks (Err q)) (sym is) (IsRun.write_fault asks e fault ends puts refl)

-- A command that is done.
pub done_answers : {inputs : List ℕ → Known} {F : Type 0} {Puts : List ℕ → Result Unit Failed → Type 0} {asks : Option Asked} (status told : ℕ) (output : List ℕ)
    → Ends inputs asks (done status output) → told ≡ status → Puts output (Ok tt) → IsAnswer inputs F Puts asks (Ok told)
done_answers {inputs} {F} {Puts} {asks} status told output ends same puts =
    subst (λ (s : ℕ). IsAnswer inputs F Puts asks (Ok s)) (sym same) (IsRun.ended asks (done status output) ends puts refl)

-- no read fault comes once the input is read
pub no_fault : {F : Type 0} → ⊥ → F
no_fault none = absurd none

-- ---- what a `?` hands on

module _ {T E : Type 0} where
  pub err_gives : (result : Result T E) (P Q : E → Type 0) → IsErrAnd result P → ((e : E) → P e → Q e) → IfErr result Q
  err_gives (Ok x) P Q h f = tt
  err_gives (Err e) P Q h f = f e h

  pub err_maps : (result : Result T E) (P Q : E → Type 0) → IfErr result P → ((e : E) → P e → Q e) → IfErr result Q
  err_maps (Ok x) P Q h f = tt
  err_maps (Err e) P Q h f = f e h

  pub err_is : (result : Result T E) (e : E) (P : E → Type 0) → result ≡ Err e → IfErr result P → P e
  err_is result e P is h = subst (λ (r : Result T E). IfErr r P) is h

-- The refusal of an input that wasn't read is that of each command that reads it.
pub unread_gives : {T : Type 0} (inputs : List ℕ → Known) (F : Type 0) (name : List ℕ) (fault : ReadAll) (result : Result T Refusal) → IsErrAnd result (λ r. r ≡ unread fault)
    → IsInput (inputs name) (Err fault) → (fault ≡ ReadFault → F) → IfErr result (λ r. (asked : Asked) → project_of asked ≡ name → IsRefusal inputs F (Some asked) r)
unread_gives inputs F name fault result h came fails =
    err_gives result (λ r. r ≡ unread fault) (λ r. (asked : Asked) → project_of asked ≡ name → IsRefusal inputs F (Some asked) r) h
    (λ r e. unread_refused inputs F name fault r e came fails)

module _ (inputs : List ℕ → Known) (F : Type 0) (Puts : List ℕ → Result Unit Failed → Type 0) (asks : Option Asked) where
  pub err_answers : (result : Result ℕ Refusal) (P : Refusal → Type 0) → IsErrAnd result P → ((r : Refusal) → P r → IsAnswer inputs F Puts asks (Err r)) → IsAnswer inputs F Puts asks result
  err_answers (Ok status) P h f = elim h [ ]
  err_answers (Err r) P h f = f r h

  pub memory_answers : (result : Result ℕ Refusal) → IsErrAnd result (λ r. r ≡ refusal.NoMemory) → Puts [] (Ok tt) → IsAnswer inputs F Puts asks result
  memory_answers result h nothing = err_answers result (λ r. r ≡ refusal.NoMemory) h (λ r e. refusal_answers nothing (memory_refused inputs F asks r e))

  pub passed_on : (result : Result ℕ Refusal) (told : Refusal) → IsErrAnd result (λ r. r ≡ told) → Puts [] (Ok tt) → IsRefusal inputs F asks told → IsAnswer inputs F Puts asks result
  passed_on result told h nothing why =
      err_answers result (λ r. r ≡ told) h (λ r e. refusal_answers nothing (subst (IsRefusal inputs F asks) (sym e) why))

-- ---- what is said

module _ {inputs : List ℕ → Known} {F : Type 0} {Puts : List ℕ → Result Unit Failed → Type 0} {Says : List ℕ → Type 0} {asks : Option Asked} where
  -- A command that is done says nothing.
  pub said_nothing : (status : ℕ) → Says [] → IsAnswer inputs F Puts asks (Ok status) → IsRun inputs F Puts Says asks status
  said_nothing status says h = run_as (λ f. f) (λ output r puts. puts) (λ line e. subst Says (sym e) says) h

  -- A refusal says its line.
  pub said_line : (r : Refusal) (status : ℕ) (line : List ℕ) → status ≡ status_of r → line ≡ line_of r → Says line → IsAnswer inputs F Puts asks (Err r) → IsRun inputs F Puts Says asks status
  said_line r status line same told says h =
      subst (IsRun inputs F Puts Says asks) (sym same) (run_as (λ f. f) (λ output q puts. puts) (λ l e. subst Says (told_as l e) says) h)
    where
      told_as : (l : List ℕ) → l ≡ line_of r → line ≡ l
      told_as l e = subst (λ (k : List ℕ). line ≡ k) (sym e) told
