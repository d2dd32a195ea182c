-- The laws of the machine where it reads a name.
use Rattle.std.proofs.Common.{◌≡◌, ℕ, suc, ◌+◌, true, false, List, [], ◌∷◌, ◌++◌, length, Some, None, refl, sym, ap, subst}
use Rattle.std.proofs.lemmas.Option.{none-some, same_Some}
use Rattle.cfj_model.specs.Roles.{Role, used_name, other_token, are_settled}
use Rattle.cfj_words.specs.Tokens.{Token, Id, End}
use Rattle.fj_parser.specs.Goals.{start_for, step_for, takes_name_for, reader_for}
use Rattle.cfj_model.specs.PartLanguages.{names}
use Rattle.cfj_model.specs.declared.feature_model.Format.TheVariants.{One}
use Rattle.fj_parser.specs.Laws.{Closes, GoesByName, Reads}
use Rattle.fj_machine.specs.Machine.{unnamed, State, emitted, pending}
use Rattle.fj_machine.specs.Readers.{Reader, Run, run_of}
use Rattle.fj_parser.specs.declared.goal.Goal.TheVariants as goal
use Rattle.fj_machine.specs.declared.mode.Mode.{Mode}
use Rattle.fj_machine.specs.declared.mode.Mode.TheVariants.{InMembers, AfterType, AtEnd}
use Rattle.fj_parser.proofs.GoalRuns.{goal_settles}
use Rattle.fj_parser.proofs.Naming.{some_name, some_name_is, name_stops}

-- the machine, and its start
abbrev machine : Reader
machine = reader_for goal.Name One [] unnamed

abbrev first : State
first = start_for goal.Name One [] unnamed

-- behind a name, and behind the end
abbrev named : List ℕ → State
named w = record first { mode = AfterType; of = w }

abbrev pub name_ended : List ℕ → State
name_ended w = record first { mode = AtEnd; of = w }

-- What is reached: nothing is read yet, a name is, or the end too.
data Reached : List Token → State → List Role → Type 0 where
  at_first : Reached [] first []
  behind_name : (w : List ℕ) → Reached (Id w ∷ []) (named w) (used_name w ∷ [])
  at_end : (w : List ℕ) → Reached (Id w ∷ (End ∷ [])) (name_ended w) (used_name w ∷ (other_token ∷ []))

-- the same state in the same roles
as_reached : (ts : List Token) (m n : State) (qs rs : List Role) → ◌≡◌ {A = Run State} (Some m, qs) (Some n, rs) → Reached ts m qs → Reached ts n rs
as_reached ts m n qs rs e h =
    let state : m ≡ n = same_Some m n (ap (λ (p : Run State). p.0) e) in
    let given : qs ≡ rs = ap (λ (p : Run State). p.1) e in
    subst (Reached ts n) given (subst (λ x. Reached ts x qs) state h)

-- a machine that is stuck reaches nothing
stuck : {A : Type 0} (n : State) (qs rs : List Role) → ◌≡◌ {A = Run State} (None, qs) (Some n, rs) → A
stuck n qs rs e = absurd (none-some n (ap (λ (p : Run State). p.0) e))

reached : (ts : List Token) (s : State) (rs : List Role) → run_of machine ts first ≡ (Some s, rs) → Reached ts s rs
unfolding run_of
reached [] s rs h = as_reached [] first s [] rs h at_first
reached (Id w ∷ []) s rs h = as_reached (Id w ∷ []) (named w) s (used_name w ∷ []) rs h (behind_name w)
reached (Id w ∷ (End ∷ [])) s rs h = as_reached (Id w ∷ (End ∷ [])) (name_ended w) s (used_name w ∷ (other_token ∷ [])) rs h (at_end w)
reached (Id w ∷ (End ∷ (t ∷ ts))) s rs h = stuck s (used_name w ∷ (other_token ∷ [])) rs h
reached (Id w ∷ (_ ∷ ts)) s rs h = stuck s (used_name w ∷ []) rs h
reached (_ ∷ ts) s rs h = stuck s [] rs h

complete : (w : List ℕ) → run_of machine (Id w ∷ (End ∷ [])) first ≡ (Some (name_ended w), used_name w ∷ (other_token ∷ []))
unfolding run_of
complete w = refl

-- where the end may follow, a name was read
sound : (ts : List Token) (s n : State) (rs : List Role) → Reached ts s rs → machine.step s End ≡ Some n → (w : List ℕ) × (ts ≡ Id w ∷ [])
sound _ _ n _ at_first e = absurd (none-some n e)
sound _ _ n _ (behind_name w) e = (w, refl)
sound _ _ n _ (at_end w) e = absurd (none-some n e)

closes : (ts : List Token) (s : State) (rs : List Role) → Reached ts s rs → Closes names ts rs (pending s)
closes _ _ _ at_first = record { tree = []; more = Id [] ∷ (End ∷ []); others = used_name [] ∷ (other_token ∷ []); text = refl; in_roles = refl }
closes _ _ _ (behind_name w) = record { tree = w; more = End ∷ []; others = other_token ∷ []; text = refl; in_roles = refl }
closes _ _ _ (at_end w) = record { tree = w; more = []; others = []; text = refl; in_roles = refl }

each : (ts : List Token) (s n : State) (rs : List Role) (t : Token) → Reached ts s rs → machine.step s t ≡ Some n → length (emitted s t) + length (pending n) ≡ suc (length (pending s))
each _ _ n _ (Id w) at_first e = ap (λ (x : State). 1 + length (pending x)) (sym (same_Some (named w) n e))
each _ _ n _ _ at_first e = absurd (none-some n e)
each _ _ n _ End (behind_name w) e = ap (λ (x : State). 1 + length (pending x)) (sym (same_Some (name_ended w) n e))
each _ _ n _ _ (behind_name w) e = absurd (none-some n e)
each _ _ n _ _ (at_end w) e = absurd (none-some n e)

settled : (ts : List Token) (s : State) (rs : List Role) → Reached ts s rs → are_settled (rs ++ pending s) ≡ true
settled _ _ _ at_first = refl
settled _ _ _ (behind_name w) = refl
settled _ _ _ (at_end w) = refl

goes_by_name : (ts : List Token) (s : State) (rs : List Role) → Reached ts s rs → takes_name_for goal.Name s.mode s ≡ true → GoesByName machine s
goes_by_name _ _ _ at_first e = record { name = some_name; next = named some_name; is = some_name_is; goes = refl }
goes_by_name _ _ _ (behind_name w) e = absurd (let no : ⊥ = cc e in no)
goes_by_name _ _ _ (at_end w) e = absurd (let no : ⊥ = cc e in no)

stops : (m : Mode) (s : State) (w : List ℕ) → takes_name_for goal.Name m s ≡ false → step_for goal.Name m s (Id w) ≡ None
stops AfterType s w e = refl
stops InMembers s w e = absurd (let no : ⊥ = cc e in no)
stops m s w e = name_stops m s w e

-- the machine reads names
pub name_laws : Reads names (reader_for goal.Name One [] unnamed)
name_laws =
    record {
      grammar = record { spells = λ x a b. refl; gives = λ x a b. refl; settled = λ x. refl };
      ended = name_ended;
      stands_for = λ s. s.of;
      valued = λ w. refl;
      complete = complete;
      sound = λ ts s n rs ran. sound ts s n rs (reached ts s rs ran);
      closes = λ ts s rs ran. closes ts s rs (reached ts s rs ran);
      first = refl;
      last = λ w. refl;
      each = λ ts s n rs t ran. each ts s n rs t (reached ts s rs ran);
      settles = λ ts s w rs ran. goal_settles goal.Name One [] unnamed (λ s t. refl) ts s (name_ended w) rs ran refl;
      settled = λ ts s rs ran. settled ts s rs (reached ts s rs ran);
      named = λ ts s rs ran read. goes_by_name ts s rs (reached ts s rs ran);
      unnamed = λ s w is. stops s.mode s w;
    }

-- the name that was read
pub name_stands : (s : State) → name_laws.stands_for s ≡ s.of
unfolding name_laws
name_stands s = refl
