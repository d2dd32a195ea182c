-- What the words of a run ask: the command line as `clap` reads a simple command.
use Rattle.std.specs.Prelude.{ℕ, Bool, true, false, ◌&&◌, nat_le, if◌then◌else◌, List, [], ◌∷◌, length}
use Rattle.std.specs.Prelude.{codes, Option, Some, None, is_some, option_map, option_and_then}
use Rattle.std.specs.Option.{option_map_or}
use Rattle.std.specs.List.{list_all}
use Rattle.std.specs.Str.{bytes_eq}
use Rattle.std.specs.Char.{is_ascii_digit}
use Rattle.std.specs.Str.Parse.{digits_value}
use Rattle.clap.specs.Words.{App, Row, Text, fault_of, first_of, matches_of, new_app, new_rule, with_rule}
use Rattle.clap.specs.Walk.{is_empty}
use Rattle.clap.specs.declared.builder.action.ArgAction.TheVariants.{SetTrue}

-- What the words of a run ask.
pub data Asked : Type 0 where
  -- the project's name and the budget
  check : List ℕ → ℕ → Asked
  -- the project's name
  migrate : List ℕ → Asked
  -- the project's name and the word that names features
  export : List ℕ → List ℕ → Asked

-- `check PROJECT [--budget N] [--migrate]`
abbrev pub check_command : App
check_command = with_rule
    (with_rule
    (with_rule (new_app (codes "check")) (record (new_rule (codes "project")) { required = true }))
    (record (new_rule (codes "budget")) { long = Some (codes "budget") }))
    (record (new_rule (codes "migrate")) { long = Some (codes "migrate"); action = Some SetTrue })

-- `export PROJECT NAMES`
abbrev pub export_command : App
export_command = with_rule
    (with_rule (new_app (codes "export")) (record (new_rule (codes "project")) { required = true }))
    (record (new_rule (codes "names")) { required = true })

-- `clap` finds nothing wrong with the words.
abbrev pub takes_words : App → List Text → Bool
takes_words command words = is_empty (fault_of command words)

-- The text is one to five ASCII digits.
abbrev pub is_short_number : Text → Bool
is_short_number text = nat_le 1 (length text) && (nat_le (length text) 5 && list_all is_ascii_digit text)

-- The number that a text of one to five ASCII digits writes, where it is from `least` to `most`.
abbrev pub number_of : ℕ → ℕ → Text → Option ℕ
number_of least most text =
    if is_short_number text && (nat_le least (digits_value 10 text) && nat_le (digits_value 10 text) most)
    then Some (digits_value 10 text) else None

-- The budget: a number from 1 to 20,000, and 20,000 where none is given.
abbrev pub budget_of : Option Text → Option ℕ
budget_of None = Some 20000
budget_of (Some text) = number_of 1 20000 text

-- The flag with this name is given.
abbrev pub is_given : Text → List Row → Bool
is_given flag rows = option_map_or (λ value. bytes_eq value (codes "true")) (first_of flag rows) false

-- What the matches of `check` ask without `--migrate`, where its number is in its range.
abbrev pub judgement_of : List Row → Option Asked
judgement_of rows = option_and_then
    (λ project. option_map (check project) (budget_of (first_of (codes "budget") rows)))
    (first_of (codes "project") rows)

-- What they ask with `--migrate`: nothing is judged, so a budget has no place beside it.
abbrev pub migration_of : List Row → Option Asked
migration_of rows = if is_some (first_of (codes "budget") rows) then None
    else option_map migrate (first_of (codes "project") rows)

-- What the matches of `check` ask.
abbrev pub check_of : List Row → Option Asked
check_of rows = if is_given (codes "migrate") rows then migration_of rows else judgement_of rows

-- What the words of `check` ask, where `clap` takes them.
abbrev pub asked_check : List Text → Option Asked
asked_check words = if takes_words check_command words then check_of (matches_of check_command words) else None

-- What the matches of `export` ask.
abbrev pub export_of : List Row → Option Asked
export_of rows = option_and_then (λ project. option_map (export project) (first_of (codes "names") rows))
    (first_of (codes "project") rows)

-- What the words of `export` ask, where `clap` takes them.
abbrev pub asked_export : List Text → Option Asked
asked_export words = if takes_words export_command words then export_of (matches_of export_command words) else None

-- What the words ask of the command that this first of them names.
abbrev pub asked_of : Text → List Text → Option Asked
asked_of command words =
    if bytes_eq command (codes "check") then asked_check words
    else (if bytes_eq command (codes "export") then asked_export words
    else None)

-- What the words ask, by the command that the first of them names.
abbrev pub asked : List Text → Option Asked
asked [] = None
asked (command ∷ rest) = asked_of command (command ∷ rest)
