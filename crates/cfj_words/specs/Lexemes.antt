-- The lexical grammar: blanks, comments, words and punctuation, on the characters of a text.
use Rattle.std.specs.Prelude.{ℕ, Bool, ◌||◌, ◌==◌, if◌then◌else◌, List, [], ◌∷◌}
use Rattle.std.specs.List.{list_any}
use Rattle.cfj_words.specs.Names.{starts_word, continues_word}

-- space, tab, line feed, carriage return, form feed
abbrev pub is_blank : ℕ → Bool
is_blank c = c == 32 || c == 9 || c == 10 || c == 13 || c == 12

-- what ends a `//` comment
abbrev pub is_line_end : ℕ → Bool
is_line_end c = c == 10 || c == 13

-- Where reading stands between tokens. What stands behind a comment's `/` is kept from that `/` on.
pub data Between : Type 0 where
  blanks : Between
  slash : List ℕ → Between
  line : Between
  block : List ℕ → Between
  star : List ℕ → Between

-- the text behind blanks and comments, or a comment that isn't closed, from its `/` on
pub data Skipped : Type 0 where
  Reached : List ℕ → Skipped
  Unclosed : List ℕ → Skipped

-- Blanks and comments are passed over. `/*/` doesn't close the comment that it opens.
unfoldable pub skipped : Between → List ℕ → Skipped
skipped blanks [] = Reached []
skipped blanks (c ∷ cs) = if is_blank c then skipped blanks cs else if c == 47 then skipped (slash (c ∷ cs)) cs else Reached (c ∷ cs)
skipped (slash from) [] = Reached from
skipped (slash from) (c ∷ cs) = if c == 47 then skipped line cs else if c == 42 then skipped (block from) cs else Reached from
skipped line [] = Reached []
skipped line (c ∷ cs) = if is_line_end c then skipped blanks cs else skipped line cs
skipped (block from) [] = Unclosed from
skipped (block from) (c ∷ cs) = if c == 42 then skipped (star from) cs else skipped (block from) cs
skipped (star from) [] = Unclosed from
skipped (star from) (c ∷ cs) = if c == 47 then skipped blanks cs else if c == 42 then skipped (star from) cs else skipped (block from) cs

-- the characters in front that go on a word, and those behind them
unfoldable pub word_run : List ℕ → List ℕ
word_run [] = []
word_run (c ∷ cs) = if continues_word c then c ∷ word_run cs else []

unfoldable pub word_rest : List ℕ → List ℕ
word_rest [] = []
word_rest (c ∷ cs) = if continues_word c then word_rest cs else c ∷ cs

-- a word, or a punctuation text, by its characters
pub data Lexeme : Type 0 where
  Word : List ℕ → Lexeme
  Mark : List ℕ → Lexeme

-- What stands first in a text: a lexeme with the text from its start on and the text behind it; the end; or a fault, with
-- the text from its place on.
pub data Lexed : Type 0 where
  Found : Lexeme → List ℕ → List ℕ → Lexed
  AtEnd : Lexed
  NoToken : List ℕ → Lexed
  NoClose : List ℕ → Lexed

-- `{ } ( ) ; , . = @ ! & |`
abbrev pub is_single_mark : ℕ → Bool
is_single_mark c = list_any (λ m. m == c) (123 ∷ 125 ∷ 40 ∷ 41 ∷ 59 ∷ 44 ∷ 46 ∷ 61 ∷ 64 ∷ 33 ∷ 38 ∷ 124 ∷ [])

-- `->`
abbrev pub after_dash : List ℕ → List ℕ → Lexed
after_dash from [] = NoToken from
after_dash from (c ∷ cs) = if c == 62 then Found (Mark (45 ∷ 62 ∷ [])) from cs else NoToken from

-- `<->`
abbrev pub after_less_dash : List ℕ → List ℕ → Lexed
after_less_dash from [] = NoToken from
after_less_dash from (c ∷ cs) = if c == 62 then Found (Mark (60 ∷ 45 ∷ 62 ∷ [])) from cs else NoToken from

abbrev pub after_less : List ℕ → List ℕ → Lexed
after_less from [] = NoToken from
after_less from (c ∷ cs) = if c == 45 then after_less_dash from cs else NoToken from

-- what begins with this character
unfoldable pub lexeme_at : List ℕ → Lexed
lexeme_at [] = AtEnd
lexeme_at (c ∷ cs) =
    if starts_word c then Found (Word (c ∷ word_run cs)) (c ∷ cs) (word_rest cs)
    else if is_single_mark c then Found (Mark (c ∷ [])) (c ∷ cs) cs
    else if c == 45 then after_dash (c ∷ cs) cs
    else if c == 60 then after_less (c ∷ cs) cs
    else NoToken (c ∷ cs)

abbrev pub after_blanks : Skipped → Lexed
after_blanks (Reached cs) = lexeme_at cs
after_blanks (Unclosed from) = NoClose from

-- what stands first behind blanks and comments
unfoldable pub next_lexeme : List ℕ → Lexed
next_lexeme cs = after_blanks (skipped blanks cs)
