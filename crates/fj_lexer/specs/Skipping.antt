-- No public contract cites this: it serves the proofs.
-- What the steps between tokens give, in terms of where reading goes on.
use Rattle.std.specs.Prelude.{◌≡◌, ℕ, ◌≤◌, Bool, true, false, List, length}
use Rattle.std.specs.Str.{chars, IsUtf8}
use Rattle.cfj_words.specs.Lexemes.{Between, blanks, slash, block, star, Reached, Unclosed, skipped}
use Rattle.fj_lexer.specs.declared.skip.Comment.{Comment}
use Rattle.fj_lexer.specs.declared.skip.Comment.TheVariants as comment

-- in a `/*` comment, behind a star or not
abbrev pub in_block : Bool → List ℕ → Between
in_block true from = star from
in_block false from = block from

-- a comment that goes on with this text isn't closed, wherever it began
pub record IsUnclosed (at : List ℕ → Between) (text : List ℕ) : Type 0 where
  pub open_from : (from : List ℕ) → skipped (at from) (chars text) ≡ Unclosed from

-- reading goes on with blanks at this rest of the text
pub record IsPassed (at : List ℕ → Between) (text rest : List ℕ) : Type 0 where
  pub goes_on : (from : List ℕ) → skipped (at from) (chars text) ≡ skipped blanks (chars rest)
  pub shorter : length rest ≤ length text
  pub utf8 : IsUtf8 rest

-- a slash with this text behind it begins no comment
pub record IsNoComment (text : List ℕ) : Type 0 where
  pub stays : (from : List ℕ) → skipped (slash from) (chars text) ≡ Reached from

abbrev pub PassesSlash : List ℕ → Comment → Type 0
PassesSlash text (comment.Passed rest) = IsPassed slash text rest.now
PassesSlash text comment.Unclosed = IsUnclosed slash text
PassesSlash text comment.NoComment = IsNoComment text

-- this rest stands behind blanks and comments
pub record SkipsTo (text rest : List ℕ) : Type 0 where
  pub reached : skipped blanks (chars text) ≡ Reached (chars rest)
  pub utf8 : IsUtf8 rest

-- a comment isn't closed, from here on
pub record SkipsNot (text from : List ℕ) : Type 0 where
  pub unclosed : skipped blanks (chars text) ≡ Unclosed (chars from)
  pub utf8 : IsUtf8 from
