-- Words, reserved words and names, by the Java Language Specification's lexical rules with Unicode's identifier characters.
use Rattle.std.specs.Prelude.{ℕ, Bool, false, ◌&&◌, ◌||◌, ◌==◌, not, nat_le, List, [], ◌∷◌, length, codes}
use Rattle.std.specs.List.{list_any, list_all}
use Rattle.std.specs.Str.{chars, is_utf8, bytes_eq}
use Rattle.unicode_ident.specs.Ident.{is_xid_start, is_xid_continue}

-- a character that may begin a word: XID_Start, `_` or `$`
abbrev pub starts_word : ℕ → Bool
starts_word c = is_xid_start c || c == 95 || c == 36

-- a character that may go on in a word: XID_Continue or `$`
abbrev pub continues_word : ℕ → Bool
continues_word c = is_xid_continue c || c == 36

-- the characters of a word
abbrev pub is_word : List ℕ → Bool
is_word [] = false
is_word (c ∷ cs) = starts_word c && list_all continues_word cs

-- Java's keywords, its literals that look like words, and a lone `_`
abbrev pub reserved_words : List (List ℕ)
reserved_words =
    codes "abstract" ∷ codes "assert" ∷ codes "boolean" ∷ codes "break" ∷ codes "byte" ∷ codes "case" ∷
    codes "catch" ∷ codes "char" ∷ codes "class" ∷ codes "const" ∷ codes "continue" ∷ codes "default" ∷ codes "do" ∷
    codes "double" ∷ codes "else" ∷ codes "enum" ∷ codes "extends" ∷ codes "final" ∷ codes "finally" ∷
    codes "float" ∷ codes "for" ∷ codes "goto" ∷ codes "if" ∷ codes "implements" ∷ codes "import" ∷
    codes "instanceof" ∷ codes "int" ∷ codes "interface" ∷ codes "long" ∷ codes "native" ∷ codes "new" ∷
    codes "package" ∷ codes "private" ∷ codes "protected" ∷ codes "public" ∷ codes "return" ∷ codes "short" ∷
    codes "static" ∷ codes "strictfp" ∷ codes "super" ∷ codes "switch" ∷ codes "synchronized" ∷ codes "this" ∷
    codes "throw" ∷ codes "throws" ∷ codes "transient" ∷ codes "try" ∷ codes "void" ∷ codes "volatile" ∷
    codes "while" ∷ codes "true" ∷ codes "false" ∷ codes "null" ∷ codes "_" ∷ []

-- the text is one of these
abbrev pub is_among : List (List ℕ) → List ℕ → Bool
is_among words text = list_any (λ word. bytes_eq word text) words

-- the first byte of a text, or 0
abbrev pub first_byte : List ℕ → ℕ
first_byte [] = 0
first_byte (c ∷ cs) = c

unfoldable pub is_reserved : List ℕ → Bool
is_reserved text = is_among reserved_words text

-- a word in UTF-8 that isn't reserved
unfoldable pub is_identifier : List ℕ → Bool
is_identifier text = is_utf8 text && is_word (chars text) && not (is_reserved text)

-- the most bytes in a name
abbrev pub most_name_bytes : ℕ
most_name_bytes = 255

-- an identifier of at most so many bytes
abbrev pub is_short_identifier : List ℕ → Bool
is_short_identifier text = is_identifier text && nat_le (length text) most_name_bytes

-- what a `Name` may be: such an identifier, or `this`
abbrev pub is_name : List ℕ → Bool
is_name text = is_short_identifier text || bytes_eq text (codes "this")
