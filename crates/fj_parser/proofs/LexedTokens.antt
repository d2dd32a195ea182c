-- What a call of the lexer says of the text that it reads.
use Rattle.std.proofs.Common.{◌≡◌, ℕ, Bool, true, false, if◌then◌else◌, codes, List, Option, Some, None, Result, Ok, Err, refl, sym, ap, subst, ◌∙◌, encode_utf8_all, true≢false}
use Rattle.std.specs.Str.{chars, bytes_eq}
use Rattle.std.proofs.lemmas.Slice.Eq.{bytes_eq-Decides}
use Rattle.cfj_words.specs.Names.{is_reserved}
use Rattle.cfj_model.specs.Faults.{lexical_fault}
use Rattle.cfj_words.specs.Lexemes.{Lexeme, Word, Mark, Lexed, Found, AtEnd, NoToken, NoClose}
use Rattle.cfj_words.specs.Tokens.{Id, word_token, token_of, place_of}
use Rattle.fj_lexer.specs.Kinds.{kind_of, characters_of}
use Rattle.fj_lexer.specs.Lexing.{IsToken, Gives}
use Rattle.fj_lexer.specs.declared.lexer.Lexer.{Lexer}
use Rattle.fj_lexer.specs.declared.token.Token as lexer
use Rattle.fj_lexer.specs.declared.token.TokenKind.TheVariants as kind
use Rattle.fj_lexer.specs.declared.token.LexFault.{LexFault}
use Rattle.fj_lexer.specs.declared.token.LexFault.TheVariants.{BadChar, OpenComment}
use Rattle.fj_parser.specs.Reading.{fault_kind, fault_place}
use Rattle.fj_symbols.specs.Views.{token_read}

-- ---- a word that isn't reserved is none of the grammar's words

other_word : (w keyword : List ℕ) → is_reserved keyword ≡ true → is_reserved w ≡ false → bytes_eq w keyword ≡ false
other_word w keyword is free = go (bytes_eq w keyword) refl
  where
    go : (b : Bool) → bytes_eq w keyword ≡ b → bytes_eq w keyword ≡ false
    go false e = e
    go true e = absurd (true≢false (sym is ∙ ap is_reserved (sym ((bytes_eq-Decides w keyword).0 e)) ∙ free))

else_of : {A : Type 0} (b : Bool) (x y z : A) → b ≡ false → y ≡ z → (if b then x else y) ≡ z
else_of true x y z h e = absurd (true≢false h)
else_of false x y z h e = e

identifier_is : (w : List ℕ) → is_reserved w ≡ false → word_token w ≡ Id w
unfolding word_token is_reserved
identifier_is w free =
    else_of _ _ _ _ (other_word w (codes "class") refl free)
    (else_of _ _ _ _ (other_word w (codes "extends") refl free)
    (else_of _ _ _ _ (other_word w (codes "super") refl free)
    (else_of _ _ _ _ (other_word w (codes "this") refl free)
    (else_of _ _ _ _ (other_word w (codes "new") refl free)
    (else_of _ _ _ _ (other_word w (codes "return") refl free)
    (else_of _ _ _ _ (other_word w (codes "true") refl free)
    (else_of _ _ _ _ (other_word w (codes "false") refl free)
    (else_of _ _ _ _ free refl))))))))

word_is : (w : List ℕ) (b : Bool) → is_reserved w ≡ b → token_read (if b then kind.Reserved else kind.Word) w ≡ word_token w
word_is w true e = refl
word_is w false e = sym (identifier_is w e)

-- a token's kind and text say which token of the grammar it is
pub read_is : (l : Lexeme) → token_read (kind_of l) (encode_utf8_all (characters_of l)) ≡ token_of l
read_is (Word cs) = word_is (encode_utf8_all cs) (is_reserved (encode_utf8_all cs)) refl
read_is (Mark cs) = refl

reserved_word : (w : List ℕ) (b : Bool) → is_reserved w ≡ b → (if b then kind.Reserved else kind.Word) ≡ kind.Reserved → is_reserved w ≡ true
reserved_word w true e h = e
reserved_word w false e h = absurd (let no : ⊥ = cc h in no)

-- a token of kind Reserved is a reserved word
pub reserved_is : (l : Lexeme) → kind_of l ≡ kind.Reserved → is_reserved (encode_utf8_all (characters_of l)) ≡ true
reserved_is (Word cs) h = reserved_word (encode_utf8_all cs) (is_reserved (encode_utf8_all cs)) refl h
reserved_is (Mark cs) h = absurd (let no : ⊥ = cc h in no)

-- ---- what stood first in the rest, by what the call gave

pub record TokenGiven (first : Lexed) (old new : Lexer) (token : lexer.Token) : Type 0 where
  pub lexeme : Lexeme
  pub from : List ℕ
  pub found : first ≡ Found lexeme from (chars new.rest.now)
  pub is : IsToken old.text.now lexeme from token

same_token : (a b : lexer.Token) → ◌≡◌ {A = Option (Result lexer.Token LexFault)} (Some (Ok a)) (Some (Ok b)) → a ≡ b
same_token a b e = cc e

pub token_given : (first : Lexed) (old new : Lexer) (token : lexer.Token) → Gives first old new (Some (Ok token)) → TokenGiven first old new token
token_given (Found l from rest) old new token g =
    record { lexeme = l; from = from; found = ap (Found l from) (sym g.rest); is = subst (IsToken old.text.now l from) (sym (same_token token g.token g.given)) g.is }
token_given AtEnd old new token g = absurd (let e = g.given in let no : ⊥ = cc e in no)
token_given (NoToken from) old new token g = absurd (let e = g.given in let no : ⊥ = cc e in no)
token_given (NoClose from) old new token g = absurd (let e = g.given in let no : ⊥ = cc e in no)

pub end_given : (first : Lexed) (old new : Lexer) → Gives first old new None → first ≡ AtEnd
end_given (Found l from rest) old new g = absurd (let e = g.given in let no : ⊥ = cc e in no)
end_given AtEnd old new g = refl
end_given (NoToken from) old new g = absurd (let e = g.given in let no : ⊥ = cc e in no)
end_given (NoClose from) old new g = absurd (let e = g.given in let no : ⊥ = cc e in no)

pub record FaultGiven (first : Lexed) (old : Lexer) (f : LexFault) : Type 0 where
  pub from : List ℕ
  pub kind : lexical_fault first ≡ Some (fault_kind f, from)
  pub place : fault_place f ≡ place_of old.text.now from

same_fault : (a b : LexFault) → ◌≡◌ {A = Option (Result lexer.Token LexFault)} (Some (Err a)) (Some (Err b)) → a ≡ b
same_fault a b e = cc e

pub fault_given : (first : Lexed) (old new : Lexer) (f : LexFault) → Gives first old new (Some (Err f)) → FaultGiven first old f
fault_given (Found l from rest) old new f g = absurd (let e = g.given in let no : ⊥ = cc e in no)
fault_given AtEnd old new f g = absurd (let e = g.given in let no : ⊥ = cc e in no)
fault_given (NoToken from) old new f g =
    let is = same_fault f (BadChar (place_of old.text.now from)) g.given in
    record { from = from; kind = ap (λ x. Some (fault_kind x, from)) (sym is); place = ap fault_place is }
fault_given (NoClose from) old new f g =
    let is = same_fault f (OpenComment (place_of old.text.now from)) g.given in
    record { from = from; kind = ap (λ x. Some (fault_kind x, from)) (sym is); place = ap fault_place is }
