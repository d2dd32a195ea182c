-- Printed pieces, one behind another, give their tokens. A piece that ends in a word wants a text behind it that doesn't go on
-- that word.
use Rattle.std.proofs.Common.{◌≡◌, ℕ, ◌<◌, ◌==◌, Bool, true, false, not, ◌&&◌, ◌||◌, nat_lt, codes, List, [], ◌∷◌, ◌++◌, refl, sym, ap, subst, ◌∙◌, append_assoc, lit<, encode_utf8_all, true≢false}
use Rattle.std.specs.List.{list_all}
use Rattle.std.specs.Str.{chars, is_utf8, IsUtf8}
use Rattle.std.specs.Char.{is_ascii_alphabetic, is_ascii_alphanumeric}
use Rattle.std.proofs.lemmas.Bool.{and_parts, and_from, eqb-true, ltb-true, not-true}
use Rattle.std.proofs.lemmas.Str.{IsUtf8-append, IsUtf8-from_is_utf8, chars_past_char, chars-append, encode_ascii, encodes-chars}
use lib.Utf8.{scalars, encode}
use Rattle.cfj_words.proofs.AsciiWords.{starts_ascii, continues_ascii}
use Rattle.cfj_words.specs.Names.{starts_word, continues_word, is_word, is_reserved, is_identifier}
use Rattle.cfj_words.specs.Lexemes.{Word, Mark, Found, AtEnd, is_blank, skipped, is_single_mark, word_run, word_rest, lexeme_at, next_lexeme}
use Rattle.cfj_words.specs.Tokens.{Token, Id, ClassWord, ExtendsWord, SuperWord, ThisWord, NewWord, ReturnWord, TrueWord, FalseWord, OpenBrace, CloseBrace, OpenParen, CloseParen, Semicolon, Comma, Dot, Equals, At, Bang, Ampersand, Bar, Arrow, DoubleArrow, word_token, mark_token, Takes}
use Rattle.cfj_words.proofs.WordTokens.{identifier_is}

-- whether these characters don't go on a word, where that is asked
abbrev pub is_apart : Bool → List ℕ → Bool
is_apart false cs = true
is_apart true [] = true
is_apart true (c ∷ cs) = not (continues_word c)

-- the text gives these tokens, and then ends
pub record Lexes (asked : Bool) (text : List ℕ) (ts : List Token) : Type 0 where
  pub utf8 : IsUtf8 text
  pub rest : List ℕ
  pub takes : Takes (chars text) ts rest
  pub ended : next_lexeme rest ≡ AtEnd
  pub apart : is_apart asked (chars text) ≡ true

-- the text before another one adds its tokens
pub record Reads (before after : Bool) (text : List ℕ) (spell : List Token → List Token) : Type 0 where
  pub on : (t : List ℕ) (ts : List Token) → Lexes after t ts → Lexes before (text ++ t) (spell ts)

-- ---- texts behind one another

pub both : {a b c : Bool} {x y : List ℕ} {s u : List Token → List Token} → Reads a b x s → Reads b c y u → Reads a c (x ++ y) (λ ts. s (u ts))
both {a} {b} {c} {x} {y} {s} {u} r q = record { on = λ t ts h. subst (λ w. Lexes a w (s (u ts))) (sym (append_assoc x y t)) (r.on (y ++ t) (u ts) (q.on t ts h)) }

-- less is asked
pub less : {a : Bool} {t : List ℕ} {ts : List Token} → Lexes a t ts → Lexes false t ts
less h = record { utf8 = h.utf8; rest = h.rest; takes = h.takes; ended = h.ended; apart = refl }

pub asks_less : {a b : Bool} {x : List ℕ} {s : List Token → List Token} → Reads a b x s → Reads false b x s
asks_less r = record { on = λ t ts h. less (r.on t ts h) }

pub wants_more : {a : Bool} {x : List ℕ} {s : List Token → List Token} → Reads a false x s → Reads a true x s
wants_more r = record { on = λ t ts h. r.on t ts (less h) }

-- the tokens may be written in another way
pub respelled : {a b : Bool} {x : List ℕ} {s u : List Token → List Token} → ((ts : List Token) → s ts ≡ u ts) → Reads a b x s → Reads a b x u
respelled {a} {b} {x} e r = record { on = λ t ts h. subst (Lexes a (x ++ t)) (e ts) (r.on t ts h) }

-- no text
pub none : {a : Bool} → Reads a a [] (λ ts. ts)
none = record { on = λ t ts h. h }

-- ---- one character

-- an ASCII character before a text
record Prefixed (c : ℕ) (t : List ℕ) : Type 0 where
  utf8 : IsUtf8 (c ∷ t)
  characters : chars (c ∷ t) ≡ c ∷ chars t

encodes_one : (c : ℕ) → c < 128 → encode_utf8_all (c ∷ []) ≡ c ∷ []
encodes_one c lt = ap (λ w. w ++ []) (encode_ascii c lt)

before : (c : ℕ) (t : List ℕ) → c < 128 → scalars (c ∷ []) ≡ true → IsUtf8 t → Prefixed c t
before c t lt s u =
    let one : IsUtf8 (c ∷ []) = (c ∷ [], (s, encodes_one c lt)) in
    let all : IsUtf8 (c ∷ t) = IsUtf8-append (c ∷ []) t one u in
    record { utf8 = all; characters = chars_past_char (c ∷ t) t c all (ap (λ w. w ++ t) (sym (encode_ascii c lt))) }

apart_ascii : (a : Bool) (c : ℕ) (cs : List ℕ) → c < 128 → not (is_ascii_alphanumeric c || c == 95 || c == 36) ≡ true → is_apart a (c ∷ cs) ≡ true
apart_ascii false c cs lt e = refl
apart_ascii true c cs lt e = rw (continues_ascii c lt) e

-- a blank
passed : (c : ℕ) (cs : List ℕ) → is_blank c ≡ true → next_lexeme (c ∷ cs) ≡ next_lexeme cs
unfolding next_lexeme skipped
passed c cs e = rw e refl

record Passed (cs : List ℕ) (ts : List Token) : Type 0 where
  rest : List ℕ
  takes : Takes cs ts rest
  ended : next_lexeme rest ≡ AtEnd

takes_passed : (cs ds : List ℕ) (ts : List Token) (rest : List ℕ) → next_lexeme ds ≡ next_lexeme cs → Takes cs ts rest → next_lexeme rest ≡ AtEnd → Passed ds ts
takes_passed cs ds [] rest e p q = record { rest = ds; takes = refl; ended = e ∙ ap next_lexeme p ∙ q }
takes_passed cs ds (t ∷ ts) rest e (l, from, mid, found, is, more) q = record { rest = rest; takes = (l, from, mid, e ∙ found, is, more); ended = q }

blank_char : (c : ℕ) → c < 128 → scalars (c ∷ []) ≡ true → is_blank c ≡ true → not (is_ascii_alphanumeric c || c == 95 || c == 36) ≡ true → {a : Bool} → Reads a false (c ∷ []) (λ ts. ts)
blank_char c lt s b n {a} = record {
  on = λ t ts h.
      let w : Prefixed c t = before c t lt s h.utf8 in
      let p : Passed (c ∷ chars t) ts = takes_passed (chars t) (c ∷ chars t) ts h.rest (passed c (chars t) b) h.takes h.ended in
      record {
        utf8 = w.utf8;
        rest = p.rest;
        takes = subst (λ cs. Takes cs ts p.rest) (sym w.characters) p.takes;
        ended = p.ended;
        apart = subst (λ cs. is_apart a cs ≡ true) (sym w.characters) (apart_ascii a c (chars t) lt n);
      };
}

pub blank : {a : Bool} → Reads a false (codes " ") (λ ts. ts)
blank = blank_char 32 (lit< tt) refl refl refl

pub line : {a : Bool} → Reads a false (10 ∷ []) (λ ts. ts)
line = blank_char 10 (lit< tt) refl refl refl

-- a punctuation text of one character
marked : (c : ℕ) (cs : List ℕ) → c < 128 → (is_ascii_alphabetic c || c == 95 || c == 36) ≡ false → is_blank c ≡ false → (c == 47) ≡ false → is_single_mark c ≡ true
    → next_lexeme (c ∷ cs) ≡ Found (Mark (c ∷ [])) (c ∷ cs) cs
unfolding next_lexeme skipped lexeme_at
marked c cs lt n b s m = rw (b, s, starts_ascii c lt, n, m) refl

one_mark : (c : ℕ) → c < 128 → scalars (c ∷ []) ≡ true → (is_ascii_alphabetic c || c == 95 || c == 36) ≡ false → is_blank c ≡ false → (c == 47) ≡ false → is_single_mark c ≡ true
    → not (is_ascii_alphanumeric c || c == 95 || c == 36) ≡ true → {a : Bool} → Reads a false (c ∷ []) (λ ts. mark_token (c ∷ []) ∷ ts)
one_mark c lt s n b sl m g {a} = record {
  on = λ t ts h.
      let w : Prefixed c t = before c t lt s h.utf8 in
      let k : Takes (c ∷ chars t) (mark_token (c ∷ []) ∷ ts) h.rest = (Mark (c ∷ []), c ∷ chars t, chars t, marked c (chars t) lt n b sl m, ap mark_token (encodes_one c lt), h.takes) in
      record {
        utf8 = w.utf8;
        rest = h.rest;
        takes = subst (λ cs. Takes cs (mark_token (c ∷ []) ∷ ts) h.rest) (sym w.characters) k;
        ended = h.ended;
        apart = subst (λ cs. is_apart a cs ≡ true) (sym w.characters) (apart_ascii a c (chars t) lt g);
      };
}

pub comma : {a : Bool} → Reads a false (codes ",") (λ ts. Comma ∷ ts)
unfolding mark_token
comma = one_mark 44 (lit< tt) refl refl refl refl refl refl

pub dot : {a : Bool} → Reads a false (codes ".") (λ ts. Dot ∷ ts)
unfolding mark_token
dot = one_mark 46 (lit< tt) refl refl refl refl refl refl

pub semicolon : {a : Bool} → Reads a false (codes ";") (λ ts. Semicolon ∷ ts)
unfolding mark_token
semicolon = one_mark 59 (lit< tt) refl refl refl refl refl refl

pub equals : {a : Bool} → Reads a false (codes "=") (λ ts. Equals ∷ ts)
unfolding mark_token
equals = one_mark 61 (lit< tt) refl refl refl refl refl refl

pub at_sign : {a : Bool} → Reads a false (codes "@") (λ ts. At ∷ ts)
unfolding mark_token
at_sign = one_mark 64 (lit< tt) refl refl refl refl refl refl

pub open_paren : {a : Bool} → Reads a false (codes "(") (λ ts. OpenParen ∷ ts)
unfolding mark_token
open_paren = one_mark 40 (lit< tt) refl refl refl refl refl refl

pub close_paren : {a : Bool} → Reads a false (codes ")") (λ ts. CloseParen ∷ ts)
unfolding mark_token
close_paren = one_mark 41 (lit< tt) refl refl refl refl refl refl

pub open_brace : {a : Bool} → Reads a false (codes "{") (λ ts. OpenBrace ∷ ts)
unfolding mark_token
open_brace = one_mark 123 (lit< tt) refl refl refl refl refl refl

pub close_brace : {a : Bool} → Reads a false (codes "}") (λ ts. CloseBrace ∷ ts)
unfolding mark_token
close_brace = one_mark 125 (lit< tt) refl refl refl refl refl refl

pub bang : {a : Bool} → Reads a false (codes "!") (λ ts. Bang ∷ ts)
unfolding mark_token
bang = one_mark 33 (lit< tt) refl refl refl refl refl refl

pub ampersand : {a : Bool} → Reads a false (codes "&") (λ ts. Ampersand ∷ ts)
unfolding mark_token
ampersand = one_mark 38 (lit< tt) refl refl refl refl refl refl

pub bar : {a : Bool} → Reads a false (codes "|") (λ ts. Bar ∷ ts)
unfolding mark_token
bar = one_mark 124 (lit< tt) refl refl refl refl refl refl

-- ---- `->` and `<->`

is_arrow : (cs : List ℕ) → next_lexeme (45 ∷ (62 ∷ cs)) ≡ Found (Mark (45 ∷ (62 ∷ []))) (45 ∷ (62 ∷ cs)) cs
unfolding next_lexeme skipped lexeme_at
is_arrow cs = rw (starts_ascii 45 (lit< tt)) refl

is_double : (cs : List ℕ) → next_lexeme (60 ∷ (45 ∷ (62 ∷ cs))) ≡ Found (Mark (60 ∷ (45 ∷ (62 ∷ [])))) (60 ∷ (45 ∷ (62 ∷ cs))) cs
unfolding next_lexeme skipped lexeme_at
is_double cs = rw (starts_ascii 60 (lit< tt)) refl

pub arrow : {a : Bool} → Reads a false (codes "->") (λ ts. Arrow ∷ ts)
unfolding mark_token encode
arrow {a} = record {
  on = λ t ts h.
      let v : Prefixed 62 t = before 62 t (lit< tt) refl h.utf8 in
      let w : Prefixed 45 (62 ∷ t) = before 45 (62 ∷ t) (lit< tt) refl v.utf8 in
      let cs : chars (45 ∷ (62 ∷ t)) ≡ 45 ∷ (62 ∷ chars t) = w.characters ∙ ap (λ x. 45 ∷ x) v.characters in
      let k : Takes (45 ∷ (62 ∷ chars t)) (Arrow ∷ ts) h.rest = (Mark (45 ∷ (62 ∷ [])), 45 ∷ (62 ∷ chars t), chars t, is_arrow (chars t), refl, h.takes) in
      record {
        utf8 = w.utf8;
        rest = h.rest;
        takes = subst (λ x. Takes x (Arrow ∷ ts) h.rest) (sym cs) k;
        ended = h.ended;
        apart = subst (λ x. is_apart a x ≡ true) (sym cs) (apart_ascii a 45 (62 ∷ chars t) (lit< tt) refl);
      };
}

pub double_arrow : {a : Bool} → Reads a false (codes "<->") (λ ts. DoubleArrow ∷ ts)
unfolding mark_token encode
double_arrow {a} = record {
  on = λ t ts h.
      let u : Prefixed 62 t = before 62 t (lit< tt) refl h.utf8 in
      let v : Prefixed 45 (62 ∷ t) = before 45 (62 ∷ t) (lit< tt) refl u.utf8 in
      let w : Prefixed 60 (45 ∷ (62 ∷ t)) = before 60 (45 ∷ (62 ∷ t)) (lit< tt) refl v.utf8 in
      let cs : chars (60 ∷ (45 ∷ (62 ∷ t))) ≡ 60 ∷ (45 ∷ (62 ∷ chars t)) = w.characters ∙ ap (λ x. 60 ∷ x) (v.characters ∙ ap (λ x. 45 ∷ x) u.characters) in
      let k : Takes (60 ∷ (45 ∷ (62 ∷ chars t))) (DoubleArrow ∷ ts) h.rest = (Mark (60 ∷ (45 ∷ (62 ∷ []))), 60 ∷ (45 ∷ (62 ∷ chars t)), chars t, is_double (chars t), refl, h.takes) in
      record {
        utf8 = w.utf8;
        rest = h.rest;
        takes = subst (λ x. Takes x (DoubleArrow ∷ ts) h.rest) (sym cs) k;
        ended = h.ended;
        apart = subst (λ x. is_apart a x ≡ true) (sym cs) (apart_ascii a 60 (45 ∷ (62 ∷ chars t)) (lit< tt) refl);
      };
}

-- ---- words

run_apart : (cs tail : List ℕ) → list_all continues_word cs ≡ true → is_apart true tail ≡ true → word_run (cs ++ tail) ≡ cs
unfolding word_run
run_apart [] [] h a = refl
run_apart [] (c ∷ tail) h a = rw (not-true (continues_word c) a) refl
run_apart (c ∷ cs) tail h a = let p = and_parts (continues_word c) (list_all continues_word cs) h in rw p.0 (ap (λ w. c ∷ w) (run_apart cs tail p.1 a))

rest_apart : (cs tail : List ℕ) → list_all continues_word cs ≡ true → is_apart true tail ≡ true → word_rest (cs ++ tail) ≡ tail
unfolding word_rest
rest_apart [] [] h a = refl
rest_apart [] (c ∷ tail) h a = rw (not-true (continues_word c) a) refl
rest_apart (c ∷ cs) tail h a = let p = and_parts (continues_word c) (list_all continues_word cs) h in rw p.0 (rest_apart cs tail p.1 a)

-- what begins a word is none of these
differs : (c k : ℕ) → starts_word c ≡ true → k < 128 → (is_ascii_alphabetic k || k == 95 || k == 36) ≡ false → (c == k) ≡ false
differs c k h lt n = go (c == k) refl
  where
    go : (b : Bool) → (c == k) ≡ b → (c == k) ≡ false
    go false e = e
    go true e = absurd (true≢false (sym h ∙ ap starts_word (eqb-true c k e) ∙ starts_ascii k lt ∙ n))

word_found : (c : ℕ) (cs tail : List ℕ) → starts_word c ≡ true → list_all continues_word cs ≡ true → is_apart true tail ≡ true
    → next_lexeme (c ∷ (cs ++ tail)) ≡ Found (Word (c ∷ cs)) (c ∷ (cs ++ tail)) tail
unfolding next_lexeme skipped lexeme_at
word_found c cs tail s h a =
    rw (differs c 32 s (lit< tt) refl, differs c 9 s (lit< tt) refl, differs c 10 s (lit< tt) refl, differs c 13 s (lit< tt) refl, differs c 12 s (lit< tt) refl, differs c 47 s (lit< tt) refl, s, run_apart cs tail h a, rest_apart cs tail h a) refl

-- the text of a word
pub record IsWordText (w : List ℕ) : Type 0 where
  pub utf8 : IsUtf8 w
  pub word : is_word (chars w) ≡ true

-- a word where a text follows that doesn't go on it
pub word : (w : List ℕ) → IsWordText w → Reads false true w (λ ts. word_token w ∷ ts)
word w is = record {
  on = λ t ts h.
      record {
        utf8 = IsUtf8-append w t is.utf8 h.utf8;
        rest = h.rest;
        takes = subst (λ x. Takes x (word_token w ∷ ts) h.rest) (sym (chars-append w t is.utf8)) (go (chars w) refl is.word (chars t) h.apart ts h.rest h.takes);
        ended = h.ended;
        apart = refl;
      };
}
  where
    go : (cs : List ℕ) → chars w ≡ cs → is_word cs ≡ true → (tail : List ℕ) → is_apart true tail ≡ true → (ts : List Token) (rest : List ℕ) → Takes tail ts rest → Takes (cs ++ tail) (word_token w ∷ ts) rest
    go [] e h tail a ts rest k = absurd (true≢false (sym h))
    go (c ∷ cs) e h tail a ts rest k =
        let p = and_parts (starts_word c) (list_all continues_word cs) h in
        (Word (c ∷ cs), c ∷ (cs ++ tail), tail, word_found c cs tail p.0 p.1 a, ap word_token (ap encode_utf8_all (sym e) ∙ encodes-chars w is.utf8), k)

-- an identifier
pub identifier : (w : List ℕ) → is_identifier w ≡ true → Reads false true w (λ ts. Id w ∷ ts)
unfolding is_identifier
identifier w h =
    let p = and_parts (is_utf8 w && is_word (chars w)) (not (is_reserved w)) h in
    let q = and_parts (is_utf8 w) (is_word (chars w)) p.0 in
    subst (λ t. Reads false true w (λ ts. t ∷ ts)) (identifier_is w (not-true (is_reserved w) p.1)) (word w (record { utf8 = IsUtf8-from_is_utf8 w q.0; word = q.1 }))

-- an ASCII letter, or a digit
abbrev is_plain : ℕ → Bool
is_plain c = nat_lt c 128 && is_ascii_alphanumeric c

-- a letter, and letters and digits behind it, all of ASCII
abbrev is_plain_word : List ℕ → Bool
is_plain_word [] = false
is_plain_word (c ∷ cs) = nat_lt c 128 && is_ascii_alphabetic c && list_all is_plain cs

plain_continue : (cs : List ℕ) → list_all is_plain cs ≡ true → list_all continues_word cs ≡ true
plain_continue [] h = refl
plain_continue (c ∷ cs) h =
    let p = and_parts (is_plain c) (list_all is_plain cs) h in
    let q = and_parts (nat_lt c 128) (is_ascii_alphanumeric c) p.0 in
    and_from _ _ (continues_ascii c (ltb-true c 128 q.0) ∙ ap (λ b. b || c == 95 || c == 36) q.1) (plain_continue cs p.1)

plain_is_word : (cs : List ℕ) → is_plain_word cs ≡ true → is_word cs ≡ true
plain_is_word [] h = absurd (true≢false (sym h))
plain_is_word (c ∷ cs) h =
    let p = and_parts (nat_lt c 128 && is_ascii_alphabetic c) (list_all is_plain cs) h in
    let q = and_parts (nat_lt c 128) (is_ascii_alphabetic c) p.0 in
    and_from _ _ (starts_ascii c (ltb-true c 128 q.0) ∙ ap (λ b. b || c == 95 || c == 36) q.1) (plain_continue cs p.1)

-- a word of ASCII letters and digits
pub plain : (w : List ℕ) → chars w ≡ w → is_utf8 w ≡ true → is_plain_word w ≡ true → IsWordText w
plain w e u h = record { utf8 = IsUtf8-from_is_utf8 w u; word = ap is_word e ∙ plain_is_word w h }

pub class_word : Reads false true (codes "class") (λ ts. ClassWord ∷ ts)
unfolding word_token chars is_utf8 encode
class_word = word (codes "class") (plain (codes "class") refl refl refl)

pub extends_word : Reads false true (codes "extends") (λ ts. ExtendsWord ∷ ts)
unfolding word_token chars is_utf8 encode
extends_word = word (codes "extends") (plain (codes "extends") refl refl refl)

pub super_word : Reads false true (codes "super") (λ ts. SuperWord ∷ ts)
unfolding word_token chars is_utf8 encode
super_word = word (codes "super") (plain (codes "super") refl refl refl)

pub this_reads : Reads false true (codes "this") (λ ts. ThisWord ∷ ts)
unfolding word_token chars is_utf8 encode
this_reads = word (codes "this") (plain (codes "this") refl refl refl)

pub new_word : Reads false true (codes "new") (λ ts. NewWord ∷ ts)
unfolding word_token chars is_utf8 encode
new_word = word (codes "new") (plain (codes "new") refl refl refl)

pub return_word : Reads false true (codes "return") (λ ts. ReturnWord ∷ ts)
unfolding word_token chars is_utf8 encode
return_word = word (codes "return") (plain (codes "return") refl refl refl)

pub true_reads : Reads false true (codes "true") (λ ts. TrueWord ∷ ts)
unfolding word_token chars is_utf8 encode
true_reads = word (codes "true") (plain (codes "true") refl refl refl)

pub false_reads : Reads false true (codes "false") (λ ts. FalseWord ∷ ts)
unfolding word_token chars is_utf8 encode
false_reads = word (codes "false") (plain (codes "false") refl refl refl)

pub format_reads : Reads false true (codes "format2") (λ ts. Id (codes "format2") ∷ ts)
unfolding word_token chars is_utf8 encode is_reserved
format_reads = word (codes "format2") (plain (codes "format2") refl refl refl)

pub features_reads : Reads false true (codes "features") (λ ts. Id (codes "features") ∷ ts)
unfolding word_token chars is_utf8 encode is_reserved
features_reads = word (codes "features") (plain (codes "features") refl refl refl)

pub constraint_reads : Reads false true (codes "constraint") (λ ts. Id (codes "constraint") ∷ ts)
unfolding word_token chars is_utf8 encode is_reserved
constraint_reads = word (codes "constraint") (plain (codes "constraint") refl refl refl)
