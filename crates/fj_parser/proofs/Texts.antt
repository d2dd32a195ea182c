-- What `Takes` says of a text: it goes together, comes apart, and is one.
use Rattle.std.proofs.Common.{◌≡◌, ℕ, ◌<◌, ◌≤◌, ◌+◌, ◌==◌, Bool, true, false, cond, List, [], ◌∷◌, ◌++◌, length, refl, sym, ap, subst, ◌∙◌, codes, encode_utf8_all, bytes_eq, chars, IsUtf8, arith, length-append}
use Rattle.std.specs.List.{list_all}
use Rattle.std.specs.Str.{all_scalars}
use Rattle.std.proofs.lemmas.Bool.{cond_both, and_parts, and_from}
use Rattle.std.proofs.lemmas.Str.{scalars-chars}
use Rattle.cfj_words.proofs.Identifiers.{word_is_identifier}
use Rattle.cfj_words.specs.Names.{starts_word, continues_word, is_word, is_reserved}
use Rattle.cfj_words.specs.Lexemes.{is_blank, is_line_end, Between, blanks, slash, line, block, star, Skipped, Reached, Unclosed, skipped, word_run, word_rest, Lexeme, Lexed, Found, AtEnd, NoToken, NoClose, is_single_mark, after_dash, after_less_dash, after_less, lexeme_at, after_blanks, next_lexeme}
use Rattle.cfj_words.specs.Tokens.{Token, word_token, mark_token, token_of, Takes}
use Rattle.fj_symbols.specs.Views.{is_read, are_read}
use Rattle.fj_lexer.specs.Kinds.{characters_of}
use Rattle.fj_lexer.proofs.Parts.{IsWhole, whole}

-- What takes these tokens and then those takes them all.
pub takes_append : (cs : List ℕ) (ts : List Token) (mid : List ℕ) (us : List Token) (rest : List ℕ) → Takes cs ts mid → Takes mid us rest → Takes cs (ts ++ us) rest
takes_append cs [] mid us rest p q = subst (λ x. Takes x us rest) (sym p) q
takes_append cs (t ∷ ts) mid us rest (l, from, next, found, is, more) q = (l, from, next, found, is, takes_append next ts mid us rest more q)

-- one more token behind
pub takes_more : (cs : List ℕ) (ts : List Token) (mid : List ℕ) (l : Lexeme) (from rest : List ℕ) → Takes cs ts mid → next_lexeme mid ≡ Found l from rest → Takes cs (ts ++ token_of l ∷ []) rest
takes_more cs ts mid l from rest p found = takes_append cs ts mid (token_of l ∷ []) rest p (l, from, rest, found, refl, refl)

-- What is found first in a text is one lexeme, with one text behind it.
same_lexeme : (k l : Lexeme) (place from behind next : List ℕ) → Found k place behind ≡ Found l from next → k ≡ l
same_lexeme k l place from behind next e = cc e

same_rest : (k l : Lexeme) (place from behind next : List ℕ) → Found k place behind ≡ Found l from next → behind ≡ next
same_rest k l place from behind next e = cc e

-- What stands behind these tokens is one text.
pub takes_same : (cs : List ℕ) (ts : List Token) (rest other : List ℕ) → Takes cs ts rest → Takes cs ts other → rest ≡ other
takes_same cs [] rest other p q = sym p ∙ q
takes_same cs (t ∷ ts) rest other (l, from, next, found, is, more) (k, place, behind, seen, also, others) = takes_same next ts rest other more (subst (λ x. Takes x ts other) (same_rest k l place from behind next (sym seen ∙ found)) others)

-- What takes two lists of tokens takes the first, and then the second.
pub takes_split : (cs : List ℕ) (ts us : List Token) (rest : List ℕ) → Takes cs (ts ++ us) rest → (mid : List ℕ) × Takes cs ts mid × Takes mid us rest
takes_split cs [] us rest p = (cs, refl, p)
takes_split cs (t ∷ ts) us rest (l, from, next, found, is, more) = go (takes_split next ts us rest more)
  where
    go : ((mid : List ℕ) × Takes next ts mid × Takes mid us rest) → (mid : List ℕ) × Takes cs (t ∷ ts) mid × Takes mid us rest
    go (mid, front, back) = (mid, (l, from, next, found, is, front), back)

-- how two lists that begin alike compare
pub data Order (ts us : List Token) : Type 0 where
  same : ts ≡ us → Order ts us
  shorter : (t : Token) (more : List Token) → us ≡ ts ++ t ∷ more → Order ts us
  longer : (t : Token) (more : List Token) → ts ≡ us ++ t ∷ more → Order ts us

order_behind : (t u : Token) (ts us : List Token) → t ≡ u → Order ts us → Order (t ∷ ts) (u ∷ us)
order_behind t u ts us e (same p) = same (cc (e, p))
order_behind t u ts us e (shorter v more p) = shorter v more (cc (e, p))
order_behind t u ts us e (longer v more p) = longer v more (cc (e, p))

-- Of two lists of tokens in front of one text, one is the beginning of the other.
pub takes_order : (cs : List ℕ) (ts us : List Token) (rest other : List ℕ) → Takes cs ts rest → Takes cs us other → Order ts us
takes_order cs [] [] rest other p q = same refl
takes_order cs [] (u ∷ us) rest other p q = shorter u us refl
takes_order cs (t ∷ ts) [] rest other p q = longer t ts refl
takes_order cs (t ∷ ts) (u ∷ us) rest other (l, from, next, found, is, more) (k, place, behind, seen, also, others) = order_behind t u ts us (sym is ∙ ap token_of (sym (same_lexeme k l place from behind next (sym seen ∙ found))) ∙ also) (takes_order next ts us rest other more (subst (λ x. Takes x us other) (same_rest k l place from behind next (sym seen ∙ found)) others))

-- the characters of a text
pub scalars_of : (text : List ℕ) → IsUtf8 text → all_scalars (chars text) ≡ true
scalars_of text utf8 = scalars-chars text utf8

-- What stands behind blanks and comments has characters of the text.
abbrev AreScalars : Skipped → Type 0
AreScalars (Reached cs) = all_scalars cs ≡ true
AreScalars (Unclosed from) = Unit {0}

-- what a mode keeps has characters of the text
abbrev Keeps : Between → Type 0
Keeps blanks = Unit {0}
Keeps (slash from) = all_scalars from ≡ true
Keeps line = Unit {0}
Keeps (block from) = Unit {0}
Keeps (star from) = Unit {0}

tail_scalars : (c : ℕ) (cs : List ℕ) → all_scalars (c ∷ cs) ≡ true → all_scalars cs ≡ true
tail_scalars c cs h = (and_parts _ _ h).1

skipped_scalars : (m : Between) (cs : List ℕ) → Keeps m → all_scalars cs ≡ true → AreScalars (skipped m cs)
unfolding skipped
skipped_scalars blanks [] k h = h
skipped_scalars blanks (c ∷ cs) k h = cond_both (is_blank c) _ _ AreScalars (λ e. skipped_scalars blanks cs k (tail_scalars c cs h)) (λ e. cond_both (c == 47) _ _ AreScalars (λ f. skipped_scalars (slash (c ∷ cs)) cs h (tail_scalars c cs h)) (λ f. h))
skipped_scalars (slash from) [] k h = k
skipped_scalars (slash from) (c ∷ cs) k h = cond_both (c == 47) _ _ AreScalars (λ e. skipped_scalars line cs tt (tail_scalars c cs h)) (λ e. cond_both (c == 42) _ _ AreScalars (λ f. skipped_scalars (block from) cs tt (tail_scalars c cs h)) (λ f. k))
skipped_scalars line [] k h = refl
skipped_scalars line (c ∷ cs) k h = cond_both (is_line_end c) _ _ AreScalars (λ e. skipped_scalars blanks cs tt (tail_scalars c cs h)) (λ e. skipped_scalars line cs tt (tail_scalars c cs h))
skipped_scalars (block from) [] k h = tt
skipped_scalars (block from) (c ∷ cs) k h = cond_both (c == 42) _ _ AreScalars (λ e. skipped_scalars (star from) cs tt (tail_scalars c cs h)) (λ e. skipped_scalars (block from) cs tt (tail_scalars c cs h))
skipped_scalars (star from) [] k h = tt
skipped_scalars (star from) (c ∷ cs) k h = cond_both (c == 47) _ _ AreScalars (λ e. skipped_scalars blanks cs tt (tail_scalars c cs h)) (λ e. cond_both (c == 42) _ _ AreScalars (λ f. skipped_scalars (star from) cs tt (tail_scalars c cs h)) (λ f. skipped_scalars (block from) cs tt (tail_scalars c cs h)))

run_scalars : (cs : List ℕ) → all_scalars cs ≡ true → all_scalars (word_run cs) ≡ true
unfolding word_run
run_scalars [] h = refl
run_scalars (c ∷ cs) h = cond_both (continues_word c) _ _ (λ x. all_scalars x ≡ true) (λ e. and_from _ _ (and_parts _ _ h).0 (run_scalars cs (and_parts _ _ h).1)) (λ e. refl)

rest_scalars : (cs : List ℕ) → all_scalars cs ≡ true → all_scalars (word_rest cs) ≡ true
unfolding word_rest
rest_scalars [] h = refl
rest_scalars (c ∷ cs) h = cond_both (continues_word c) _ _ (λ x. all_scalars x ≡ true) (λ e. rest_scalars cs (tail_scalars c cs h)) (λ e. h)

run_continues : (cs : List ℕ) → list_all continues_word (word_run cs) ≡ true
unfolding word_run
run_continues [] = refl
run_continues (c ∷ cs) = cond_both (continues_word c) _ _ (λ x. list_all continues_word x ≡ true) (λ e. and_from _ _ e (run_continues cs)) (λ e. refl)

-- a token that a text can have
record IsToken (t : Token) : Type 0 where
  is : is_read t ≡ true

either : (b : Bool) {x y : Token} → IsToken x → (b ≡ false → IsToken y) → IsToken (cond b x y)
either b {x} {y} p q = cond_both b x y IsToken (λ e. p) q

plainly : {t : Token} → is_read t ≡ true → IsToken t
plainly p = record { is = p }

-- A word's token is read: where it is an identifier, its text is a word that isn't reserved.
word_read : (cs : List ℕ) → all_scalars cs ≡ true → is_word cs ≡ true → IsToken (word_token (encode_utf8_all cs))
unfolding word_token
word_read cs h w = either (bytes_eq (encode_utf8_all cs) (codes "class")) (plainly refl) (λ e. either (bytes_eq (encode_utf8_all cs) (codes "extends")) (plainly refl) (λ e. either (bytes_eq (encode_utf8_all cs) (codes "super")) (plainly refl) (λ e. either (bytes_eq (encode_utf8_all cs) (codes "this")) (plainly refl) (λ e. either (bytes_eq (encode_utf8_all cs) (codes "new")) (plainly refl) (λ e. either (bytes_eq (encode_utf8_all cs) (codes "return")) (plainly refl) (λ e. either (bytes_eq (encode_utf8_all cs) (codes "true")) (plainly refl) (λ e. either (bytes_eq (encode_utf8_all cs) (codes "false")) (plainly refl) (λ e. either (is_reserved (encode_utf8_all cs)) (plainly refl) (λ e. plainly (word_is_identifier cs h w e))))))))))

mark_read : (m : List ℕ) → IsToken (mark_token m)
unfolding mark_token
mark_read m = either (bytes_eq m (codes "{")) (plainly refl) (λ e. either (bytes_eq m (codes "}")) (plainly refl) (λ e. either (bytes_eq m (codes "(")) (plainly refl) (λ e. either (bytes_eq m (codes ")")) (plainly refl) (λ e. either (bytes_eq m (codes ";")) (plainly refl) (λ e. either (bytes_eq m (codes ",")) (plainly refl) (λ e. either (bytes_eq m (codes ".")) (plainly refl) (λ e. either (bytes_eq m (codes "=")) (plainly refl) (λ e. either (bytes_eq m (codes "@")) (plainly refl) (λ e. either (bytes_eq m (codes "!")) (plainly refl) (λ e. either (bytes_eq m (codes "&")) (plainly refl) (λ e. either (bytes_eq m (codes "|")) (plainly refl) (λ e. either (bytes_eq m (codes "->")) (plainly refl) (λ e. plainly refl)))))))))))))

-- a lexeme whose token is read, and scalars behind it
abbrev IsRead : Lexed → Type 0
IsRead (Found l from rest) = (is_read (token_of l) ≡ true) × (all_scalars rest ≡ true)
IsRead AtEnd = Unit {0}
IsRead (NoToken from) = Unit {0}
IsRead (NoClose from) = Unit {0}

dash_read : (from cs : List ℕ) → all_scalars cs ≡ true → IsRead (after_dash from cs)
dash_read from [] h = tt
dash_read from (c ∷ cs) h = cond_both (c == 62) _ _ IsRead (λ e. ((mark_read _).is, tail_scalars c cs h)) (λ e. tt)

less_dash_read : (from cs : List ℕ) → all_scalars cs ≡ true → IsRead (after_less_dash from cs)
less_dash_read from [] h = tt
less_dash_read from (c ∷ cs) h = cond_both (c == 62) _ _ IsRead (λ e. ((mark_read _).is, tail_scalars c cs h)) (λ e. tt)

less_read : (from cs : List ℕ) → all_scalars cs ≡ true → IsRead (after_less from cs)
less_read from [] h = tt
less_read from (c ∷ cs) h = cond_both (c == 45) _ _ IsRead (λ e. less_dash_read from cs (tail_scalars c cs h)) (λ e. tt)

lexeme_read : (cs : List ℕ) → all_scalars cs ≡ true → IsRead (lexeme_at cs)
unfolding lexeme_at
lexeme_read [] h = tt
lexeme_read (c ∷ cs) h =
    cond_both (starts_word c) _ _ IsRead (λ e. ((word_read (c ∷ word_run cs) (and_from _ _ (and_parts _ _ h).0 (run_scalars cs (tail_scalars c cs h))) (and_from _ _ e (run_continues cs))).is, rest_scalars cs (tail_scalars c cs h))) (λ e.
    cond_both (is_single_mark c) _ _ IsRead (λ f. ((mark_read _).is, tail_scalars c cs h)) (λ f.
    cond_both (c == 45) _ _ IsRead (λ g. dash_read (c ∷ cs) cs (tail_scalars c cs h)) (λ g.
    cond_both (c == 60) _ _ IsRead (λ i. less_read (c ∷ cs) cs (tail_scalars c cs h)) (λ i. tt))))

blanks_read : (s : Skipped) → AreScalars s → IsRead (after_blanks s)
blanks_read (Reached cs) h = lexeme_read cs h
blanks_read (Unclosed from) h = tt

-- What stands first in a text is read.
next_read : (cs : List ℕ) → all_scalars cs ≡ true → IsRead (next_lexeme cs)
unfolding next_lexeme
next_read cs h = blanks_read (skipped blanks cs) (skipped_scalars blanks cs tt h)

-- What is called an identifier is one.
pub takes_read : (cs : List ℕ) (ts : List Token) (rest : List ℕ) → all_scalars cs ≡ true → Takes cs ts rest → are_read ts ≡ true
takes_read cs [] rest h p = refl
takes_read cs (t ∷ ts) rest h (l, from, next, found, is, more) = and_from _ _ (subst (λ x. is_read x ≡ true) is (subst IsRead found (next_read cs h)).0) (takes_read next ts rest (subst IsRead found (next_read cs h)).1 more)

-- What stands behind the tokens of a text has characters of the text.
pub takes_scalars : (cs : List ℕ) (ts : List Token) (rest : List ℕ) → all_scalars cs ≡ true → Takes cs ts rest → all_scalars rest ≡ true
takes_scalars cs [] rest h p = subst (λ x. all_scalars x ≡ true) p h
takes_scalars cs (t ∷ ts) rest h (l, from, next, found, is, more) = takes_scalars next ts rest (subst IsRead found (next_read cs h)).1 more

-- and so is the token that comes next
pub next_is_read : (cs : List ℕ) (l : Lexeme) (from rest : List ℕ) → all_scalars cs ≡ true → next_lexeme cs ≡ Found l from rest → is_read (token_of l) ≡ true
next_is_read cs l from rest h found = (subst IsRead found (next_read cs h)).0

-- ---- what is found is shorter than the text that it is found in

-- no longer than this
abbrev IsWithin : ℕ → Skipped → Type 0
IsWithin n (Reached cs) = length cs ≤ n
IsWithin n (Unclosed from) = Unit {0}

-- what a mode keeps is no longer than this
abbrev KeepsWithin : ℕ → Between → Type 0
KeepsWithin n blanks = Unit {0}
KeepsWithin n (slash from) = length from ≤ n
KeepsWithin n line = Unit {0}
KeepsWithin n (block from) = Unit {0}
KeepsWithin n (star from) = Unit {0}

skipped_within : (n : ℕ) (m : Between) (cs : List ℕ) → KeepsWithin n m → length cs ≤ n → IsWithin n (skipped m cs)
unfolding skipped
skipped_within n blanks [] k h = h
skipped_within n blanks (c ∷ cs) k h = cond_both (is_blank c) _ _ (IsWithin n) (λ e. skipped_within n blanks cs k (omega arith)) (λ e. cond_both (c == 47) _ _ (IsWithin n) (λ f. skipped_within n (slash (c ∷ cs)) cs h (omega arith)) (λ f. h))
skipped_within n (slash from) [] k h = k
skipped_within n (slash from) (c ∷ cs) k h = cond_both (c == 47) _ _ (IsWithin n) (λ e. skipped_within n line cs tt (omega arith)) (λ e. cond_both (c == 42) _ _ (IsWithin n) (λ f. skipped_within n (block from) cs tt (omega arith)) (λ f. k))
skipped_within n line [] k h = h
skipped_within n line (c ∷ cs) k h = cond_both (is_line_end c) _ _ (IsWithin n) (λ e. skipped_within n blanks cs tt (omega arith)) (λ e. skipped_within n line cs tt (omega arith))
skipped_within n (block from) [] k h = tt
skipped_within n (block from) (c ∷ cs) k h = cond_both (c == 42) _ _ (IsWithin n) (λ e. skipped_within n (star from) cs tt (omega arith)) (λ e. skipped_within n (block from) cs tt (omega arith))
skipped_within n (star from) [] k h = tt
skipped_within n (star from) (c ∷ cs) k h = cond_both (c == 47) _ _ (IsWithin n) (λ e. skipped_within n blanks cs tt (omega arith)) (λ e. cond_both (c == 42) _ _ (IsWithin n) (λ f. skipped_within n (star from) cs tt (omega arith)) (λ f. skipped_within n (block from) cs tt (omega arith)))

found_behind : (n : ℕ) (s : Skipped) (l : Lexeme) (from rest : List ℕ) → IsWithin n s → after_blanks s ≡ Found l from rest → length rest < n
found_behind n (Reached cs) l from rest h e =
    let w : IsWhole cs l rest = whole cs l from rest e in
    let long : length cs ≡ length (characters_of l) + length rest = ap length w.whole ∙ length-append (characters_of l) rest in
    let filled = w.filled in
    omega arith
found_behind n (Unclosed from) l place rest h e = absurd (let no : ⊥ = cc e in no)

-- What stands behind a lexeme is shorter.
pub found_shorter : (cs : List ℕ) (l : Lexeme) (from rest : List ℕ) → next_lexeme cs ≡ Found l from rest → length rest < length cs
unfolding next_lexeme
found_shorter cs l from rest e = found_behind (length cs) (skipped blanks cs) l from rest (skipped_within (length cs) blanks cs tt (omega arith)) e
