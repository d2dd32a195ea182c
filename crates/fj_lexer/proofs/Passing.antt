-- what is reached behind blanks and comments is an end of what was read
use Rattle.std.proofs.Common.{◌≡◌, ℕ, ◌==◌, Bool, true, false, if◌then◌else◌, List, [], ◌∷◌, ◌++◌, refl, sym, subst, ◌∙◌, append_assoc}
use Rattle.std.specs.Prelude.{encode_utf8_all}
use Rattle.std.specs.Str.{chars, IsUtf8}
use Rattle.cfj_words.specs.Lexemes.{Between, blanks, slash, line, block, star, Skipped, Reached, Unclosed, skipped, is_blank, is_line_end}
use Rattle.fj_lexer.specs.Ends.{IsEndOf}
use Rattle.fj_lexer.specs.Skipping.{SkipsTo, SkipsNot}
use Rattle.fj_lexer.proofs.TextEnds.{seam, bytes}

-- the characters end with these
pub record Ends (cs text : List ℕ) : Type 0 where
  pub front : List ℕ
  pub whole : text ≡ front ++ cs

abbrev From : List ℕ → Between → Type 0
From text blanks = Unit {0}
From text (slash from) = Ends from text
From text line = Unit {0}
From text (block from) = Ends from text
From text (star from) = Ends from text

abbrev Leads : List ℕ → Skipped → Type 0
Leads text (Reached cs) = Ends cs text
Leads text (Unclosed from) = Ends from text

one_on : (text : List ℕ) (c : ℕ) (cs : List ℕ) → Ends (c ∷ cs) text → Ends cs text
one_on text c cs e = record { front = e.front ++ c ∷ []; whole = e.whole ∙ sym (append_assoc e.front (c ∷ []) cs) }

either : (text : List ℕ) (b : Bool) (x y : Skipped) → Leads text x → Leads text y → Leads text (if b then x else y)
either text true x y p q = p
either text false x y p q = q

pub leads : (text : List ℕ) (b : Between) (cs : List ℕ) → From text b → Ends cs text → Leads text (skipped b cs)
unfolding skipped
leads text blanks [] f e = e
leads text blanks (c ∷ cs) f e =
    either text (is_blank c) _ _ (leads text blanks cs tt (one_on text c cs e))
    (either text (c == 47) _ _ (leads text (slash (c ∷ cs)) cs e (one_on text c cs e)) e)
leads text (slash from) [] f e = f
leads text (slash from) (c ∷ cs) f e =
    either text (c == 47) _ _ (leads text line cs tt (one_on text c cs e))
    (either text (c == 42) _ _ (leads text (block from) cs f (one_on text c cs e)) f)
leads text line [] f e = e
leads text line (c ∷ cs) f e =
    either text (is_line_end c) _ _ (leads text blanks cs tt (one_on text c cs e)) (leads text line cs tt (one_on text c cs e))
leads text (block from) [] f e = f
leads text (block from) (c ∷ cs) f e =
    either text (c == 42) _ _ (leads text (star from) cs f (one_on text c cs e)) (leads text (block from) cs f (one_on text c cs e))
leads text (star from) [] f e = f
leads text (star from) (c ∷ cs) f e =
    either text (c == 47) _ _ (leads text blanks cs tt (one_on text c cs e))
    (either text (c == 42) _ _ (leads text (star from) cs f (one_on text c cs e)) (leads text (block from) cs f (one_on text c cs e)))

pub reached : (text rest : List ℕ) → IsUtf8 text → SkipsTo text rest → IsEndOf rest text
reached text rest u s =
    let ends : Ends (chars rest) (chars text) = subst (Leads (chars text)) s.reached (leads (chars text) blanks (chars text) tt (record { front = []; whole = refl })) in
    seam text (encode_utf8_all ends.front) rest (bytes text ends.front rest u s.utf8 ends.whole)

pub unclosed : (text from : List ℕ) → IsUtf8 text → SkipsNot text from → IsEndOf from text
unclosed text from u s =
    let ends : Ends (chars from) (chars text) = subst (Leads (chars text)) s.unclosed (leads (chars text) blanks (chars text) tt (record { front = []; whole = refl })) in
    seam text (encode_utf8_all ends.front) from (bytes text ends.front from u s.utf8 ends.whole)
