use Rattle.std.proofs.Common.{◌≡◌, ◌++◌, length, length-append, sym, ap, ◌∙◌, arith}
use Rattle.std.specs.Prelude.{encode_utf8}
use Rattle.std.proofs.lemmas.Str.{chars_past_char, length-encode, len_utf8_bounds}
use Rattle.cfj_words.proofs.character.split_first.Goals as goal

pub returns : goal.returns
returns c =
    let first = c.in_ok-first.first in
    let parts : c.args.text.now ≡ encode_utf8 first ++ c.as_str.result.now =
    sym c.chars-rest.ensures.rest ∙ c.in_ok-first.ensures.steps.0 ∙ ap (λ w. encode_utf8 first ++ w) (sym c.as_str.ensures) in
    record {
      bytes = parts;
      characters = chars_past_char _ _ first c.utf8.text parts;
      shorter = omega (arith, simp length-append at (ap length parts), length-encode first, len_utf8_bounds first);
      utf8 = c.as_str.utf8;
    }
