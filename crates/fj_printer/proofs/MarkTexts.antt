-- The marks of a node, one feature at a time.
use Rattle.std.proofs.Common.{◌≡◌, sym, ap, ◌∙◌, ℕ, ◌+◌, ◌<◌, ◌≤◌, List, ◌++◌, length, take, drop, slice_index_or, zero-add, arith}
use Rattle.std.specs.List.{enumerate_from}
use Rattle.std.proofs.lemmas.List.{take_all}
use Rattle.std.proofs.lemmas.List.FromFn.{length-enumerate_from, get_or-enumerate_from}
use Rattle.cfj_logic.specs.Sides.{Sides}
use Rattle.cfj_model.specs.Print.{texts, mark_text, marks_text}
use Rattle.fj_printer.proofs.Lists.{texts_more, texts_there}

module _ (features : List (List ℕ)) (colors : Sides) where
  -- the marks of the first features
  abbrev pub marks_to : ℕ → List ℕ
  marks_to n = texts (mark_text colors) (take n (enumerate_from 0 features))

  pub marks_whole : (n : ℕ) → length features ≤ n → marks_to n ≡ marks_text features colors
  marks_whole n le = ap (texts (mark_text colors)) (take_all n (enumerate_from 0 features) (omega (arith, length-enumerate_from 0 features)))

  module _ (i : ℕ) (feature : List ℕ) (lt : i < length features) (here : feature ≡ slice_index_or features i feature) where
    numbered : ℕ × List ℕ
    numbered = (i, feature)

    within : i < length (enumerate_from 0 features)
    within = omega (arith, length-enumerate_from 0 features)

    there : slice_index_or (enumerate_from 0 features) i (i, feature) ≡ (i, feature)
    there =
        get_or-enumerate_from 0 features i (i, feature) lt
        ∙ ap (λ n. (let p : ℕ × List ℕ = (n, slice_index_or features i feature) in p)) (zero-add i)
        ∙ ap (λ f. (let p : ℕ × List ℕ = (i, f) in p)) (sym here)

    pub marks_more : marks_to (i + 1) ≡ marks_to i ++ mark_text colors (i, feature)
    marks_more = texts_more (mark_text colors) (enumerate_from 0 features) i (i, feature) (mark_text colors (i, feature)) within (sym (ap (mark_text colors) there))

    pub marks_there : marks_text features colors ≡ marks_to i ++ (mark_text colors (i, feature) ++ texts (mark_text colors) (drop (i + 1) (enumerate_from 0 features)))
    marks_there = texts_there (mark_text colors) (enumerate_from 0 features) i (i, feature) (mark_text colors (i, feature)) within (sym (ap (mark_text colors) there))
