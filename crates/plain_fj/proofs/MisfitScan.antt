-- Arguments against what is wanted of them, place by place.
use Rattle.std.proofs.Common.{◌≡◌, ℕ, ◌+◌, ◌<◌, ◌≤◌, Bool, true, false, not, ◌||◌, List, [], ◌∷◌, ◌++◌, length, map, drop, slice_index_or, Bor, refl, sym, ◌∙◌, ap, ap₂, arith}
use Rattle.std.specs.List.{list_any}
use Rattle.std.proofs.lemmas.List.{append_assoc, append-nil}
use Rattle.cfj_model.specs.LookUps.{Table, is_subtype}
use Rattle.cfj_model.specs.Judging.{misfits}
use Rattle.cfj_model.specs.declared.expr.Arg.{Arg}
use Rattle.cfj_model.specs.declared.site.Rule.{Rule}
use Rattle.plain_fj.specs.Breaking.{AddsAtNodes, SlotRule, broken_nodes, slot_rule}
use Rattle.plain_fj.specs.Found.{at_roots, names}
use Rattle.plain_fj.specs.declared.body.Body.{Body}
use Rattle.plain_fj.specs.declared.node_break.NodeBreak.{NodeBreak}
use Rattle.plain_fj.proofs.AddedNodes.{nodes_append}
use Rattle.plain_fj.proofs.TypeLists.{drop_at, drop_past}

or_assoc : (a b c : Bool) → (a || b) || c ≡ a || (b || c)
or_assoc true b c = refl
or_assoc false b c = refl

or_false : (a : Bool) → a || false ≡ a
or_false true = refl
or_false false = refl

-- whether there is one, after one more
pub one_more : (some c after : Bool) → c ≡ true → after ≡ true → after ≡ some || c
one_more true c after is now = now
one_more false c after is now = now ∙ sym is

pub no_more : (some c after : Bool) → c ≡ false → after ≡ some → after ≡ some || c
no_more some c after is now = now ∙ sym (or_false some) ∙ ap (λ c. some || c) (sym is)

module _ (b : Body) (rule : Rule) (args : List Arg) (ts ws : List (Bor (List ℕ))) where
  abbrev p : Table
  p = b.table.now

  -- the misfits from a place on
  abbrev rest : ℕ → List Bool
  rest i = misfits p (names (drop i ts)) (names (drop i ws))

  -- some argument before the place misfits, or one from there on
  abbrev pub IsSomeUpTo : ℕ → Bool → Type 0
  IsSomeUpTo i some = some || list_any (λ c. c) (rest i) ≡ list_any (λ c. c) (misfits p (names ts) (names ws))

  -- with the breaks at arguments from the place on, all are added
  abbrev pub AreAddedUpTo : ℕ → List NodeBreak → List NodeBreak → Type 0
  AreAddedUpTo i before now = map slot_rule now ++ broken_nodes (at_roots rule (drop i args) (rest i)) ≡ map slot_rule before ++ broken_nodes (at_roots rule args (misfits p (names ts) (names ws)))

  module _ (i : ℕ) (many : length ts ≡ length args) (wanted : length ts ≡ length ws) where
    module _ (t w : Bor (List ℕ)) (lt : i < length ts) (at : t ≡ slice_index_or ts i t) (aw : w ≡ slice_index_or ws i w) where
      rest_here : rest i ≡ not (is_subtype p t.now w.now) ∷ rest (i + 1)
      rest_here = let lw : i < length ws = omega (arith, wanted, lt) in ap₂ (λ a b. misfits p (names a) (names b)) (drop_at ts i t lt at) (drop_at ws i w lw aw)

      pub some_more : (some c : Bool) → IsSomeUpTo i some → c ≡ not (is_subtype p t.now w.now) → IsSomeUpTo (i + 1) (some || c)
      some_more some c so_far is =
          ap (λ c. (some || c) || list_any (λ c. c) (rest (i + 1))) is
          ∙ or_assoc some (not (is_subtype p t.now w.now)) (list_any (λ c. c) (rest (i + 1)))
          ∙ ap (λ z. some || list_any (λ c. c) z) (sym rest_here)
          ∙ so_far

      pub adds_more : (a : Arg) (before now later : List NodeBreak) → a ≡ slice_index_or args i a → AreAddedUpTo i before now
          → AddsAtNodes now later (at_roots rule (a ∷ []) (not (is_subtype p t.now w.now) ∷ [])) → AreAddedUpTo (i + 1) before later
      adds_more a before now later ax so_far adds =
          let la : i < length args = omega (arith, many, lt) in
          ap (λ z. z ++ broken_nodes (at_roots rule (drop (i + 1) args) (rest (i + 1)))) adds
          ∙ append_assoc (map slot_rule now) here (broken_nodes (at_roots rule (drop (i + 1) args) (rest (i + 1))))
          ∙ ap (λ z. map slot_rule now ++ z) (sym (nodes_append (at_roots rule (a ∷ []) (not (is_subtype p t.now w.now) ∷ [])) (at_roots rule (drop (i + 1) args) (rest (i + 1)))))
          ∙ ap₂ (λ xs cs. map slot_rule now ++ broken_nodes (at_roots rule xs cs)) (sym (drop_at args i a la ax)) (sym rest_here)
          ∙ so_far
        where
          here : List SlotRule
          here = broken_nodes (at_roots rule (a ∷ []) (not (is_subtype p t.now w.now) ∷ []))

    module _ (le : length ts ≤ i) where
      rest_past : rest i ≡ []
      rest_past = ap (λ a. misfits p (names a) (names (drop i ws))) (drop_past ts i le)

      pub some_all : (some : Bool) → IsSomeUpTo i some → some ≡ list_any (λ c. c) (misfits p (names ts) (names ws))
      some_all some so_far = sym (or_false some) ∙ ap (λ z. some || list_any (λ c. c) z) (sym rest_past) ∙ so_far

      pub adds_all : (before now : List NodeBreak) → AreAddedUpTo i before now → AddsAtNodes before now (at_roots rule args (misfits p (names ts) (names ws)))
      adds_all before now so_far =
          let la : length args ≤ i = omega (arith, many, le) in
          sym (append-nil (map slot_rule now)) ∙ ap₂ (λ xs cs. map slot_rule now ++ broken_nodes (at_roots rule xs cs)) (sym (drop_past args i la)) (sym rest_past) ∙ so_far
