-- The rules that break at an expression's nodes: breaks that grow by them, and their sites in a method.
use Rattle.std.proofs.Common.{◌≡◌, ℕ, ◌+◌, ◌≤◌, Bool, true, false, cond, List, [], ◌∷◌, ◌++◌, length, map, drop, refl, sym, ◌∙◌, ap, ap₂}
use Rattle.std.specs.List.{filter, flat_map}
use Rattle.std.proofs.lemmas.Grind.{flat_map-append}
use Rattle.std.proofs.lemmas.List.{append-nil, map-append}
use Rattle.cfj_model.specs.Judging.{RuleAt, Pair, Ruling, judged_at, pair_of}
use Rattle.cfj_model.specs.declared.class.Class.{Class}
use Rattle.cfj_model.specs.declared.class.Method.{Method}
use Rattle.cfj_model.specs.declared.site.Site.{Site}
use Rattle.cfj_model.specs.declared.site.Site.TheVariants as site
use Rattle.plain_fj.specs.Breaking.{AddsAtNodes, SlotRule, at_slot, at_slots, broken, broken_at, broken_nodes, slot_rule}
use Rattle.plain_fj.specs.Found.{judged_break}
use Rattle.plain_fj.specs.declared.node_break.NodeBreak.{NodeBreak}
use Rattle.plain_fj.proofs.Broken.{broken_append}
use Rattle.plain_fj.proofs.Growing.{grows_all, grows_as, grows_more, grows_then}

pub nodes_append : (xs ys : List (ℕ × List Ruling)) → broken_nodes (xs ++ ys) ≡ broken_nodes xs ++ broken_nodes ys
nodes_append xs ys = flat_map-append (λ (n : ℕ × List Ruling). broken_at n.0 n.1) xs ys

-- ---- breaks that grow

-- what is added first, and then
pub adds_then : (a b c : List NodeBreak) (xs ys : List (ℕ × List Ruling)) → AddsAtNodes a b xs → AddsAtNodes b c ys → AddsAtNodes a c (xs ++ ys)
adds_then a b c xs ys first next = grows_then slot_rule broken_nodes nodes_append a b c xs ys first next

pub adds_none : (a : List NodeBreak) → AddsAtNodes a a []
adds_none a = sym (append-nil (map slot_rule a))

pub adds_as : (a b : List NodeBreak) (xs ys : List (ℕ × List Ruling)) → broken_nodes xs ≡ broken_nodes ys → AddsAtNodes a b xs → AddsAtNodes a b ys
adds_as a b xs ys same adds = grows_as slot_rule broken_nodes nodes_append a b xs ys same adds

module _ {A : Type 0} (of : A → List (ℕ × List Ruling)) (xs : List A) (i : ℕ) (a b : List NodeBreak) where
  -- with the rules that break at the nodes of the items from the place on, all are added
  abbrev pub IsAddedUpTo : Type 0
  IsAddedUpTo = map slot_rule b ++ broken_nodes (flat_map of (drop i xs)) ≡ map slot_rule a ++ broken_nodes (flat_map of xs)

  pub added_more : (x : A) (c : List NodeBreak) → IsAddedUpTo → drop i xs ≡ x ∷ drop (i + 1) xs → AddsAtNodes b c (of x)
      → map slot_rule c ++ broken_nodes (flat_map of (drop (i + 1) xs)) ≡ map slot_rule a ++ broken_nodes (flat_map of xs)
  added_more x c so_far at adds = grows_more slot_rule broken_nodes nodes_append of xs i a b x c so_far at adds

  pub added_all : IsAddedUpTo → length xs ≤ i → AddsAtNodes a b (flat_map of xs)
  added_all so_far le = grows_all slot_rule broken_nodes nodes_append of xs i a b refl so_far le

-- ---- their sites

module _ (at : ℕ → Site) where
  abbrev placed_at : SlotRule → Pair
  placed_at q = (at q.0, q.1)

  rules_placed : (n : ℕ) (vs : List Ruling) → map placed_at (broken_at n vs) ≡ broken (judged_at (at n) vs)
  rules_placed n [] = refl
  rules_placed n (v ∷ vs) = go v.1 (rules_placed n vs)
    where
      go : (c : Bool) → map placed_at (broken_at n vs) ≡ broken (judged_at (at n) vs)
          → map placed_at (map (at_slot n) (cond c (v ∷ filter (λ (v : Ruling). v.1) vs) (filter (λ (v : Ruling). v.1) vs)))
          ≡ map pair_of (cond c (record { site = at n; rule = v.0; breaks = v.1 } ∷ filter (λ (j : RuleAt). j.breaks) (judged_at (at n) vs)) (filter (λ (j : RuleAt). j.breaks) (judged_at (at n) vs)))
      go true ih = ap (λ z. (at n, v.0) ∷ z) ih
      go false ih = ih

  nodes_placed : (ns : List (ℕ × List Ruling)) → map placed_at (broken_nodes ns) ≡ broken (at_slots at ns)
  nodes_placed [] = refl
  nodes_placed (n ∷ ns) =
      map-append placed_at (broken_at n.0 n.1) (broken_nodes ns) ∙ ap₂ (λ y z. y ++ z) (rules_placed n.0 n.1) (nodes_placed ns)
      ∙ sym (broken_append (judged_at (at n.0) n.1) (at_slots at ns))

-- The breaks at the nodes of a method's body are what breaks at their sites.
pub body_broken : (k : Class) (m : Method) (found : List NodeBreak) (ns : List (ℕ × List Ruling)) → map slot_rule found ≡ broken_nodes ns
    → broken (flat_map (judged_break k m) found) ≡ broken (at_slots (λ n. site.Node k.name m.name m.alt n) ns)
body_broken k m found ns same = go found ∙ ap (map (placed_at at)) same ∙ nodes_placed at ns
  where
    at : ℕ → Site
    at n = site.Node k.name m.name m.alt n

    go : (found : List NodeBreak) → broken (flat_map (judged_break k m) found) ≡ map (placed_at at) (map slot_rule found)
    go [] = refl
    go (n ∷ found) = ap (λ z. (at n.slot, n.rule) ∷ z) (go found)
