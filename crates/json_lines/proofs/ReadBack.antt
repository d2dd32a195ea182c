-- Canonical text reads back.
use Rattle.std.proofs.Common.{◌≡◌, ℕ, suc, ◌≤◌, max, List, [], Some, option_map, option_and_then, Less, Greater, refl, sym, ap, ap₂, ◌∙◌, subst, arith, append-nil}
use Rattle.std.specs.Ordering.{nat_cmp, match_ordering, ordering_reverse}
use Rattle.std.specs.Cmp.Lexicographic.{slice_cmp}
use Rattle.std.proofs.lemmas.Cmp.{nat_list_cmp_total}
use Rattle.json.specs.Lex.{tokens}
use Rattle.json.specs.Json as json
use Rattle.json.specs.Tree as tree
use Rattle.json.proofs.Printed.Decimals.{IsNumber-decimal}
use Rattle.json.proofs.Printed.Tokens.{tokens-print}
use Rattle.json.proofs.Printed.Trees.{value-json_tokens, ArePrintable-json_tokens}
use Rattle.serde_json.specs.Data.{Num, unsigned, negative, float, Data, null, boolean, number, string, array, object, Items, no_items, item, Members, no_members, member, put, depth, items_depth, members_depth}
use Rattle.serde_json.specs.Read.{of_json, of_items, of_members, max_depth, read}
use Rattle.serde_json.specs.Written.{compact_text, outline, items_outline, members_outline}
use Rattle.serde_json.proofs.Numbers.{number_of-decimal}
use Rattle.serde_json.proofs.Texts.{print-outline}
use Rattle.json_lines.specs.Canonical.{IsNatural, IsBefore, AreInOrder, IsCanonical, AreItemsCanonical, AreMembersCanonical}

-- ---- members that go in one after another, in order

-- the members, and others behind them
abbrev pub joined : Members → Members → Members
joined no_members more = more
joined (member k d ms) more = member k d (joined ms more)

joined-no_members : (ms : Members) → joined ms no_members ≡ ms
joined-no_members no_members = refl
joined-no_members (member k d ms) = ap (member k d) (joined-no_members ms)

joined-joined : (a b c : Members) → joined (joined a b) c ≡ joined a (joined b c)
joined-joined no_members b c = refl
joined-joined (member k d ms) b c = ap (member k d) (joined-joined ms b c)

-- Each key of the members before k comes before k.
is_before : (l : List ℕ) (fs : Members) (k : List ℕ) (d : Data) (ms : Members) → IsBefore l (joined fs (member k d ms)) → AreInOrder (joined fs (member k d ms)) → slice_cmp nat_cmp l k ≡ Less
is_before l no_members k d ms first h = first
is_before l (member m x gs) k d ms first h = nat_list_cmp_total.trans l m k first (is_before m gs k d ms h.0 h.1)

put_last : (found : Members) (k : List ℕ) (d : Data) (ms : Members) → AreInOrder (joined found (member k d ms)) → put k d found ≡ joined found (member k d no_members)
put_last no_members k d ms h = refl
put_last (member l e fs) k d ms h =
    let less = is_before l fs k d ms h.0 h.1 in
    let greater : slice_cmp nat_cmp k l ≡ Greater = nat_list_cmp_total.antisymm k l ∙ ap ordering_reverse less in
    ap (λ o. match_ordering o (member k d (member l e fs)) (member l d fs) (member l e (put k d fs))) greater ∙ ap (member l e) (put_last fs k d ms h.1)

-- ---- the value of an outline

of_json-number : (n : Num) → IsNatural n → of_json (outline (number n)) ≡ Some (number n)
of_json-number (unsigned n) h = ap (option_map number) (number_of-decimal n h)
of_json-number (negative z) h = absurd h
of_json-number (float x) h = absurd h

mutual
  pub of_json-outline : (d : Data) → IsCanonical d → of_json (outline d) ≡ Some d
  of_json-outline null h = refl
  of_json-outline (boolean b) h = refl
  of_json-outline (number n) h = of_json-number n h
  of_json-outline (string s) h = refl
  of_json-outline (array ds) h = ap (option_map array) (of_items-outline ds h)
  of_json-outline (object ms) h = ap (option_map object) (of_members-outline ms no_members h.0 h.1)

  of_items-outline : (ds : Items) → AreItemsCanonical ds → of_items (items_outline ds) ≡ Some ds
  of_items-outline no_items h = refl
  of_items-outline (item d ds) h =
      ap (option_and_then (λ e. option_map (item e) (of_items (items_outline ds)))) (of_json-outline d h.0) ∙ ap (option_map (item d)) (of_items-outline ds h.1)

  of_members-outline : (ms found : Members) → AreInOrder (joined found ms) → AreMembersCanonical ms → of_members (members_outline ms) found ≡ Some (joined found ms)
  of_members-outline no_members found order h = ap Some (sym (joined-no_members found))
  of_members-outline (member k d ms) found order h =
      let step = joined-joined found (member k d no_members) ms in
      ap (option_and_then (λ e. of_members (members_outline ms) (put k e found))) (of_json-outline d h.0)
      ∙ ap (of_members (members_outline ms)) (put_last found k d ms order)
      ∙ of_members-outline ms (joined found (member k d no_members)) (subst AreInOrder (sym step) order) h.1
      ∙ ap Some step

-- ---- its numbers and its depth

number_has_text : (n : Num) → IsNatural n → tree.HasNumbers (outline (number n))
number_has_text (unsigned n) h = IsNumber-decimal n h
number_has_text (negative z) h = absurd h
number_has_text (float x) h = absurd h

mutual
  HasNumbers-outline : (d : Data) → IsCanonical d → tree.HasNumbers (outline d)
  HasNumbers-outline null h = tt
  HasNumbers-outline (boolean b) h = tt
  HasNumbers-outline (number n) h = number_has_text n h
  HasNumbers-outline (string s) h = tt
  HasNumbers-outline (array ds) h = ItemsHaveNumbers-outline ds h
  HasNumbers-outline (object ms) h = MembersHaveNumbers-outline ms h.1

  ItemsHaveNumbers-outline : (ds : Items) → AreItemsCanonical ds → tree.ItemsHaveNumbers (items_outline ds)
  ItemsHaveNumbers-outline no_items h = tt
  ItemsHaveNumbers-outline (item d ds) h = (HasNumbers-outline d h.0, ItemsHaveNumbers-outline ds h.1)

  MembersHaveNumbers-outline : (ms : Members) → AreMembersCanonical ms → tree.MembersHaveNumbers (members_outline ms)
  MembersHaveNumbers-outline no_members h = tt
  MembersHaveNumbers-outline (member k d ms) h = (HasNumbers-outline d h.0, MembersHaveNumbers-outline ms h.1)

mutual
  depth-outline : (d : Data) → tree.depth (outline d) ≡ depth d
  depth-outline null = refl
  depth-outline (boolean b) = refl
  depth-outline (number n) = refl
  depth-outline (string s) = refl
  depth-outline (array ds) = ap (λ n. suc n) (items_depth-outline ds)
  depth-outline (object ms) = ap (λ n. suc n) (members_depth-outline ms)

  items_depth-outline : (ds : Items) → tree.items_depth (items_outline ds) ≡ items_depth ds
  items_depth-outline no_items = refl
  items_depth-outline (item d ds) = ap₂ max (depth-outline d) (items_depth-outline ds)

  members_depth-outline : (ms : Members) → tree.members_depth (members_outline ms) ≡ members_depth ms
  members_depth-outline no_members = refl
  members_depth-outline (member k d ms) = ap₂ max (depth-outline d) (members_depth-outline ms)

-- ---- the law

tokens-compact_text : (d : Data) → IsCanonical d → tokens (compact_text d) ≡ tree.json_tokens (outline d)
tokens-compact_text d h = ap tokens (sym (print-outline d)) ∙ tokens-print (tree.json_tokens (outline d)) (ArePrintable-json_tokens (outline d) (HasNumbers-outline d h))

pub read_back : (d : Data) → IsCanonical d → depth d ≤ max_depth → read (compact_text d) ≡ Some d
read_back d h shallow =
    ap (λ o. option_and_then of_json (option_and_then (λ p. json.if_last p.0 p.1) o))
    (ap (json.value max_depth) (tokens-compact_text d h ∙ sym (append-nil _)) ∙ value-json_tokens (outline d) max_depth [] (omega (arith, depth-outline d)))
    ∙ of_json-outline d h
