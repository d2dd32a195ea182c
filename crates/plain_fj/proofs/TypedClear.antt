-- An expression has a type exactly where no rule breaks at its nodes, as what is found of it.
use Rattle.std.proofs.Common.{◌≡◌, ℕ, suc, Bool, true, false, not, ◌&&◌, cond, List, [], ◌∷◌, ◌++◌, length, map, Option, None, Some, is_some, Bor, refl, sym, ◌∙◌, ap, arith}
use Rattle.std.specs.Prelude.{◌↔◌}
use Rattle.std.specs.List.{filter}
use Rattle.std.specs.Option.{option_copied}
use Rattle.std.proofs.lemmas.Bool.{and_from, and_parts}
use Rattle.cfj_model.specs.Judging.{Ruling}
use Rattle.cfj_model.specs.LookUps.{Table}
use Rattle.cfj_model.specs.declared.expr.Expr.{Expr}
use Rattle.plain_fj.specs.Breaking.{at_slot, broken_at, broken_nodes, slot_rule}
use Rattle.plain_fj.specs.declared.node_break.NodeBreak.{NodeBreak}
use Rattle.plain_fj.proofs.BrokenNodes.{quiet_nodes}
use Rattle.plain_fj.proofs.Clear.{clear, nodes_clear, none_breaks}
use Rattle.plain_fj.proofs.Typed.{judged_of, type_of}

none_before : {A : Type 0} (xs ys : List A) → xs ++ ys ≡ [] → (xs ≡ []) × (ys ≡ [])
none_before [] ys h = (refl, h)
none_before (x ∷ xs) ys h = let e : suc (length (xs ++ ys)) ≡ 0 = ap length h in absurd (omega (arith, e))

rules_clear : (n : ℕ) (vs : List Ruling) → broken_at n vs ≡ [] → none_breaks vs ≡ true
rules_clear n [] h = refl
rules_clear n (v ∷ vs) h = go v.1 h (rules_clear n vs)
  where
    go : (c : Bool) → map (at_slot n) (cond c (v ∷ filter (λ (v : Ruling). v.1) vs) (filter (λ (v : Ruling). v.1) vs)) ≡ [] → (broken_at n vs ≡ [] → none_breaks vs ≡ true)
        → (not c && none_breaks vs) ≡ true
    go true h ih = let e : suc (length (broken_at n vs)) ≡ 0 = ap length h in absurd (omega (arith, e))
    go false h ih = ih h

none_broken : (ns : List (ℕ × List Ruling)) → broken_nodes ns ≡ [] → nodes_clear ns ≡ true
none_broken [] h = refl
none_broken ((slot, vs) ∷ ns) h =
    let parts = none_before (broken_at slot vs) (broken_nodes ns) h in and_from (none_breaks vs) (nodes_clear ns) (rules_clear slot vs parts.0) (none_broken ns parts.1)

none_found : (found : List NodeBreak) → map slot_rule found ≡ [] → found ≡ []
none_found [] h = refl
none_found (n ∷ found) h = let e : suc (length (map slot_rule found)) ≡ 0 = ap length h in absurd (omega (arith, e))

copied : (r : Option (Bor (List ℕ))) → is_some (option_copied r) ≡ is_some r
copied None = refl
copied (Some t) = refl

pub typed_where_clear : (p : Table) (types : List ℕ → Option (List ℕ)) (x : Expr) (r : Option (Bor (List ℕ))) (found : List NodeBreak) → option_copied r ≡ type_of p types x
    → map slot_rule found ≡ broken_nodes ((judged_of p types x).rules []) → is_some r ≡ true ↔ (found ≡ [])
typed_where_clear p types x r found typed breaks = (
  λ some.
      let cleared : nodes_clear ((judged_of p types x).rules []) ≡ true = clear p types x [] ∙ and_from (is_some (type_of p types x)) true (is ∙ some) refl in
      none_found found (breaks ∙ quiet_nodes ((judged_of p types x).rules []) cleared),
  λ none.
      let cleared : nodes_clear ((judged_of p types x).rules []) ≡ true = none_broken ((judged_of p types x).rules []) (sym breaks ∙ ap (map slot_rule) none) in
      sym is ∙ (and_parts (is_some (type_of p types x)) true (sym (clear p types x []) ∙ cleared)).0,
)
  where
    is : is_some (type_of p types x) ≡ is_some r
    is = ap is_some (sym typed) ∙ copied r
