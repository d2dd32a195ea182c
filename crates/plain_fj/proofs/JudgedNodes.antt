-- What is found of a variable, a field access or a cast and what is added, by what is found of its parts.
use Rattle.std.proofs.Common.{◌≡◌, ℕ, Bool, true, false, not, ◌&&◌, ◌||◌, List, [], ◌++◌, Option, None, Some, is_some, option_map, Bor, refl, sym, ◌∙◌, ap}
use Rattle.std.specs.Option.{option_copied}
use Rattle.std.proofs.lemmas.List.{append-nil}
use Rattle.cfj_model.specs.LookUps.{Table, field_of, is_known, is_subtype}
use Rattle.cfj_model.specs.Judging.{Ruling, accessed, is_unrelated, type_if}
use Rattle.cfj_model.specs.declared.class.Field.{Field}
use Rattle.cfj_model.specs.declared.expr.Expr.{Expr}
use Rattle.cfj_model.specs.declared.expr.Expr.TheVariants as e
use Rattle.cfj_model.specs.declared.site.Rule.TheVariants.{K1, E1, E2, E8}
use Rattle.class_table.proofs.Members.{not_true}
use Rattle.plain_fj.specs.Breaking.{AddsAtNodes, broken_nodes}
use Rattle.plain_fj.specs.Found.{IsJudged, IsNameJudged, nodes_in, types_in}
use Rattle.plain_fj.specs.declared.body.Body.{Body}
use Rattle.plain_fj.specs.declared.node_break.NodeBreak.{NodeBreak}
use Rattle.plain_fj.proofs.AddedNodes.{adds_as, adds_none, adds_then, nodes_append}
use Rattle.plain_fj.proofs.BrokenNodes.{cast_pairs, get_pairs, one, type_in, typed_quiet, var_pairs}
use Rattle.plain_fj.proofs.Typed.{cast_type, type_cast, type_get, type_var}

-- ---- parts that are added

pub two_adds : (a c e : List NodeBreak) (js ks ws : List (ℕ × List Ruling)) → AddsAtNodes a c js → AddsAtNodes c e ks → broken_nodes ws ≡ broken_nodes js ++ broken_nodes ks → AddsAtNodes a e ws
two_adds a c e js ks ws first next same = adds_as a e (js ++ ks) ws (nodes_append js ks ∙ sym same) (adds_then a c e js ks first next)

pub three_adds : (a m c e : List NodeBreak) (js ks ls ws : List (ℕ × List Ruling)) → AddsAtNodes a m js → AddsAtNodes m c ks → AddsAtNodes c e ls → broken_nodes ws ≡ broken_nodes js ++ (broken_nodes ks ++ broken_nodes ls) → AddsAtNodes a e ws
three_adds a m c e js ks ls ws first second third same =
    two_adds a m e js (ks ++ ls) ws first (adds_then m c e ks ls second third) (same ∙ ap (λ z. broken_nodes js ++ z) (sym (nodes_append ks ls)))

module _ (b : Body) where
  abbrev p : Table
  p = b.table.now

  abbrev types : List ℕ → Option (List ℕ)
  types = types_in b.scope

  pub untyped : (x : Expr) (r : Option (Bor (List ℕ))) (a c : List NodeBreak) → r ≡ None → IsJudged b x r a c → type_in b x ≡ None
  untyped x r a c is j = sym j.typed ∙ ap option_copied is

  pub has_type : (x : Expr) (r : Option (Bor (List ℕ))) (t : Bor (List ℕ)) (a c : List NodeBreak) → r ≡ Some t → IsJudged b x r a c → type_in b x ≡ Some t.now
  has_type x r t a c is j = sym j.typed ∙ ap option_copied is

  -- ---- variables

  pub var_typed : (slot : ℕ) (x : List ℕ) (a : List NodeBreak) (r : Option (Bor (List ℕ))) (t : Bor (List ℕ)) → option_copied r ≡ types x → r ≡ Some t → IsJudged b (e.Var slot x) (Some t) a a
  var_typed slot x a r t is some =
      record { typed = sym typed; adds = adds_as a a [] (nodes_in b (e.Var slot x)) (sym (typed_quiet b (e.Var slot x) t.now typed)) (adds_none a) }
    where
      typed : type_in b (e.Var slot x) ≡ Some t.now
      typed = type_var p types slot x ∙ sym is ∙ ap option_copied some

  pub var_unknown : (slot : ℕ) (x : List ℕ) (a c : List NodeBreak) (r : Option (Bor (List ℕ))) → option_copied r ≡ types x → r ≡ None → AddsAtNodes a c (one slot E1 true)
      → IsJudged b (e.Var slot x) None a c
  var_unknown slot x a c r is none adds =
      record {
        typed = sym (type_var p types slot x ∙ untyped);
        adds = adds_as a c (one slot E1 true) (nodes_in b (e.Var slot x)) (sym (var_pairs b slot x ∙ ap (λ t. broken_nodes (one slot E1 (not (is_some t)))) untyped)) adds;
      }
    where
      untyped : types x ≡ None
      untyped = sym is ∙ ap option_copied none

  -- ---- field accesses

  get_own : (slot : ℕ) (on : Expr) (f : List ℕ) (t : Option (List ℕ)) → type_in b on ≡ t
      → broken_nodes (nodes_in b (e.Get slot on f)) ≡ broken_nodes (nodes_in b on) ++ broken_nodes (one slot E2 (is_some t && not (is_some (accessed p t f))))
  get_own slot on f t is = get_pairs b slot on f ∙ ap (λ t. broken_nodes (nodes_in b on) ++ broken_nodes (one slot E2 (is_some t && not (is_some (accessed p t f))))) is

  pub get_stops : (slot : ℕ) (on : Expr) (f : List ℕ) (r : Option (Bor (List ℕ))) (a c : List NodeBreak) → r ≡ None → IsJudged b on r a c → IsJudged b (e.Get slot on f) None a c
  get_stops slot on f r a c none j =
      let q = untyped on r a c none j in
      record {
        typed = sym (type_get p types slot on f ∙ ap (λ t. accessed p t f) q);
        adds = adds_as a c (nodes_in b on) (nodes_in b (e.Get slot on f)) (sym (get_own slot on f None q ∙ append-nil (broken_nodes (nodes_in b on)))) j.adds;
      }

  pub get_typed : (slot : ℕ) (on : Expr) (f : List ℕ) (r : Option (Bor (List ℕ))) (k : Bor (List ℕ)) (d : Field) (t : Bor (List ℕ)) (a c : List NodeBreak) → r ≡ Some k → field_of p k.now f ≡ Some d
      → t.now ≡ d.of → IsJudged b on r a c → IsJudged b (e.Get slot on f) (Some t) a c
  get_typed slot on f r k d t a c some found is j =
      record {
        typed = sym typed;
        adds = adds_as a c (nodes_in b on) (nodes_in b (e.Get slot on f)) (typed_quiet b on k.now q ∙ sym (typed_quiet b (e.Get slot on f) t.now typed)) j.adds;
      }
    where
      q : type_in b on ≡ Some k.now
      q = has_type on r k a c some j

      typed : type_in b (e.Get slot on f) ≡ Some t.now
      typed = type_get p types slot on f ∙ ap (λ t. accessed p t f) q ∙ ap (option_map (λ (d : Field). d.of)) found ∙ ap Some (sym is)

  pub get_breaks : (slot : ℕ) (on : Expr) (f : List ℕ) (r : Option (Bor (List ℕ))) (k : Bor (List ℕ)) (a c h : List NodeBreak) → r ≡ Some k → field_of p k.now f ≡ None
      → IsJudged b on r a c → AddsAtNodes c h (one slot E2 true) → IsJudged b (e.Get slot on f) None a h
  get_breaks slot on f r k a c h some none j adds =
      record {
        typed = sym (type_get p types slot on f ∙ ap (λ t. accessed p t f) q ∙ ap (option_map (λ (d : Field). d.of)) none);
        adds = two_adds a c h (nodes_in b on) (one slot E2 true) (nodes_in b (e.Get slot on f)) j.adds adds
            (get_own slot on f (Some k.now) q ∙ ap (λ d. broken_nodes (nodes_in b on) ++ broken_nodes (one slot E2 (not (is_some (option_map (λ (d : Field). d.of) d))))) none);
      }
    where
      q : type_in b on ≡ Some k.now
      q = has_type on r k a c some j

  -- ---- casts

  module _ (slot : ℕ) (k : List ℕ) (on : Expr) (r : Option (Bor (List ℕ))) (a m c : List NodeBreak) (named : IsNameJudged b slot k a m) (j : IsJudged b on r m c) where
    abbrev cast : Expr
    cast = e.Cast slot k on

    cast_own : (t : Option (List ℕ)) → type_in b on ≡ t
        → broken_nodes (nodes_in b cast) ≡ broken_nodes (one slot K1 (not (is_known p k))) ++ (broken_nodes (one slot E8 (is_unrelated p t k)) ++ broken_nodes (nodes_in b on))
    cast_own t is =
        cast_pairs b slot k on ∙ ap (λ t. broken_nodes (one slot K1 (not (is_known p k))) ++ (broken_nodes (one slot E8 (is_unrelated p t k)) ++ broken_nodes (nodes_in b on))) is

    -- where its own rule doesn't break
    cast_quiet : (t : Option (List ℕ)) → type_in b on ≡ t → is_unrelated p t k ≡ false → AddsAtNodes a c (nodes_in b cast)
    cast_quiet t is not_broken =
        two_adds a m c (one slot K1 (not (is_known p k))) (nodes_in b on) (nodes_in b cast) named j.adds
        (cast_own t is ∙ ap (λ u. broken_nodes (one slot K1 (not (is_known p k))) ++ (broken_nodes (one slot E8 u) ++ broken_nodes (nodes_in b on))) not_broken)

    pub cast_stops : r ≡ None → IsJudged b cast None a c
    cast_stops none =
        let q = untyped on r m c none j in record { typed = sym (type_cast p types slot k on ∙ ap (λ t. cast_type p t k) q); adds = cast_quiet None q refl }

    module _ (d : Bor (List ℕ)) (some : r ≡ Some d) where
      q : type_in b on ≡ Some d.now
      q = has_type on r d m c some j

      abbrev type_by : Bool → Bool → Bool → Option (List ℕ)
      type_by known below above = type_if (true && known && not (known && not below && not above)) k

      pub cast_unknown : is_known p k ≡ false → IsJudged b cast None a c
      cast_unknown unknown =
          record {
            typed = sym (type_cast p types slot k on ∙ ap (λ t. cast_type p t k) q ∙ ap (λ known. type_by known (is_subtype p d.now k) (is_subtype p k d.now)) unknown);
            adds = cast_quiet (Some d.now) q (ap (λ known. known && not (is_subtype p d.now k) && not (is_subtype p k d.now)) unknown);
          }

      related : (known below above : Bool) → below || above ≡ true → (known && not below && not above) ≡ false
      related true true above h = refl
      related true false true h = refl
      related true false false h = absurd (not_true (sym h))
      related false below above h = refl

      pub cast_fits : (t : Bor (List ℕ)) → t.now ≡ k → is_known p k ≡ true → is_subtype p d.now k || is_subtype p k d.now ≡ true → IsJudged b cast (Some t) a c
      cast_fits t is known either =
          let apart = related (is_known p k) (is_subtype p d.now k) (is_subtype p k d.now) either in
          record {
            typed = ap Some is ∙ sym (type_cast p types slot k on ∙ ap (λ t. cast_type p t k) q ∙ ap (λ u. type_if (true && is_known p k && not u) k) apart ∙ ap (λ known. type_if (true && known && true) k) known);
            adds = cast_quiet (Some d.now) q apart;
          }

      unrelated : (known below above : Bool) → known ≡ true → below || above ≡ false → (known && not below && not above) ≡ true
      unrelated true true above n h = absurd (not_true h)
      unrelated true false true n h = absurd (not_true h)
      unrelated true false false n h = refl
      unrelated false below above n h = n

      pub cast_breaks : (h : List NodeBreak) → is_known p k ≡ true → is_subtype p d.now k || is_subtype p k d.now ≡ false → AddsAtNodes c h (one slot E8 true) → IsJudged b cast None a h
      cast_breaks h known neither adds =
          let apart = unrelated (is_known p k) (is_subtype p d.now k) (is_subtype p k d.now) known neither in
          record {
            typed = sym (type_cast p types slot k on ∙ ap (λ t. cast_type p t k) q ∙ ap (λ u. type_if (true && is_known p k && not u) k) apart ∙ ap (λ known. type_if (true && known && false) k) known);
            adds = three_adds a m c h (one slot K1 (not (is_known p k))) (nodes_in b on) (one slot E8 true) (nodes_in b cast) named j.adds adds
                (cast_own (Some d.now) q ∙ ap (λ u. broken_nodes (one slot K1 (not (is_known p k))) ++ (broken_nodes (one slot E8 u) ++ broken_nodes (nodes_in b on))) apart
                ∙ ap (λ z. broken_nodes (one slot K1 (not (is_known p k))) ++ (broken_nodes (one slot E8 true) ++ z)) (typed_quiet b on d.now q)
                ∙ ap (λ z. broken_nodes (one slot K1 (not (is_known p k))) ++ (z ++ broken_nodes (one slot E8 true))) (sym (typed_quiet b on d.now q)));
          }
