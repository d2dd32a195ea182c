-- What is found of a `new` and what is added, by what is found of its arguments.
use Rattle.std.proofs.Common.{◌≡◌, ℕ, ◌≢◌, Bool, true, false, not, List, ◌++◌, length, Option, None, Some, Bor, Vec, Global, refl, sym, ◌∙◌, ap, ap₂}
use Rattle.std.specs.List.{list_any}
use Rattle.cfj_model.specs.LookUps.{Table, all_fields, is_known}
use Rattle.cfj_model.specs.Judging.{Ruling, fit_numbers, fits, misfits, type_if}
use Rattle.cfj_model.specs.declared.expr.Arg.{Arg}
use Rattle.cfj_model.specs.declared.expr.Expr.{Expr}
use Rattle.cfj_model.specs.declared.expr.Expr.TheVariants as e
use Rattle.cfj_model.specs.declared.site.Rule.TheVariants.{K1, E6, E7}
use Rattle.plain_fj.specs.Breaking.{AddsAtNodes, SlotRule, broken_nodes}
use Rattle.plain_fj.specs.Found.{AreJudged, IsJudged, IsNameJudged, at_roots, names, nodes_in, types_in}
use Rattle.plain_fj.specs.declared.body.Body.{Body}
use Rattle.plain_fj.specs.declared.node_break.NodeBreak.{NodeBreak}
use Rattle.plain_fj.proofs.BrokenNodes.{args_unjudged, new_own, new_pairs, one, own_nodes, type_in}
use Rattle.plain_fj.proofs.TypeLists.{own_types}
use Rattle.plain_fj.proofs.Typed.{arg_types, judged_args, new_type, type_new}
use Rattle.plain_fj.proofs.JudgedNodes.{two_adds, three_adds}
use Rattle.plain_fj.proofs.ArgumentFits.{Types, args_untyped, args_typed, by_fit, fit_differs, fit_same, type_differs, type_same}

module _ (b : Body) where
  abbrev p : Table
  p = b.table.now

  abbrev types : List ℕ → Option (List ℕ)
  types = types_in b.scope

  module _ (slot : ℕ) (k : List ℕ) (args : List Arg) (ts : Types b) (a m c : List NodeBreak) (named : IsNameJudged b slot k a m) (js : AreJudged b args ts m c) where
    abbrev new : Expr
    new = e.New slot k args

    -- what K1 adds
    abbrev first : List SlotRule
    first = broken_nodes (one slot K1 (not (is_known p k)))

    new_is : (known : Bool) (us : Option (List (List ℕ))) → is_known p k ≡ known → arg_types p types args ≡ us → broken_nodes (nodes_in b new) ≡ first ++ new_own b slot args known us k
    new_is known us q qs = new_pairs b slot k args ∙ ap₂ (λ known us. first ++ new_own b slot args known us k) q qs

    new_type_is : (known : Bool) (us : Option (List (List ℕ))) → is_known p k ≡ known → arg_types p types args ≡ us → type_in b new ≡ new_type known p (judged_args p types args) us k
    new_type_is known us q qs = type_new p types slot k args ∙ ap₂ (λ known us. new_type known p (judged_args p types args) us k) q qs

    -- where no more than K1 can break
    new_quiet : (known : Bool) (us : Option (List (List ℕ))) → is_known p k ≡ known → arg_types p types args ≡ us → new_own b slot args known us k ≡ broken_nodes (own_nodes b args) → AddsAtNodes a c (nodes_in b new)
    new_quiet known us q qs own =
        two_adds a m c (one slot K1 (not (is_known p k))) (own_nodes b args) (nodes_in b new) named js.adds (new_is known us q qs ∙ ap (λ z. first ++ z) own)

    unjudged_by : (known : Bool) → new_own b slot args known None k ≡ broken_nodes (own_nodes b args)
    unjudged_by true = args_unjudged b E7 args
    unjudged_by false = args_unjudged b E7 args

    pub new_args_stop : ts ≡ None → IsJudged b new None a c
    new_args_stop none =
        let qs = args_untyped b args ts m c none js in
        record { typed = sym (new_type_is (is_known p k) None refl qs); adds = new_quiet (is_known p k) None refl qs (unjudged_by (is_known p k)) }

    module _ (us : Vec (Bor (List ℕ)) Global) (all : ts ≡ Some us) where
      qs : arg_types p types args ≡ Some (names us.items)
      qs = args_typed b args ts us m c all js

      pub new_unknown : is_known p k ≡ false → IsJudged b new None a c
      new_unknown unknown =
          record { typed = sym (new_type_is false (Some (names us.items)) unknown qs); adds = new_quiet false (Some (names us.items)) unknown qs (args_unjudged b E7 args) }

      module _ (known : is_known p k ≡ true) where
        abbrev ws : List (List ℕ)
        ws = own_types (all_fields p k)

        new_adds : (h : List NodeBreak) (ls : List (ℕ × List Ruling)) → by_fit b slot E6 E7 args (fit_numbers p (names us.items) ws) ≡ broken_nodes (own_nodes b args) ++ broken_nodes ls → AddsAtNodes c h ls → AddsAtNodes a h (nodes_in b new)
        new_adds h ls own adds =
            three_adds a m c h (one slot K1 (not (is_known p k))) (own_nodes b args) ls (nodes_in b new) named js.adds adds
            (new_is true (Some (names us.items)) known qs ∙ ap (λ z. first ++ z) own)

        known_type : type_in b new ≡ type_if (fits (fit_numbers p (names us.items) ws)) k
        known_type = new_type_is true (Some (names us.items)) known qs

        pub new_differs : (h : List NodeBreak) → length (names us.items) ≢ length ws → AddsAtNodes c h (one slot E6 true) → IsJudged b new None a h
        new_differs h differ adds =
            record {
              typed = sym (known_type ∙ type_differs b (names us.items) ws k differ);
              adds = new_adds h (one slot E6 true) (fit_differs b slot E6 E7 args (names us.items) ws qs differ) adds;
            }

        module _ (h : List NodeBreak) (same : length (names us.items) ≡ length ws) (adds : AddsAtNodes c h (at_roots E7 args (misfits p (names us.items) ws))) where
          new_adds_misfits : AddsAtNodes a h (nodes_in b new)
          new_adds_misfits = new_adds h (at_roots E7 args (misfits p (names us.items) ws)) (fit_same b slot E6 E7 args (names us.items) ws qs same) adds

          pub new_misfits : true ≡ list_any (λ b. b) (misfits p (names us.items) ws) → IsJudged b new None a h
          new_misfits is = record { typed = sym (known_type ∙ type_same b (names us.items) ws k true same is); adds = new_adds_misfits }

          pub new_fits : (t : Bor (List ℕ)) → t.now ≡ k → false ≡ list_any (λ b. b) (misfits p (names us.items) ws) → IsJudged b new (Some t) a h
          new_fits t read is = record { typed = ap Some read ∙ sym (known_type ∙ type_same b (names us.items) ws k false same is); adds = new_adds_misfits }
