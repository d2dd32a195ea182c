-- What is found of a call and what is added, by what is found of its receiver and its arguments.
use Rattle.std.proofs.Common.{◌≡◌, ℕ, ◌≢◌, true, false, List, ◌++◌, length, Option, None, Some, Bor, Vec, Global, refl, sym, ◌∙◌, ap, ap₂}
use Rattle.std.specs.List.{list_any}
use Rattle.cfj_model.specs.LookUps.{Table, method_of}
use Rattle.cfj_model.specs.Judging.{Ruling, fit_numbers, fits, misfits, called, result_type, type_if}
use Rattle.cfj_model.specs.Typing.{param_types}
use Rattle.cfj_model.specs.declared.class.Method.{Method}
use Rattle.cfj_model.specs.declared.expr.Arg.{Arg}
use Rattle.cfj_model.specs.declared.expr.Expr.{Expr}
use Rattle.cfj_model.specs.declared.expr.Expr.TheVariants as e
use Rattle.cfj_model.specs.declared.site.Rule.TheVariants.{E3, E4, E5}
use Rattle.plain_fj.specs.Breaking.{AddsAtNodes, SlotRule, broken_nodes}
use Rattle.plain_fj.specs.Found.{AreJudged, IsJudged, at_roots, names, nodes_in, types_in}
use Rattle.plain_fj.specs.declared.body.Body.{Body}
use Rattle.plain_fj.specs.declared.node_break.NodeBreak.{NodeBreak}
use Rattle.plain_fj.proofs.BrokenNodes.{args_quiet, args_unjudged, call_fit, call_own, call_pairs, one, own_nodes, type_in}
use Rattle.plain_fj.proofs.Typed.{arg_types, call_type, judged_args, type_call}
use Rattle.plain_fj.proofs.JudgedNodes.{two_adds, three_adds, untyped, has_type}
use Rattle.plain_fj.proofs.ArgumentFits.{Types, args_untyped, args_typed, behind_own, by_fit, fit_differs, fit_same, type_differs, type_same}

module _ (b : Body) where
  abbrev p : Table
  p = b.table.now

  abbrev types : List ℕ → Option (List ℕ)
  types = types_in b.scope

  module _ (slot : ℕ) (on : Expr) (n : List ℕ) (args : List Arg) (r : Option (Bor (List ℕ))) (ts : Types b) (a m c : List NodeBreak) (j : IsJudged b on r a m) (js : AreJudged b args ts m c) where
    abbrev call : Expr
    call = e.Call slot on n args

    abbrev own_by : Option (List ℕ) → Option (List (List ℕ)) → List SlotRule
    own_by t us = call_own b slot args t us (called p t us n)

    call_is : (t : Option (List ℕ)) (us : Option (List (List ℕ))) → type_in b on ≡ t → arg_types p types args ≡ us → broken_nodes (nodes_in b call) ≡ broken_nodes (nodes_in b on) ++ own_by t us
    call_is t us q qs = call_pairs b slot on n args ∙ ap₂ (λ t us. broken_nodes (nodes_in b on) ++ own_by t us) q qs

    call_type_is : (t : Option (List ℕ)) (us : Option (List (List ℕ))) → type_in b on ≡ t → arg_types p types args ≡ us → type_in b call ≡ call_type p (judged_args p types args) t us n
    call_type_is t us q qs = type_call p types slot on n args ∙ ap₂ (λ t us. call_type p (judged_args p types args) t us n) q qs

    unjudged_on : (us : Option (List (List ℕ))) → own_by None us ≡ broken_nodes (own_nodes b args)
    unjudged_on None = args_unjudged b E5 args
    unjudged_on (Some us) = args_unjudged b E5 args

    pub call_stops : r ≡ None → IsJudged b call None a c
    call_stops none =
        let q = untyped b on r a m none j in
        record {
          typed = sym (call_type_is None (arg_types p types args) q refl);
          adds = two_adds a m c (nodes_in b on) (own_nodes b args) (nodes_in b call) j.adds js.adds
              (call_is None (arg_types p types args) q refl ∙ ap (λ z. broken_nodes (nodes_in b on) ++ z) (unjudged_on (arg_types p types args)));
        }

    module _ (k : Bor (List ℕ)) (some : r ≡ Some k) where
      q : type_in b on ≡ Some k.now
      q = has_type b on r k a m some j

      pub call_args_stop : ts ≡ None → IsJudged b call None a c
      call_args_stop none =
          let qs = args_untyped b args ts m c none js in
          record {
            typed = sym (call_type_is (Some k.now) None q qs);
            adds = two_adds a m c (nodes_in b on) (own_nodes b args) (nodes_in b call) j.adds js.adds
                (call_is (Some k.now) None q qs ∙ ap (λ z. broken_nodes (nodes_in b on) ++ z) (args_unjudged b E5 args));
          }

      module _ (us : Vec (Bor (List ℕ)) Global) (all : ts ≡ Some us) where
        qs : arg_types p types args ≡ Some (names us.items)
        qs = args_typed b args ts us m c all js

        -- the call's own rules break as these do
        call_adds : (h : List NodeBreak) (ls : List (ℕ × List Ruling)) → own_by (Some k.now) (Some (names us.items)) ≡ broken_nodes (own_nodes b args) ++ broken_nodes ls → AddsAtNodes c h ls → AddsAtNodes a h (nodes_in b call)
        call_adds h ls own adds =
            three_adds a m c h (nodes_in b on) (own_nodes b args) ls (nodes_in b call) j.adds js.adds adds
            (call_is (Some k.now) (Some (names us.items)) q qs ∙ ap (λ z. broken_nodes (nodes_in b on) ++ z) own)

        pub call_no_method : (h : List NodeBreak) → method_of p k.now n ≡ None → AddsAtNodes c h (one slot E3 true) → IsJudged b call None a h
        call_no_method h none adds =
            record {
              typed = sym (call_type_is (Some k.now) (Some (names us.items)) q qs ∙ ap by_method none);
              adds = call_adds h (one slot E3 true)
                  (ap (call_own b slot args (Some k.now) (Some (names us.items))) none
                  ∙ ap (λ z. broken_nodes (one slot E3 true) ++ z) (args_unjudged b E5 args ∙ args_quiet b args (names us.items) qs)
                  ∙ behind_own b args (names us.items) (broken_nodes (one slot E3 true)) qs) adds;
            }
          where
            by_method : Option Method → Option (List ℕ)
            by_method d = result_type (fits (call_fit b args (Some (names us.items)) d)) d

        module _ (d : Method) (found : method_of p k.now n ≡ Some d) where
          abbrev ws : List (List ℕ)
          ws = param_types d.params

          found_own : own_by (Some k.now) (Some (names us.items)) ≡ by_fit b slot E4 E5 args (fit_numbers p (names us.items) ws)
          found_own = ap (call_own b slot args (Some k.now) (Some (names us.items))) found

          found_type : type_in b call ≡ type_if (fits (fit_numbers p (names us.items) ws)) d.result
          found_type = call_type_is (Some k.now) (Some (names us.items)) q qs ∙ ap (λ (d : Option Method). result_type (fits (call_fit b args (Some (names us.items)) d)) d) found

          pub call_differs : (h : List NodeBreak) → length (names us.items) ≢ length ws → AddsAtNodes c h (one slot E4 true) → IsJudged b call None a h
          call_differs h differ adds =
              record {
                typed = sym (found_type ∙ type_differs b (names us.items) ws d.result differ);
                adds = call_adds h (one slot E4 true) (found_own ∙ fit_differs b slot E4 E5 args (names us.items) ws qs differ) adds;
              }

          module _ (h : List NodeBreak) (same : length (names us.items) ≡ length ws) (adds : AddsAtNodes c h (at_roots E5 args (misfits p (names us.items) ws))) where
            call_adds_misfits : AddsAtNodes a h (nodes_in b call)
            call_adds_misfits = call_adds h (at_roots E5 args (misfits p (names us.items) ws)) (found_own ∙ fit_same b slot E4 E5 args (names us.items) ws qs same) adds

            pub call_misfits : true ≡ list_any (λ b. b) (misfits p (names us.items) ws) → IsJudged b call None a h
            call_misfits is = record { typed = sym (found_type ∙ type_same b (names us.items) ws d.result true same is); adds = call_adds_misfits }

            pub call_fits : (t : Bor (List ℕ)) → t.now ≡ d.result → false ≡ list_any (λ b. b) (misfits p (names us.items) ws) → IsJudged b call (Some t) a h
            call_fits t read is = record { typed = ap Some read ∙ sym (found_type ∙ type_same b (names us.items) ws d.result false same is); adds = call_adds_misfits }
