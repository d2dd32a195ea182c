-- What arguments that are judged add, by how they fit.
use Rattle.std.proofs.Common.{◌≡◌, ℕ, ◌≢◌, Bool, true, false, not, cond, List, ◌++◌, length, map, Option, None, Some, option_map, Bor, Vec, Global, sym, ◌∙◌, ap, ap₂}
use Rattle.std.specs.List.{list_any}
use Rattle.std.proofs.lemmas.Bool.{ne_eqb, eq-eqb}
use Rattle.std.proofs.lemmas.List.{length-map}
use Rattle.cfj_model.specs.LookUps.{Table}
use Rattle.cfj_model.specs.Judging.{JudgedExpr, Fit, fit_numbers, fits, misfits, no_misfits, argument_rules, type_if}
use Rattle.cfj_model.specs.declared.expr.Arg.{Arg}
use Rattle.cfj_model.specs.declared.site.Rule.{Rule}
use Rattle.plain_fj.specs.Breaking.{AddsAtNodes, SlotRule, broken_nodes, slot_rule}
use Rattle.plain_fj.specs.Found.{AreJudged, at_roots, judged_in, names, types_in}
use Rattle.plain_fj.specs.declared.body.Body.{Body}
use Rattle.plain_fj.specs.declared.node_break.NodeBreak.{NodeBreak}
use Rattle.plain_fj.proofs.BrokenNodes.{args_judged, args_quiet, one, own_nodes, roots_quiet}
use Rattle.plain_fj.proofs.Clear.{types_length}
use Rattle.plain_fj.proofs.Typed.{arg_types, judged_args}

-- ---- numbers of arguments

numbers_differ : (p : Table) (us ws : List (List ℕ)) → length us ≢ length ws → fit_numbers p us ws ≡ record { differs = true; misfits = no_misfits us }
numbers_differ p us ws h = ap (λ b. cond {A = Fit} b (record { differs = false; misfits = misfits p us ws }) (record { differs = true; misfits = no_misfits us })) (ne_eqb (length us) (length ws) h)

numbers_same : (p : Table) (us ws : List (List ℕ)) → length us ≡ length ws → fit_numbers p us ws ≡ record { differs = false; misfits = misfits p us ws }
numbers_same p us ws h = ap (λ b. cond {A = Fit} b (record { differs = false; misfits = misfits p us ws }) (record { differs = true; misfits = no_misfits us })) (eq-eqb (length us) (length ws) h)

module _ (b : Body) where
  abbrev p : Table
  p = b.table.now

  abbrev types : List ℕ → Option (List ℕ)
  types = types_in b.scope

  abbrev pub Types : Type 0
  Types = Option (Vec (Bor (List ℕ)) Global)

  pub args_untyped : (args : List Arg) (r : Types) (a c : List NodeBreak) → r ≡ None → AreJudged b args r a c → arg_types p types args ≡ None
  args_untyped args r a c is j = sym j.typed ∙ ap (option_map (λ (ts : Vec (Bor (List ℕ)) Global). names ts.items)) is

  pub args_typed : (args : List Arg) (r : Types) (ts : Vec (Bor (List ℕ)) Global) (a c : List NodeBreak) → r ≡ Some ts → AreJudged b args r a c → arg_types p types args ≡ Some (names ts.items)
  args_typed args r ts a c is j = sym j.typed ∙ ap (option_map (λ (ts : Vec (Bor (List ℕ)) Global). names ts.items)) is

  -- a rule of a node that breaks, where none of its arguments' own does
  pub behind_own : (args : List Arg) (us : List (List ℕ)) (ps : List SlotRule) → arg_types p types args ≡ Some us → ps ≡ broken_nodes (own_nodes b args) ++ ps
  behind_own args us ps q = ap (λ z. z ++ ps) (sym (args_quiet b args us q))

  -- what is added at a node and at its arguments, by how these fit
  abbrev pub by_fit : ℕ → Rule → Rule → List Arg → Fit → List SlotRule
  by_fit slot r1 r2 args f = broken_nodes (one slot r1 f.differs) ++ broken_nodes (argument_rules r2 (judged_args p types args) f.misfits)

  pub fit_differs : (slot : ℕ) (r1 r2 : Rule) (args : List Arg) (us ws : List (List ℕ)) → arg_types p types args ≡ Some us → length us ≢ length ws
      → by_fit slot r1 r2 args (fit_numbers p us ws) ≡ broken_nodes (own_nodes b args) ++ broken_nodes (one slot r1 true)
  fit_differs slot r1 r2 args us ws q differ =
      ap (by_fit slot r1 r2 args) (numbers_differ p us ws differ)
      ∙ ap (λ z. broken_nodes (one slot r1 true) ++ z) (args_judged b r2 args us (no_misfits us) q ∙ roots_quiet b r2 args us)
      ∙ behind_own args us (broken_nodes (one slot r1 true)) q

  pub fit_same : (slot : ℕ) (r1 r2 : Rule) (args : List Arg) (us ws : List (List ℕ)) → arg_types p types args ≡ Some us → length us ≡ length ws
      → by_fit slot r1 r2 args (fit_numbers p us ws) ≡ broken_nodes (own_nodes b args) ++ broken_nodes (at_roots r2 args (misfits p us ws))
  fit_same slot r1 r2 args us ws q same =
      ap (by_fit slot r1 r2 args) (numbers_same p us ws same) ∙ args_judged b r2 args us (misfits p us ws) q ∙ behind_own args us (broken_nodes (at_roots r2 args (misfits p us ws))) q

  pub type_differs : (us ws : List (List ℕ)) (t : List ℕ) → length us ≢ length ws → type_if (fits (fit_numbers p us ws)) t ≡ None
  type_differs us ws t differ = ap (λ f. type_if (fits f) t) (numbers_differ p us ws differ)

  pub type_same : (us ws : List (List ℕ)) (t : List ℕ) (some : Bool) → length us ≡ length ws → some ≡ list_any (λ b. b) (misfits p us ws) → type_if (fits (fit_numbers p us ws)) t ≡ type_if (not some) t
  type_same us ws t some same is = ap (λ f. type_if (fits f) t) (numbers_same p us ws same) ∙ ap (λ s. type_if (not s) t) (sym is)

  -- as many types as arguments
  pub as_many : (args : List Arg) (r : Types) (a c : List NodeBreak) → AreJudged b args r a c → (ts : Vec (Bor (List ℕ)) Global) → r ≡ Some ts → length ts.items ≡ length args
  as_many args r a c js ts is =
      sym (length-map ts.items (λ n. n.now)) ∙ types_length (map (λ (j : JudgedExpr). j.type) (judged_args p types args)) (names ts.items) (args_typed args r ts a c is js)
      ∙ length-map (judged_args p types args) (λ (j : JudgedExpr). j.type) ∙ length-map args (λ (a : Arg). judged_in b a.expr)

  -- what is added by types that are read
  module _ (xs ys : List (Bor (List ℕ))) (us ws : List (List ℕ)) (given : names xs ≡ us) (wanted : names ys ≡ ws) where
    pub adds_read : (rule : Rule) (args : List Arg) (a c : List NodeBreak) → AddsAtNodes a c (at_roots rule args (misfits p (names xs) (names ys))) → AddsAtNodes a c (at_roots rule args (misfits p us ws))
    adds_read rule args a c adds = adds ∙ ap₂ (λ us ws. map slot_rule a ++ broken_nodes (at_roots rule args (misfits p us ws))) given wanted

    pub some_read : (some known : Bool) → some ≡ list_any (λ b. b) (misfits p (names xs) (names ys)) → some ≡ known → known ≡ list_any (λ b. b) (misfits p us ws)
    some_read some known is so = sym so ∙ is ∙ ap₂ (λ us ws. list_any (λ b. b) (misfits p us ws)) given wanted

    pub lengths_same : length xs ≡ length ys → length us ≡ length ws
    lengths_same same = sym (ap length given) ∙ length-map xs (λ n. n.now) ∙ same ∙ sym (length-map ys (λ n. n.now)) ∙ ap length wanted

    pub lengths_differ : (length xs ≡ length ys → ⊥) → length us ≢ length ws
    lengths_differ differ e = differ (sym (length-map xs (λ n. n.now)) ∙ ap length given ∙ e ∙ sym (ap length wanted) ∙ length-map ys (λ n. n.now))
