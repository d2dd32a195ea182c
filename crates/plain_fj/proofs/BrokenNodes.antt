-- The rules that break at an expression's nodes, by its parts.
use Rattle.std.proofs.Common.{◌≡◌, ℕ, nat_lt, Bool, true, false, not, ◌&&◌, cond, List, [], ◌∷◌, ◌++◌, map, Option, None, Some, is_some, option_map, refl, sym, ◌∙◌, ap, ap₂}
use Rattle.std.specs.List.{filter, flat_map}
use Rattle.std.proofs.lemmas.Bool.{and_from, and_parts, not-true}
use Rattle.std.proofs.lemmas.List.{append-nil, map-append}
use Rattle.std.proofs.lemmas.List.Elements.{filter-append}
use Rattle.std.proofs.lemmas.List.Folds.{list_all-append}
use Rattle.cfj_model.specs.LookUps.{Table, is_known}
use Rattle.cfj_model.specs.Judging.{Ruling, JudgedExpr, judged_step_with, judged_arg, types_of, Fit, fit_of, no_misfits, argument_rules, accessed, called, field_types, is_unrelated, rank, with_ruling}
use Rattle.cfj_model.specs.Typing.{param_types}
use Rattle.cfj_model.specs.declared.class.Method.{Method}
use Rattle.cfj_model.specs.declared.expr.Arg.{Arg}
use Rattle.cfj_model.specs.declared.expr.Expr.{Expr}
use Rattle.cfj_model.specs.declared.expr.Expr.TheVariants as e
use Rattle.cfj_model.specs.declared.site.Rule.{Rule}
use Rattle.cfj_model.specs.declared.site.Rule.TheVariants.{K1, E1, E2, E3, E4, E5, E6, E7, E8}
use Rattle.cfj_model.proofs.ExprCases.{fold_var, fold_get, fold_call, fold_new, fold_cast, args_of, by_cases}
use Rattle.class_table.proofs.Members.{unlike, not_true, mapped}
use Rattle.plain_fj.specs.Breaking.{SlotRule, at_slot, broken_at, broken_nodes}
use Rattle.plain_fj.specs.Found.{at_roots, judged_in, nodes_in, slot_of, slot_step, types_in}
use Rattle.plain_fj.specs.declared.body.Body.{Body}
use Rattle.plain_fj.proofs.Typed.{judged_args, arg_types, types_where}
use Rattle.plain_fj.proofs.Clear.{none_breaks, nodes_clear, clear}
use Rattle.plain_fj.proofs.AddedNodes.{nodes_append}

-- ---- one node

rules_append : (n : ℕ) (vs ws : List Ruling) → broken_at n (vs ++ ws) ≡ broken_at n vs ++ broken_at n ws
rules_append n vs ws =
    ap (map (at_slot n)) (filter-append (λ (v : Ruling). v.1) vs ws) ∙ map-append (at_slot n) (filter (λ (v : Ruling). v.1) vs) (filter (λ (v : Ruling). v.1) ws)

quiet_rules : (n : ℕ) (vs : List Ruling) → none_breaks vs ≡ true → broken_at n vs ≡ []
quiet_rules n [] h = refl
quiet_rules n (v ∷ vs) h =
    let parts = and_parts (not v.1) (none_breaks vs) h in
    go v.1 (not-true v.1 parts.0) (quiet_rules n vs parts.1)
  where
    go : (c : Bool) → c ≡ false → broken_at n vs ≡ [] → map (at_slot n) (cond c (v ∷ filter (λ (v : Ruling). v.1) vs) (filter (λ (v : Ruling). v.1) vs)) ≡ []
    go true q ih = absurd (not_true q)
    go false q ih = ih

-- Of a node's own rules and those that are given behind them.
own_behind : (n : ℕ) (own more : List Ruling) → none_breaks more ≡ true → broken_at n (own ++ more) ≡ broken_at n (own ++ [])
own_behind n own more none =
    rules_append n own more ∙ ap (λ z. broken_at n own ++ z) (quiet_rules n more none) ∙ sym (rules_append n own [])

given_behind : (n : ℕ) (own more : List Ruling) → none_breaks (own ++ []) ≡ true → broken_at n (own ++ more) ≡ broken_at n more
given_behind n own more none =
    rules_append n own more
    ∙ ap (λ z. z ++ broken_at n more) (quiet_rules n own (and_parts (none_breaks own) true (sym (list_all-append (λ (v : Ruling). not v.1) own []) ∙ none)).0)

-- One more ruling among those that are given, where none of these breaks, or where it doesn't.
one_breaks : (n : ℕ) (v : Ruling) (more : List Ruling) → none_breaks more ≡ true → broken_at n (with_ruling v more) ≡ broken_at n (v ∷ [])
one_breaks n v [] none = refl
one_breaks n v (w ∷ ws) none =
    let parts = and_parts (not w.1) (none_breaks ws) none in
    go (nat_lt (rank w.0) (rank v.0)) (quiet_rules n (w ∷ []) (and_from (not w.1) true parts.0 refl)) (one_breaks n v ws parts.1)
  where
    go : (c : Bool) → broken_at n (w ∷ []) ≡ [] → broken_at n (with_ruling v ws) ≡ broken_at n (v ∷ [])
        → broken_at n (cond c (w ∷ with_ruling v ws) (v ∷ (w ∷ ws))) ≡ broken_at n (v ∷ [])
    go true quiet ih = rules_append n (w ∷ []) (with_ruling v ws) ∙ ap (λ z. z ++ broken_at n (with_ruling v ws)) quiet ∙ ih
    go false quiet ih =
        rules_append n (v ∷ []) (w ∷ ws) ∙ ap (λ z. broken_at n (v ∷ []) ++ z) (quiet_rules n (w ∷ ws) none) ∙ append-nil (broken_at n (v ∷ []))

others_break : (n : ℕ) (v : Ruling) (more : List Ruling) → none_breaks (v ∷ []) ≡ true → broken_at n (with_ruling v more) ≡ broken_at n more
others_break n v [] none = quiet_rules n (v ∷ []) none
others_break n v (w ∷ ws) none = go (nat_lt (rank w.0) (rank v.0)) (others_break n v ws none)
  where
    go : (c : Bool) → broken_at n (with_ruling v ws) ≡ broken_at n ws
        → broken_at n (cond c (w ∷ with_ruling v ws) (v ∷ (w ∷ ws))) ≡ broken_at n (w ∷ ws)
    go true ih = rules_append n (w ∷ []) (with_ruling v ws) ∙ ap (λ z. broken_at n (w ∷ []) ++ z) ih ∙ sym (rules_append n (w ∷ []) ws)
    go false ih = rules_append n (v ∷ []) (w ∷ ws) ∙ ap (λ z. z ++ broken_at n (w ∷ ws)) (quiet_rules n (v ∷ []) none)

-- Of two own rules, the second among those that are given.
own_among : (n : ℕ) (v w : Ruling) (more : List Ruling) → none_breaks more ≡ true → broken_at n (v ∷ with_ruling w more) ≡ broken_at n (v ∷ (w ∷ []))
own_among n v w more none =
    rules_append n (v ∷ []) (with_ruling w more) ∙ ap (λ z. broken_at n (v ∷ []) ++ z) (one_breaks n w more none) ∙ sym (rules_append n (v ∷ []) (w ∷ []))

given_among : (n : ℕ) (v w : Ruling) (more : List Ruling) → none_breaks (v ∷ (w ∷ [])) ≡ true → broken_at n (v ∷ with_ruling w more) ≡ broken_at n more
given_among n v w more none =
    let parts = and_parts (not v.1) (none_breaks (w ∷ [])) none in
    rules_append n (v ∷ []) (with_ruling w more)
    ∙ ap₂ (λ y z. y ++ z) (quiet_rules n (v ∷ []) (and_from (not v.1) true parts.0 refl)) (others_break n w more parts.1)

-- the types of the first and of the rest, where all have types
pub rest_typed : (o : Option (List ℕ)) (os : List (Option (List ℕ))) (us : List (List ℕ)) → types_of (o ∷ os) ≡ Some us
    → (t : List ℕ) × (ts : List (List ℕ)) × (o ≡ Some t) × (types_of os ≡ Some ts)
rest_typed None os us h = absurd (unlike h)
rest_typed (Some t) os us h = let r = mapped (λ us. t ∷ us) (types_of os) us h in (t, r.0, refl, r.1)

-- ---- nodes

-- one rule at a node
abbrev pub one : ℕ → Rule → Bool → List (ℕ × List Ruling)
one slot rule c = (slot, (rule, c) ∷ []) ∷ []

pub quiet_nodes : (ns : List (ℕ × List Ruling)) → nodes_clear ns ≡ true → broken_nodes ns ≡ []
quiet_nodes [] h = refl
quiet_nodes ((slot, vs) ∷ ns) h =
    let parts = and_parts (none_breaks vs) (nodes_clear ns) h in
    ap₂ (λ x y. x ++ y) (quiet_rules slot vs parts.0) (quiet_nodes ns parts.1)

-- a node with two rules
two_rules : (slot : ℕ) (r0 r1 : Rule) (c0 c1 : Bool) (ns : List (ℕ × List Ruling))
    → broken_nodes ((slot, (r0, c0) ∷ ((r1, c1) ∷ [])) ∷ ns) ≡ broken_nodes (one slot r0 c0) ++ (broken_nodes (one slot r1 c1) ++ broken_nodes ns)
two_rules slot r0 r1 true true ns = refl
two_rules slot r0 r1 true false ns = refl
two_rules slot r0 r1 false true ns = refl
two_rules slot r0 r1 false false ns = refl

module _ (b : Body) where
  abbrev p : Table
  p = b.table.now

  abbrev types : List ℕ → Option (List ℕ)
  types = types_in b.scope

  abbrev pub type_in : Expr → Option (List ℕ)
  type_in x = (judged_in b x).type

  -- what is judged at the nodes of arguments but by the node round them
  abbrev pub own_nodes : List Arg → List (ℕ × List Ruling)
  own_nodes args = flat_map (λ (a : Arg). nodes_in b a.expr) args

  -- ---- the root

  -- The nodes before the root and behind it, and the root's rules, by those that the node round it judges there. Of these and of its
  -- own the ones that break are those of either, where none of the other breaks.
  record HasRoot (x : Expr) : Type 0 where
    before : List (ℕ × List Ruling)
    root : List Ruling → List Ruling
    behind : List (ℕ × List Ruling)
    is : (more : List Ruling) → (judged_in b x).rules more ≡ before ++ (slot_of x, root more) ∷ behind
    own : (more : List Ruling) → none_breaks more ≡ true → broken_at (slot_of x) (root more) ≡ broken_at (slot_of x) (root [])
    given : (more : List Ruling) → none_breaks (root []) ≡ true → broken_at (slot_of x) (root more) ≡ broken_at (slot_of x) more

  rooted : (x : Expr) → HasRoot x
  rooted = by_cases HasRoot (record {
    var_case = λ slot x.
        let own : List Ruling = (E1, not (is_some (types x))) ∷ [] in
        record {
          before = [];
          root = λ more. own ++ more;
          behind = [];
          is = λ more. ap (λ (j : JudgedExpr). j.rules more) (fold_var JudgedExpr JudgedExpr (judged_step_with p types) judged_arg slot x)
              ∙ ap (λ s. (s, own ++ more) ∷ []) (sym (fold_var ℕ ℕ slot_step (λ a. a.expr) slot x));
          own = λ more none. own_behind (slot_of (e.Var slot x)) own more none;
          given = λ more none. given_behind (slot_of (e.Var slot x)) own more none;
        };
    get_case = λ slot on ih f.
        let own : List Ruling = (E2, is_some (type_in on) && not (is_some (accessed p (type_in on) f))) ∷ [] in
        record {
          before = (judged_in b on).rules [];
          root = λ more. own ++ more;
          behind = [];
          is = λ more. ap (λ (j : JudgedExpr). j.rules more) (fold_get JudgedExpr JudgedExpr (judged_step_with p types) judged_arg slot on f)
              ∙ ap (λ s. (judged_in b on).rules [] ++ (s, own ++ more) ∷ []) (sym (fold_get ℕ ℕ slot_step (λ a. a.expr) slot on f));
          own = λ more none. own_behind (slot_of (e.Get slot on f)) own more none;
          given = λ more none. given_behind (slot_of (e.Get slot on f)) own more none;
        };
    call_case = λ slot on ih m ys.
        let args : List Arg = args_of HasRoot ys in
        let ts : Option (List (List ℕ)) = arg_types p types args in
        let d : Option Method = called p (type_in on) ts m in
        let f : Fit = fit_of p (judged_args p types args) ts (option_map (λ (d : Method). param_types d.params) d) in
        let own : List Ruling = (E3, is_some (type_in on) && is_some ts && not (is_some d)) ∷ ((E4, f.differs) ∷ []) in
        record {
          before = (judged_in b on).rules [];
          root = λ more. own ++ more;
          behind = argument_rules E5 (judged_args p types args) f.misfits;
          is = λ more. ap (λ (j : JudgedExpr). j.rules more) (fold_call JudgedExpr JudgedExpr (judged_step_with p types) judged_arg slot on m args)
              ∙ ap (λ s. (judged_in b on).rules [] ++ (s, own ++ more) ∷ argument_rules E5 (judged_args p types args) f.misfits)
              (sym (fold_call ℕ ℕ slot_step (λ a. a.expr) slot on m args));
          own = λ more none. own_behind (slot_of (e.Call slot on m args)) own more none;
          given = λ more none. given_behind (slot_of (e.Call slot on m args)) own more none;
        };
    new_case = λ slot c ys.
        let args : List Arg = args_of HasRoot ys in
        let f : Fit = fit_of p (judged_args p types args) (arg_types p types args) (field_types p c) in
        let v : Ruling = (K1, not (is_known p c)) in
        let w : Ruling = (E6, f.differs) in
        record {
          before = [];
          root = λ more. v ∷ with_ruling w more;
          behind = argument_rules E7 (judged_args p types args) f.misfits;
          is = λ more. ap (λ (j : JudgedExpr). j.rules more) (fold_new JudgedExpr JudgedExpr (judged_step_with p types) judged_arg slot c args)
              ∙ ap (λ s. (s, v ∷ with_ruling w more) ∷ argument_rules E7 (judged_args p types args) f.misfits) (sym (fold_new ℕ ℕ slot_step (λ a. a.expr) slot c args));
          own = λ more none. own_among (slot_of (e.New slot c args)) v w more none;
          given = λ more none. given_among (slot_of (e.New slot c args)) v w more none;
        };
    cast_case = λ slot c on ih.
        let v : Ruling = (K1, not (is_known p c)) in
        let w : Ruling = (E8, is_unrelated p (type_in on) c) in
        record {
          before = [];
          root = λ more. v ∷ with_ruling w more;
          behind = (judged_in b on).rules [];
          is = λ more. ap (λ (j : JudgedExpr). j.rules more) (fold_cast JudgedExpr JudgedExpr (judged_step_with p types) judged_arg slot c on)
              ∙ ap (λ s. (s, v ∷ with_ruling w more) ∷ (judged_in b on).rules []) (sym (fold_cast ℕ ℕ slot_step (λ a. a.expr) slot c on));
          own = λ more none. own_among (slot_of (e.Cast slot c on)) v w more none;
          given = λ more none. given_among (slot_of (e.Cast slot c on)) v w more none;
        };
  })

  by_root : (x : Expr) (r : HasRoot x) (more : List Ruling)
      → broken_nodes ((judged_in b x).rules more) ≡ broken_nodes r.before ++ (broken_at (slot_of x) (r.root more) ++ broken_nodes r.behind)
  by_root x r more =
      ap broken_nodes (r.is more) ∙ nodes_append r.before ((slot_of x, r.root more) ∷ r.behind)

  -- rules that the node round it judges at its root and that don't break change nothing
  unchanged : (x : Expr) (more : List Ruling) → none_breaks more ≡ true → broken_nodes ((judged_in b x).rules more) ≡ broken_nodes (nodes_in b x)
  unchanged x more none =
      by_root x (rooted x) more
      ∙ ap (λ z. broken_nodes (rooted x).before ++ (z ++ broken_nodes (rooted x).behind)) ((rooted x).own more none)
      ∙ sym (by_root x (rooted x) [])

  -- where it has a type no rule of its nodes breaks
  typed_clear : (x : Expr) (t : List ℕ) → type_in x ≡ Some t → nodes_clear ((judged_in b x).rules []) ≡ true
  typed_clear x t q = clear p types x [] ∙ ap (λ o. is_some o && true) q

  pub typed_quiet : (x : Expr) (t : List ℕ) → type_in x ≡ Some t → broken_nodes (nodes_in b x) ≡ []
  typed_quiet x t q = quiet_nodes ((judged_in b x).rules []) (typed_clear x t q)

  -- and then only what the node round it judges can break
  at_root : (x : Expr) (t : List ℕ) (more : List Ruling) → type_in x ≡ Some t → broken_nodes ((judged_in b x).rules more) ≡ broken_at (slot_of x) more
  at_root x t more q =
      by_root x r more
      ∙ ap (λ z. z ++ (broken_at (slot_of x) (r.root more) ++ broken_nodes r.behind)) (quiet_nodes r.before parts.0)
      ∙ ap (λ z. z ++ broken_nodes r.behind) (r.given more here.0)
      ∙ ap (λ z. broken_at (slot_of x) more ++ z) (quiet_nodes r.behind here.1)
      ∙ append-nil (broken_at (slot_of x) more)
    where
      r : HasRoot x
      r = rooted x

      parts : (nodes_clear r.before ≡ true) × ((none_breaks (r.root []) && nodes_clear r.behind) ≡ true)
      parts =
          and_parts (nodes_clear r.before) (none_breaks (r.root []) && nodes_clear r.behind)
          (sym (list_all-append (λ n. none_breaks n.1) r.before ((slot_of x, r.root []) ∷ r.behind)) ∙ ap nodes_clear (sym (r.is [])) ∙ typed_clear x t q)

      here : (none_breaks (r.root []) ≡ true) × (nodes_clear r.behind ≡ true)
      here = and_parts (none_breaks (r.root [])) (nodes_clear r.behind) parts.1

  -- ---- arguments

  -- where none is to misfit only their own rules break
  pub args_unjudged : (rule : Rule) (args : List Arg) → broken_nodes (argument_rules rule (judged_args p types args) (no_misfits (judged_args p types args))) ≡ broken_nodes (own_nodes args)
  args_unjudged rule [] = refl
  args_unjudged rule (x ∷ xs) =
      nodes_append ((judged_in b x.expr).rules ((rule, false) ∷ [])) (argument_rules rule (judged_args p types xs) (no_misfits (judged_args p types xs)))
      ∙ ap₂ (λ y z. y ++ z) (unchanged x.expr ((rule, false) ∷ []) refl) (args_unjudged rule xs)
      ∙ sym (nodes_append (nodes_in b x.expr) (own_nodes xs))

  -- where all have types none of their own rules breaks
  pub args_quiet : (args : List Arg) (us : List (List ℕ)) → arg_types p types args ≡ Some us → broken_nodes (own_nodes args) ≡ []
  args_quiet [] us h = refl
  args_quiet (x ∷ xs) us h =
      let r = rest_typed (type_in x.expr) (map (λ (j : JudgedExpr). j.type) (judged_args p types xs)) us h in
      nodes_append (nodes_in b x.expr) (own_nodes xs) ∙ ap₂ (λ y z. y ++ z) (typed_quiet x.expr r.0 r.2) (args_quiet xs r.1 r.3)

  no_roots : (rule : Rule) (args : List Arg) → at_roots rule args [] ≡ []
  no_roots rule [] = refl
  no_roots rule (x ∷ xs) = refl

  -- and then only those that misfit break, at their roots
  pub args_judged : (rule : Rule) (args : List Arg) (us : List (List ℕ)) (bs : List Bool) → arg_types p types args ≡ Some us
      → broken_nodes (argument_rules rule (judged_args p types args) bs) ≡ broken_nodes (at_roots rule args bs)
  args_judged rule [] us bs h = refl
  args_judged rule (x ∷ xs) us [] h =
      let r = rest_typed (type_in x.expr) (map (λ (j : JudgedExpr). j.type) (judged_args p types xs)) us h in
      nodes_append ((judged_in b x.expr).rules ((rule, false) ∷ [])) (argument_rules rule (judged_args p types xs) [])
      ∙ ap₂ (λ y z. y ++ z) (at_root x.expr r.0 ((rule, false) ∷ []) r.2) (args_judged rule xs r.1 [] r.3 ∙ ap broken_nodes (no_roots rule xs))
  args_judged rule (x ∷ xs) us (c ∷ bs) h =
      let r = rest_typed (type_in x.expr) (map (λ (j : JudgedExpr). j.type) (judged_args p types xs)) us h in
      nodes_append ((judged_in b x.expr).rules ((rule, c) ∷ [])) (argument_rules rule (judged_args p types xs) bs)
      ∙ ap₂ (λ y z. y ++ z) (at_root x.expr r.0 ((rule, c) ∷ []) r.2) (args_judged rule xs r.1 bs r.3)

  -- where none misfits none breaks
  pub roots_quiet : {A : Type 0} (rule : Rule) (args : List Arg) (xs : List A) → broken_nodes (at_roots rule args (no_misfits xs)) ≡ []
  roots_quiet rule [] xs = refl
  roots_quiet rule (a ∷ args) [] = refl
  roots_quiet rule (a ∷ args) (x ∷ xs) = roots_quiet rule args xs

  -- ---- nodes, by their parts

  pub get_pairs : (slot : ℕ) (on : Expr) (f : List ℕ)
      → broken_nodes (nodes_in b (e.Get slot on f)) ≡ broken_nodes (nodes_in b on) ++ broken_nodes (one slot E2 (is_some (type_in on) && not (is_some (accessed p (type_in on) f))))
  get_pairs slot on f =
      ap (λ (j : JudgedExpr). broken_nodes (j.rules [])) (fold_get JudgedExpr JudgedExpr (judged_step_with p types) judged_arg slot on f)
      ∙ nodes_append ((judged_in b on).rules []) (one slot E2 (is_some (type_in on) && not (is_some (accessed p (type_in on) f))))

  abbrev pub call_fit : List Arg → Option (List (List ℕ)) → Option Method → Fit
  call_fit args ts d = fit_of p (judged_args p types args) ts (option_map (λ (d : Method). param_types d.params) d)

  -- what a call's own rules add, by the types of its parts and by its method
  abbrev pub call_own : ℕ → List Arg → Option (List ℕ) → Option (List (List ℕ)) → Option Method → List SlotRule
  call_own slot args t ts d =
      broken_nodes (one slot E3 (is_some t && is_some ts && not (is_some d)))
      ++ (broken_nodes (one slot E4 (call_fit args ts d).differs) ++ broken_nodes (argument_rules E5 (judged_args p types args) (call_fit args ts d).misfits))

  pub call_pairs : (slot : ℕ) (on : Expr) (m : List ℕ) (args : List Arg) → broken_nodes (nodes_in b (e.Call slot on m args))
      ≡ broken_nodes (nodes_in b on) ++ call_own slot args (type_in on) (arg_types p types args) (called p (type_in on) (arg_types p types args) m)
  call_pairs slot on m args =
      ap (λ (j : JudgedExpr). broken_nodes (j.rules [])) (fold_call JudgedExpr JudgedExpr (judged_step_with p types) judged_arg slot on m args)
      ∙ nodes_append ((judged_in b on).rules []) ((slot, (E3, first) ∷ ((E4, f.differs) ∷ [])) ∷ argument_rules E5 (judged_args p types args) f.misfits)
      ∙ ap (λ z. broken_nodes (nodes_in b on) ++ z) (two_rules slot E3 E4 first f.differs (argument_rules E5 (judged_args p types args) f.misfits))
    where
      d : Option Method
      d = called p (type_in on) (arg_types p types args) m

      f : Fit
      f = call_fit args (arg_types p types args) d

      first : Bool
      first = is_some (type_in on) && is_some (arg_types p types args) && not (is_some d)

  -- what the rules of a `new` but the first add, by whether its class is known and by the types of its arguments
  abbrev pub new_own : ℕ → List Arg → Bool → Option (List (List ℕ)) → List ℕ → List SlotRule
  new_own slot args known ts c =
      broken_nodes (one slot E6 (fit_of p (judged_args p types args) ts (types_where known p c)).differs)
      ++ broken_nodes (argument_rules E7 (judged_args p types args) (fit_of p (judged_args p types args) ts (types_where known p c)).misfits)

  pub new_pairs : (slot : ℕ) (c : List ℕ) (args : List Arg)
      → broken_nodes (nodes_in b (e.New slot c args)) ≡ broken_nodes (one slot K1 (not (is_known p c))) ++ new_own slot args (is_known p c) (arg_types p types args) c
  new_pairs slot c args =
      ap (λ (j : JudgedExpr). broken_nodes (j.rules [])) (fold_new JudgedExpr JudgedExpr (judged_step_with p types) judged_arg slot c args)
      ∙ two_rules slot K1 E6 (not (is_known p c)) f.differs (argument_rules E7 (judged_args p types args) f.misfits)
    where
      f : Fit
      f = fit_of p (judged_args p types args) (arg_types p types args) (field_types p c)

  pub cast_pairs : (slot : ℕ) (c : List ℕ) (on : Expr)
      → broken_nodes (nodes_in b (e.Cast slot c on)) ≡ broken_nodes (one slot K1 (not (is_known p c))) ++ (broken_nodes (one slot E8 (is_unrelated p (type_in on) c)) ++ broken_nodes (nodes_in b on))
  cast_pairs slot c on =
      ap (λ (j : JudgedExpr). broken_nodes (j.rules [])) (fold_cast JudgedExpr JudgedExpr (judged_step_with p types) judged_arg slot c on)
      ∙ two_rules slot K1 E8 (not (is_known p c)) (is_unrelated p (type_in on) c) ((judged_in b on).rules [])

  pub var_pairs : (slot : ℕ) (x : List ℕ) → broken_nodes (nodes_in b (e.Var slot x)) ≡ broken_nodes (one slot E1 (not (is_some (types x))))
  var_pairs slot x = ap (λ (j : JudgedExpr). broken_nodes (j.rules [])) (fold_var JudgedExpr JudgedExpr (judged_step_with p types) judged_arg slot x)
