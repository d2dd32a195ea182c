-- The tree of an expression that a project keeps is within the limits.
use Rattle.std.proofs.Common.{◌≡◌, ℕ, ◌+◌, ◌≤◌, max, Bool, true, false, ◌&&◌, codes, if◌then◌else◌, List, [], ◌∷◌, map, refl, sym, ap, subst, ◌∙◌, arith}
use Rattle.std.specs.Prelude.{sum_by}
use Rattle.std.specs.List.{list_all}
use Rattle.std.specs.Str.{bytes_eq}
use Rattle.std.proofs.lemmas.Bool.{and_parts}
use Rattle.std.proofs.lemmas.List.Folds.{list_all-map}
use Rattle.std.proofs.lemmas.List.Sums.{sum_by-cons}
use Rattle.cfj_model.specs.declared.expr.Arg.{Arg, Arg-F}
use Rattle.cfj_model.specs.declared.expr.Expr.{Expr}
use Rattle.cfj_model.specs.declared.expr.Expr.TheOpen.{Expr-F}
use Rattle.cfj_model.specs.declared.expr.Expr.TheFolds.{fold-Expr}
use Rattle.cfj_model.specs.ExpressionGrammar.{ExprTree, cast, chain, this_word, variable, StepsTree, stop, get, call, roles_expr, roles_start, roles_steps, roles_args, roles_more_args}
use Rattle.cfj_logic.specs.Sides.{Sides}
use Rattle.cfj_model.specs.declared.feature_model.Format.{Format}
use Rattle.cfj_model.specs.Coloring.{are_known}
use Rattle.cfj_model.specs.Expressions.{of_arg, is_named_step, is_named_arg, is_named, Nesting, receiver_depth, greatest, nesting_step, nesting_of_arg, nest, node_count_step, node_count}
use Rattle.cfj_model.specs.Marks.{roles_marks}
use Rattle.cfj_words.specs.Names.{is_name, is_short_identifier}
use Rattle.cfj_model.specs.ProductLines.{are_distinct, most_nest, most_nodes, most_size}
use Rattle.cfj_model.specs.Roles.{Role, casts, node, opens, other_token, used_name, var_name, Tally, AreWithin}
use Rattle.cfj_model.proofs.ExprCases.{Proved, args_of, Cases, by_cases, fold_var, fold_get, fold_call, fold_new, fold_cast}
use Rattle.print_law.proofs.ExprTexts.{is_cast_tree, received_kind, or_left_of}
use Rattle.print_law.proofs.ExprTrees.{ArgTree, more_of, args_tree, with_steps, received, tree_step, arg_tree_step, tree_of_expr, tree_of_arg}
use Rattle.print_law.proofs.Features.{marks_of}
use Rattle.print_law.proofs.Limits.{used_ok, opens_ok, casts_ok, node_ok, var_ok}
use Rattle.print_law.proofs.MarkTexts.{IsMet, IsMarkable, palette_with, marks_within}

-- with more nodes, behind which no mark is left
abbrev pub with_nodes : Tally → ℕ → Tally
with_nodes t n = record t { marks = []; nodes = t.nodes + n; size = t.size + n }

-- there is room for so many nodes
record HasRoom (t : Tally) (count : ℕ) : Type 0 where
  nodes : t.nodes + count ≤ most_nodes
  size : t.size + count ≤ most_size

-- roles that nest so deep and count so many nodes are within the limits, where there is room and what follows is
record Fits (format : Format) (features : List (List ℕ)) (roles : ℕ → List Role → List Role) (depth count : ℕ) : Type 0 where
  on : (t : Tally) (d : ℕ) (rest : List Role) → IsMet format features t → d + depth ≤ most_nest → HasRoom t count → AreWithin (with_nodes t count) rest → AreWithin t (roles d rest)

-- so are these where no mark stands before them
record FitsReady (format : Format) (features : List (List ℕ)) (roles : ℕ → List Role → List Role) (depth count : ℕ) : Type 0 where
  on : (t : Tally) (d : ℕ) (rest : List Role) → IsMarkable format features t → d + depth ≤ most_nest → HasRoom t count → AreWithin (with_nodes t count) rest → AreWithin t (roles d rest)

-- the tally behind nodes, with its numbers written in another way
behind : (t : Tally) (n m k l : ℕ) (rest : List Role) → n ≡ k → m ≡ l → AreWithin (record t { marks = []; nodes = n; size = m }) rest → AreWithin (record t { marks = []; nodes = k; size = l }) rest
behind t n m k l rest e f w = subst (λ j. AreWithin (record t { marks = []; nodes = j; size = l }) rest) e (subst (λ j. AreWithin (record t { marks = []; nodes = n; size = j }) rest) f w)

module _ (format : Format) (features : List (List ℕ)) where
  variable_fits : (w : List ℕ) → is_short_identifier w ≡ true → Fits format features (λ d rest. var_name w ∷ rest) 0 1
  variable_fits n h = record { on = λ t d rest m deep room w. let few = room.nodes in let small = room.size in (var_ok t n h (omega arith) (omega arith), w) }

  this_fits : Fits format features (λ d rest. node ∷ rest) 0 1
  this_fits = record { on = λ t d rest m deep room w. let few = room.nodes in let small = room.size in (node_ok t (omega arith) (omega arith), w) }

  get_fits : (a : ℕ → List Role → List Role) (m k : ℕ) (f : List ℕ) → is_short_identifier f ≡ true → Fits format features a m k → Fits format features (λ d rest. a d (node ∷ (used_name f ∷ rest))) m (k + 1)
  get_fits a m k f h p = record {
    on = λ t d rest r deep room w.
        let few = room.nodes in let small = room.size in
        p.on t d (node ∷ (used_name f ∷ rest)) r deep (record { nodes = omega arith; size = omega arith }) (
          node_ok (with_nodes t k) (omega arith) (omega arith),
          (
            used_ok (with_nodes (with_nodes t k) 1) f h,
            behind t _ _ _ _ rest (omega arith) (omega arith) w,
          ),
        );
  }

  -- the name, the bracket that opens, the arguments and the bracket that closes, behind a node
  args_in : (b : ℕ → List Role → List Role) (n l : ℕ) (f : List ℕ) → is_short_identifier f ≡ true → FitsReady format features b n l → (t : Tally) (d : ℕ) (rest : List Role) → IsMet format features t → t.marks ≡ [] → d + 1 + n ≤ most_nest → HasRoom t l
      → AreWithin (with_nodes t l) rest → AreWithin t (used_name f ∷ (opens (d + 1) ∷ b (d + 1) (other_token ∷ rest)))
  args_in b n l f h q t d rest r none deep room w = (
    used_ok t f h,
    (
      opens_ok (record t { marks = [] }) (d + 1) (omega arith),
      q.on (record t { marks = [] }) (d + 1) (other_token ∷ rest) (record { met = r; marks = refl }) deep (record { nodes = room.nodes; size = room.size }) (refl, w),
    ),
  )

  call_fits : (a b : ℕ → List Role → List Role) (m n k l : ℕ) (f : List ℕ) → is_short_identifier f ≡ true → Fits format features a m k → FitsReady format features b n l
      → Fits format features (λ d rest. a d (node ∷ (used_name f ∷ (opens (d + 1) ∷ b (d + 1) (other_token ∷ rest))))) (max m (1 + n)) (k + (1 + l))
  call_fits a b m n k l f h p q = record {
    on = λ t d rest r deep room w.
        let few = room.nodes in let small = room.size in
        let u : Tally = with_nodes (with_nodes t k) 1 in
        p.on t d _ r (omega arith) (record { nodes = omega arith; size = omega arith }) (
          node_ok (with_nodes t k) (omega arith) (omega arith),
          args_in b n l f h q u d rest r refl (omega arith) (record { nodes = omega arith; size = omega arith }) (behind t _ _ _ _ rest (omega arith) (omega arith) w),
        );
  }

  new_fits : (b : ℕ → List Role → List Role) (n l : ℕ) (f : List ℕ) → is_short_identifier f ≡ true → FitsReady format features b n l
      → Fits format features (λ d rest. node ∷ (used_name f ∷ (opens (d + 1) ∷ b (d + 1) (other_token ∷ rest)))) (1 + n) (1 + l)
  new_fits b n l f h q = record {
    on = λ t d rest r deep room w.
        let few = room.nodes in let small = room.size in (
          node_ok t (omega arith) (omega arith),
          args_in b n l f h q (with_nodes t 1) d rest r refl (omega arith) (record { nodes = omega arith; size = omega arith }) (behind t _ _ _ _ rest (omega arith) (omega arith) w),
        );
  }

  cast_fits : (b : ℕ → List Role → List Role) (n l : ℕ) (f : List ℕ) → is_short_identifier f ≡ true → Fits format features b n l
      → Fits format features (λ d rest. casts (d + 1) ∷ (used_name f ∷ (other_token ∷ b (d + 1) rest))) (1 + n) (1 + l)
  cast_fits b n l f h q = record {
    on = λ t d rest r deep room w.
        let few = room.nodes in let small = room.size in (
          casts_ok t (d + 1) (omega arith) (omega arith) (omega arith),
          (
            used_ok (with_nodes t 1) f h,
            (
              refl,
              q.on (with_nodes t 1) (d + 1) rest r (omega arith) (record { nodes = omega arith; size = omega arith }) (behind t _ _ _ _ rest (omega arith) (omega arith) w),
            ),
          ),
        );
  }

  brackets_fit : (b : ℕ → List Role → List Role) (n l : ℕ) → Fits format features b n l → Fits format features (λ d rest. opens (d + 1) ∷ b (d + 1) (other_token ∷ rest)) (1 + n) l
  brackets_fit b n l q = record {
    on = λ t d rest r deep room w.
        (opens_ok t (d + 1) (omega arith), q.on (record t { marks = [] }) (d + 1) (other_token ∷ rest) r (omega arith) (record { nodes = room.nodes; size = room.size }) (refl, w));
  }

  -- ---- arguments

  no_more_fits : FitsReady format features (λ d rest. rest) 0 0
  no_more_fits = record {
    on = λ t d rest r deep room w.
        subst (λ ms. AreWithin (record t { marks = ms }) rest) (sym r.marks) (behind t _ _ t.nodes t.size rest (omega arith) (omega arith) w);
  }

  comma_fits : (a : ℕ → List Role → List Role) (m k : ℕ) → FitsReady format features a m k → FitsReady format features (λ d rest. other_token ∷ a d rest) m k
  comma_fits a m k p = record { on = λ t d rest r deep room w. (refl, p.on t d rest r deep room w) }

  arg_fits : (distinct : are_distinct features ≡ true) (well : list_all is_short_identifier features ≡ true) (colors : Sides) (known : are_known (palette_with format features) colors ≡ true) (a b : ℕ → List Role → List Role) (m n k l : ℕ) → Fits format features a m k → FitsReady format features b n l
      → FitsReady format features (λ d rest. roles_marks (marks_of features colors) (a d (b d rest))) (max m n) (k + l)
  arg_fits distinct well colors known a b m n k l p q = record {
    on = λ t d rest r deep room w.
        let few = room.nodes in let small = room.size in
        marks_within format features colors t (a d (b d rest)) known distinct well r
        (λ ms.
        p.on (record t { marks = ms }) d (b d rest) r.met (omega arith) (record { nodes = omega arith; size = omega arith })
        (q.on (with_nodes t k) d rest (record { met = r.met; marks = refl }) (omega arith) (record { nodes = omega arith; size = omega arith }) (behind t _ _ _ _ rest (omega arith) (omega arith) w)));
  }

-- ---- an expression

-- the nesting and the nodes are those of the tree
record IsNested (format : Format) (features : List (List ℕ)) (t : ExprTree) (n : Nesting) (count : ℕ) : Type 0 where
  kind : n.is_cast ≡ is_cast_tree t
  fits : Fits format features (λ d. roles_expr d t) n.depth count

nested_as : (format : Format) (features : List (List ℕ)) (t u : ExprTree) (n m : Nesting) (k l : ℕ) → t ≡ u → n ≡ m → k ≡ l → IsNested format features u m l → IsNested format features t n k
nested_as format features t u n m k l e d c h = subst (λ v. IsNested format features v n k) (sym e) (subst (λ z. IsNested format features u z k) (sym d) (subst (IsNested format features u m) (sym c) h))

-- the roles of a tree as a receiver
abbrev roles_received : ℕ → ExprTree → List Role → List Role
roles_received d (cast c t) rest = opens (d + 1) ∷ roles_expr (d + 1) (cast c t) (other_token ∷ rest)
roles_received d (chain s ss) rest = roles_expr d (chain s ss) rest

steps_roles : (d : ℕ) (ss more : StepsTree) (rest : List Role) → roles_steps d (with_steps ss more) rest ≡ roles_steps d ss (roles_steps d more rest)
steps_roles d stop more rest = refl
steps_roles d (get f ss) more rest = ap (λ w. node ∷ (used_name f ∷ w)) (steps_roles d ss more rest)
steps_roles d (call m args ss) more rest = ap (λ w. node ∷ (used_name m ∷ (opens (d + 1) ∷ roles_args (d + 1) args (other_token ∷ w)))) (steps_roles d ss more rest)

received_roles : (d : ℕ) (t : ExprTree) (more : StepsTree) (rest : List Role) → roles_received d t (roles_steps d more rest) ≡ roles_expr d (received t more) rest
received_roles d (cast c t) more rest = refl
received_roles d (chain s ss) more rest = ap (roles_start d s) (sym (steps_roles d ss more rest))

fits_as : (format : Format) (features : List (List ℕ)) (a b : ℕ → List Role → List Role) (m k : ℕ) → ((d : ℕ) (rest : List Role) → a d rest ≡ b d rest) → Fits format features a m k → Fits format features b m k
fits_as format features a b m k e p = record { on = λ t d rest r deep room w. subst (AreWithin t) (e d rest) (p.on t d rest r deep room w) }

receiver_as : (format : Format) (features : List (List ℕ)) (n : Nesting) (k : ℕ) (roles : ℕ → List Role → List Role) (b : Bool) → n.is_cast ≡ b → Fits format features roles (if b then 1 + n.depth else n.depth) k → Fits format features roles (receiver_depth n) k
receiver_as format features n k roles b e p = subst (λ c. Fits format features roles (if c then 1 + n.depth else n.depth) k) (sym e) p

receiver_fits : (format : Format) (features : List (List ℕ)) (t : ExprTree) (n : Nesting) (k : ℕ) → IsNested format features t n k → Fits format features (λ d. roles_received d t) (receiver_depth n) k
receiver_fits format features (cast c t) n k h = receiver_as format features n k _ true h.kind (brackets_fit format features (λ d. roles_expr d (cast c t)) n.depth k h.fits)
receiver_fits format features (chain s ss) n k h = receiver_as format features n k _ false h.kind h.fits

module _ (format : Format) (features : List (List ℕ)) (distinct : are_distinct features ≡ true) (well : list_all is_short_identifier features ≡ true) where
  abbrev nesting : Expr → Nesting
  nesting = fold-Expr Nesting ℕ nesting_step nesting_of_arg

  abbrev arg_named : Arg → Bool
  arg_named a = are_known (palette_with format features) a.colors && is_named (palette_with format features) a.expr

  abbrev arg_depth : Arg → ℕ
  arg_depth a = (nesting a.expr).depth

  abbrev arg_count : Arg → ℕ
  arg_count a = node_count a.expr

  -- a well-named expression
  record Nested (x : Expr) : Type 0 where
    nested : is_named (palette_with format features) x ≡ true → IsNested format features (tree_of_expr features x) (nesting x) (node_count x)

  same_sum : (roles : ℕ → List Role → List Role) (m k l : ℕ) → k ≡ l → FitsReady format features roles m k → FitsReady format features roles m l
  same_sum roles m k l e p = subst (FitsReady format features roles m) e p

  one_arg : (y : Proved Nested) (ys : List (Proved Nested)) → list_all arg_named (args_of Nested (y ∷ ys)) ≡ true
      → FitsReady format features (λ d. roles_more_args d (more_of (map (tree_of_arg features) (args_of Nested ys)))) (greatest (map arg_depth (args_of Nested ys))) (sum_by (λ n. n) (map arg_count (args_of Nested ys)))
      → FitsReady format features (λ d rest. roles_marks (marks_of features (y.0).colors) (roles_expr d (tree_of_expr features (y.0).expr) (roles_more_args d (more_of (map (tree_of_arg features) (args_of Nested ys))) rest)))
      (greatest (map arg_depth (args_of Nested (y ∷ ys)))) (sum_by (λ n. n) (map arg_count (args_of Nested (y ∷ ys))))
  one_arg y ys h more =
      let p = and_parts (arg_named y.0) (list_all arg_named (args_of Nested ys)) h in
      let q = and_parts (are_known (palette_with format features) (y.0).colors) (is_named (palette_with format features) (y.0).expr) p.0 in
      same_sum _ _ _ _ (sym (sum_by-cons (λ n. n) (arg_count y.0) (map arg_count (args_of Nested ys))))
      (arg_fits format features distinct well (y.0).colors q.0 _ _ _ _ _ _ (y.1.nested q.1).fits more)

  more_fit : (ys : List (Proved Nested)) → list_all arg_named (args_of Nested ys) ≡ true
      → FitsReady format features (λ d. roles_more_args d (more_of (map (tree_of_arg features) (args_of Nested ys)))) (greatest (map arg_depth (args_of Nested ys))) (sum_by (λ n. n) (map arg_count (args_of Nested ys)))
  more_fit [] h = no_more_fits format features
  more_fit (y ∷ ys) h = comma_fits format features _ _ _ (one_arg y ys h (more_fit ys (and_parts (arg_named y.0) (list_all arg_named (args_of Nested ys)) h).1))

  args_fit : (ys : List (Proved Nested)) → list_all arg_named (args_of Nested ys) ≡ true
      → FitsReady format features (λ d. roles_args d (args_tree (map (tree_of_arg features) (args_of Nested ys)))) (greatest (map arg_depth (args_of Nested ys))) (sum_by (λ n. n) (map arg_count (args_of Nested ys)))
  args_fit [] h = no_more_fits format features
  args_fit (y ∷ ys) h = one_arg y ys h (more_fit ys (and_parts (arg_named y.0) (list_all arg_named (args_of Nested ys)) h).1)

  var_fits : (name : List ℕ) → is_name name ≡ true → (b : Bool) → bytes_eq name (codes "this") ≡ b → Fits format features (λ d. roles_expr d (chain (if b then this_word else variable name) stop)) 0 1
  var_fits name h true e = this_fits format features
  var_fits name h false e = variable_fits format features name (or_left_of (is_short_identifier name) (bytes_eq name (codes "this")) h e)

  abbrev named : Expr-F Bool Bool → Bool
  named = is_named_step

  abbrev named_arg : Arg-F Bool Bool → Bool
  named_arg = is_named_arg (palette_with format features)

  abbrev step : Arg-F ExprTree ArgTree → ArgTree
  step = arg_tree_step features

  nested_cases : Cases Nested
  nested_cases = record {
    var_case = λ slot name. record {
      nested = λ h.
          let k = sym (fold_var Bool Bool named named_arg slot name) ∙ h in
          nested_as format features _ _ _ _ _ _ (fold_var ExprTree ArgTree tree_step step slot name) (fold_var Nesting ℕ nesting_step nesting_of_arg slot name) (fold_var ℕ ℕ node_count_step of_arg slot name)
          (record { kind = refl; fits = var_fits name k (bytes_eq name (codes "this")) refl });
    };
    get_case = λ slot on ih field. record {
      nested = λ h.
          let p = and_parts (is_named (palette_with format features) on) (is_short_identifier field) (sym (fold_get Bool Bool named named_arg slot on field) ∙ h) in
          nested_as format features _ _ _ _ _ _ (fold_get ExprTree ArgTree tree_step step slot on field) (fold_get Nesting ℕ nesting_step nesting_of_arg slot on field) (fold_get ℕ ℕ node_count_step of_arg slot on field)
          (record {
            kind = received_kind (tree_of_expr features on) (get field stop);
            fits = fits_as format features _ _ _ _ (λ d rest. received_roles d (tree_of_expr features on) (get field stop) rest) (get_fits format features _ _ _ field p.1 (receiver_fits format features (tree_of_expr features on) (nesting on) (node_count on) (ih.nested p.0)));
          });
    };
    call_case = λ slot on ih method ys. record {
      nested = λ h.
          let args = args_of Nested ys in
          let p = and_parts (is_named (palette_with format features) on && is_short_identifier method) _ (sym (fold_call Bool Bool named named_arg slot on method args) ∙ h) in
          let q = and_parts (is_named (palette_with format features) on) (is_short_identifier method) p.0 in
          let more = call method (args_tree (map (tree_of_arg features) args)) stop in
          nested_as format features _ _ _ _ _ _ (fold_call ExprTree ArgTree tree_step step slot on method args) (fold_call Nesting ℕ nesting_step nesting_of_arg slot on method args) (fold_call ℕ ℕ node_count_step of_arg slot on method args)
          (record {
            kind = received_kind (tree_of_expr features on) more;
            fits = fits_as format features _ _ _ _ (λ d rest. received_roles d (tree_of_expr features on) more rest)
                (call_fits format features _ _ _ _ _ _ method q.1 (receiver_fits format features (tree_of_expr features on) (nesting on) (node_count on) (ih.nested q.0)) (args_fit ys (sym (list_all-map (λ b. b) arg_named args) ∙ p.1)));
          });
    };
    new_case = λ slot class ys. record {
      nested = λ h.
          let args = args_of Nested ys in
          let p = and_parts (is_short_identifier class) _ (sym (fold_new Bool Bool named named_arg slot class args) ∙ h) in
          nested_as format features _ _ _ _ _ _ (fold_new ExprTree ArgTree tree_step step slot class args) (fold_new Nesting ℕ nesting_step nesting_of_arg slot class args) (fold_new ℕ ℕ node_count_step of_arg slot class args)
          (record { kind = refl; fits = new_fits format features _ _ _ class p.0 (args_fit ys (sym (list_all-map (λ b. b) arg_named args) ∙ p.1)) });
    };
    cast_case = λ slot class on ih. record {
      nested = λ h.
          let p = and_parts (is_short_identifier class) (is_named (palette_with format features) on) (sym (fold_cast Bool Bool named named_arg slot class on) ∙ h) in
          nested_as format features _ _ _ _ _ _ (fold_cast ExprTree ArgTree tree_step step slot class on) (fold_cast Nesting ℕ nesting_step nesting_of_arg slot class on) (fold_cast ℕ ℕ node_count_step of_arg slot class on)
          (record { kind = refl; fits = cast_fits format features _ _ _ class p.0 (ih.nested p.1).fits });
    };
  }

  -- an expression that nests within the limit is within the limits, where there is room for its nodes
  pub expr_within : (x : Expr) (t : Tally) (rest : List Role) → is_named (palette_with format features) x ≡ true → nest x ≤ most_nest → IsMet format features t → t.nodes + node_count x ≤ most_nodes → t.size + node_count x ≤ most_size
      → AreWithin (with_nodes t (node_count x)) rest → AreWithin t (roles_expr 0 (tree_of_expr features x) rest)
  expr_within x t rest h deep r few small w = let n = (by_cases Nested nested_cases x).nested h in n.fits.on t 0 rest r (omega arith) (record { nodes = few; size = small }) w
