-- Expressions of which a project's type keeps what it asks of a body: how each grows from its parts.
use Rattle.std.proofs.Common.{◌≡◌, ℕ, ◌+◌, ◌≤◌, Bool, true, false, ◌&&◌, List, [], ◌∷◌, ◌++◌, map, refl, sym, ◌∙◌, ap, subst, arith}
use Rattle.std.specs.Prelude.{sum_by, flat_map, max}
use Rattle.std.specs.List.{list_all}
use Rattle.std.proofs.lemmas.Bool.{and_from, le-leb}
use Rattle.std.proofs.lemmas.List.Sums.{sum_by-cons}
use Rattle.cfj_model.specs.declared.expr.Arg.{Arg}
use Rattle.cfj_model.specs.declared.expr.Expr.{Expr}
use Rattle.cfj_model.specs.declared.expr.Expr.TheFolds.{fold-Expr}
use Rattle.cfj_model.specs.declared.expr.Expr.TheVariants as e
use Rattle.cfj_words.specs.Names.{is_name, is_short_identifier}
use Rattle.cfj_model.specs.Coloring.{Palette, are_known}
use Rattle.cfj_model.specs.Expressions.{of_arg, node_count_step, node_count, slots_step, slots, Nesting, receiver_depth, greatest, nesting_step, nesting_of_arg, nest, is_named_step, is_named_arg, is_named}
use Rattle.cfj_model.specs.ProductLines.{most_nest, most_nodes, rise_from, is_body}
use Rattle.cfj_model.proofs.ExprCases.{fold_var, fold_get, fold_call, fold_new, fold_cast}

abbrev nesting : Expr → Nesting
nesting = fold-Expr Nesting ℕ nesting_step nesting_of_arg

-- The numbers are those from one to before another, in order.
pub data Rises : ℕ → List ℕ → ℕ → Type 0 where
  none_rise : (n : ℕ) → Rises n [] n
  one_rises : (n m : ℕ) (ns : List ℕ) → Rises (n + 1) ns m → Rises n (n ∷ ns) m

rises_on : (n k m : ℕ) (ns ms : List ℕ) → Rises n ns k → Rises k ms m → Rises n (ns ++ ms) m
rises_on _ _ m _ ms (none_rise n) r = r
rises_on _ _ m _ ms (one_rises n k ns h) r = one_rises n m (ns ++ ms) (rises_on (n + 1) k m ns ms h r)

pub rises_from : (least n m : ℕ) (ns : List ℕ) → least ≤ n → Rises n ns m → rise_from least ns ≡ true
rises_from least _ _ _ le (none_rise n) = refl
rises_from least _ _ _ le (one_rises n m ns h) = and_from _ _ (le-leb least n le) (rises_from (n + 1) (n + 1) m ns (omega arith) h)

-- What is known of an expression whose marks may be these, with the slots from one to before another, inside so many that are
-- open.
pub record Known (palette : Palette) (n m d : ℕ) (x : Expr) : Type 0 where
  pub named : is_named palette x ≡ true
  pub rises : Rises n (slots x) m
  pub count : n + node_count x ≡ m
  pub nests : d + nest x ≤ most_nest

-- and of one that a chain may go on from
pub record Chain (palette : Palette) (n m d : ℕ) (x : Expr) : Type 0 where
  pub named : is_named palette x ≡ true
  pub rises : Rises n (slots x) m
  pub count : n + node_count x ≡ m
  pub nests : d + receiver_depth (nesting x) ≤ most_nest

-- a receiver nests no less than it does alone, and at most by one more
receiver_least : (x : Nesting) → x.depth ≤ receiver_depth x
receiver_least x = by x.is_cast refl
  where
    by : (b : Bool) → x.is_cast ≡ b → x.depth ≤ receiver_depth x
    by true h = let e : receiver_depth x ≡ 1 + x.depth = ap (λ c. receiver_depth (record { is_cast = c; depth = x.depth })) h in omega arith
    by false h = let e : receiver_depth x ≡ x.depth = ap (λ c. receiver_depth (record { is_cast = c; depth = x.depth })) h in omega arith

receiver_most : (x : Nesting) → receiver_depth x ≤ 1 + x.depth
receiver_most x = by x.is_cast refl
  where
    by : (b : Bool) → x.is_cast ≡ b → receiver_depth x ≤ 1 + x.depth
    by true h = let e : receiver_depth x ≡ 1 + x.depth = ap (λ c. receiver_depth (record { is_cast = c; depth = x.depth })) h in omega arith
    by false h = let e : receiver_depth x ≡ x.depth = ap (λ c. receiver_depth (record { is_cast = c; depth = x.depth })) h in omega arith

pub chain_ends : {palette : Palette} {n m d : ℕ} (x : Expr) → Chain palette n m d x → Known palette n m d x
chain_ends x h = let l = receiver_least (nesting x) in record { named = h.named; rises = h.rises; count = h.count; nests = omega (arith, l, h.nests) }

-- an expression in a bracket
pub bracketed_known : {palette : Palette} {n m d : ℕ} (x : Expr) → Known palette n m (d + 1) x → Chain palette n m d x
bracketed_known x h = let l = receiver_most (nesting x) in record { named = h.named; rises = h.rises; count = h.count; nests = omega (arith, l, h.nests) }

-- What is known of the arguments of a list.
pub data ArgsKnown (palette : Palette) (d : ℕ) : ℕ → List Arg → ℕ → Type 0 where
  none_known : (n : ℕ) → ArgsKnown palette d n [] n
  one_known : (n k m : ℕ) (a : Arg) (args : List Arg) → are_known palette a.colors ≡ true → Known palette n k d a.expr → ArgsKnown palette d k args m → ArgsKnown palette d n (a ∷ args) m

-- one more argument
pub args_more : (palette : Palette) (d n k m : ℕ) (args : List Arg) (a : Arg) → ArgsKnown palette d n args k → are_known palette a.colors ≡ true → Known palette k m d a.expr → ArgsKnown palette d n (args ++ a ∷ []) m
args_more palette d _ _ m _ a (none_known n) colors h = one_known n m m a [] colors h (none_known m)
args_more palette d _ _ m _ a (one_known n j k b args c g r) colors h = one_known n j m b (args ++ a ∷ []) c g (args_more palette d j k m args a r colors h)

-- what folds find in arguments
abbrev arg_slots : List Arg → List ℕ
arg_slots args = flat_map (λ (s : List ℕ). s) (map (λ (a : Arg). slots a.expr) args)

abbrev arg_count : List Arg → ℕ
arg_count args = sum_by (λ (n : ℕ). n) (map (λ (a : Arg). node_count a.expr) args)

abbrev arg_nest : List Arg → ℕ
arg_nest args = greatest (map (λ (a : Arg). nest a.expr) args)

abbrev args_named : Palette → List Arg → Bool
args_named palette args = list_all (λ (b : Bool). b) (map (λ (a : Arg). are_known palette a.colors && is_named palette a.expr) args)

-- and so of all of them together
record AllKnown (palette : Palette) (n m d : ℕ) (args : List Arg) : Type 0 where
  named : args_named palette args ≡ true
  rises : Rises n (arg_slots args) m
  count : n + arg_count args ≡ m
  nests : d + arg_nest args ≤ most_nest

all_known : (palette : Palette) (d n m : ℕ) (args : List Arg) → d ≤ most_nest → ArgsKnown palette d n args m → AllKnown palette n m d args
all_known palette d _ _ _ le (none_known n) = record { named = refl; rises = none_rise n; count = omega arith; nests = omega arith }
all_known palette d _ _ _ le (one_known n k m a args c g r) =
    let all = all_known palette d k m args le r in
    let sums : arg_count (a ∷ args) ≡ node_count a.expr + arg_count args = sum_by-cons (λ (n : ℕ). n) (node_count a.expr) (map (λ (a : Arg). node_count a.expr) args) in
    let here : n + node_count a.expr ≡ k = g.count in
    let there : k + arg_count args ≡ m = all.count in
    let deep : d + nest a.expr ≤ most_nest = g.nests in
    let deeper : d + arg_nest args ≤ most_nest = all.nests in
    record {
      named = and_from _ _ (and_from _ _ c g.named) all.named;
      rises = rises_on n k m (slots a.expr) (arg_slots args) g.rises all.rises;
      count = omega (arith, sums, here, there);
      nests = omega (arith, deep, deeper);
    }

-- ---- each variant

pub var_known : (palette : Palette) (n d : ℕ) (w : List ℕ) → d ≤ most_nest → is_name w ≡ true → Chain palette n (n + 1) d (e.Var n w)
var_known palette n d w le h =
    let c : node_count (e.Var n w) ≡ 1 = fold_var ℕ ℕ node_count_step of_arg n w in
    let d_is : receiver_depth (nesting (e.Var n w)) ≡ 0 = ap receiver_depth (fold_var Nesting ℕ nesting_step nesting_of_arg n w) in
    record {
      named = fold_var Bool Bool is_named_step (is_named_arg palette) n w ∙ h;
      rises = subst (λ s. Rises n s (n + 1)) (sym (fold_var (List ℕ) (List ℕ) slots_step of_arg n w)) (one_rises n (n + 1) [] (none_rise (n + 1)));
      count = omega (arith, c);
      nests = omega (arith, d_is);
    }

pub get_known : (palette : Palette) (n m d : ℕ) (x : Expr) (w : List ℕ) → Chain palette n m d x → is_short_identifier w ≡ true → Chain palette n (m + 1) d (e.Get m x w)
get_known palette n m d x w h s =
    let c : node_count (e.Get m x w) ≡ node_count x + 1 = fold_get ℕ ℕ node_count_step of_arg m x w in
    let d_is : receiver_depth (nesting (e.Get m x w)) ≡ receiver_depth (nesting x) = ap receiver_depth (fold_get Nesting ℕ nesting_step nesting_of_arg m x w) in
    record {
      named = fold_get Bool Bool is_named_step (is_named_arg palette) m x w ∙ and_from _ _ h.named s;
      rises = subst (λ s. Rises n s (m + 1)) (sym (fold_get (List ℕ) (List ℕ) slots_step of_arg m x w)) (rises_on n m (m + 1) (slots x) (m ∷ []) h.rises (one_rises m (m + 1) [] (none_rise (m + 1))));
      count = omega (arith, c, h.count);
      nests = omega (arith, d_is, h.nests);
    }

pub call_known : (palette : Palette) (n m k d : ℕ) (x : Expr) (w : List ℕ) (args : List Arg) → Chain palette n m d x → is_short_identifier w ≡ true → d + 1 ≤ most_nest → ArgsKnown palette (d + 1) (m + 1) args k → Chain palette n k d (e.Call m x w args)
call_known palette n m k d x w args h s le known =
    let all = all_known palette (d + 1) (m + 1) k args le known in
    let c : node_count (e.Call m x w args) ≡ node_count x + (1 + arg_count args) = fold_call ℕ ℕ node_count_step of_arg m x w args in
    let d_is : receiver_depth (nesting (e.Call m x w args)) ≡ max (receiver_depth (nesting x)) (1 + arg_nest args) = ap receiver_depth (fold_call Nesting ℕ nesting_step nesting_of_arg m x w args) in
    let there : m + 1 + arg_count args ≡ k = all.count in
    let deeper : d + 1 + arg_nest args ≤ most_nest = all.nests in
    record {
      named = fold_call Bool Bool is_named_step (is_named_arg palette) m x w args ∙ and_from _ _ (and_from _ _ h.named s) all.named;
      rises = subst (λ s. Rises n s k) (sym (fold_call (List ℕ) (List ℕ) slots_step of_arg m x w args)) (rises_on n m k (slots x) (m ∷ arg_slots args) h.rises (one_rises m k (arg_slots args) all.rises));
      count = omega (arith, c, h.count, there);
      nests = omega (arith, d_is, h.nests, deeper);
    }

pub new_known : (palette : Palette) (n k d : ℕ) (w : List ℕ) (args : List Arg) → is_short_identifier w ≡ true → d + 1 ≤ most_nest → ArgsKnown palette (d + 1) (n + 1) args k → Chain palette n k d (e.New n w args)
new_known palette n k d w args s le known =
    let all = all_known palette (d + 1) (n + 1) k args le known in
    let c : node_count (e.New n w args) ≡ 1 + arg_count args = fold_new ℕ ℕ node_count_step of_arg n w args in
    let d_is : receiver_depth (nesting (e.New n w args)) ≡ 1 + arg_nest args = ap receiver_depth (fold_new Nesting ℕ nesting_step nesting_of_arg n w args) in
    let there : n + 1 + arg_count args ≡ k = all.count in
    let deeper : d + 1 + arg_nest args ≤ most_nest = all.nests in
    record {
      named = fold_new Bool Bool is_named_step (is_named_arg palette) n w args ∙ and_from _ _ s all.named;
      rises = subst (λ s. Rises n s k) (sym (fold_new (List ℕ) (List ℕ) slots_step of_arg n w args)) (one_rises n k (arg_slots args) all.rises);
      count = omega (arith, c, there);
      nests = omega (arith, d_is, deeper);
    }

pub cast_known : (palette : Palette) (n m d : ℕ) (w : List ℕ) (x : Expr) → is_short_identifier w ≡ true → Known palette (n + 1) m (d + 1) x → Known palette n m d (e.Cast n w x)
cast_known palette n m d w x s h =
    let c : node_count (e.Cast n w x) ≡ 1 + node_count x = fold_cast ℕ ℕ node_count_step of_arg n w x in
    let d_is : nest (e.Cast n w x) ≡ 1 + nest x = ap (λ (g : Nesting). g.depth) (fold_cast Nesting ℕ nesting_step nesting_of_arg n w x) in
    record {
      named = fold_cast Bool Bool is_named_step (is_named_arg palette) n w x ∙ and_from _ _ s h.named;
      rises = subst (λ s. Rises n s m) (sym (fold_cast (List ℕ) (List ℕ) slots_step of_arg n w x)) (one_rises n m (slots x) h.rises);
      count = omega (arith, c, h.count);
      nests = omega (arith, d_is, h.nests);
    }

-- a whole body
pub body_known : (palette : Palette) (m : ℕ) (x : Expr) → Known palette 0 m 0 x → m ≤ most_nodes → is_body palette x ≡ true
body_known palette m x h few = and_from _ _ (and_from _ _ (and_from _ _ h.named (le-leb (node_count x) most_nodes (omega (arith, h.count)))) (le-leb (nest x) most_nest (omega (arith, h.nests)))) (rises_from 0 0 m (slots x) (omega arith) h.rises)
