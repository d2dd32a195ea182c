-- A tree whose tokens break nothing stands for an expression of which a project's type keeps what it asks of a body.
use Rattle.std.proofs.Common.{◌≡◌, ℕ, ◌+◌, ◌≤◌, ◌<◌, Bool, true, false, ◌||◌, List, [], ◌∷◌, ◌++◌, refl, subst, arith, None, nat_le, bytes_eq}
use Rattle.std.specs.Prelude.{nat_lt, codes}
use Rattle.std.proofs.lemmas.Bool.{and_parts, ltb-false, leb-false}
use Rattle.cfj_model.specs.declared.expr.Arg.{Arg}
use Rattle.cfj_model.specs.declared.expr.Expr.{Expr}
use Rattle.cfj_model.specs.declared.expr.Expr.TheVariants as e
use Rattle.cfj_model.specs.declared.fault.FaultKind.{FaultKind}
use Rattle.cfj_model.specs.declared.fault.FaultKind.TheVariants.{Limit}
use Rattle.cfj_model.specs.declared.fault.LimitKind.TheVariants as limit
use Rattle.cfj_words.specs.Names.{is_identifier, is_short_identifier}
use Rattle.cfj_model.specs.Expressions.{node_count}
use Rattle.cfj_model.specs.declared.signed.Signed.{Signed}
use Rattle.cfj_model.specs.Marks.{spell_marks, roles_marks, colors_of}
use Rattle.cfj_model.specs.ProductLines.{most_nest, most_nodes, most_size}
use Rattle.cfj_words.specs.Tokens.{Token, Id, ThisWord, OpenParen, CloseParen, Dot}
use Rattle.cfj_model.specs.Roles.{Role, node, opens, other_token, used_name, var_name, Tally, first_of, is_long, past_nest, past_nodes, past_size, broken_by, AreWithin}
use Rattle.cfj_model.specs.ExpressionGrammar.{ExprTree, cast, chain, StartTree, variable, this_word, made, bracket, StepsTree, stop, get, call, ArgsTree, no_args, first_arg, MoreArgsTree, no_more, next_arg, spell_expr, spell_start, spell_steps, spell_args, spell_more_args, roles_expr, roles_start, roles_steps, roles_args, roles_more_args, value_expr, value_start, value_steps, value_args, value_more_args}
use Rattle.fj_symbols.specs.Views.{are_read}
use Rattle.expression_reader.specs.Laws.{IsKept}
use Rattle.expression_reader.proofs.Bodies.{Known, Chain, chain_ends, bracketed_known, ArgsKnown, none_known, args_more, var_known, get_known, call_known, new_known, cast_known, body_known}
use Rattle.expression_reader.proofs.KnownColors.{palette_over, colors_known, marks_kept}
use Rattle.expression_reader.proofs.Short.{none_first, or_left, short_identifier}

-- ---- what one token's role says

used_short : (w : List ℕ) (t : Tally) → is_identifier w ≡ true → broken_by t (used_name w) ≡ None → is_short_identifier w ≡ true
used_short w t i h = short_identifier w i (none_first (is_long w) (Limit limit.Name) [] h).0

-- there is room for one more node
record Room (t : Tally) : Type 0 where
  nodes : t.nodes < most_nodes
  size : t.size < most_size

room : (t : Tally) → first_of (past_nodes t ∷ (past_size t ∷ [])) ≡ None → Room t
room t h =
    let a = none_first (nat_le most_nodes t.nodes) (Limit limit.Nodes) (past_size t ∷ []) h in
    let b = none_first (nat_le most_size t.size) (Limit limit.Size) [] a.1 in
    record { nodes = leb-false _ _ a.0; size = leb-false _ _ b.0 }

nests : (d : ℕ) (rest : List (Bool × FaultKind)) → first_of (past_nest d ∷ rest) ≡ None → (d ≤ most_nest) × (first_of rest ≡ None)
nests d rest h = let a = none_first (nat_lt most_nest d) (Limit limit.Nest) rest h in (ltb-false _ _ a.0, a.1)

-- `this` is a name
or_right : (a b : Bool) → b ≡ true → (a || b) ≡ true
or_right true b h = refl
or_right false b h = h

-- ---- what is known behind tokens

-- Behind tokens whose nodes have the slots from one to before another: the tally, and that what follows is within the limits.
record Behind (t : Tally) (n m : ℕ) (rest : List Role) (more : List Token) : Type 0 where
  marks : List (List ℕ)
  nodes : ℕ
  size : ℕ
  nodes_rise : nodes + n ≡ t.nodes + m
  size_rises : size + n ≡ t.size + m
  few : nodes ≤ most_nodes
  small : size ≤ most_size
  within : AreWithin (record t { marks = marks; nodes = nodes; size = size }) rest
  read : are_read more ≡ true

-- and behind further tokens
behind_both : {t : Tally} {n m k : ℕ} {rest last : List Role} {more end : List Token} (b : Behind t n m rest more) → Behind (record t { marks = b.marks; nodes = b.nodes; size = b.size }) m k last end → Behind t n k last end
behind_both b c = record { marks = c.marks; nodes = c.nodes; size = c.size; nodes_rise = omega (arith, b.nodes_rise, c.nodes_rise); size_rises = omega (arith, b.size_rises, c.size_rises); few = c.few; small = c.small; within = c.within; read = c.read }

-- the limits hold before tokens, so many are open, and the tokens are within the limits and read
record Before (t : Tally) (d : ℕ) (rs : List Role) (ts : List Token) : Type 0 where
  open_few : d ≤ most_nest
  few : t.nodes ≤ most_nodes
  small : t.size ≤ most_size
  within : AreWithin t rs
  read : are_read ts ≡ true

record ExprKept (fs : List (List ℕ)) (t : Tally) (d n m : ℕ) (x : Expr) (rest : List Role) (more : List Token) : Type 0 where
  known : Known (palette_over t.format fs) n m d x
  behind : Behind t n m rest more

record ChainKept (fs : List (List ℕ)) (t : Tally) (d from n m : ℕ) (x : Expr) (rest : List Role) (more : List Token) : Type 0 where
  known : Chain (palette_over t.format fs) from m d x
  behind : Behind t n m rest more

record ArgsKept (fs : List (List ℕ)) (t : Tally) (d from n m : ℕ) (args : List Arg) (rest : List Role) (more : List Token) : Type 0 where
  known : ArgsKnown (palette_over t.format fs) d from args m
  behind : Behind t n m rest more

-- before a part of what follows
before_behind : {t : Tally} {d n m : ℕ} {rest : List Role} {more : List Token} → d ≤ most_nest → (b : Behind t n m rest more) → Before (record t { marks = b.marks; nodes = b.nodes; size = b.size }) d rest more
before_behind le b = record { open_few = le; few = b.few; small = b.small; within = b.within; read = b.read }

-- ---- one part at a time, from what is known of its own parts

-- a node's role, behind which the tally has one more
abbrev noded : Tally → Tally
noded t = record t { marks = []; nodes = t.nodes + 1; size = t.size + 1 }

variable_kept : (fs : List (List ℕ)) (t : Tally) (d n : ℕ) (w : List ℕ) (rest : List Role) (more : List Token) → Before t d (var_name w ∷ rest) (Id w ∷ more) → ChainKept fs t d n n (n + 1) (e.Var n w) rest more
variable_kept fs t d n w rest more h =
    let a = none_first (is_long w) (Limit limit.Name) (past_nodes t ∷ (past_size t ∷ [])) h.within.0 in
    let r : Room t = room t a.1 in
    let i = and_parts (is_identifier w) (are_read more) h.read in
    record {
      known = var_known (palette_over t.format fs) n d w h.open_few (or_left (is_short_identifier w) (bytes_eq w (codes "this")) (short_identifier w i.0 a.0));
      behind = record { marks = []; nodes = t.nodes + 1; size = t.size + 1; nodes_rise = omega arith; size_rises = omega arith; few = omega (arith, r.nodes); small = omega (arith, r.size); within = h.within.1; read = i.1 };
    }

this_kept : (fs : List (List ℕ)) (t : Tally) (d n : ℕ) (rest : List Role) (more : List Token) → Before t d (node ∷ rest) (ThisWord ∷ more) → ChainKept fs t d n n (n + 1) (e.Var n (codes "this")) rest more
this_kept fs t d n rest more h =
    let r : Room t = room t h.within.0 in
    record {
      known = var_known (palette_over t.format fs) n d (codes "this") h.open_few (or_right (is_short_identifier (codes "this")) (bytes_eq (codes "this") (codes "this")) refl);
      behind = record { marks = []; nodes = t.nodes + 1; size = t.size + 1; nodes_rise = omega arith; size_rises = omega arith; few = omega (arith, r.nodes); small = omega (arith, r.size); within = h.within.1; read = h.read };
    }

cast_kept : (fs : List (List ℕ)) (t : Tally) (d n : ℕ) (c : List ℕ) (x : ExprTree) (rest : List Role) (more : List Token) → Before t d (roles_expr d (cast c x) rest) (spell_expr (cast c x) more) →
    ((u : Tally) → Before u (d + 1) (roles_expr (d + 1) x rest) (spell_expr x more) → ExprKept fs u (d + 1) (n + 1) (value_expr fs (n + 1) x).1 (value_expr fs (n + 1) x).0 rest more) →
    ExprKept fs t d n (value_expr fs (n + 1) x).1 (e.Cast n c (value_expr fs (n + 1) x).0) rest more
cast_kept fs t d n c x rest more h inner =
    let a = nests (d + 1) (past_nodes t ∷ (past_size t ∷ [])) h.within.0 in
    let r : Room t = room t a.1 in
    let i = and_parts (is_identifier c) (are_read (spell_expr x more)) h.read in
    let k = inner (noded t) (record { open_few = a.0; few = omega (arith, r.nodes); small = omega (arith, r.size); within = h.within.1.1.1; read = i.1 }) in
    record {
      known = cast_known (palette_over t.format fs) n _ d c _ (used_short c (noded t) i.0 h.within.1.0) k.known;
      behind = record { marks = k.behind.marks; nodes = k.behind.nodes; size = k.behind.size; nodes_rise = omega (arith, k.behind.nodes_rise); size_rises = omega (arith, k.behind.size_rises); few = k.behind.few; small = k.behind.small; within = k.behind.within; read = k.behind.read };
    }

bracket_kept : (fs : List (List ℕ)) (t : Tally) (d n : ℕ) (x : ExprTree) (rest : List Role) (more : List Token) → Before t d (opens (d + 1) ∷ roles_expr (d + 1) x (other_token ∷ rest)) (OpenParen ∷ spell_expr x (CloseParen ∷ more)) →
    ((u : Tally) → Before u (d + 1) (roles_expr (d + 1) x (other_token ∷ rest)) (spell_expr x (CloseParen ∷ more)) → ExprKept fs u (d + 1) n (value_expr fs n x).1 (value_expr fs n x).0 (other_token ∷ rest) (CloseParen ∷ more)) →
    ChainKept fs t d n n (value_expr fs n x).1 (value_expr fs n x).0 rest more
bracket_kept fs t d n x rest more h inner =
    let a = nests (d + 1) [] h.within.0 in
    let k = inner (record t { marks = [] }) (record { open_few = a.0; few = h.few; small = h.small; within = h.within.1; read = h.read }) in
    record {
      known = bracketed_known _ k.known;
      behind = record { marks = k.behind.marks; nodes = k.behind.nodes; size = k.behind.size; nodes_rise = k.behind.nodes_rise; size_rises = k.behind.size_rises; few = k.behind.few; small = k.behind.small; within = k.behind.within.1; read = k.behind.read };
    }

-- behind the bracket of an argument list
abbrev opened : Tally → Tally
opened t = record t { marks = [] }

new_kept : (fs : List (List ℕ)) (t : Tally) (d n : ℕ) (c : List ℕ) (args : ArgsTree) (rest : List Role) (more : List Token) → Before t d (roles_start d (made c args) rest) (spell_start (made c args) more) →
    ((u : Tally) → Before u (d + 1) (roles_args (d + 1) args (other_token ∷ rest)) (spell_args args (CloseParen ∷ more)) → ArgsKept fs u (d + 1) (n + 1) (n + 1) (value_args fs (n + 1) args).1 (value_args fs (n + 1) args).0 (other_token ∷ rest) (CloseParen ∷ more)) →
    ChainKept fs t d n n (value_args fs (n + 1) args).1 (e.New n c (value_args fs (n + 1) args).0) rest more
new_kept fs t d n c args rest more h inner =
    let r : Room t = room t h.within.0 in
    let a = nests (d + 1) [] h.within.1.1.0 in
    let i = and_parts (is_identifier c) (are_read (spell_args args (CloseParen ∷ more))) h.read in
    let k = inner (opened (noded t)) (record { open_few = a.0; few = omega (arith, r.nodes); small = omega (arith, r.size); within = h.within.1.1.1; read = i.1 }) in
    record {
      known = new_known (palette_over t.format fs) n _ d c _ (used_short c (noded t) i.0 h.within.1.0) a.0 k.known;
      behind = record { marks = k.behind.marks; nodes = k.behind.nodes; size = k.behind.size; nodes_rise = omega (arith, k.behind.nodes_rise); size_rises = omega (arith, k.behind.size_rises); few = k.behind.few; small = k.behind.small; within = k.behind.within.1; read = k.behind.read };
    }

get_kept : (fs : List (List ℕ)) (t : Tally) (d from n : ℕ) (x : Expr) (f : List ℕ) (rest : List Role) (more : List Token) → Chain (palette_over t.format fs) from n d x → Before t d (node ∷ (used_name f ∷ rest)) (Dot ∷ (Id f ∷ more)) → ChainKept fs t d from n (n + 1) (e.Get n x f) rest more
get_kept fs t d from n x f rest more k h =
    let r : Room t = room t h.within.0 in
    let i = and_parts (is_identifier f) (are_read more) h.read in
    record {
      known = get_known (palette_over t.format fs) from n d x f k (used_short f (noded t) i.0 h.within.1.0);
      behind = record { marks = []; nodes = t.nodes + 1; size = t.size + 1; nodes_rise = omega arith; size_rises = omega arith; few = omega (arith, r.nodes); small = omega (arith, r.size); within = h.within.1.1; read = i.1 };
    }

call_kept : (fs : List (List ℕ)) (t : Tally) (d from n : ℕ) (x : Expr) (m : List ℕ) (args : ArgsTree) (rest : List Role) (more : List Token) → Chain (palette_over t.format fs) from n d x →
    Before t d (node ∷ (used_name m ∷ (opens (d + 1) ∷ roles_args (d + 1) args (other_token ∷ rest)))) (Dot ∷ (Id m ∷ (OpenParen ∷ spell_args args (CloseParen ∷ more)))) →
    ((u : Tally) → Before u (d + 1) (roles_args (d + 1) args (other_token ∷ rest)) (spell_args args (CloseParen ∷ more)) → ArgsKept fs u (d + 1) (n + 1) (n + 1) (value_args fs (n + 1) args).1 (value_args fs (n + 1) args).0 (other_token ∷ rest) (CloseParen ∷ more)) →
    ChainKept fs t d from n (value_args fs (n + 1) args).1 (e.Call n x m (value_args fs (n + 1) args).0) rest more
call_kept fs t d from n x m args rest more before h inner =
    let r : Room t = room t h.within.0 in
    let a = nests (d + 1) [] h.within.1.1.0 in
    let i = and_parts (is_identifier m) (are_read (spell_args args (CloseParen ∷ more))) h.read in
    let k = inner (opened (noded t)) (record { open_few = a.0; few = omega (arith, r.nodes); small = omega (arith, r.size); within = h.within.1.1.1; read = i.1 }) in
    record {
      known = call_known (palette_over t.format fs) from n _ d x m _ before (used_short m (noded t) i.0 h.within.1.0) a.0 k.known;
      behind = record { marks = k.behind.marks; nodes = k.behind.nodes; size = k.behind.size; nodes_rise = omega (arith, k.behind.nodes_rise); size_rises = omega (arith, k.behind.size_rises); few = k.behind.few; small = k.behind.small; within = k.behind.within.1; read = k.behind.read };
    }

arg_kept : (fs : List (List ℕ)) (t : Tally) (d from n : ℕ) (before : List Arg) (ms : List Signed) (x : ExprTree) (rest : List Role) (more : List Token) → ArgsKnown (palette_over t.format fs) d from before n → Before t d (roles_marks ms (roles_expr d x rest)) (spell_marks ms (spell_expr x more)) →
    ((u : Tally) → Before u d (roles_expr d x rest) (spell_expr x more) → ExprKept fs u d n (value_expr fs n x).1 (value_expr fs n x).0 rest more) →
    ArgsKept fs t d from n (value_expr fs n x).1 (before ++ record { colors = colors_of fs ms; expr = (value_expr fs n x).0 } ∷ []) rest more
arg_kept fs t d from n before ms x rest more known h inner =
    let m = marks_kept t ms (roles_expr d x rest) (spell_expr x more) h.within h.read in
    let k = inner (record t { marks = m.marks }) (record { open_few = h.open_few; few = h.few; small = h.small; within = m.within; read = m.read }) in
    record {
      known = args_more (palette_over t.format fs) d from n _ before _ known (colors_known t.format fs ms m.allowed) k.known;
      behind = record { marks = k.behind.marks; nodes = k.behind.nodes; size = k.behind.size; nodes_rise = k.behind.nodes_rise; size_rises = k.behind.size_rises; few = k.behind.few; small = k.behind.small; within = k.behind.within; read = k.behind.read };
    }

-- ---- the parts of an expression

mutual
  expr_kept : (fs : List (List ℕ)) (t : Tally) (d n : ℕ) (x : ExprTree) (rest : List Role) (more : List Token) → Before t d (roles_expr d x rest) (spell_expr x more) → ExprKept fs t d n (value_expr fs n x).1 (value_expr fs n x).0 rest more
  expr_kept fs t d n (cast c x) rest more h = cast_kept fs t d n c x rest more h (λ u b. expr_kept fs u (d + 1) (n + 1) x rest more b)
  expr_kept fs t d n (chain s ss) rest more h =
      let a = start_kept fs t d n s (roles_steps d ss rest) (spell_steps ss more) h in
      let b = steps_kept fs (record t { marks = a.behind.marks; nodes = a.behind.nodes; size = a.behind.size }) d n (value_start fs n s).1 (value_start fs n s).0 ss rest more a.known (before_behind h.open_few a.behind) in
      record { known = chain_ends _ b.known; behind = behind_both a.behind b.behind }

  start_kept : (fs : List (List ℕ)) (t : Tally) (d n : ℕ) (s : StartTree) (rest : List Role) (more : List Token) → Before t d (roles_start d s rest) (spell_start s more) → ChainKept fs t d n n (value_start fs n s).1 (value_start fs n s).0 rest more
  start_kept fs t d n (variable w) rest more h = variable_kept fs t d n w rest more h
  start_kept fs t d n this_word rest more h = this_kept fs t d n rest more h
  start_kept fs t d n (made c args) rest more h = new_kept fs t d n c args rest more h (λ u b. args_kept fs u (d + 1) (n + 1) args (other_token ∷ rest) (CloseParen ∷ more) b)
  start_kept fs t d n (bracket x) rest more h = bracket_kept fs t d n x rest more h (λ u b. expr_kept fs u (d + 1) n x (other_token ∷ rest) (CloseParen ∷ more) b)

  -- the steps of a chain, from what stands before them on
  steps_kept : (fs : List (List ℕ)) (t : Tally) (d from n : ℕ) (x : Expr) (ss : StepsTree) (rest : List Role) (more : List Token) → Chain (palette_over t.format fs) from n d x → Before t d (roles_steps d ss rest) (spell_steps ss more) → ChainKept fs t d from n (value_steps fs n x ss).1 (value_steps fs n x ss).0 rest more
  steps_kept fs t d from n x stop rest more k h = record { known = k; behind = record { marks = t.marks; nodes = t.nodes; size = t.size; nodes_rise = refl; size_rises = refl; few = h.few; small = h.small; within = h.within; read = h.read } }
  steps_kept fs t d from n x (get f ss) rest more k h =
      let a = get_kept fs t d from n x f (roles_steps d ss rest) (spell_steps ss more) k h in
      let b = steps_kept fs (record t { marks = a.behind.marks; nodes = a.behind.nodes; size = a.behind.size }) d from (n + 1) (e.Get n x f) ss rest more a.known (before_behind h.open_few a.behind) in
      record { known = b.known; behind = behind_both a.behind b.behind }
  steps_kept fs t d from n x (call m args ss) rest more k h =
      let a = call_kept fs t d from n x m args (roles_steps d ss rest) (spell_steps ss more) k h (λ u b. args_kept fs u (d + 1) (n + 1) args (other_token ∷ roles_steps d ss rest) (CloseParen ∷ spell_steps ss more) b) in
      let b = steps_kept fs (record t { marks = a.behind.marks; nodes = a.behind.nodes; size = a.behind.size }) d from (value_args fs (n + 1) args).1 (e.Call n x m (value_args fs (n + 1) args).0) ss rest more a.known (before_behind h.open_few a.behind) in
      record { known = b.known; behind = behind_both a.behind b.behind }

  args_kept : (fs : List (List ℕ)) (t : Tally) (d n : ℕ) (args : ArgsTree) (rest : List Role) (more : List Token) → Before t d (roles_args d args rest) (spell_args args more) → ArgsKept fs t d n n (value_args fs n args).1 (value_args fs n args).0 rest more
  args_kept fs t d n no_args rest more h = record { known = none_known n; behind = record { marks = t.marks; nodes = t.nodes; size = t.size; nodes_rise = refl; size_rises = refl; few = h.few; small = h.small; within = h.within; read = h.read } }
  args_kept fs t d n (first_arg ms x xs) rest more h =
      let a = arg_kept fs t d n n [] ms x (roles_more_args d xs rest) (spell_more_args xs more) (none_known n) h (λ u b. expr_kept fs u d n x (roles_more_args d xs rest) (spell_more_args xs more) b) in
      let b = more_kept fs (record t { marks = a.behind.marks; nodes = a.behind.nodes; size = a.behind.size }) d n (value_expr fs n x).1 (record { colors = colors_of fs ms; expr = (value_expr fs n x).0 } ∷ []) xs rest more a.known (before_behind h.open_few a.behind) in
      record { known = b.known; behind = behind_both a.behind b.behind }

  -- the arguments behind some
  more_kept : (fs : List (List ℕ)) (t : Tally) (d from n : ℕ) (before : List Arg) (xs : MoreArgsTree) (rest : List Role) (more : List Token) → ArgsKnown (palette_over t.format fs) d from before n → Before t d (roles_more_args d xs rest) (spell_more_args xs more) → ArgsKept fs t d from n (value_more_args fs n before xs).1 (value_more_args fs n before xs).0 rest more
  more_kept fs t d from n before no_more rest more k h = record { known = k; behind = record { marks = t.marks; nodes = t.nodes; size = t.size; nodes_rise = refl; size_rises = refl; few = h.few; small = h.small; within = h.within; read = h.read } }
  more_kept fs t d from n before (next_arg ms x xs) rest more k h =
      let a = arg_kept fs t d from n before ms x (roles_more_args d xs rest) (spell_more_args xs more) k (record { open_few = h.open_few; few = h.few; small = h.small; within = h.within.1; read = h.read }) (λ u b. expr_kept fs u d n x (roles_more_args d xs rest) (spell_more_args xs more) b) in
      let b = more_kept fs (record t { marks = a.behind.marks; nodes = a.behind.nodes; size = a.behind.size }) d from (value_expr fs n x).1 (before ++ record { colors = colors_of fs ms; expr = (value_expr fs n x).0 } ∷ []) xs rest more a.known (before_behind h.open_few a.behind) in
      record { known = b.known; behind = behind_both a.behind b.behind }

-- A tree whose tokens break nothing, where no node was met before, stands for a body that a project keeps; and its roles count its
-- nodes.
pub body_kept : (fs : List (List ℕ)) (t : Tally) (x : ExprTree) (rest : List Role) (more : List Token) → t.nodes ≡ 0 → t.size ≤ most_size → AreWithin t (roles_expr 0 x rest) → are_read (spell_expr x more) ≡ true → IsKept fs t x rest more
body_kept fs t x rest more none small w r =
    let k = expr_kept fs t 0 0 x rest more (record { open_few = omega arith; few = omega (arith, none); small = small; within = w; read = r }) in
    let m : ℕ = (value_expr fs 0 x).1 in
    let count : 0 + node_count (value_expr fs 0 x).0 ≡ m = k.known.count in
    let nodes : k.behind.nodes ≡ node_count (value_expr fs 0 x).0 = omega (arith, count, none, k.behind.nodes_rise) in
    let size : k.behind.size ≡ t.size + node_count (value_expr fs 0 x).0 = omega (arith, count, k.behind.size_rises) in
    record {
      is = body_known (palette_over t.format fs) m (value_expr fs 0 x).0 k.known (omega (arith, none, k.behind.few, k.behind.nodes_rise));
      marks = k.behind.marks;
      small = omega (arith, size, k.behind.small);
      within = subst (λ a. AreWithin (record t { marks = k.behind.marks; nodes = a; size = t.size + node_count (value_expr fs 0 x).0 }) rest) nodes (subst (λ a. AreWithin (record t { marks = k.behind.marks; nodes = k.behind.nodes; size = a }) rest) size k.behind.within);
      read = k.behind.read;
    }
