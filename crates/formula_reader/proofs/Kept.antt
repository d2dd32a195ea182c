-- A formula that is read within the limits keeps what a project keeps of a constraint: its text with the fewest brackets nests no
-- deeper than the text that was read.
use Rattle.std.proofs.Common.{◌≡◌, ℕ, ◌+◌, ◌≤◌, Bool, true, false, not, if◌then◌else◌, List, [], ◌∷◌, ◌++◌, length, Option, Some, None, map, refl, sym, subst, arith, position}
use Rattle.std.specs.Prelude.{nat_lt, sum_by}
use Rattle.std.specs.List.{list_all}
use Rattle.std.proofs.lemmas.Bool.{and_from, ltb-true, ltb-false, leb-false, le-leb}
use Rattle.std.proofs.lemmas.List.Sums.{sum_by-cons}
use Rattle.std.proofs.lemmas.Option.{none-some}
use Rattle.std.specs.Str.{bytes_eq}
use Rattle.cfj_model.specs.declared.fault.FaultKind.{FaultKind}
use Rattle.cfj_model.specs.declared.fault.FaultKind.TheVariants.{NoFeature, Limit}
use Rattle.cfj_model.specs.declared.fault.LimitKind.TheVariants as limit
use Rattle.cfj_logic.specs.declared.formula.Formula.{Formula}
use Rattle.cfj_logic.specs.declared.formula.Formula.TheVariants as f
use Rattle.cfj_logic.specs.declared.formula.Formula.TheFolds.{fold-Formula}
use Rattle.cfj_logic.specs.Formulas.{FormulaNesting, operand_depth, formula_nesting_step, formula_nest, formula_node_count}
use Rattle.cfj_model.specs.FormulaGrammar.{IffTree, one_implies, iff, ImpliesTree, one_or, implies, OrTree, one_and, or, AndTree, one_unary, and, UnaryTree, negated, named, true_word, false_word, bracketed, roles_iff, roles_implies, roles_or, roles_and, roles_unary, feature_at, value_iff, value_implies, value_or, value_and, value_unary}
use Rattle.cfj_model.specs.Marks.{in_order}
use Rattle.cfj_model.specs.TreeRoles.{roles_constraint}
use Rattle.cfj_model.specs.ProductLines.{most_nest, most_formula_nodes, is_constraint}
use Rattle.cfj_words.specs.Names.{is_among}
use Rattle.cfj_model.specs.Roles.{Role, formula_name, formula_node, formula_opens, opens, casts, other_token, Tally, counted, tallied, first_of, is_long, past_formula, past_nest, past_nodes, past_size, broken_by, AreWithin}
use Rattle.cfj_logic.proofs.FormulaCases.{fold_true, fold_false, fold_feat, fold_not, fold_and, fold_or, fold_implies, fold_iff}
use Rattle.formula_reader.proofs.Texts.{roles_iff_append}
use Rattle.formula_reader.proofs.Values.{iff_over, with_formula, iff_adds}

-- ---- tests that don't hold

-- no test holds
abbrev NoneHolds : List (Bool × FaultKind) → Type 0
NoneHolds [] = Unit {0}
NoneHolds (f ∷ fs) = (f.0 ≡ false) × NoneHolds fs

-- Where there is no first fault, no test holds.
none_holds : (fs : List (Bool × FaultKind)) → first_of fs ≡ None → NoneHolds fs
none_holds [] e = tt
none_holds ((true, k) ∷ fs) e = absurd (none-some k (sym e))
none_holds ((false, k) ∷ fs) e = (refl, none_holds fs e)

-- ---- any roles within the limits

-- a role opens no deeper than this
abbrev pub IsShallow : ℕ → Role → Type 0
IsShallow most (formula_opens n) = n ≤ most
IsShallow most (opens n) = n ≤ most
IsShallow most (casts n) = n ≤ most
IsShallow most _ = Unit {0}

abbrev pub AreShallow : ℕ → List Role → Type 0
AreShallow most [] = Unit {0}
AreShallow most (r ∷ rs) = IsShallow most r × AreShallow most rs

-- what breaks no limit is not too deep
shallow_role : (t : Tally) (r : Role) → broken_by t r ≡ None → IsShallow most_nest r
shallow_role t (formula_opens n) e = ltb-false _ _ (none_holds (past_formula t ∷ (past_nest n ∷ [])) e).1.0
shallow_role t (opens n) e = ltb-false _ _ (none_holds (past_nest n ∷ []) e).0
shallow_role t (casts n) e = ltb-false _ _ (none_holds (past_nest n ∷ (past_nodes t ∷ (past_size t ∷ []))) e).0
shallow_role t _ e = tt

pub shallow_within : (t : Tally) (rs : List Role) → AreWithin t rs → AreShallow most_nest rs
shallow_within t [] w = tt
shallow_within t (r ∷ rs) w = (shallow_role t r w.0, shallow_within (counted t r) rs w.1)

-- nor does it pass the limit of formula nodes
few_behind : (t : Tally) (r : Role) → t.formula_nodes ≤ most_formula_nodes → broken_by t r ≡ None → (counted t r).formula_nodes ≤ most_formula_nodes
few_behind t (formula_name w) few e =
    let room = leb-false _ _ (none_holds ((is_long w, Limit limit.Name) ∷ ((not (is_among t.features w), NoFeature w) ∷ (past_formula t ∷ []))) e).1.1.0 in
    omega (arith, room)
few_behind t formula_node few e = let room = leb-false _ _ (none_holds (past_formula t ∷ []) e).0 in omega (arith, room)
few_behind t (formula_opens n) few e = let room = leb-false _ _ (none_holds (past_formula t ∷ (past_nest n ∷ [])) e).0 in omega (arith, room)
few_behind t _ few e = few

pub few_within : (t : Tally) (rs : List Role) → t.formula_nodes ≤ most_formula_nodes → AreWithin t rs → (tallied t rs).formula_nodes ≤ most_formula_nodes
few_within t [] few w = few
few_within t (r ∷ rs) few w = few_within (counted t r) rs (few_behind t r few w.0) w.1

-- what stands behind some of them is within the limits behind those
pub rest_within : (t : Tally) (rs rest : List Role) → AreWithin t (rs ++ rest) → AreWithin (tallied t rs) rest
rest_within t [] rest w = w
rest_within t (r ∷ rs) rest w = rest_within (counted t r) rs rest w.1

-- and they themselves are
pub front_within : (t : Tally) (rs rest : List Role) → AreWithin t (rs ++ rest) → AreWithin t rs
front_within t [] rest w = tt
front_within t (r ∷ rs) rest w = (w.0, front_within (counted t r) rs rest w.1)

-- ---- nesting

abbrev nesting : Formula → FormulaNesting
nesting = fold-Formula FormulaNesting formula_nesting_step

-- an operand of a looser level needs no more brackets
looser : (l k : ℕ) (n : FormulaNesting) → l ≤ k → operand_depth l n ≤ operand_depth k n
looser l k n le = go (nat_lt n.level l) (nat_lt n.level k) refl refl
  where
    go : (a b : Bool) → nat_lt n.level l ≡ a → nat_lt n.level k ≡ b → (if a then 1 + n.depth else n.depth) ≤ (if b then 1 + n.depth else n.depth)
    go true true p q = omega arith
    go true false p q = absurd (omega (arith, ltb-true n.level l p, ltb-false n.level k q))
    go false true p q = omega arith
    go false false p q = omega arith

-- nor does a formula by itself
no_operand : (l : ℕ) (n : FormulaNesting) → n.depth ≤ operand_depth l n
no_operand l n = go (nat_lt n.level l)
  where
    go : (a : Bool) → n.depth ≤ (if a then 1 + n.depth else n.depth)
    go true = omega arith
    go false = omega arith

-- and brackets round it are one more
bracketed_depth : (l k : ℕ) (n : FormulaNesting) → operand_depth k n ≤ 1 + operand_depth l n
bracketed_depth l k n = go (nat_lt n.level l) (nat_lt n.level k)
  where
    go : (a b : Bool) → (if b then 1 + n.depth else n.depth) ≤ 1 + (if a then 1 + n.depth else n.depth)
    go true true = omega arith
    go true false = omega arith
    go false true = omega arith
    go false false = omega arith

-- the nesting of a name
name_nesting : (o : Option ℕ) → nesting (feature_at o) ≡ record { level = 5; depth = 0 }
name_nesting None = fold_false FormulaNesting formula_nesting_step
name_nesting (Some i) = fold_feat FormulaNesting formula_nesting_step i

-- ---- the nesting of what was read

-- What is known of a formula that was read inside so many brackets as an operand of a level, and of the roles behind it.
record Nested (most d level : ℕ) (x : Formula) (rest : List Role) : Type 0 where
  shallow : d + operand_depth level (nesting x) ≤ most
  behind : AreShallow most rest

-- as an operand of a looser level
as_looser : (most d l k : ℕ) (x : Formula) (rest : List Role) → l ≤ k → Nested most d k x rest → Nested most d l x rest
as_looser most d l k x rest le h = record { shallow = omega (arith, looser l k (nesting x) le, h.shallow); behind = h.behind }

-- by the nesting of its parts
by_parts : (most d l : ℕ) (x : Formula) (n : FormulaNesting) (rest : List Role) → nesting x ≡ n → d + operand_depth l n ≤ most → AreShallow most rest → Nested most d l x rest
by_parts most d l x n rest e shallow behind = record { shallow = subst (λ m. d + operand_depth l m ≤ most) (sym e) shallow; behind = behind }

module _ (features : List (List ℕ)) (most : ℕ) where
  mutual
    iff_nested : (d : ℕ) (x : IffTree) (rest : List Role) → d ≤ most → AreShallow most (roles_iff d x rest) → Nested most d 1 (value_iff features x) rest
    iff_nested d (one_implies x) rest le w = as_looser most d 1 2 (value_implies features x) rest (omega arith) (implies_nested d x rest le w)
    iff_nested d (iff x y) rest le w =
        let a = iff_nested d x (formula_node ∷ roles_implies d y rest) le w in
        let b = implies_nested d y rest le a.behind.1 in
        by_parts most d 1 _ _ rest (fold_iff FormulaNesting formula_nesting_step (value_iff features x) (value_implies features y)) (omega (arith, a.shallow, b.shallow)) b.behind

    implies_nested : (d : ℕ) (x : ImpliesTree) (rest : List Role) → d ≤ most → AreShallow most (roles_implies d x rest) → Nested most d 2 (value_implies features x) rest
    implies_nested d (one_or x) rest le w = as_looser most d 2 3 (value_or features x) rest (omega arith) (or_nested d x rest le w)
    implies_nested d (implies x y) rest le w =
        let a = or_nested d x (formula_opens (d + 1) ∷ roles_implies (d + 1) y rest) le w in
        let b = implies_nested (d + 1) y rest a.behind.0 a.behind.1 in
        by_parts most d 2 _ _ rest (fold_implies FormulaNesting formula_nesting_step (value_or features x) (value_implies features y)) (omega (arith, a.shallow, b.shallow)) b.behind

    or_nested : (d : ℕ) (x : OrTree) (rest : List Role) → d ≤ most → AreShallow most (roles_or d x rest) → Nested most d 3 (value_or features x) rest
    or_nested d (one_and x) rest le w = as_looser most d 3 4 (value_and features x) rest (omega arith) (and_nested d x rest le w)
    or_nested d (or x y) rest le w =
        let a = or_nested d x (formula_node ∷ roles_and d y rest) le w in
        let b = and_nested d y rest le a.behind.1 in
        by_parts most d 3 _ _ rest (fold_or FormulaNesting formula_nesting_step (value_or features x) (value_and features y)) (omega (arith, a.shallow, b.shallow)) b.behind

    and_nested : (d : ℕ) (x : AndTree) (rest : List Role) → d ≤ most → AreShallow most (roles_and d x rest) → Nested most d 4 (value_and features x) rest
    and_nested d (one_unary x) rest le w = as_looser most d 4 5 (value_unary features x) rest (omega arith) (unary_nested d x rest le w)
    and_nested d (and x y) rest le w =
        let a = and_nested d x (formula_node ∷ roles_unary d y rest) le w in
        let b = unary_nested d y rest le a.behind.1 in
        by_parts most d 4 _ _ rest (fold_and FormulaNesting formula_nesting_step (value_and features x) (value_unary features y)) (omega (arith, a.shallow, b.shallow)) b.behind

    unary_nested : (d : ℕ) (x : UnaryTree) (rest : List Role) → d ≤ most → AreShallow most (roles_unary d x rest) → Nested most d 5 (value_unary features x) rest
    unary_nested d (negated x) rest le w =
        let a = unary_nested (d + 1) x rest w.0 w.1 in
        by_parts most d 5 _ _ rest (fold_not FormulaNesting formula_nesting_step (value_unary features x)) (omega (arith, a.shallow)) a.behind
    unary_nested d (named v) rest le w = by_parts most d 5 _ _ rest (name_nesting (position (λ g. bytes_eq g v) features)) (omega arith) w.1
    unary_nested d true_word rest le w = by_parts most d 5 f.True _ rest (fold_true FormulaNesting formula_nesting_step) (omega arith) w.1
    unary_nested d false_word rest le w = by_parts most d 5 f.False _ rest (fold_false FormulaNesting formula_nesting_step) (omega arith) w.1
    unary_nested d (bracketed x) rest le w =
        let a = iff_nested (d + 1) x (other_token ∷ rest) w.0 w.1 in
        record { shallow = omega (arith, bracketed_depth 1 5 (nesting (value_iff features x)), a.shallow); behind = a.behind.1 }

  -- a formula nests no deeper than the roles of the text that was read
  pub formula_nested : (x : IffTree) (rest : List Role) → AreShallow most (roles_iff 0 x rest) → formula_nest (value_iff features x) ≤ most
  formula_nested x rest w =
      let n = iff_nested 0 x rest (omega arith) w in
      omega (arith, no_operand 1 (nesting (value_iff features x)), n.shallow)

-- ---- a formula within the limits

-- it may stand as a constraint
pub constraint_kept : (features : List (List ℕ)) (t : Tally) (x : IffTree) (rest : List Role) → AreWithin t (roles_iff 0 x rest) → is_constraint (length features) (value_iff features x) ≡ true
constraint_kept features t x rest w = and_from _ _ (iff_over features x) (le-leb _ _ (formula_nested features most_nest x rest (shallow_within t (roles_iff 0 x rest) w)))

-- What follows it is within the limits behind it, where its nodes are counted.
pub record Behind (features : List (List ℕ)) (t : Tally) (x : IffTree) (rest : List Role) : Type 0 where
  pub marks : List (List ℕ)
  pub few : t.formula_nodes + formula_node_count (value_iff features x) ≤ most_formula_nodes
  pub within : AreWithin (with_formula t marks (formula_node_count (value_iff features x))) rest

pub behind_formula : (features : List (List ℕ)) (t : Tally) (d : ℕ) (x : IffTree) (rest : List Role) → t.formula_nodes ≤ most_formula_nodes → AreWithin t (roles_iff d x rest) → Behind features t x rest
behind_formula features t d x rest few w =
    let all : AreWithin t (roles_iff d x [] ++ rest) = subst (AreWithin t) (sym (roles_iff_append d x [] rest)) w in
    let a = iff_adds features t d x [] in
    record {
      marks = a.marks;
      few = subst (λ (u : Tally). u.formula_nodes ≤ most_formula_nodes) a.is (few_within t (roles_iff d x []) few (front_within t (roles_iff d x []) rest all));
      within = subst (λ u. AreWithin u rest) a.is (rest_within t (roles_iff d x []) rest all);
    }

-- ---- all constraints of a project

-- What is kept of constraints that were read within the limits, and of what follows them.
pub record ConstraintsKept (features : List (List ℕ)) (t : Tally) (xs : List IffTree) (rest : List Role) : Type 0 where
  pub marks : List (List ℕ)
  pub each : list_all (is_constraint (length features)) (map (value_iff features) xs) ≡ true
  pub few : t.formula_nodes + sum_by formula_node_count (map (value_iff features) xs) ≤ most_formula_nodes
  pub within : AreWithin (with_formula t marks (sum_by formula_node_count (map (value_iff features) xs))) rest

pub constraints_kept : (features : List (List ℕ)) (t : Tally) (xs : List IffTree) (rest : List Role) → t.formula_nodes ≤ most_formula_nodes → AreWithin t (in_order roles_constraint xs rest) → ConstraintsKept features t xs rest
constraints_kept features t [] rest few w = record { marks = t.marks; each = refl; few = omega arith; within = subst (λ n. AreWithin (record t { formula_nodes = n }) rest) (omega arith) w }
constraints_kept features t (x ∷ xs) rest few w =
    let u : Tally = record t { marks = [] } in
    let n : ℕ = formula_node_count (value_iff features x) in
    let b : Behind features u x (other_token ∷ in_order roles_constraint xs rest) = behind_formula features u 0 x (other_token ∷ in_order roles_constraint xs rest) few w.1 in
    let k : ConstraintsKept features (with_formula t b.marks n) xs rest = constraints_kept features (with_formula t b.marks n) xs rest b.few b.within.1 in
    let sum : n + sum_by formula_node_count (map (value_iff features) xs) ≡ sum_by formula_node_count (map (value_iff features) (x ∷ xs)) = sym (sum_by-cons formula_node_count (value_iff features x) (map (value_iff features) xs)) in
    record {
      marks = k.marks;
      each = and_from _ _ (constraint_kept features u x (other_token ∷ in_order roles_constraint xs rest) w.1) k.each;
      few = omega (arith, k.few, sum);
      within = subst (λ m. AreWithin (record t { marks = k.marks; formula_nodes = m }) rest) (omega (arith, sum)) k.within;
    }
