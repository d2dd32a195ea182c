-- The members of a class whose tokens break nothing are what a project's type keeps.
use Rattle.std.proofs.Common.{◌≡◌, ℕ, ◌+◌, ◌≤◌, ◌<◌, Bool, true, ◌&&◌, List, [], ◌∷◌, ◌++◌, length, map, refl, subst, arith, None}
use Rattle.std.specs.Prelude.{sum_by}
use Rattle.std.specs.List.{list_all}
use Rattle.std.proofs.lemmas.Bool.{and_parts, and_from, not_from_false, le-leb}
use Rattle.std.proofs.lemmas.List.{length_push}
use Rattle.std.proofs.lemmas.List.Sums.{sum_by-cons}
use Rattle.cfj_model.specs.declared.fault.FaultKind.TheVariants.{Twice, Limit}
use Rattle.cfj_model.specs.declared.fault.LimitKind.TheVariants as limit
use Rattle.cfj_model.specs.declared.class.Field.{Field}
use Rattle.cfj_model.specs.declared.class.Param.{Param}
use Rattle.cfj_model.specs.declared.class.Sent.{Sent}
use Rattle.cfj_model.specs.declared.class.Constructor.{Constructor}
use Rattle.cfj_words.specs.Names.{is_identifier, is_short_identifier}
use Rattle.cfj_words.specs.Tokens.{Token, Id, ThisWord, Dot, Equals, Comma, CloseParen, OpenBrace, SuperWord, OpenParen, Semicolon, CloseBrace, ReturnWord}
use Rattle.cfj_model.specs.ProductLines.{most_fields, most_in_ctor, most_methods, most_size, are_new, are_distinct, rise_from, is_field, is_param, is_sent, is_ctor, is_method, method_size, most_params, are_params, is_body}
use Rattle.cfj_model.specs.Expressions.{node_count}
use Rattle.cfj_model.specs.declared.class.Method.{Method}
use Rattle.cfj_model.specs.Grammar.{Declared, Named, MethodTree, ClassTree, spell_field, spell_param, spell_sent, spell_assign, spell_ctor, spell_method, numbered, value_field, value_param, value_sent, value_ctor, value_method}
use Rattle.cfj_model.specs.Marks.{in_order, each_behind, separated, roles_marks}
use Rattle.cfj_model.specs.Roles.{Role, field_name, param_name, sent_name, assigned_name, used_name, other_token, Tally, counted, broken_by, AreWithin, method_name, method_param_name}
use Rattle.cfj_model.specs.TreeRoles.{roles_field, roles_sent, roles_assign, roles_ctor, roles_method, roles_method_param}
use Rattle.fj_symbols.specs.Views.{are_read}
use Rattle.cfj_model.specs.ExpressionGrammar.{spell_expr, roles_expr, value_expr}
use Rattle.expression_reader.specs.Laws.{IsKept}
use Rattle.expression_reader.proofs.Kept.{body_kept}
use Rattle.cfj_model.specs.Coloring.{Palette}
use Rattle.cfj_model.specs.declared.feature_model.Format.{Format}
use Rattle.expression_reader.proofs.KnownColors.{palette_over, are_allowed, colors_known, MarksKept, marks_kept}
use Rattle.fj_parser.proofs.KeptNames.{short, NameFits, CountFits, name_fits, count_fits, used_short, separated_within, separated_read, sized}

-- ---- fields

-- what is known behind the fields of a class, of so many features
pub record FieldsKept (p : Palette) (t : Tally) (fields : List Field) (rest : List Role) (more : List Token) : Type 0 where
  pub marks : List (List ℕ)
  pub count : ℕ
  pub few : t.fields + length fields ≤ most_fields
  pub each : list_all (is_field p) fields ≡ true
  pub small : t.size + length fields ≤ most_size
  pub within : AreWithin (record t { marks = marks; fields = count; size = t.size + length fields }) rest
  pub read : are_read more ≡ true

pub fields_kept : (features : List (List ℕ)) (t : Tally) (ds : List Declared) (rest : List Role) (more : List Token) → t.fields ≤ most_fields → t.size ≤ most_size → AreWithin t (in_order roles_field ds rest) → are_read (in_order spell_field ds more) ≡ true → FieldsKept (palette_over t.format features) t (map (value_field features) ds) rest more
fields_kept features t [] rest more few small w r = record { marks = t.marks; count = t.fields; few = omega arith; each = refl; small = omega arith; within = subst (λ n. AreWithin (record t { size = n }) rest) (omega arith) w; read = r }
fields_kept features t (d ∷ ds) rest more few small w r =
    let after : List Token = in_order spell_field ds more in
    let m : MarksKept t d.marks (used_name d.of ∷ (field_name d.name ∷ (other_token ∷ in_order roles_field ds rest))) (Id d.of ∷ (Id d.name ∷ (Semicolon ∷ after))) = marks_kept t d.marks (used_name d.of ∷ (field_name d.name ∷ (other_token ∷ in_order roles_field ds rest))) (Id d.of ∷ (Id d.name ∷ (Semicolon ∷ after))) w r in
    let fits : CountFits d.name t.fields most_fields t.size = count_fits d.name t.fields most_fields t.size (Limit limit.Name) (Limit limit.Fields) (Limit limit.Size) m.within.1.0 in
    let i : (is_identifier d.of ≡ true) × ((is_identifier d.name && are_read after) ≡ true) = and_parts (is_identifier d.of) (is_identifier d.name && are_read after) m.read in
    let j : (is_identifier d.name ≡ true) × (are_read after ≡ true) = and_parts (is_identifier d.name) (are_read after) i.1 in
    let u : Tally = record t { marks = []; fields = t.fields + 1; size = t.size + 1 } in
    let k : FieldsKept (palette_over t.format features) u (map (value_field features) ds) rest more = fields_kept features u ds rest more (omega (arith, fits.few)) (omega (arith, fits.small)) m.within.1.1.1 j.1 in
    record {
      marks = k.marks;
      count = k.count;
      few = omega (arith, k.few);
      each = and_from _ _ (and_from _ _ (and_from _ _ (colors_known t.format features d.marks m.allowed) (used_short d.of t i.0 m.within.0)) (short d.name j.0 fits.length_fits)) k.each;
      small = omega (arith, k.small);
      within = subst (λ n. AreWithin (record t { marks = k.marks; fields = k.count; size = n }) rest) (omega arith) k.within;
      read = k.read;
    }

-- ---- parameters

-- a parameter's roles, where its name is one of these
abbrev roles_declared : (List ℕ → Role) → Declared → List Role → List Role
roles_declared named d rest = roles_marks d.marks (used_name d.of ∷ (named d.name ∷ rest))

-- How a parameter counts, of at most so many: a constructor's in the number, a method's among the names. A name that breaks nothing
-- has room; it counts as one; and it may stand before names that may stand behind it.
record CountsParams (named : List ℕ → Role) (most : ℕ) : Type 0 where
  number : ℕ → List (List ℕ) → ℕ
  more_params : ℕ → ℕ
  more_names : List (List ℕ) → List ℕ → List (List ℕ)
  may_stand : List (List ℕ) → List (List ℕ) → Bool
  fits : (t : Tally) (w : List ℕ) → broken_by t (named w) ≡ None → CountFits w (number t.params t.param_names) most t.size
  counts : (t : Tally) (w : List ℕ) → counted t (named w) ≡ record t { marks = []; params = more_params t.params; param_names = more_names t.param_names w; size = t.size + 1 }
  one_more : (n : ℕ) (names : List (List ℕ)) (w : List ℕ) → number (more_params n) (more_names names w) ≡ number n names + 1
  none_stand : (names : List (List ℕ)) → may_stand names [] ≡ true
  first_stands : (t : Tally) (w : List ℕ) (ws : List (List ℕ)) → broken_by t (named w) ≡ None → may_stand (more_names t.param_names w) ws ≡ true → may_stand t.param_names (w ∷ ws) ≡ true

-- those of a constructor may repeat
abbrev ctor_params : CountsParams param_name most_in_ctor
ctor_params =
    record {
      number = λ n names. n;
      more_params = λ n. n + 1;
      more_names = λ names w. names;
      may_stand = λ names ws. true;
      fits = λ t w e. count_fits w t.params most_in_ctor t.size (Limit limit.Name) (Limit limit.Ctor) (Limit limit.Size) e;
      counts = λ t w. refl;
      one_more = λ n names w. refl;
      none_stand = λ names. refl;
      first_stands = λ t w ws e h. refl;
    }

new_param : (t : Tally) (w : List ℕ) → broken_by t (method_param_name w) ≡ None → NameFits w t.param_names most_params t.size
new_param t w e = name_fits w t.param_names most_params t.size (Limit limit.Name) (Twice w) (Limit limit.Params) (Limit limit.Size) e

-- those of a method are new
abbrev method_params : CountsParams method_param_name most_params
method_params =
    record {
      number = λ n names. length names;
      more_params = λ n. n;
      more_names = λ names w. names ++ w ∷ [];
      may_stand = are_new;
      fits = λ t w e. let f : NameFits w t.param_names most_params t.size = new_param t w e in record { length_fits = f.length_fits; few = f.few; small = f.small };
      counts = λ t w. refl;
      one_more = λ n names w. length_push names w;
      none_stand = λ names. refl;
      first_stands = λ t w ws e h. let f : NameFits w t.param_names most_params t.size = new_param t w e in and_from _ _ (not_from_false _ f.new) h;
    }

-- what is known behind parameters, from a slot on
record ParamsKept {named : List ℕ → Role} {most : ℕ} (by : CountsParams named most) (p : Palette) (t : Tally) (slot : ℕ) (params : List Param) (rest : List Role) (more : List Token) : Type 0 where
  marks : List (List ℕ)
  count : ℕ
  names : List (List ℕ)
  stand : by.may_stand t.param_names (map (λ p. p.name) params) ≡ true
  rises : rise_from slot (map (λ p. p.slot) params) ≡ true
  few : by.number t.params t.param_names + length params ≤ most
  each : list_all (is_param p) params ≡ true
  small : t.size + length params ≤ most_size
  within : AreWithin (record t { marks = marks; params = count; param_names = names; size = t.size + length params }) rest
  read : are_read more ≡ true

params_kept : {named : List ℕ → Role} {most : ℕ} (by : CountsParams named most) (features : List (List ℕ)) (t : Tally) (slot : ℕ) (ds : List Declared) (rest : List Role) (more : List Token) → by.number t.params t.param_names ≤ most → t.size ≤ most_size → AreWithin t (each_behind other_token (roles_declared named) ds rest) → are_read (each_behind Comma spell_param ds more) ≡ true → ParamsKept by (palette_over t.format features) t slot (numbered (value_param features) slot ds) rest more
params_kept by features t slot [] rest more few small w r =
    record { marks = t.marks; count = t.params; names = t.param_names; stand = by.none_stand t.param_names; rises = refl; few = omega arith; each = refl; small = omega arith; within = subst (λ n. AreWithin (record t { size = n }) rest) (omega arith) w; read = r }
params_kept {named = named} {most = most} by features t slot (d ∷ ds) rest more few small (comma, w) r =
    let after : List Token = each_behind Comma spell_param ds more in
    let others : List Role = each_behind other_token (roles_declared named) ds rest in
    let m : MarksKept t d.marks (used_name d.of ∷ (named d.name ∷ others)) (Id d.of ∷ (Id d.name ∷ after)) = marks_kept t d.marks (used_name d.of ∷ (named d.name ∷ others)) (Id d.of ∷ (Id d.name ∷ after)) w r in
    let fits : CountFits d.name (by.number t.params t.param_names) most t.size = by.fits (record t { marks = [] }) d.name m.within.1.0 in
    let i : (is_identifier d.of ≡ true) × ((is_identifier d.name && are_read after) ≡ true) = and_parts (is_identifier d.of) (is_identifier d.name && are_read after) m.read in
    let j : (is_identifier d.name ≡ true) × (are_read after ≡ true) = and_parts (is_identifier d.name) (are_read after) i.1 in
    let u : Tally = record t { marks = []; params = by.more_params t.params; param_names = by.more_names t.param_names d.name; size = t.size + 1 } in
    let next : AreWithin u others = subst (λ v. AreWithin v others) (by.counts (record t { marks = [] }) d.name) m.within.1.1 in
    let one : by.number u.params u.param_names ≡ by.number t.params t.param_names + 1 = by.one_more t.params t.param_names d.name in
    let k : ParamsKept by (palette_over t.format features) u (slot + 1) (numbered (value_param features) (slot + 1) ds) rest more = params_kept by features u (slot + 1) ds rest more (omega (arith, one, fits.few)) (omega (arith, fits.small)) next j.1 in
    record {
      marks = k.marks;
      count = k.count;
      names = k.names;
      stand = by.first_stands (record t { marks = [] }) d.name (map (λ p. p.name) (numbered (value_param features) (slot + 1) ds)) m.within.1.0 k.stand;
      rises = and_from _ _ (le-leb slot slot (omega arith)) k.rises;
      few = omega (arith, one, k.few);
      each = and_from _ _ (and_from _ _ (and_from _ _ (colors_known t.format features d.marks m.allowed) (used_short d.of t i.0 m.within.0)) (short d.name j.0 fits.length_fits)) k.each;
      small = omega (arith, k.small);
      within = subst (λ n. AreWithin (record t { marks = k.marks; params = k.count; param_names = k.names; size = n }) rest) (omega arith) k.within;
      read = k.read;
    }

-- They are the parameters of a constructor or of a method.
are_kept : {named : List ℕ → Role} {most : ℕ} {by : CountsParams named most} {p : Palette} {t : Tally} {params : List Param} {rest : List Role} {more : List Token} → ParamsKept by p t 0 params rest more → are_params most p params ≡ true
are_kept {most = most} {params = params} p = and_from _ _ (and_from _ _ (le-leb (length params) most (omega (arith, p.few))) p.rises) p.each

-- ---- constructors

-- what is known behind the names that a constructor sends, from a slot on
record SendsKept (p : Palette) (t : Tally) (slot : ℕ) (sends : List Sent) (rest : List Role) (more : List Token) : Type 0 where
  marks : List (List ℕ)
  count : ℕ
  rises : rise_from slot (map (λ s. s.slot) sends) ≡ true
  few : t.sends + length sends ≤ most_in_ctor
  each : list_all (is_sent p) sends ≡ true
  small : t.size + length sends ≤ most_size
  within : AreWithin (record t { marks = marks; sends = count; size = t.size + length sends }) rest
  read : are_read more ≡ true

sends_kept : (features : List (List ℕ)) (t : Tally) (slot : ℕ) (ss : List Named) (rest : List Role) (more : List Token) → t.sends ≤ most_in_ctor → t.size ≤ most_size → AreWithin t (each_behind other_token roles_sent ss rest) → are_read (each_behind Comma spell_sent ss more) ≡ true → SendsKept (palette_over t.format features) t slot (numbered (value_sent features) slot ss) rest more
sends_kept features t slot [] rest more few small w r = record { marks = t.marks; count = t.sends; rises = refl; few = omega arith; each = refl; small = omega arith; within = subst (λ n. AreWithin (record t { size = n }) rest) (omega arith) w; read = r }
sends_kept features t slot (d ∷ ds) rest more few small (comma, w) r =
    let after : List Token = each_behind Comma spell_sent ds more in
    let m : MarksKept t d.marks (sent_name d.name ∷ each_behind other_token roles_sent ds rest) (Id d.name ∷ after) = marks_kept t d.marks (sent_name d.name ∷ each_behind other_token roles_sent ds rest) (Id d.name ∷ after) w r in
    let fits : CountFits d.name t.sends most_in_ctor t.size = count_fits d.name t.sends most_in_ctor t.size (Limit limit.Name) (Limit limit.Ctor) (Limit limit.Size) m.within.0 in
    let i : (is_identifier d.name ≡ true) × (are_read after ≡ true) = and_parts (is_identifier d.name) (are_read after) m.read in
    let u : Tally = record t { marks = []; sends = t.sends + 1; size = t.size + 1 } in
    let k : SendsKept (palette_over t.format features) u (slot + 1) (numbered (value_sent features) (slot + 1) ds) rest more = sends_kept features u (slot + 1) ds rest more (omega (arith, fits.few)) (omega (arith, fits.small)) m.within.1 i.1 in
    record {
      marks = k.marks;
      count = k.count;
      rises = and_from _ _ (le-leb slot slot (omega arith)) k.rises;
      few = omega (arith, k.few);
      each = and_from _ _ (and_from _ _ (colors_known t.format features d.marks m.allowed) (short d.name i.0 fits.length_fits)) k.each;
      small = omega (arith, k.small);
      within = subst (λ n. AreWithin (record t { marks = k.marks; sends = k.count; size = n }) rest) (omega arith) k.within;
      read = k.read;
    }

-- what is known behind the assignments of a constructor, from a slot on
record AssignsKept (p : Palette) (t : Tally) (slot : ℕ) (assigns : List Sent) (rest : List Role) (more : List Token) : Type 0 where
  marks : List (List ℕ)
  count : ℕ
  rises : rise_from slot (map (λ s. s.slot) assigns) ≡ true
  few : t.assigns + length assigns ≤ most_in_ctor
  each : list_all (is_sent p) assigns ≡ true
  small : t.size + length assigns ≤ most_size
  within : AreWithin (record t { marks = marks; assigns = count; size = t.size + length assigns }) rest
  read : are_read more ≡ true

assigns_kept : (features : List (List ℕ)) (t : Tally) (slot : ℕ) (ss : List Named) (rest : List Role) (more : List Token) → t.assigns ≤ most_in_ctor → t.size ≤ most_size → AreWithin t (in_order roles_assign ss rest) → are_read (in_order spell_assign ss more) ≡ true → AssignsKept (palette_over t.format features) t slot (numbered (value_sent features) slot ss) rest more
assigns_kept features t slot [] rest more few small w r = record { marks = t.marks; count = t.assigns; rises = refl; few = omega arith; each = refl; small = omega arith; within = subst (λ n. AreWithin (record t { size = n }) rest) (omega arith) w; read = r }
assigns_kept features t slot (d ∷ ds) rest more few small w r =
    let after : List Token = in_order spell_assign ds more in
    let m : MarksKept t d.marks (other_token ∷ (other_token ∷ (assigned_name d.name ∷ (other_token ∷ (used_name d.name ∷ (other_token ∷ in_order roles_assign ds rest)))))) (ThisWord ∷ (Dot ∷ (Id d.name ∷ (Equals ∷ (Id d.name ∷ (Semicolon ∷ after)))))) = marks_kept t d.marks (other_token ∷ (other_token ∷ (assigned_name d.name ∷ (other_token ∷ (used_name d.name ∷ (other_token ∷ in_order roles_assign ds rest)))))) (ThisWord ∷ (Dot ∷ (Id d.name ∷ (Equals ∷ (Id d.name ∷ (Semicolon ∷ after)))))) w r in
    let fits : CountFits d.name t.assigns most_in_ctor t.size = count_fits d.name t.assigns most_in_ctor t.size (Limit limit.Name) (Limit limit.Ctor) (Limit limit.Size) m.within.1.1.0 in
    let i : (is_identifier d.name ≡ true) × ((is_identifier d.name && are_read after) ≡ true) = and_parts (is_identifier d.name) (is_identifier d.name && are_read after) m.read in
    let u : Tally = record t { marks = []; assigns = t.assigns + 1; size = t.size + 1 } in
    let k : AssignsKept (palette_over t.format features) u (slot + 1) (numbered (value_sent features) (slot + 1) ds) rest more = assigns_kept features u (slot + 1) ds rest more (omega (arith, fits.few)) (omega (arith, fits.small)) m.within.1.1.1.1.1.1 (and_parts (is_identifier d.name) (are_read after) i.1).1 in
    record {
      marks = k.marks;
      count = k.count;
      rises = and_from _ _ (le-leb slot slot (omega arith)) k.rises;
      few = omega (arith, k.few);
      each = and_from _ _ (and_from _ _ (colors_known t.format features d.marks m.allowed) (short d.name i.0 fits.length_fits)) k.each;
      small = omega (arith, k.small);
      within = subst (λ n. AreWithin (record t { marks = k.marks; assigns = k.count; size = n }) rest) (omega arith) k.within;
      read = k.read;
    }

-- what follows the parameters, and what follows the names that are sent
abbrev tokens_behind_sends : ClassTree → List Token → List Token
tokens_behind_sends k more = CloseParen ∷ (Semicolon ∷ in_order spell_assign k.assigns (CloseBrace ∷ more))

abbrev tokens_behind_params : ClassTree → List Token → List Token
tokens_behind_params k more = CloseParen ∷ (OpenBrace ∷ (SuperWord ∷ (OpenParen ∷ separated Comma spell_sent k.sends (tokens_behind_sends k more))))

abbrev roles_behind_sends : ClassTree → List Role → List Role
roles_behind_sends k rest = other_token ∷ (other_token ∷ in_order roles_assign k.assigns (other_token ∷ rest))

abbrev roles_behind_params : ClassTree → List Role → List Role
roles_behind_params k rest = other_token ∷ (other_token ∷ (other_token ∷ (other_token ∷ separated other_token roles_sent k.sends (roles_behind_sends k rest))))

-- before a constructor
abbrev pub before_ctor : Tally → List (List ℕ) → ℕ → ℕ → Tally
before_ctor t marks fields size = record t { marks = marks; fields = fields; params = 0; sends = 0; assigns = 0; size = size }

-- how much a constructor adds to the size
abbrev pub ctor_size : Constructor → ℕ
ctor_size c = length c.params + (length c.sends + length c.assigns)

-- what is known behind a constructor
pub record CtorKept (p : Palette) (t : Tally) (fields size : ℕ) (c : Constructor) (rest : List Role) (more : List Token) : Type 0 where
  pub marks : List (List ℕ)
  pub params : ℕ
  pub param_names : List (List ℕ)
  pub sends : ℕ
  pub assigns : ℕ
  pub is : is_ctor p c ≡ true
  pub small : size + ctor_size c ≤ most_size
  pub within : AreWithin (record t { marks = marks; fields = fields; params = params; sends = sends; assigns = assigns; param_names = param_names; size = size + ctor_size c }) rest
  pub read : are_read more ≡ true

pub ctor_kept : (features : List (List ℕ)) (before : Tally) (marks : List (List ℕ)) (fields n : ℕ) (k : ClassTree) (rest : List Role) (more : List Token) → n ≤ most_size → AreWithin (before_ctor before marks fields n) (roles_ctor k rest) → are_read (spell_ctor k more) ≡ true → CtorKept (palette_over before.format features) before fields n (value_ctor features k) rest more
ctor_kept features before marks fields n k rest more small (used, (opened, w)) r =
    let t : Tally = before_ctor before [] fields n in
    let p : ParamsKept ctor_params (palette_over t.format features) t 0 (numbered (value_param features) 0 k.params) (roles_behind_params k rest) (tokens_behind_params k more) = params_kept ctor_params features t 0 k.params (roles_behind_params k rest) (tokens_behind_params k more) (omega arith) small (separated_within t (roles_declared param_name) k.params (roles_behind_params k rest) w) (separated_read spell_param k.params (tokens_behind_params k more) (and_parts (is_identifier k.name) _ r).1) in
    let u : Tally = record t { marks = p.marks; params = p.count; param_names = p.names; size = n + length (numbered (value_param features) 0 k.params) } in
    let s : SendsKept (palette_over t.format features) u 0 (numbered (value_sent features) 0 k.sends) (roles_behind_sends k rest) (tokens_behind_sends k more) = sends_kept features u 0 k.sends (roles_behind_sends k rest) (tokens_behind_sends k more) (omega arith) p.small (separated_within u roles_sent k.sends (roles_behind_sends k rest) p.within.1.1.1.1) (separated_read spell_sent k.sends (tokens_behind_sends k more) p.read) in
    let v : Tally = record u { marks = s.marks; sends = s.count; size = u.size + length (numbered (value_sent features) 0 k.sends) } in
    let a : AssignsKept (palette_over t.format features) v 0 (numbered (value_sent features) 0 k.assigns) (other_token ∷ rest) (CloseBrace ∷ more) = assigns_kept features v 0 k.assigns (other_token ∷ rest) (CloseBrace ∷ more) (omega arith) s.small s.within.1.1 s.read in
    record {
      marks = a.marks;
      params = p.count;
      param_names = p.names;
      sends = s.count;
      assigns = a.count;
      is = and_from _ _ (and_from _ _ (are_kept p) (and_from _ _ (and_from _ _ (le-leb (length (numbered (value_sent features) 0 k.sends)) most_in_ctor (omega (arith, s.few))) s.rises) s.each)) (and_from _ _ (and_from _ _ (le-leb (length (numbered (value_sent features) 0 k.assigns)) most_in_ctor (omega (arith, a.few))) a.rises) a.each);
      small = omega (arith, a.small);
      within = sized (record v { marks = a.marks; assigns = a.count }) (v.size + length (numbered (value_sent features) 0 k.assigns)) (n + ctor_size (value_ctor features k)) rest (omega arith) a.within.1;
      read = a.read;
    }

-- ---- methods

-- what follows a method's name, and what follows its parameters
abbrev tokens_behind_head : MethodTree → List Token → List Token
tokens_behind_head m more = CloseParen ∷ (OpenBrace ∷ (ReturnWord ∷ spell_expr m.body (Semicolon ∷ (CloseBrace ∷ more))))

abbrev tokens_behind_method_name : MethodTree → List Token → List Token
tokens_behind_method_name m more = OpenParen ∷ separated Comma spell_param m.params (tokens_behind_head m more)

abbrev roles_behind_head : MethodTree → List Role → List Role
roles_behind_head m rest = other_token ∷ (other_token ∷ (other_token ∷ roles_expr 0 m.body (other_token ∷ (other_token ∷ rest))))

abbrev roles_behind_method_name : MethodTree → List Role → List Role
roles_behind_method_name m rest = other_token ∷ separated other_token roles_method_param m.params (roles_behind_head m rest)

-- what is known behind a method
record MethodKept (p : Palette) (t : Tally) (m : Method) (rest : List Role) (more : List Token) : Type 0 where
  marks : List (List ℕ)
  params : ℕ
  param_names : List (List ℕ)
  nodes : ℕ
  few : t.methods < most_methods
  is : is_method p m ≡ true
  small : t.size + method_size m ≤ most_size
  within : AreWithin (record t { marks = marks; methods = t.methods + 1; params = params; param_names = param_names; nodes = nodes; size = t.size + method_size m }) rest
  read : are_read more ≡ true

method_is : (format : Format) (features : List (List ℕ)) (m : MethodTree) → are_allowed format m.marks ≡ true → is_short_identifier m.result ≡ true → is_short_identifier m.name ≡ true → are_params most_params (palette_over format features) (numbered (value_param features) 0 m.params) ≡ true → are_distinct (map (λ p. p.name) (numbered (value_param features) 0 m.params)) ≡ true → is_body (palette_over format features) (value_expr features 0 m.body).0 ≡ true → is_method (palette_over format features) (value_method features m) ≡ true
unfolding is_method
method_is format features m may a b c d e = and_from _ _ (and_from _ _ (and_from _ _ (and_from _ _ (and_from _ _ (colors_known format features m.marks may) a) b) c) d) e

method_kept : (features : List (List ℕ)) (t : Tally) (m : MethodTree) (rest : List Role) (more : List Token) → AreWithin t (roles_method m rest) → are_read (spell_method m more) ≡ true → MethodKept (palette_over t.format features) t (value_method features m) rest more
method_kept features t m rest more w r =
    let after : List Token = separated Comma spell_param m.params (tokens_behind_head m more) in
    let a : MarksKept t m.marks (used_name m.result ∷ (method_name m.name ∷ roles_behind_method_name m rest)) (Id m.result ∷ (Id m.name ∷ tokens_behind_method_name m more)) = marks_kept t m.marks (used_name m.result ∷ (method_name m.name ∷ roles_behind_method_name m rest)) (Id m.result ∷ (Id m.name ∷ tokens_behind_method_name m more)) w r in
    let fits : CountFits m.name t.methods most_methods t.size = count_fits m.name t.methods most_methods t.size (Limit limit.Name) (Limit limit.Methods) (Limit limit.Size) a.within.1.0 in
    let i : (is_identifier m.result ≡ true) × ((is_identifier m.name && are_read after) ≡ true) = and_parts (is_identifier m.result) (is_identifier m.name && are_read after) a.read in
    let j : (is_identifier m.name ≡ true) × (are_read after ≡ true) = and_parts (is_identifier m.name) (are_read after) i.1 in
    let u : Tally = record t { marks = []; methods = t.methods + 1; param_names = []; nodes = 0; size = t.size + 1 } in
    let ps : List Param = numbered (value_param features) 0 m.params in
    let p : ParamsKept method_params (palette_over t.format features) u 0 ps (roles_behind_head m rest) (tokens_behind_head m more) = params_kept method_params features u 0 m.params (roles_behind_head m rest) (tokens_behind_head m more) (omega arith) (omega (arith, fits.small)) (separated_within u (roles_declared method_param_name) m.params (roles_behind_head m rest) a.within.1.1.1) (separated_read spell_param m.params (tokens_behind_head m more) j.1) in
    let v : Tally = record u { marks = p.marks; params = p.count; param_names = p.names; size = t.size + 1 + length ps } in
    let b : IsKept features v m.body (other_token ∷ (other_token ∷ rest)) (Semicolon ∷ (CloseBrace ∷ more)) = body_kept features v m.body (other_token ∷ (other_token ∷ rest)) (Semicolon ∷ (CloseBrace ∷ more)) refl p.small p.within.1.1.1 p.read in
    let nodes : ℕ = node_count (value_expr features 0 m.body).0 in
    record {
      marks = b.marks;
      params = p.count;
      param_names = p.names;
      nodes = nodes;
      few = fits.few;
      is = method_is t.format features m a.allowed (used_short m.result t i.0 a.within.0) (short m.name j.0 fits.length_fits) (are_kept p) p.stand b.is;
      small = omega (arith, b.small);
      within = sized (record v { marks = b.marks; nodes = nodes }) (v.size + nodes) (t.size + method_size (value_method features m)) rest (omega arith) b.within.1.1;
      read = b.read;
    }

-- what is known behind the methods of a class
pub record MethodsKept (p : Palette) (t : Tally) (methods : List Method) (rest : List Role) (more : List Token) : Type 0 where
  pub marks : List (List ℕ)
  pub count : ℕ
  pub params : ℕ
  pub param_names : List (List ℕ)
  pub nodes : ℕ
  pub few : t.methods + length methods ≤ most_methods
  pub each : list_all (is_method p) methods ≡ true
  pub small : t.size + sum_by method_size methods ≤ most_size
  pub within : AreWithin (record t { marks = marks; methods = count; params = params; param_names = param_names; nodes = nodes; size = t.size + sum_by method_size methods }) rest
  pub read : are_read more ≡ true

pub methods_kept : (features : List (List ℕ)) (t : Tally) (ms : List MethodTree) (rest : List Role) (more : List Token) → t.methods ≤ most_methods → t.size ≤ most_size → AreWithin t (in_order roles_method ms rest) → are_read (in_order spell_method ms more) ≡ true → MethodsKept (palette_over t.format features) t (map (value_method features) ms) rest more
methods_kept features t [] rest more few small w r =
    record { marks = t.marks; count = t.methods; params = t.params; param_names = t.param_names; nodes = t.nodes; few = omega arith; each = refl; small = omega arith; within = subst (λ n. AreWithin (record t { size = n }) rest) (omega arith) w; read = r }
methods_kept features t (m ∷ ms) rest more few small w r =
    let x : Method = value_method features m in
    let k : MethodKept (palette_over t.format features) t x (in_order roles_method ms rest) (in_order spell_method ms more) = method_kept features t m (in_order roles_method ms rest) (in_order spell_method ms more) w r in
    let u : Tally = record t { marks = k.marks; methods = t.methods + 1; params = k.params; param_names = k.param_names; nodes = k.nodes; size = t.size + method_size x } in
    let all : MethodsKept (palette_over t.format features) u (map (value_method features) ms) rest more = methods_kept features u ms rest more (omega (arith, k.few)) k.small k.within k.read in
    let sum : sum_by method_size (map (value_method features) (m ∷ ms)) ≡ method_size x + sum_by method_size (map (value_method features) ms) = sum_by-cons method_size x (map (value_method features) ms) in
    record {
      marks = all.marks;
      count = all.count;
      params = all.params;
      param_names = all.param_names;
      nodes = all.nodes;
      few = omega (arith, all.few);
      each = and_from _ _ k.is all.each;
      small = omega (arith, all.small, sum);
      within = sized (record t { marks = all.marks; methods = all.count; params = all.params; param_names = all.param_names; nodes = all.nodes }) (u.size + sum_by method_size (map (value_method features) ms)) (t.size + sum_by method_size (map (value_method features) (m ∷ ms))) rest (omega (arith, sum)) all.within;
      read = all.read;
    }
