-- A tree of a part whose tokens break nothing stands for what a project's type keeps of the part.
use Rattle.std.proofs.Common.{◌≡◌, ℕ, true, ◌&&◌, List, [], ◌∷◌, arith}
use Rattle.std.proofs.lemmas.Bool.{and_parts, and_from}
use Rattle.cfj_model.specs.declared.fault.FaultKind.TheVariants.{Limit}
use Rattle.cfj_model.specs.declared.fault.LimitKind.TheVariants as limit
use Rattle.cfj_model.specs.Grammar.{Declared, MethodTree, spell, spell_ctor, spell_field, spell_method, value, value_ctor, value_field, value_method}
use Rattle.cfj_model.specs.ProductLines.{IsProject, is_ctor, is_field, is_method, most_methods}
use Rattle.cfj_model.specs.Roles.{Tally, method_name, nothing, other_token, used_name, AreWithin}
use Rattle.cfj_model.specs.TreeRoles.{roles, roles_ctor, roles_field, roles_method}
use Rattle.cfj_words.specs.Names.{is_identifier}
use Rattle.cfj_words.specs.Tokens.{Id, Semicolon}
use Rattle.fj_symbols.specs.Views.{are_read}
use Rattle.cfj_model.specs.Languages.{with_features}
use Rattle.cfj_model.specs.PartLanguages.{CtorTree, MemberTree, ModelTree, a_field, a_method, in_class, roles_member, spell_member, value_member, without_classes}
use Rattle.cfj_model.specs.Parts.{IsModel, is_member}
use Rattle.fj_parser.proofs.Kept.{kept}
use Rattle.fj_parser.proofs.KeptMembers.{fields_kept, ctor_kept, methods_kept}
use Rattle.cfj_model.specs.declared.feature_model.Format.{Format}
use Rattle.expression_reader.proofs.KnownColors.{palette_over, colors_known, MarksKept, marks_kept}
use Rattle.fj_parser.proofs.KeptNames.{CountFits, count_fits, short, used_short}

-- a feature model, which is a project without classes
pub kept_model : (m : ModelTree) → AreWithin nothing (roles (without_classes m) []) → are_read (spell (without_classes m) []) ≡ true → IsModel (value (without_classes m)).model
kept_model m w r =
    let p : IsProject (value (without_classes m)) = kept (without_classes m) w r in
    record {
      few_features = p.few_features;
      features_named = p.features_named;
      features_distinct = p.features_distinct;
      few_formula_nodes = p.few_formula_nodes;
      each_constraint = p.each_constraint;
    }

module _ (format : Format) (features : List (List ℕ)) where
  -- a constructor, whatever its class
  pub kept_ctor : (class : List ℕ) (c : CtorTree) → AreWithin (with_features format features) (roles_ctor (in_class class c) []) → are_read (spell_ctor (in_class class c) []) ≡ true → is_ctor (palette_over format features) (value_ctor features (in_class class c)) ≡ true
  kept_ctor class c w r = (ctor_kept features (with_features format features) [] 0 0 (in_class class c) [] [] (omega arith) w r).is

  -- a field
  pub kept_field : (d : Declared) → AreWithin (with_features format features) (roles_field d []) → are_read (spell_field d []) ≡ true → is_field (palette_over format features) (value_field features d) ≡ true
  kept_field d w r = (and_parts (is_field (palette_over format features) (value_field features d)) true (fields_kept features (with_features format features) (d ∷ []) [] [] (omega arith) (omega arith) w r).each).0

  -- a method
  pub kept_method : (m : MethodTree) → AreWithin (with_features format features) (roles_method m []) → are_read (spell_method m []) ≡ true → is_method (palette_over format features) (value_method features m) ≡ true
  kept_method m w r = (and_parts (is_method (palette_over format features) (value_method features m)) true (methods_kept features (with_features format features) (m ∷ []) [] [] (omega arith) (omega arith) w r).each).0

  -- a field whose name's role is a method's, as long as nothing tells which it is
  either_field : (d : Declared) → AreWithin (with_features format features) (roles_member (a_field d) []) → are_read (spell_field d []) ≡ true → is_field (palette_over format features) (value_field features d) ≡ true
  either_field d w r =
      let t : Tally = with_features format features in
      let m : MarksKept t d.marks (used_name d.of ∷ (method_name d.name ∷ (other_token ∷ []))) (Id d.of ∷ (Id d.name ∷ (Semicolon ∷ []))) = marks_kept t d.marks (used_name d.of ∷ (method_name d.name ∷ (other_token ∷ []))) (Id d.of ∷ (Id d.name ∷ (Semicolon ∷ []))) w r in
      let fits : CountFits d.name 0 most_methods 0 = count_fits d.name 0 most_methods 0 (Limit limit.Name) (Limit limit.Methods) (Limit limit.Size) m.within.1.0 in
      let i = and_parts (is_identifier d.of) (is_identifier d.name && true) m.read in
      let j = and_parts (is_identifier d.name) true i.1 in
      and_from _ _ (and_from _ _ (colors_known format features d.marks m.allowed) (used_short d.of t i.0 m.within.0)) (short d.name j.0 fits.length_fits)

  -- a field or a method
  pub kept_member : (x : MemberTree) → AreWithin (with_features format features) (roles_member x []) → are_read (spell_member x []) ≡ true → is_member (palette_over format features) (value_member features x) ≡ true
  kept_member (a_field d) w r = either_field d w r
  kept_member (a_method m) w r = kept_method m w r
