-- What refuses one more member.
use Rattle.std.proofs.Common.{◌≡◌, ℕ, ◌<◌, ◌≤◌, Bool, List, length, nat_lt, position, Some, slice_get, if◌then◌else◌, sym, ◌∙◌, ap, false}
use Rattle.std.specs.Option.{option_map_or}
use Rattle.std.proofs.lemmas.Bool.{le-ltb, lt-ltb}
use Rattle.cfj_model.specs.LookUps.{is_called}
use Rattle.cfj_model.specs.ProductLines.{ProductLine, most_fields, most_methods}
use Rattle.cfj_model.specs.declared.class.Class.{Class}
use Rattle.cfj_model.specs.declared.class.Field.{Field}
use Rattle.cfj_model.specs.declared.class.Method.{Method}
use Rattle.cfj_model.specs.declared.fault.LimitKind.TheVariants as limit
use Rattle.cfj_model.specs.declared.member.Member.TheVariants as member
use Rattle.edit_ops.specs.Changes.{size_refused}
use Rattle.edit_ops.specs.Members.{add_refused, member_added}
use Rattle.edit_ops.specs.Named.{is_class}
use Rattle.edit_ops.specs.declared.refused.EditRefused.TheVariants.{Limit}
use Rattle.edit_ops.proofs.Places.{found_at}

module _ (line : ProductLine) (c : List ℕ) (place : ℕ) (k : Class) (first : position (is_called c) line.classes ≡ Some place) (at : slice_get line.classes place ≡ Some k) where
  -- what is asked of the class of this name is asked of the class at its place
  asked : (test : Class → Bool) → is_class line.classes c test ≡ test k
  asked test = ap (λ o. option_map_or test o false) (sym (found_at (is_called c) line.classes place k first at))

  pub field_room : (d : Field) → length k.fields < most_fields → add_refused c (member.Field d) line ≡ size_refused (member_added c (member.Field d) line)
  field_room d room =
      ap (λ b. if b then size_refused (member_added c (member.Field d) line) else Some (Limit limit.Fields))
      (asked (λ x. nat_lt (length x.fields) most_fields) ∙ lt-ltb (length k.fields) most_fields room)

  pub field_full : (d : Field) → most_fields ≤ length k.fields → add_refused c (member.Field d) line ≡ Some (Limit limit.Fields)
  field_full d full =
      ap (λ b. if b then size_refused (member_added c (member.Field d) line) else Some (Limit limit.Fields))
      (asked (λ x. nat_lt (length x.fields) most_fields) ∙ le-ltb (length k.fields) most_fields full)

  pub method_room : (m : Method) → length k.methods < most_methods → add_refused c (member.Method m) line ≡ size_refused (member_added c (member.Method m) line)
  method_room m room =
      ap (λ b. if b then size_refused (member_added c (member.Method m) line) else Some (Limit limit.Methods))
      (asked (λ x. nat_lt (length x.methods) most_methods) ∙ lt-ltb (length k.methods) most_methods room)

  pub method_full : (m : Method) → most_methods ≤ length k.methods → add_refused c (member.Method m) line ≡ Some (Limit limit.Methods)
  method_full m full =
      ap (λ b. if b then size_refused (member_added c (member.Method m) line) else Some (Limit limit.Methods))
      (asked (λ x. nat_lt (length x.methods) most_methods) ∙ le-ltb (length k.methods) most_methods full)
