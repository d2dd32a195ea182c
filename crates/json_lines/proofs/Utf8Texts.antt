-- The canonical text of data with UTF-8 texts is UTF-8.
use Rattle.std.proofs.Common.{ℕ, List, [], ◌∷◌, ◌++◌, Bool, true, false, IsUtf8, refl}
use Rattle.std.proofs.lemmas.Fmt.{IsAscii-decimal}
use Rattle.std.proofs.lemmas.Str.{IsUtf8-append, IsUtf8-nil, IsUtf8-from_ascii}
use Rattle.json.proofs.Printed.Utf8.{IsUtf8-are_ascii, IsUtf8-quoted, IsUtf8-boolean}
use Rattle.json.specs.Print.{quoted}
use Rattle.serde_json.specs.Data.{Num, unsigned, negative, float, Data, null, boolean, number, string, array, object, Items, no_items, item, Members, no_members, member}
use Rattle.serde_json.specs.Written.{comma_if, compact_text, items_text, members_text, number_text}
use Rattle.json_lines.specs.Canonical.{IsNatural, IsCanonical, AreItemsCanonical, AreMembersCanonical, HasUtf8Texts, HaveUtf8Texts, MembersHaveUtf8Texts}

IsUtf8-comma_if : (b : Bool) → IsUtf8 (comma_if b)
IsUtf8-comma_if true = IsUtf8-are_ascii (44 ∷ []) refl
IsUtf8-comma_if false = IsUtf8-nil

-- one ASCII byte in front
after_mark : (mark rest : List ℕ) → IsUtf8 mark → IsUtf8 rest → IsUtf8 (mark ++ rest)
after_mark mark rest m r = IsUtf8-append mark rest m r

IsUtf8-number_text : (n : Num) → IsNatural n → IsUtf8 (number_text n)
IsUtf8-number_text (unsigned n) h = IsUtf8-from_ascii _ (IsAscii-decimal n h)
IsUtf8-number_text (negative z) h = absurd h
IsUtf8-number_text (float x) h = absurd h

mutual
  pub IsUtf8-compact_text : (d : Data) → IsCanonical d → HasUtf8Texts d → IsUtf8 (compact_text d)
  IsUtf8-compact_text null h u = IsUtf8-are_ascii _ refl
  IsUtf8-compact_text (boolean b) h u = IsUtf8-boolean b
  IsUtf8-compact_text (number n) h u = IsUtf8-number_text n h
  IsUtf8-compact_text (string s) h u = IsUtf8-quoted s u
  IsUtf8-compact_text (array ds) h u = after_mark (91 ∷ []) (items_text false ds) (IsUtf8-are_ascii _ refl) (IsUtf8-items_text false ds h u)
  IsUtf8-compact_text (object ms) h u = after_mark (123 ∷ []) (members_text false ms) (IsUtf8-are_ascii _ refl) (IsUtf8-members_text false ms h.1 u)

  IsUtf8-items_text : (later : Bool) (ds : Items) → AreItemsCanonical ds → HaveUtf8Texts ds → IsUtf8 (items_text later ds)
  IsUtf8-items_text later no_items h u = IsUtf8-are_ascii _ refl
  IsUtf8-items_text later (item d ds) h u =
      after_mark (comma_if later) (compact_text d ++ items_text true ds) (IsUtf8-comma_if later)
      (after_mark (compact_text d) (items_text true ds) (IsUtf8-compact_text d h.0 u.0) (IsUtf8-items_text true ds h.1 u.1))

  IsUtf8-members_text : (later : Bool) (ms : Members) → AreMembersCanonical ms → MembersHaveUtf8Texts ms → IsUtf8 (members_text later ms)
  IsUtf8-members_text later no_members h u = IsUtf8-are_ascii _ refl
  IsUtf8-members_text later (member k d ms) h u =
      let value = after_mark (compact_text d) (members_text true ms) (IsUtf8-compact_text d h.0 u.1) (IsUtf8-members_text true ms h.1 u.2) in
      after_mark (comma_if later) (quoted k ++ 58 ∷ (compact_text d ++ members_text true ms)) (IsUtf8-comma_if later)
      (after_mark (quoted k) (58 ∷ (compact_text d ++ members_text true ms)) (IsUtf8-quoted k u.0)
      (after_mark (58 ∷ []) (compact_text d ++ members_text true ms) (IsUtf8-are_ascii _ refl) value))
