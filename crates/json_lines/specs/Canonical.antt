-- Which data a service writes.
use Rattle.std.specs.Prelude.{◌≡◌, ℕ, ◌^◌, ◌<◌, List, IsUtf8}
use Rattle.std.specs.Ordering.{nat_cmp}
use Rattle.std.specs.declared.cmp.Ordering.TheVariants.{Less}
use Rattle.std.specs.Cmp.Lexicographic.{slice_cmp}
use Rattle.serde_json.specs.Data.{Num, unsigned, negative, float, Data, null, boolean, number, string, array, object}
use Rattle.serde_json.specs.Data.{Items, no_items, item, Members, no_members, member}

-- a natural number of 64 bits
abbrev pub IsNatural : Num → Type 0
IsNatural (unsigned n) = n < 2 ^ 64
IsNatural (negative z) = ⊥
IsNatural (float x) = ⊥

-- The key comes before the first of the members, in byte order.
abbrev pub IsBefore : List ℕ → Members → Type 0
IsBefore key no_members = Unit {0}
IsBefore key (member next d rest) = slice_cmp nat_cmp key next ≡ Less

-- The keys rise in byte order, so that each stands there once.
abbrev pub AreInOrder : Members → Type 0
AreInOrder no_members = Unit {0}
AreInOrder (member key d rest) = IsBefore key rest × AreInOrder rest

-- Each number is a natural one of 64 bits, and the keys of each object rise in byte order.
abbrev mutual
  pub IsCanonical : Data → Type 0
  IsCanonical null = Unit {0}
  IsCanonical (boolean b) = Unit {0}
  IsCanonical (number n) = IsNatural n
  IsCanonical (string text) = Unit {0}
  IsCanonical (array items) = AreItemsCanonical items
  IsCanonical (object members) = AreInOrder members × AreMembersCanonical members

  pub AreItemsCanonical : Items → Type 0
  AreItemsCanonical no_items = Unit {0}
  AreItemsCanonical (item d rest) = IsCanonical d × AreItemsCanonical rest

  pub AreMembersCanonical : Members → Type 0
  AreMembersCanonical no_members = Unit {0}
  AreMembersCanonical (member key d rest) = IsCanonical d × AreMembersCanonical rest

-- The texts and keys are UTF-8, as each `String` is.
abbrev mutual
  pub HasUtf8Texts : Data → Type 0
  HasUtf8Texts null = Unit {0}
  HasUtf8Texts (boolean b) = Unit {0}
  HasUtf8Texts (number n) = Unit {0}
  HasUtf8Texts (string text) = IsUtf8 text
  HasUtf8Texts (array items) = HaveUtf8Texts items
  HasUtf8Texts (object members) = MembersHaveUtf8Texts members

  pub HaveUtf8Texts : Items → Type 0
  HaveUtf8Texts no_items = Unit {0}
  HaveUtf8Texts (item d rest) = HasUtf8Texts d × HaveUtf8Texts rest

  pub MembersHaveUtf8Texts : Members → Type 0
  MembersHaveUtf8Texts no_members = Unit {0}
  MembersHaveUtf8Texts (member key d rest) = IsUtf8 key × HasUtf8Texts d × MembersHaveUtf8Texts rest
