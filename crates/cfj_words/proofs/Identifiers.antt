-- Words that are identifiers, by their characters.
use lib.Utf8.{encode}
use Rattle.std.proofs.Common.{◌≡◌, ℕ, true, false, not, List, refl, sym, ap, subst, lit<, encode_utf8_all, codes}
use Rattle.std.specs.Str.{chars, is_utf8, all_scalars}
use Rattle.unicode_ident.proofs.IdentLemmas.{is_xid_start-ascii, is_xid_continue-ascii}
use Rattle.std.proofs.lemmas.Bool.{and_from}
use Rattle.std.proofs.lemmas.Str.{chars-encodes, is_utf8-from_IsUtf8}
use Rattle.cfj_words.specs.Names.{is_word, is_identifier, is_reserved}

-- `features` is an identifier
pub features_is_identifier : is_identifier (codes "features") ≡ true
unfolding is_identifier is_reserved is_utf8 chars encode
features_is_identifier =
    rw (is_xid_start-ascii 102 (lit< tt), is_xid_continue-ascii 101 (lit< tt), is_xid_continue-ascii 97 (lit< tt), is_xid_continue-ascii 116 (lit< tt), is_xid_continue-ascii 117 (lit< tt), is_xid_continue-ascii 114 (lit< tt), is_xid_continue-ascii 115 (lit< tt)) refl

-- and so is `constraint`
pub constraint_is_identifier : is_identifier (codes "constraint") ≡ true
unfolding is_identifier is_reserved is_utf8 chars encode
constraint_is_identifier =
    rw (is_xid_start-ascii 99 (lit< tt), is_xid_continue-ascii 111 (lit< tt), is_xid_continue-ascii 110 (lit< tt), is_xid_continue-ascii 115 (lit< tt), is_xid_continue-ascii 116 (lit< tt), is_xid_continue-ascii 114 (lit< tt), is_xid_continue-ascii 97 (lit< tt), is_xid_continue-ascii 105 (lit< tt)) refl

-- and `format2`
pub format_is_identifier : is_identifier (codes "format2") ≡ true
unfolding is_identifier is_reserved is_utf8 chars encode
format_is_identifier =
    rw (
      is_xid_start-ascii 102 (lit< tt),
      is_xid_continue-ascii 111 (lit< tt),
      is_xid_continue-ascii 114 (lit< tt),
      is_xid_continue-ascii 109 (lit< tt),
      is_xid_continue-ascii 97 (lit< tt),
      is_xid_continue-ascii 116 (lit< tt),
      is_xid_continue-ascii 50 (lit< tt),
    ) refl

-- and each word that isn't reserved
pub word_is_identifier : (cs : List ℕ) → all_scalars cs ≡ true → is_word cs ≡ true → is_reserved (encode_utf8_all cs) ≡ false → is_identifier (encode_utf8_all cs) ≡ true
unfolding is_identifier
word_is_identifier cs h w free =
    and_from _ _ (and_from _ _ (is_utf8-from_IsUtf8 (encode_utf8_all cs) (cs, (h, refl))) (subst (λ x. is_word x ≡ true) (sym (chars-encodes cs h)) w)) (ap not free)
