-- Which ASCII characters begin a word, and which go on one.
use Rattle.std.proofs.Common.{◌≡◌, ℕ, ◌<◌, ◌==◌, ◌||◌, ap}
use Rattle.std.specs.Char.{is_ascii_alphabetic, is_ascii_alphanumeric}
use Rattle.unicode_ident.proofs.IdentLemmas.{is_xid_start-ascii, is_xid_continue-ascii}
use Rattle.cfj_words.specs.Names.{starts_word, continues_word}

pub starts_ascii : (c : ℕ) → c < 128 → starts_word c ≡ (is_ascii_alphabetic c || c == 95 || c == 36)
starts_ascii c lt = ap (λ b. b || c == 95 || c == 36) (is_xid_start-ascii c lt)

pub continues_ascii : (c : ℕ) → c < 128 → continues_word c ≡ (is_ascii_alphanumeric c || c == 95 || c == 36)
continues_ascii c lt = ap (λ b. b || c == 36) (is_xid_continue-ascii c lt)
