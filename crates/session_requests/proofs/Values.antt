-- What is found in an object.
use Rattle.std.proofs.Common.{◌≡◌, ℕ, List, Option, Some, None, option_and_then, option_map, MatchOption, Bor, Vec, Global, ◌<◌, ◌≤◌, ◌^◌, arith}
use Rattle.serde_json.specs.View.{items_view}
use Rattle.serde_json.specs.declared.value.Value.{Value}
use Rattle.serde_json.specs.Data.{unsigned, negative, float, Data, null, boolean, number, string, array, object, Items}
use Rattle.serde_json.specs.Find.{as_str, as_u64, as_number, as_array}

-- a string, or none
pub string_of : (o : Option Data) (r : Option (Bor (List ℕ))) → option_map (λ t. t.now) r ≡ option_and_then as_str o
    → MatchOption r ((text : List ℕ) → o ≡ Some (string text) → ⊥) (λ t. o ≡ Some (string t.now))
string_of None None e = λ text is. cc
string_of None (Some t) e = cc
string_of (Some (string s)) None e = cc
string_of (Some (string s)) (Some t) e = cc
string_of (Some null) None e = λ text is. cc
string_of (Some null) (Some t) e = cc
string_of (Some (boolean b)) None e = λ text is. cc
string_of (Some (boolean b)) (Some t) e = cc
string_of (Some (number n)) None e = λ text is. cc
string_of (Some (number n)) (Some t) e = cc
string_of (Some (array ds)) None e = λ text is. cc
string_of (Some (array ds)) (Some t) e = cc
string_of (Some (object ms)) None e = λ text is. cc
string_of (Some (object ms)) (Some t) e = cc

-- a number of 64 bits, or none
pub number_of : (o : Option Data) (r : Option ℕ) → r ≡ option_and_then as_u64 (option_and_then as_number o)
    → MatchOption r ((n : ℕ) → o ≡ Some (number (unsigned n)) → ⊥) (λ n. o ≡ Some (number (unsigned n)))
number_of None None e = λ n is. cc
number_of None (Some n) e = cc
number_of (Some (string s)) None e = λ n is. cc
number_of (Some (string s)) (Some n) e = cc
number_of (Some null) None e = λ n is. cc
number_of (Some null) (Some n) e = cc
number_of (Some (boolean b)) None e = λ n is. cc
number_of (Some (boolean b)) (Some n) e = cc
number_of (Some (number (unsigned m))) None e = cc
number_of (Some (number (unsigned m))) (Some n) e = cc
number_of (Some (number (negative m))) None e = λ n is. cc
number_of (Some (number (negative m))) (Some n) e = cc
number_of (Some (number (float m))) None e = λ n is. cc
number_of (Some (number (float m))) (Some n) e = cc
number_of (Some (array ds)) None e = λ n is. cc
number_of (Some (array ds)) (Some n) e = cc
number_of (Some (object ms)) None e = λ n is. cc
number_of (Some (object ms)) (Some n) e = cc

-- an array, or none
pub array_of : (o : Option Data) (r : Option (Bor (Vec Value Global))) → option_map (λ v. items_view v.now.items) r ≡ option_and_then as_array o
    → MatchOption r ((items : Items) → o ≡ Some (array items) → ⊥) (λ v. o ≡ Some (array (items_view v.now.items)))
array_of None None e = λ ds is. cc
array_of None (Some v) e = cc
array_of (Some (string s)) None e = λ ds is. cc
array_of (Some (string s)) (Some v) e = cc
array_of (Some null) None e = λ ds is. cc
array_of (Some null) (Some v) e = cc
array_of (Some (boolean b)) None e = λ ds is. cc
array_of (Some (boolean b)) (Some v) e = cc
array_of (Some (number n)) None e = λ ds is. cc
array_of (Some (number n)) (Some v) e = cc
array_of (Some (array es)) None e = cc
array_of (Some (array es)) (Some v) e = cc
array_of (Some (object ms)) None e = λ ds is. cc
array_of (Some (object ms)) (Some v) e = cc

-- no number of 32 bits: none of 64, or one that is too large
pub no_number : (o : Option Data) → ((n : ℕ) → o ≡ Some (number (unsigned n)) → ⊥) → ((n : ℕ) × (o ≡ Some (number (unsigned n))) × (n < 2 ^ 32)) → ⊥
no_number o none h = none h.0 h.1

pub too_large : (o : Option Data) (m : ℕ) → o ≡ Some (number (unsigned m)) → 2 ^ 32 ≤ m → ((n : ℕ) × (o ≡ Some (number (unsigned n))) × (n < 2 ^ 32)) → ⊥
too_large o m is large h =
    let same : m ≡ h.0 = cc (is, h.1) in
    absurd (omega (arith, same, h.2))

-- the string that data is, or none
pub text_of : (d : Data) (r : Option (Bor (List ℕ))) → option_map (λ t. t.now) r ≡ as_str d
    → MatchOption r ((text : List ℕ) → d ≡ string text → ⊥) (λ t. d ≡ string t.now)
text_of (string s) None e = cc
text_of (string s) (Some t) e = cc
text_of null None e = λ text is. cc
text_of null (Some t) e = cc
text_of (boolean b) None e = λ text is. cc
text_of (boolean b) (Some t) e = cc
text_of (number n) None e = λ text is. cc
text_of (number n) (Some t) e = cc
text_of (array ds) None e = λ text is. cc
text_of (array ds) (Some t) e = cc
text_of (object ms) None e = λ text is. cc
text_of (object ms) (Some t) e = cc
