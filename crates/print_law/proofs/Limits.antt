-- Tokens that break no rule and no limit.
use Rattle.std.proofs.Common.{◌≡◌, ℕ, ◌<◌, ◌≤◌, true, false, nat_le, List, length, None, refl}
use Rattle.std.specs.Str.{bytes_eq}
use Rattle.std.proofs.lemmas.Bool.{and_parts, lt-leb, le-ltb, leb-true}
use Rattle.cfj_words.specs.Names.{is_among, is_identifier, is_short_identifier, most_name_bytes}
use Rattle.cfj_model.specs.ProductLines.{object, most_features, most_classes, most_fields, most_methods, most_params, most_in_ctor, most_nest, most_nodes, most_size, most_formula_nodes}
use Rattle.cfj_model.specs.Coloring.{is_two}
use Rattle.cfj_model.specs.Roles.{feature_name, class_name, field_name, method_name, param_name, method_param_name, sent_name, assigned_name, formula_name, formula_node, formula_opens, opens, casts, node, used_name, var_name, mark_name, sign, Tally, is_long, broken_by}

-- a short identifier isn't too long
pub not_long : (w : List ℕ) → is_short_identifier w ≡ true → is_long w ≡ false
not_long w h = le-ltb most_name_bytes (length w) (leb-true (length w) most_name_bytes (and_parts (is_identifier w) (nat_le (length w) most_name_bytes) h).1)

-- nothing else is asked of a name that is used
pub used_ok : (t : Tally) (w : List ℕ) → is_short_identifier w ≡ true → broken_by t (used_name w) ≡ None
used_ok t w h = rw (not_long w h) refl

pub mark_ok : (t : Tally) (w : List ℕ) → is_short_identifier w ≡ true → is_among t.features w ≡ true → is_among t.marks w ≡ false → broken_by t (mark_name w) ≡ None
mark_ok t w h f m = rw (not_long w h, f, m) refl

-- the `!` of a mark
pub sign_ok : (t : Tally) → is_two t.format ≡ true → broken_by t sign ≡ None
sign_ok t two = rw two refl

pub formula_name_ok : (t : Tally) (w : List ℕ) → is_short_identifier w ≡ true → is_among t.features w ≡ true → t.formula_nodes < most_formula_nodes → broken_by t (formula_name w) ≡ None
formula_name_ok t w h f lt = rw (not_long w h, f, lt-leb most_formula_nodes t.formula_nodes lt) refl

pub formula_node_ok : (t : Tally) → t.formula_nodes < most_formula_nodes → broken_by t formula_node ≡ None
formula_node_ok t lt = rw (lt-leb most_formula_nodes t.formula_nodes lt) refl

pub formula_opens_ok : (t : Tally) (n : ℕ) → t.formula_nodes < most_formula_nodes → n ≤ most_nest → broken_by t (formula_opens n) ≡ None
formula_opens_ok t n lt le = rw (lt-leb most_formula_nodes t.formula_nodes lt, le-ltb most_nest n le) refl

pub opens_ok : (t : Tally) (n : ℕ) → n ≤ most_nest → broken_by t (opens n) ≡ None
opens_ok t n le = rw (le-ltb most_nest n le) refl

pub casts_ok : (t : Tally) (n : ℕ) → n ≤ most_nest → t.nodes < most_nodes → t.size < most_size → broken_by t (casts n) ≡ None
casts_ok t n le few fits = rw (le-ltb most_nest n le, lt-leb most_nodes t.nodes few, lt-leb most_size t.size fits) refl

pub node_ok : (t : Tally) → t.nodes < most_nodes → t.size < most_size → broken_by t node ≡ None
node_ok t few fits = rw (lt-leb most_nodes t.nodes few, lt-leb most_size t.size fits) refl

pub var_ok : (t : Tally) (w : List ℕ) → is_short_identifier w ≡ true → t.nodes < most_nodes → t.size < most_size → broken_by t (var_name w) ≡ None
var_ok t w h few fits = rw (not_long w h, lt-leb most_nodes t.nodes few, lt-leb most_size t.size fits) refl

-- ---- names that are declared

pub feature_ok : (t : Tally) (w : List ℕ) → is_short_identifier w ≡ true → is_among t.features w ≡ false → length t.features < most_features → broken_by t (feature_name w) ≡ None
feature_ok t w h n lt = rw (not_long w h, n, lt-leb most_features (length t.features) lt) refl

pub class_ok : (t : Tally) (w : List ℕ) → is_short_identifier w ≡ true → bytes_eq w object ≡ false → is_among t.classes w ≡ false → length t.classes < most_classes → t.size < most_size → broken_by t (class_name w) ≡ None
class_ok t w h o n lt fits = rw (o, not_long w h, n, lt-leb most_classes (length t.classes) lt, lt-leb most_size t.size fits) refl

pub field_ok : (t : Tally) (w : List ℕ) → is_short_identifier w ≡ true → t.fields < most_fields → t.size < most_size → broken_by t (field_name w) ≡ None
field_ok t w h lt fits = rw (not_long w h, lt-leb most_fields t.fields lt, lt-leb most_size t.size fits) refl

pub method_ok : (t : Tally) (w : List ℕ) → is_short_identifier w ≡ true → t.methods < most_methods → t.size < most_size → broken_by t (method_name w) ≡ None
method_ok t w h lt fits = rw (not_long w h, lt-leb most_methods t.methods lt, lt-leb most_size t.size fits) refl

pub param_ok : (t : Tally) (w : List ℕ) → is_short_identifier w ≡ true → t.params < most_in_ctor → t.size < most_size → broken_by t (param_name w) ≡ None
param_ok t w h lt fits = rw (not_long w h, lt-leb most_in_ctor t.params lt, lt-leb most_size t.size fits) refl

pub method_param_ok : (t : Tally) (w : List ℕ) → is_short_identifier w ≡ true → is_among t.param_names w ≡ false → length t.param_names < most_params → t.size < most_size → broken_by t (method_param_name w) ≡ None
method_param_ok t w h n lt fits = rw (not_long w h, n, lt-leb most_params (length t.param_names) lt, lt-leb most_size t.size fits) refl

pub sent_ok : (t : Tally) (w : List ℕ) → is_short_identifier w ≡ true → t.sends < most_in_ctor → t.size < most_size → broken_by t (sent_name w) ≡ None
sent_ok t w h lt fits = rw (not_long w h, lt-leb most_in_ctor t.sends lt, lt-leb most_size t.size fits) refl

pub assigned_ok : (t : Tally) (w : List ℕ) → is_short_identifier w ≡ true → t.assigns < most_in_ctor → t.size < most_size → broken_by t (assigned_name w) ≡ None
assigned_ok t w h lt fits = rw (not_long w h, lt-leb most_in_ctor t.assigns lt, lt-leb most_size t.size fits) refl
