-- What the parser's own types stand for.
use Rattle.std.specs.Prelude.{◌≡◌, ℕ, ◌+◌, Bool, true, false, nat_le, List, [], ◌∷◌, Option, None, is_some}
use Rattle.cfj_model.specs.declared.fault.FaultKind.{FaultKind}
use Rattle.cfj_model.specs.declared.fault.FaultKind.TheVariants.{Limit}
use Rattle.cfj_model.specs.declared.fault.LimitKind.TheVariants as limit
use Rattle.cfj_model.specs.ProductLines.{most_in_ctor}
use Rattle.cfj_model.specs.Roles as role
use Rattle.fj_tally.specs.declared.tally.Tally.{Tally}

abbrev pub tally_seen : Tally → role.Tally
tally_seen t =
    record {
      format = t.format;
      features = t.features;
      formula_nodes = t.formula_nodes;
      marks = t.marks;
      classes = t.classes;
      fields = t.fields;
      methods = t.methods;
      params = t.params;
      sends = t.sends;
      assigns = t.assigns;
      param_names = t.param_names;
      nodes = t.nodes;
      size = t.size;
    }

-- the tests of a name in a list of a constructor that has so many before it
abbrev pub broken_in_list : role.Tally → ℕ → List ℕ → Option FaultKind
broken_in_list t before w = role.first_of ((role.is_long w, Limit limit.Name) ∷ (nat_le most_in_ctor before, Limit limit.Ctor) ∷ role.past_size t ∷ [])

-- one more declaration, sent name, assignment or node
abbrev pub with_declaration : role.Tally → role.Tally
with_declaration t = record t { marks = []; size = t.size + 1 }

-- A token in this role is counted, or it breaks a rule or a limit and nothing changes.
abbrev pub Admits : role.Tally → role.Role → role.Tally → Bool → Type 0
Admits t r u true = (role.broken_by t r ≡ None) × (u ≡ role.counted t r)
Admits t r u false = (is_some (role.broken_by t r) ≡ true) × (u ≡ t)
