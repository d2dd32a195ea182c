-- Gates within marks that hold for sure: those of the node that asks.
use Rattle.std.specs.Prelude.{◌≡◌, ℕ, ◌<◌, Bool, true, false, not, ◌&&◌, ◌||◌, if◌then◌else◌, ◌==◌, List, []}
use Rattle.std.specs.Prelude.{◌∷◌, length}
use Rattle.cfj_logic.specs.Selections.{Chosen, is_on}
use Rattle.cfj_logic.specs.Sides.{Sides}
use Rattle.cfj_model.specs.Coloring.{has_mark}
use Rattle.cfj_model.specs.Projection.{is_present}
use Rattle.cond_circuit.specs.Gates.{Gates, value}
use Rattle.guarded_seq.specs.Sequences.{present}
use Rattle.guarded_seq.specs.declared.guarded.Guarded.{Guarded}
use Rattle.guarded_types.specs.Along.{at_most_one, first, there}
use Rattle.guarded_types.specs.declared.marked.Marked.{Marked}

-- Where these marks hold, the gate has this value; elsewhere nothing is said.
pub record IsWithin (c : Gates) (w : Sides) (g : ℕ) (v : Chosen → Bool) : Type 0 where
  pub inside : g < length c.parts
  pub worth : (s : Chosen) → is_present s w ≡ true → value s c.parts g ≡ v s

-- a mark of this sign holds under a selection
abbrev pub mark_holds : Chosen → Bool → ℕ → Bool
mark_holds s off f = if off then not (is_on s f) else is_on s f

-- the marks of one feature hold
abbrev pub marks_hold_at : Chosen → Sides → ℕ → Bool
marks_hold_at s m f =
    (not (has_mark false f m) || mark_holds s false f) && (not (has_mark true f m) || mark_holds s true f)

-- Of items with marks, the first that is there remains of these guarded ones.
abbrev pub IsOfFirst : {T : Type 0} → Gates → Sides → List (Guarded T) → List (Marked T) → Type 0
IsOfFirst c w found items =
    (s : Chosen) → is_present s w ≡ true → present (value s c.parts) found ≡ at_most_one (first (there s items))

-- an item under a gate that isn't the one that is never true
abbrev pub pushed : {T : Type 0} → ℕ → T → List (Guarded T)
pushed g x = if g == 0 then [] else record { gate = g; item = x } ∷ []
