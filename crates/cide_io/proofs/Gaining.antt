-- What a sink gains that is given nothing, or a text that is told in another way.
use Rattle.std.proofs.Common.{◌≡◌, ℕ, List, [], Some, None, Result, Ok, refl, sym, ap, subst, append-nil, arith}
use Rattle.cide_io.specs.declared.faults.Failed.{Failed}
use Rattle.cide_io.specs.declared.sinks.Sink as sink
use Rattle.cide_io.specs.Changes.{Gains, IsGiven}
use Rattle.cide_io.specs.Known.{Known, appended}

appended-nil : (known : Known) → known ≡ appended known []
appended-nil None = refl
appended-nil (Some bytes) = ap Some (sym (append-nil bytes))

pub gains_nothing : {K : Type 0} (k : sink.Ghosts K) (s : K) → Gains k s s [] (Ok tt)
gains_nothing k s = record { added = appended-nil (k.held s); named = refl; cause = record { later = omega arith; cause = tt } }

pub given_nothing : {K : Type 0} (k : sink.Ghosts K) (s : K) → IsGiven k s s []
given_nothing k s = (Ok tt, gains_nothing k s)

pub gains_as : {K : Type 0} (k : sink.Ghosts K) (old new : K) (text whole : List ℕ) (result : Result Unit Failed) → text ≡ whole → Gains k old new text result → Gains k old new whole result
gains_as k old new text whole result e h = subst (λ (t : List ℕ). Gains k old new t result) e h
