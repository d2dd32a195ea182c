-- What a call has written, as an equal text.
use Rattle.std.proofs.Common.{◌≡◌, ◌++◌, List, ℕ, Result, OnOk, subst}

pub written_as : {A E : Type 0} (r : Result A E) (new old : List ℕ) {text other : List ℕ} → text ≡ other → OnOk r (new ≡ old ++ text) → OnOk r (new ≡ old ++ other)
written_as r new old same h = subst (λ t. OnOk r (new ≡ old ++ t)) same h
