-- How many features have more selections than a budget.
use Rattle.std.proofs.Common.{◌≡◌, ℕ, ◌*◌, ◌%◌, ◌^◌, ◌<◌, ◌≤◌, nat_lt, ◌⊎◌, inl, inr, Bool, true, false, sym, ◌∙◌, arith}
use Rattle.std.proofs.Math.Nat.{pow-le-pow_right}
use Rattle.std.proofs.lemmas.Bool.{both_ways, cases_lt, ltb-false}
use Rattle.std.proofs.lemmas.Nat.{one_shl}
use Rattle.plain_judge.proofs.Concluded.{IsMost}

-- fifteen features have more than any budget allows
pub many_selections : (features budget : ℕ) → 15 ≤ features → budget ≤ 20000 → budget < 2 ^ features
many_selections features budget many few =
    let more : 2 ^ 15 ≤ 2 ^ features = pow-le-pow_right (omega arith) many in
    omega (arith, more)

-- so where the budget allows for all there are fewer
pub few_features : (features budget : ℕ) (limited : Bool) → limited ≡ nat_lt budget (2 ^ features) → limited ≡ false → budget ≤ 20000 → features < 15
few_features features budget limited is not_limited few = go (cases_lt features 15)
  where
    go : (features < 15) ⊎ (15 ≤ features) → features < 15
    go (inl lt) = lt
    go (inr many) =
        let less = many_selections features budget many few in
        let all = ltb-false budget (2 ^ features) (sym is ∙ not_limited) in
        absurd (omega (arith, less, all))

pub most_if_limited : (features budget most : ℕ) (limited : Bool) → limited ≡ nat_lt budget (2 ^ features) → limited ≡ true → most ≡ budget → IsMost features budget limited most
most_if_limited features budget most limited is was same = record { is_limited = is; where_limited = λ _. same; else_all = λ not. absurd (both_ways limited not was) }

pub most_if_not : (features budget most : ℕ) (limited : Bool) → limited ≡ nat_lt budget (2 ^ features) → limited ≡ false → budget ≤ 20000 → most ≡ 1 * 2 ^ features % 2 ^ 32 → IsMost features budget limited most
most_if_not features budget most limited is was few same =
    let less = few_features features budget limited is was few in
    record { is_limited = is; where_limited = λ yes. absurd (both_ways limited was yes); else_all = λ _. same ∙ one_shl features 32 (omega arith) }
