-- Laws of the generated arrivals.
use Rattle.std.proofs.Common.{◌≡◌, ℕ, suc, ◌+◌, [], ◌∷◌, ◌++◌, ap, arith}
use Rattle.ioam_run_bulk.specs.Generated.{arrival, arrivals, next_state, state_at}

pub arrivals-next : (seed k : ℕ) → arrivals seed (k + 1) ≡ arrivals seed k ++ arrival seed k ∷ []
arrivals-next seed k = let next : k + 1 ≡ suc k = omega arith in ap (λ (n : ℕ). arrivals seed n) next

pub state-next : (seed k : ℕ) → state_at seed (k + 1) ≡ next_state (state_at seed k)
state-next seed k = let next : k + 1 ≡ suc k = omega arith in ap (λ (n : ℕ). state_at seed n) next
