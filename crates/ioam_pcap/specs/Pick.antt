-- The next of several captures: the first with the least time.
use Rattle.std.specs.Prelude.{◌≡◌, ℕ, ◌≤◌, ◌<◌, List, Option, Some, None, slice_get}

-- no place below a number has a time
abbrev pub IsTimeless : ℕ → List (Option ℕ) → Type 0
IsTimeless n times = (k time : ℕ) → k < n → slice_get times k ≡ Some (Some time) → ⊥

-- of the places below a number this one has this time, none has less, and none in front as little
abbrev pub IsLeast : ℕ → List (Option ℕ) → ℕ → ℕ → Type 0
IsLeast n times place least = (place < n) × (slice_get times place ≡ Some (Some least))
    × ((k time : ℕ) → k < n → slice_get times k ≡ Some (Some time) → (least ≤ time) × (k < place → least < time))

-- the best of the places below a number, with its time
abbrev pub IsBest : ℕ → List (Option ℕ) → Option (ℕ × ℕ) → Type 0
IsBest n times None = IsTimeless n times
IsBest n times (Some best) = IsLeast n times best.0 best.1
