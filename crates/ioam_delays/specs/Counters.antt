-- What counted delays say.
use Rattle.std.specs.Prelude.{◌≡◌, ℕ, ◌+◌, ◌-◌, ◌*◌, ◌/◌, ◌<◌, ◌≤◌, ◌^◌, ℤ, pos, neg_ℤ, ◌+ℤ◌, ◌-ℤ◌, ◌≤ℤ◌, int_lt, int_le, nat_le, nat_lt, if◌then◌else◌, unsigned_abs, List, [], ◌∷◌, length, slice_index}
use Rattle.std.specs.List.{All, Contains, count_by, fold}
use Rattle.std.specs.Int.{int_max, int_min, w64}
use Rattle.std.specs.Int.RustNames.{FitsSigned}
use Rattle.ioam_delays.specs.Buckets.{high, is_within, low}
use Rattle.ioam_delays.specs.declared.counter.Counter.{Counter}

-- the sum of delays
abbrev pub total : List ℤ → ℤ
total delays = fold ◌+ℤ◌ (pos 0) delays

-- the least of them
abbrev pub least_of_all : List ℤ → ℤ
least_of_all [] = pos 0
least_of_all (d ∷ ds) = fold int_min d ds

-- the greatest of them
abbrev pub most_of_all : List ℤ → ℤ
most_of_all [] = pos 0
most_of_all (d ∷ ds) = fold int_max d ds

-- how many are below a limit
abbrev pub count_below : ℤ → List ℤ → ℕ
count_below limit delays = count_by (λ (d : ℤ). int_lt d limit) delays

-- how many are at most a limit
abbrev pub count_up_to : ℤ → List ℤ → ℕ
count_up_to limit delays = count_by (λ (d : ℤ). int_le d limit) delays

-- how many are in a bucket
abbrev pub count_within : ℕ → List ℤ → ℕ
count_within bucket delays = count_by (is_within bucket) delays

-- a counter counts these delays
pub record Counts (delays : List ℤ) (counter : Counter) : Type 0 where
  pub count_is : counter.count ≡ length delays
  pub negative_is : counter.negative ≡ count_below (pos 0) delays
  pub least_is : counter.least ≡ least_of_all delays
  pub most_is : counter.most ≡ most_of_all delays
  pub sum_is : counter.sum ≡ total delays
  pub in_buckets : (bucket : ℕ) → bucket < 4096 → slice_index counter.buckets.items bucket ≡ count_within bucket delays
  pub fit : All (λ (d : ℤ). FitsSigned w64 d) delays
  pub sum_from : neg_ℤ (pos (2 ^ 63 * length delays)) ≤ℤ counter.sum
  pub sum_to : counter.sum ≤ℤ pos (2 ^ 63 * length delays)

-- how many of so many values are up to a percentile: a hundredth for each percent, rounded up
abbrev pub rank : ℕ → ℕ → ℕ
rank per count = (per * count + 99) / 100

-- a value is that of a rank in rising order: fewer are below it, and as many or more are up to it
pub record IsAt (delays : List ℤ) (nth : ℕ) (value : ℤ) : Type 0 where
  pub is_one : Contains delays value
  pub below : count_below value delays < nth
  pub up_to : nth ≤ count_up_to value delays

-- A percentile by buckets: the greatest value of the bucket in which the value of its rank is, but at most the greatest of all.
pub record IsPercentile (delays : List ℤ) (per : ℕ) (percentile : ℤ) : Type 0 where
  pub bucket : ℕ
  pub exists : bucket < 4096
  pub below : count_below (low bucket) delays < rank per (length delays)
  pub up_to : rank per (length delays) ≤ count_up_to (high bucket) delays
  pub is : percentile ≡ int_min (high bucket) (most_of_all delays)

-- It is near that value: not below it, and above it by no more than a 32nd of its size.
pub record IsNear (delays : List ℤ) (value percentile : ℤ) : Type 0 where
  pub from : value ≤ℤ percentile
  pub to : (percentile -ℤ value) ≤ℤ pos (unsigned_abs value / 32)
  pub most : percentile ≤ℤ most_of_all delays

-- ---- the same as a function of a counter

-- the index at which a rank is reached, where each number says how many values there are
abbrev pub reached_at : ℕ → List ℕ → ℕ
reached_at nth [] = 0
reached_at nth (n ∷ ns) = if nat_le nth n then 0 else 1 + reached_at (nth - n) ns

-- a percentile
abbrev pub percentile_of : Counter → ℕ → ℤ
percentile_of counter per =
    let bucket = reached_at (rank per counter.count) counter.buckets.items in
    if nat_lt bucket 4096 then int_min (high bucket) counter.most else counter.most
