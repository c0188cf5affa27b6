-- The buckets in which delays are counted: numbers from 0 to 63 have one each, and from 64 on each octave from 2^e to 2^(e+1) has 32 of
-- 2^(e-5) numbers each. Delays below 0 have the mirrored ones.
use Rattle.std.specs.Prelude.{ℕ, ◌+◌, ◌-◌, ◌*◌, ◌/◌, ◌^◌, ℤ, pos, negsuc, ◌≤ℤ◌, Bool, ◌&&◌, int_le, nat_lt, if◌then◌else◌}

-- the numbers of a bucket agree but for their last so many bits
abbrev pub shift : ℕ → ℕ
shift bucket = bucket / 32 - 1

-- how many numbers it has
abbrev pub width : ℕ → ℕ
width bucket = 2 ^ shift bucket

-- its least number
abbrev pub least_of : ℕ → ℕ
least_of bucket = (bucket - 32 * shift bucket) * width bucket

-- its greatest number
abbrev pub greatest_of : ℕ → ℕ
greatest_of bucket = least_of bucket + (width bucket - 1)

-- the least delay of a bucket among all 4,096, of which the first 2,048 are for delays below 0
abbrev pub low : ℕ → ℤ
low bucket = if nat_lt bucket 2048 then negsuc (greatest_of (2047 - bucket)) else pos (least_of (bucket - 2048))

-- the greatest delay of a bucket
abbrev pub high : ℕ → ℤ
high bucket = if nat_lt bucket 2048 then negsuc (least_of (2047 - bucket)) else pos (greatest_of (bucket - 2048))

-- a delay is in a bucket
abbrev pub IsWithin : ℕ → ℤ → Type 0
IsWithin bucket delay = low bucket ≤ℤ delay × delay ≤ℤ high bucket

-- whether it is
abbrev pub is_within : ℕ → ℤ → Bool
is_within bucket delay = int_le (low bucket) delay && int_le delay (high bucket)
