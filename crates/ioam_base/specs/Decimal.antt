-- Numbers that are written in decimal digits.
use Rattle.std.specs.Prelude.{ℕ, Bool, not, nat_lt, ◌==◌, ◌&&◌, List, length, slice_index, Option, Some, None, option_and_then, if◌then◌else◌}
use Rattle.std.specs.Str.{all_ascii_digits}
use Rattle.std.specs.Str.Parse.{digits_value_after, digits_value}

-- a number where it is below a limit
abbrev pub below : ℕ → ℕ → Option ℕ
below limit n = if nat_lt n limit then Some n else None

-- the number below a limit that digits write behind those of a number
abbrev pub digits_below : ℕ → ℕ → List ℕ → Option ℕ
digits_below limit n s = if all_ascii_digits s then below limit (digits_value_after 10 n s) else None

-- not empty, and without a zero in front of others
abbrev pub is_plain : List ℕ → Bool
is_plain s = nat_lt 0 (length s) && not (nat_lt 1 (length s) && (slice_index s 0 == 48))

-- the number that a text writes in decimal digits, without a zero in front save `0` itself
abbrev pub decimal_of : List ℕ → Option ℕ
decimal_of s = if is_plain s && all_ascii_digits s then Some (digits_value 10 s) else None

-- that number where it is below a limit
abbrev pub decimal_below : ℕ → List ℕ → Option ℕ
decimal_below limit s = option_and_then (below limit) (decimal_of s)
