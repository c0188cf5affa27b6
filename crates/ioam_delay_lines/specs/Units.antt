-- Times in three digits and a unit.
use Rattle.std.specs.Prelude.{ℕ, Bool, ◌*◌, ◌/◌, ◌%◌, ◌-◌, ◌^◌, nat_lt, if◌then◌else◌, ℤ, pos, int_lt, unsigned_abs, List, [], ◌++◌, codes, decimal, length, replicate}

-- a number of units of so many nanoseconds in three digits, toward 0: at least one of them, or whole ones if there are a hundred
abbrev pub digits_text : ℕ → ℕ → List ℕ
digits_text unit size =
    if nat_lt size (10 * unit) then decimal (size / unit) ++ codes "." ++ decimal (10 * size / unit % 10) ++ decimal (100 * size / unit % 10)
    else (if nat_lt size (100 * unit) then decimal (size / unit) ++ codes "." ++ decimal (10 * size / unit % 10)
    else decimal (size / unit))

-- so many nanoseconds, in the greatest unit of which there is one
abbrev pub size_text : ℕ → List ℕ
size_text size =
    if nat_lt size (10 ^ 3) then decimal size ++ codes "ns"
    else (if nat_lt size (10 ^ 6) then digits_text (10 ^ 3) size ++ codes "us"
    else (if nat_lt size (10 ^ 9) then digits_text (10 ^ 6) size ++ codes "ms"
    else digits_text (10 ^ 9) size ++ codes "s"))

-- the sign before a time
abbrev pub sign_text : Bool → List ℕ
sign_text below = if below then codes "-" else []

-- the same of a time, which may be below 0
abbrev pub time_text : ℤ → List ℕ
time_text time = sign_text (int_lt time (pos 0)) ++ size_text (unsigned_abs time)

-- a text, with spaces before it up to a width
abbrev pub padded : ℕ → List ℕ → List ℕ
padded width text = replicate (width - length text) 32 ++ text
