-- Values that are there or not, as C sees them.
use Rattle.std.specs.Prelude.{ℕ, ◌==◌, if◌then◌else◌, Option, Some, None}

-- 1 if a value is there
abbrev pub flag : {T : Type 0} → Option T → ℕ
flag None = 0
flag (Some value) = 1

-- the number, or 0
abbrev pub number : Option ℕ → ℕ
number None = 0
number (Some value) = value

-- the first of two numbers, or 0
abbrev pub first : Option (ℕ × ℕ) → ℕ
first None = 0
first (Some values) = values.0

-- the second of two numbers, or 0
abbrev pub second : Option (ℕ × ℕ) → ℕ
second None = 0
second (Some values) = values.1

-- the value, if a flag is set
abbrev pub if_set : {T : Type 0} → ℕ → T → Option T
if_set flag value = if flag == 0 then None else Some value
