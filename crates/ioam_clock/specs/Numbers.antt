-- The numbers of a line.
use Rattle.std.specs.Prelude.{ℕ, ◌==◌, ◌&&◌, Bool, List, length, slice_index, Option, Some, None, Result, Ok, Err, if◌then◌else◌}
use Rattle.ioam_base.specs.Decimal.{decimal_below}
use Rattle.ioam_clock.specs.declared.fault.ReadWhy.{ReadWhy}
use Rattle.ioam_clock.specs.declared.fault.ReadWhy.TheVariants.{Number}

infixl 20 ◌▷◌
-- what was read, read further; why it was refused stays
abbrev pub ◌▷◌ : {A B : Type 0} → Result A ReadWhy → (A → Result B ReadWhy) → Result B ReadWhy
Ok x ▷ f = f x
Err why ▷ f = Err why

-- a number, where there is one
abbrev pub numbered : Option ℕ → Result ℕ ReadWhy
numbered None = Err Number
numbered (Some n) = Ok n

-- decimal digits without a zero in front, save `0` itself, of a number below a limit
abbrev pub number : ℕ → List ℕ → Result ℕ ReadWhy
number limit word = numbered (decimal_below limit word)

-- what was read, as what is there
abbrev pub there : Result ℕ ReadWhy → Result (Option ℕ) ReadWhy
there reading = reading ▷ (λ n. Ok (Some n))

-- `-`
abbrev pub is_dash : List ℕ → Bool
is_dash word = (length word == 1) && (slice_index word 0 == 45)

-- a number, or `-` where there is none
abbrev pub maybe : ℕ → List ℕ → Result (Option ℕ) ReadWhy
maybe limit word = if is_dash word then Ok None else there (number limit word)
