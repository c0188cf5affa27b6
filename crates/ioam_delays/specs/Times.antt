-- Times, and the delays between them.
use Rattle.std.specs.Prelude.{◌≡◌, ℕ, ◌+◌, ◌-◌, ◌*◌, ◌/◌, ◌%◌, ◌^◌, nat_lt, if◌then◌else◌, ℤ, pos, negsuc, neg_ℤ, ◌+ℤ◌, ◌≤ℤ◌, ◌<ℤ◌}

-- the nanoseconds of a fraction in units of 1/units seconds
abbrev pub part_of : ℕ → ℕ → ℕ
part_of units fraction = fraction * 10 ^ 9 / units

-- Where times are known modulo a number, the delay from one to another is how much later the other is, but for multiples of the modulus,
-- as the number from minus half the modulus on and below half the modulus.
pub record IsDelay (modulus from to : ℕ) (delay : ℤ) : Type 0 where
  pub behind : ℕ
  pub ahead : ℕ
  pub is : pos (to + behind * modulus) ≡ (pos (from + ahead * modulus) +ℤ delay)
  pub least : neg_ℤ (pos modulus) ≤ℤ (delay +ℤ delay)
  pub most : (delay +ℤ delay) <ℤ pos modulus

-- ---- the same as a function

-- how far a time below the modulus is ahead of another
abbrev pub ahead_of : ℕ → ℕ → ℕ → ℕ
ahead_of modulus from to = if nat_lt to from then to + (modulus - from) else to - from

-- less than half the modulus ahead, or otherwise behind
abbrev pub delay_by : ℕ → ℕ → ℤ
delay_by modulus ahead = if nat_lt (2 * ahead) modulus then pos ahead else negsuc (modulus - ahead - 1)

-- the delay from a time to another
abbrev pub delay_of : ℕ → ℕ → ℕ → ℤ
delay_of modulus from to = delay_by modulus (ahead_of modulus (from % modulus) (to % modulus))
