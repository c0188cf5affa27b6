-- Bits of a window.
use Rattle.std.specs.Prelude.{ℕ, ◌-◌, ◌≡◌, ◌<◌, ◌==◌, nat_lt, if◌then◌else◌}
use Rattle.std.specs.Int.{bit_at}

-- a window moved up by so many, with the lowest bit set
abbrev pub moved_bit : ℕ → ℕ → ℕ → ℕ
moved_bit window by k = if k == 0 then 1 else if nat_lt k by then 0 else bit_at window (k - by)

-- the 64 bits of `moved` are those of the window moved up by so many, with the lowest one set
abbrev pub Moved : ℕ → ℕ → ℕ → Type 0
Moved window by moved = (k : ℕ) → k < 64 → bit_at moved k ≡ moved_bit window by k

-- a window with one bit more
abbrev pub Set : ℕ → ℕ → ℕ → Type 0
Set window bit new = (k : ℕ) → k < 64 → bit_at new k ≡ (if k == bit then 1 else bit_at window k)
