-- Timestamps (RFC 9197 section 5): seconds, and what is below a second.
use Rattle.std.specs.Prelude.{ℕ, ◌*◌, ◌/◌, ◌%◌, ◌^◌}
use Rattle.ioam_topo.specs.declared.format.Format.{Format}
use Rattle.ioam_topo.specs.declared.format.Format.TheVariants.{Ptp, Ntp, Posix}

-- nanoseconds below a second, as a format counts them: in nanoseconds, in 2^-32 of a second or in
-- microseconds, rounded down
abbrev pub fraction : Format → ℕ → ℕ
fraction Ptp below = below
fraction Ntp below = below * 2 ^ 32 / 1000000000
fraction Posix below = below / 1000

-- the two words of a time in nanoseconds
abbrev pub stamp : Format → ℕ → ℕ × ℕ
stamp format time = (time / 1000000000 % 2 ^ 32, fraction format (time % 1000000000))
