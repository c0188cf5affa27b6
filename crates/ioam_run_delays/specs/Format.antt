-- The formats of time stamps (RFC 9197 section 5).
use Rattle.std.specs.Prelude.{ℕ, ◌^◌}
use Rattle.ioam_topo.specs.declared.format.Format.{Format}
use Rattle.ioam_topo.specs.declared.format.Format.TheVariants.{Ptp, Ntp, Posix}

-- how many units of its fraction a second has
abbrev pub units_of : Format → ℕ
units_of Ptp = 10 ^ 9
units_of Ntp = 2 ^ 32
units_of Posix = 10 ^ 6
