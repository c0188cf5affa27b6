-- The words for formats of time stamps (RFC 9197 section 5).
use Rattle.std.specs.Prelude.{ℕ, List, codes}
use Rattle.ioam_topo.specs.declared.format.Format.{Format}
use Rattle.ioam_topo.specs.declared.format.Format.TheVariants.{Ptp, Ntp, Posix}

-- the word for a format
abbrev pub format_name : Format → List ℕ
format_name Ptp = codes "ptp"
format_name Ntp = codes "ntp"
format_name Posix = codes "posix"
