-- How many records there were of each kind.
use Rattle.std.specs.Prelude.{ℕ, ◌+◌, List}
use Rattle.std.specs.List.{fold}
use Rattle.ioam_leaks.specs.declared.finding.Finding.TheVariants.{Clean, Leaks, Hides}
use Rattle.ioam_leaks.specs.declared.finding.Leak.TheVariants.{Carries, Quotes}
use Rattle.ioam_run_leaks.specs.Observation.{Observation, Sees, Misses}
use Rattle.ioam_run_leaks.specs.declared.counts.Counts.{Counts}
use Rattle.ioam_run_leaks.specs.declared.observe.Unseen.TheVariants.{NotIpv6, Cut, Length}

-- how many weren't looked into
abbrev pub unseen_of : Counts → ℕ
unseen_of counts = counts.not_ipv6 + counts.cut + counts.length

-- how many there were
abbrev pub all_of : Counts → ℕ
all_of counts = counts.clean + counts.carries + counts.quotes + counts.hidden + unseen_of counts

-- with one record more
abbrev pub counted : Counts → Observation → Counts
counted counts (Sees packet Clean) = record counts { clean = counts.clean + 1 }
counted counts (Sees packet (Leaks Carries)) = record counts { carries = counts.carries + 1 }
counted counts (Sees packet (Leaks Quotes)) = record counts { quotes = counts.quotes + 1 }
counted counts (Sees packet (Hides why)) = record counts { hidden = counts.hidden + 1 }
counted counts (Misses NotIpv6) = record counts { not_ipv6 = counts.not_ipv6 + 1 }
counted counts (Misses Cut) = record counts { cut = counts.cut + 1 }
counted counts (Misses Length) = record counts { length = counts.length + 1 }

-- before the first record
abbrev pub none : Counts
none = record { clean = 0; carries = 0; quotes = 0; hidden = 0; not_ipv6 = 0; cut = 0; length = 0 }

-- of all records
abbrev pub counts_of : List Observation → Counts
counts_of seen = fold counted none seen
