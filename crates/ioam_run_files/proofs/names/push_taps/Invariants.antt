use Rattle.std.proofs.Common.{◌≡◌, ◌++◌, take}
use Rattle.ioam_run_files.specs.Names.{tap_names}
use Rattle.ioam_run_files.proofs.names.push_taps.Given as goal

-- the names of the links so far
abbrev pub invariant-links : goal.invariant-links
invariant-links l = l.names.items ≡ l.initial.names.items ++ tap_names (take l.link-index l.links)
