use Rattle.std.proofs.Common.{◌≡◌, take}
use Rattle.ioam_run_outputs.specs.Outlets.{tapped}
use Rattle.ioam_run_outputs.proofs.outlets.tapped_links.Given as goal

-- those of the links so far
abbrev pub invariant-links : goal.invariant-links
invariant-links l = l.ids.items ≡ tapped (take l.place l.link-items)
