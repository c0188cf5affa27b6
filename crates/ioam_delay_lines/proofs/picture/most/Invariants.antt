use Rattle.std.proofs.Common.{◌≡◌, ◌<◌, ◌^◌}
use Rattle.ioam_delay_lines.specs.Picture.{most_to}
use Rattle.ioam_delay_lines.proofs.picture.most.Given as goal

abbrev pub invariant-rows : goal.invariant-rows
invariant-rows l = (l.most ≡ most_to l.counter l.width l.row) × (l.most < 2 ^ 77)
