use Rattle.std.proofs.Common.{◌≡◌, ◌*◌, ◌≤◌}
use Rattle.ioam_delay_lines.specs.Picture.{drawn_to}
use Rattle.ioam_delay_lines.proofs.picture.lines.Given as goal

abbrev pub invariant-rows : goal.invariant-rows
invariant-rows l = (l.drawn ≡ drawn_to l.counter l.width l.row) × (l.drawn.lines ≤ 2 * l.row)
