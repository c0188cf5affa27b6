use Rattle.std.proofs.Common.{◌≡◌, ◌*◌, ◌≤◌, ◌++◌}
use Rattle.ioam_delay_lines.specs.Picture.{drawn_text, drawn_to}
use Rattle.ioam_delay_lines.proofs.picture.put_rows.Given as goal

abbrev pub invariant-rows : goal.invariant-rows
invariant-rows l = (l.out.items ≡ l.initial.out.items ++ drawn_text l.counter l.width l.most l.row) × (l.drawn ≡ drawn_to l.counter l.width l.row) × (l.drawn.lines ≤ 2 * l.row)
