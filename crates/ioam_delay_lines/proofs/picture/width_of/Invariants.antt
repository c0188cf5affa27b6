use Rattle.std.proofs.Common.{◌≡◌, ◌-◌, ◌^◌}
use Rattle.ioam_delay_lines.specs.Picture.{width_from, width_of}
use Rattle.ioam_delay_lines.proofs.picture.width_of.Given as goal

abbrev pub invariant-widths : goal.invariant-widths
invariant-widths l = (width_of l.counter ≡ width_from l.counter (8 - l.step) l.width) × (l.width ≡ 2 ^ l.step)
