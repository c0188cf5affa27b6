use Rattle.std.proofs.Common.{◌≤◌, ◌-◌, length, drop}
use Rattle.ioam_ng.proofs.OptionLaws.{Left}
use Rattle.ioam_ng.proofs.option.face_in.Given as goal

-- the options from here on are left, behind what was found
abbrev pub invariant-options : goal.invariant-options
invariant-options l = (l.at ≤ length l.octets) × Left l.order l.kind l.octets (length l.octets - l.step) (drop l.at l.octets) l.found
