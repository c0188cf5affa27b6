use Rattle.std.proofs.Common.{◌≡◌, ◌+◌, ◌++◌, length}
use Rattle.ioam_batch.specs.Crossings.{taps_of}
use Rattle.ioam_batch.specs.Ran.{lowered_from}
use Rattle.ioam_ip.specs.Lowered.{lowered}
use Rattle.ioam_batch.proofs.plainly.lower.Given as goal

abbrev pub invariant-loop-i : goal.invariant-loop-i
invariant-loop-i l =
    (l.packet ≡ lowered l.i l.fn.packet)
    × (l.crossings.past ++ lowered_from l.fn.packet l.i l.crossings.ahead ≡ l.fn.crossings.past ++ lowered_from l.fn.packet 0 l.fn.crossings.ahead)
    × (length l.crossings.ahead + l.i ≡ l.count)
    × (l.crossings.size ≡ l.fn.crossings.size) × (l.crossings.capacities ≡ l.fn.crossings.capacities)
    × (taps_of l.crossings ≡ taps_of l.fn.crossings)
