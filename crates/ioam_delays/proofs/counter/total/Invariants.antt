use Rattle.std.proofs.Common.{◌≡◌, ◌*◌, ◌^◌, ◌≤◌, take}
use Rattle.std.specs.List.{sum}
use Rattle.ioam_delays.proofs.counter.total.Given as goal

abbrev pub invariant-numbers : goal.invariant-numbers
invariant-numbers l = (l.total ≡ sum (take l.number-index l.numbers)) × (l.total ≤ l.number-index * 2 ^ 64)
