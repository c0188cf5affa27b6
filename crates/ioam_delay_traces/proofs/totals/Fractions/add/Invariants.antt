use Rattle.std.proofs.Common.{◌<◌, ◌+◌, ◌^◌, ◌++◌, ℕ, List, length, take}
use Rattle.ioam_delay_traces.specs.Totals.{AreFractions, fractions_in}
use Rattle.ioam_delay_traces.proofs.totals.Fractions.add.Given as goal

abbrev pub invariant-sights : goal.invariant-sights
invariant-sights l =
    (seen : List ℕ) → length seen + length l.sights < 2 ^ 48 → AreFractions seen l.initial.self → AreFractions (seen ++ fractions_in (take l.sight-index l.sights)) l.self
