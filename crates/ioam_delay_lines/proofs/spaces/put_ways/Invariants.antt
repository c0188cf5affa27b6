use Rattle.std.proofs.Common.{◌≡◌, ◌++◌, ◌-◌, length}
use Rattle.ioam_delay_lines.specs.Spaces.{ways_text, ways_up_to}
use Rattle.ioam_delay_lines.proofs.spaces.put_ways.Given as goal

abbrev pub invariant-counts : goal.invariant-counts
invariant-counts l =
    l.out.items ++ ways_up_to l.namespace l.traces l.rows (length l.rows - l.step) l.limit ≡ l.initial.out.items ++ ways_text l.namespace l.traces l.rows
