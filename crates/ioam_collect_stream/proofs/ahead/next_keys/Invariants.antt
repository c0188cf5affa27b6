use Rattle.std.proofs.Common.{◌≡◌}
use Rattle.ioam_dex.specs.Reader.{held}
use Rattle.ioam_collect_stream.proofs.ahead.next_keys.Given as goal

-- the reader holds as many octets as before
abbrev pub invariant-records : goal.invariant-records
invariant-records l = held l.reader ≡ held l.initial.reader
