use Rattle.std.proofs.Common.{true}
use Rattle.ioam_stream.proofs.reading.take_rest.Given as goal

abbrev pub ghost-take_shown : goal.ghost-take_shown
ghost-take_shown g a = record { start = g.start; cut = true }
