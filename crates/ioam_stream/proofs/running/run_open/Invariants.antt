use Rattle.ioam_stream.proofs.running.run_open.Given as goal

abbrev pub ghost-read_on : goal.ghost-read_on
ghost-read_on g a = g.start
