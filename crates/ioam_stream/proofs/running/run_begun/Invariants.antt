use Rattle.ioam_stream.proofs.running.run_begun.Given as goal

abbrev pub ghost-run_open : goal.ghost-run_open
ghost-run_open g a = g.start
