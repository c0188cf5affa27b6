use Rattle.ioam_collect_stream.proofs.ahead.next_key.Goals as goal

pub new-requires : goal.new-requires
new-requires c = let told = rw c.in-Record.is at c.show.follows.holds-at-none in (told.0.0, told.0.1)
