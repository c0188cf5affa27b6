use Rattle.std.proofs.Common.{[]}
use Rattle.ioam_part.proofs.reading.read_part.Goals as goal

pub returns-in-Ok-feed : goal.returns-in-Ok-feed
returns-in-Ok-feed c = c.finish.ensures c.args.limit c.args.octets.now (c.in-Ok-feed.ensures.stands c.args.limit [] c.in-Ok.ensures.stands)
