use Rattle.std.proofs.Common.{sym, ◌∙◌}
use Rattle.ioam_part.proofs.PutLaws.{put_is}
use Rattle.ioam_part.proofs.putting.put_part.Goals as goal

pub returns-clause-part : goal.returns-clause-part
returns-clause-part c = λ xs all s few. put_is c.args.collector.now xs (sym c.groups-ahead.ensures.groups ∙ c.groups-ahead.ensures.exact xs s) all s few
