use Rattle.std.proofs.Common.{sym, ◌∙◌}
use Rattle.ioam_part.proofs.PutLaws.{put_is}
use Rattle.ioam_part.proofs.records.PartRecords.new.Goals as goal

pub returns-clause-part : goal.returns-clause-part
returns-clause-part c = λ xs all s few. put_is c.args.collector.now xs (sym c.groups.ensures.groups ∙ c.groups.ensures.exact xs s) all s few
