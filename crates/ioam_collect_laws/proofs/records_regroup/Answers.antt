use Rattle.ioam_collect_laws.proofs.ReadLaws.{regroups}
use Rattle.ioam_collect_laws.proofs.records_regroup.Goals as goal

pub returns : goal.returns
returns c = regroups
