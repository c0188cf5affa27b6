use Rattle.ioam_collect.proofs.JoinLaws.{groups_join}
use Rattle.ioam_collect.proofs.laws.groups_join.Goals as goal

pub returns : goal.returns
returns c = groups_join
