use Rattle.ioam_collect.proofs.JoinLaws.{pairs_groups}
use Rattle.ioam_collect.proofs.laws.groups_tell_what_is_kept.Goals as goal

pub returns : goal.returns
returns c = pairs_groups
