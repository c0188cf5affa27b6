use Rattle.ioam_collect.proofs.JoinLaws.{merged_leaves, merged_same}
use Rattle.ioam_collect.proofs.laws.any_tree_joins.Goals as goal

pub returns-clause-leaves : goal.returns-clause-leaves
returns-clause-leaves c = merged_leaves

pub returns-clause-same : goal.returns-clause-same
returns-clause-same c = merged_same
