use Rattle.ioam_collect.proofs.UniteLaws.{united_kept, apart_kept, kept_apart}
use Rattle.ioam_collect.proofs.laws.side_by_side.Goals as goal

pub returns-clause-kept : goal.returns-clause-kept
returns-clause-kept c = united_kept

pub returns-clause-all : goal.returns-clause-all
returns-clause-all c = apart_kept

pub returns-clause-apart : goal.returns-clause-apart
returns-clause-apart c = kept_apart
