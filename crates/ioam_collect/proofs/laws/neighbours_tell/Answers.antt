use Rattle.ioam_collect.proofs.FollowLaws.{neighbours_apart, follows, may_follow}
use Rattle.ioam_collect.proofs.laws.neighbours_tell.Goals as goal

pub returns-clause-apart : goal.returns-clause-apart
returns-clause-apart c = neighbours_apart

pub returns-clause-follows : goal.returns-clause-follows
returns-clause-follows c = follows

pub returns-clause-may : goal.returns-clause-may
returns-clause-may c = may_follow
