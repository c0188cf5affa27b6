use Rattle.ioam_part.proofs.PartLaws.{joined_is, joined_only}
use Rattle.ioam_part.proofs.laws.joined_parts_are_of_all.Goals as goal

pub returns-clause-is : goal.returns-clause-is
returns-clause-is c = joined_is

pub returns-clause-only : goal.returns-clause-only
returns-clause-only c = joined_only
