use Rattle.ioam_part.proofs.PartLaws.{part_same, part_unique, groups_same}
use Rattle.ioam_part.proofs.laws.parts_have_one_spelling.Goals as goal

pub returns-clause-octets : goal.returns-clause-octets
returns-clause-octets c = part_same

pub returns-clause-records : goal.returns-clause-records
returns-clause-records c = part_unique

pub returns-clause-groups : goal.returns-clause-groups
returns-clause-groups c = groups_same
