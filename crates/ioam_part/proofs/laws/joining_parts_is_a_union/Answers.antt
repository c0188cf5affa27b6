use Rattle.ioam_part.proofs.PartLaws.{joined_swaps, joined_associates, joined_repeats}
use Rattle.ioam_part.proofs.laws.joining_parts_is_a_union.Goals as goal

pub returns-clause-swaps : goal.returns-clause-swaps
returns-clause-swaps c = joined_swaps

pub returns-clause-associates : goal.returns-clause-associates
returns-clause-associates c = joined_associates

pub returns-clause-repeats : goal.returns-clause-repeats
returns-clause-repeats c = joined_repeats
