use Rattle.ioam_ipfix.proofs.LongestLaws.{longest-one}
use Rattle.ioam_ipfix.proofs.laws.runs_are_one.Goals as goal

pub returns : goal.returns
returns c = longest-one
