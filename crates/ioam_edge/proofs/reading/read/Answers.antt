use Rattle.std.proofs.Common.{rules}
use Rattle.ioam_edge.proofs.EdgeLaws.{ReadsAgain-Begins}
use Rattle.ioam_edge.proofs.reading.read.Goals as goal

pub returns-clause-again : goal.returns-clause-again
returns-clause-again c = ReadsAgain-Begins c.args.octets.now c.value.result (record {
  namespace_below = search rules;
  kind_below = search rules;
  seq64_below = search rules;
  seq32_below = search rules;
  seconds_below = search rules;
  fraction_below = search rules;
}) c.value.ensures
