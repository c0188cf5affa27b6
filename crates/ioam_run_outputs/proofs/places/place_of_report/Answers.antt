use Rattle.std.proofs.Common.{arith}
use Rattle.ioam_run_outputs.proofs.places.place_of_report.Goals as goal

pub returns-clause-place : goal.returns-clause-place
returns-clause-place c = λ domain count. omega (arith, count, c.requires)
