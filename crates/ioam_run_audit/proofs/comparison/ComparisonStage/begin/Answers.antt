use Rattle.std.proofs.Common.{[], ◌∷◌}
use Rattle.ioam_run_stream.proofs.AddsLaws.{Adds-none}
use Rattle.ioam_run_audit.specs.Comparing.{begun_stands}
use Rattle.ioam_run_audit.proofs.comparison.ComparisonStage.begin.Goals as goal

pub returns-clause-begins : goal.returns-clause-begins
returns-clause-begins c = ([] ∷ [], Adds-none c.args._outputs.now c.requires.width, λ fresh. begun_stands c.args.self.now fresh)
