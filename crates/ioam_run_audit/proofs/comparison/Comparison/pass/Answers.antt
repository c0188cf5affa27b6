use Rattle.ioam_run_audit.proofs.ComparisonLaws.{passes, turns}
use Rattle.ioam_run_audit.proofs.comparison.Comparison.pass.Goals as goal

pub returns-in-Over : goal.returns-in-Over
returns-in-Over c = λ outputs one. turns c.args.self.now c.requires.none c.requires.judging outputs one c.in-Over.is

pub returns-in_default : goal.returns-in_default
returns-in_default c = λ outputs one. passes c.args.self.now c.requires.none c.requires.judging outputs one c.requires.known c.in_default.not-Over
