use Rattle.std.proofs.Common.{rules, append_assoc}
use Rattle.ioam_run_audit.proofs.lines.put_sums.Goals as goal

pub returns : goal.returns
returns c = search (rules, append_assoc)
