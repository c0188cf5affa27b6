use Rattle.ioam_leaks.proofs.FindingLaws.{carries_from, carries_to, leaves_quoting, one_finding}
use Rattle.ioam_leaks.proofs.classify.find_leak.Goals as goal

pub returns-clause-only : goal.returns-clause-only
returns-clause-only c = one_finding c.args.packet.now c.by_walk.result c.by_walk.ensures

pub returns-clause-carries : goal.returns-clause-carries
returns-clause-carries c = λ sound. (carries_to c.args.packet.now sound, carries_from c.args.packet.now)

pub returns-clause-quotes : goal.returns-clause-quotes
returns-clause-quotes c = leaves_quoting c.args.packet.now c.by_walk.result c.by_walk.ensures
