use Rattle.ioam_run_ipfix.proofs.BackLaws.{messages-back}
use Rattle.ioam_run_ipfix.proofs.laws.messages_bring_back.Goals as goal

pub returns : goal.returns
returns c = messages-back
