use Rattle.std.proofs.Common.{arith}
use Rattle.ioam_run_texts.proofs.LeavingLaws.{record-lowered}
use Rattle.ioam_run_texts.proofs.leaving.put_lowered.Goals as goal

pub returns : goal.returns
returns c = record-lowered c.args.out.now.items c.args.packet.now c.put_record.new.out.items c.args.time _ _
    c.in_ok-put_record.ensures.octets (omega arith) (omega (arith, c.saturating_sub.ensures))
