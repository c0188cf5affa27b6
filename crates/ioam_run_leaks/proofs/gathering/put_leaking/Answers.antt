use Rattle.std.proofs.Common.{refl}
use Rattle.ioam_run_leaks.specs.LeaksText.{leak_line}
use Rattle.ioam_run_stream.proofs.AddsLaws.{Adds-both}
use Rattle.ioam_run_leaks.proofs.GatheringLaws.{Adds-line}
use Rattle.ioam_run_leaks.proofs.gathering.put_leaking.Goals as goal

pub returns : goal.returns
returns c = Adds-line _ _ _ (leak_line c.args.number) _ _ c.flow_of.ensures
    (Adds-both _ _ _ _ _ _ _ c.requires.width refl c.in_ok-put_record.ensures.octets refl c.in_ok-put_leak.ensures)
