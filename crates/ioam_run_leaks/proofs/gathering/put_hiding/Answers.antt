use Rattle.std.proofs.Common.{refl}
use Rattle.ioam_run_leaks.specs.LeaksText.{hidden_line}
use Rattle.ioam_run_stream.proofs.AddsLaws.{Adds-second}
use Rattle.ioam_run_leaks.proofs.GatheringLaws.{Adds-line}
use Rattle.ioam_run_leaks.proofs.gathering.put_hiding.Goals as goal

pub returns : goal.returns
returns c = Adds-line _ _ _ (hidden_line c.args.number c.args.why) _ _ c.flow_of.ensures
    (Adds-second _ _ _ _ c.requires.width refl c.in_ok-put_hidden.ensures)
