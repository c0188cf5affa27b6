use Rattle.std.proofs.Common.{refl}
use Rattle.ioam_desk_outputs.proofs.ToldLaws.{Adds-few}
use Rattle.ioam_run_leaks.specs.Gathering.{heads}
use Rattle.ioam_run_stream.proofs.AddsLaws.{Adds-first}
use Rattle.ioam_run_leaks.proofs.GatheringLaws.{heads-few}
use Rattle.ioam_run_leaks.proofs.gathering.LeakingGather.begin.Goals as goal

pub returns-clause-adds : goal.returns-clause-adds
returns-clause-adds c = Adds-first _ _ _ _ c.requires.width refl c.in_ok-put_head.ensures.octets

pub returns-clause-waiting : goal.returns-clause-waiting
returns-clause-waiting c = Adds-few _ _ heads c.requires.nothing (Adds-first _ _ _ _ c.requires.width refl c.in_ok-put_head.ensures.octets) heads-few
