use Rattle.ioam_desk_outputs.proofs.ToldLaws.{Nothing-few}
use Rattle.ioam_run_stream.proofs.AddsLaws.{Adds-none}
use Rattle.ioam_run_delays.proofs.gathering.DelayingGather.begin.Goals as goal

pub returns-clause-adds : goal.returns-clause-adds
returns-clause-adds c = Adds-none c.args._outputs.now c.requires.width

pub returns-clause-waiting : goal.returns-clause-waiting
returns-clause-waiting c = Nothing-few c.args._outputs.now c.requires.nothing
