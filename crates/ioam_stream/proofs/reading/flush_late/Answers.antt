use Rattle.ioam_desk.specs.Touches.{state, writes_from}
use Rattle.ioam_desk.proofs.TouchesLaws.{touches-none}
use Rattle.ioam_stream.proofs.reading.flush_late.Goals as goal

pub returns-clause-touches : goal.returns-clause-touches
returns-clause-touches g c = λ slot names texts told. touches-none g.D.Desk.tells (writes_from slot) (state (g.D.Desk.reading c.args.desk.now) (g.D.Desk.writing c.args.desk.now))
