use Rattle.std.proofs.Common.{Ok, Err}
use Rattle.ioam_desk.specs.Touches.{state}
use Rattle.ioam_desk.specs.declared.fault.WriteAll.TheVariants as write
use Rattle.ioam_desk.proofs.TouchesLaws.{touches-write_all}
use Rattle.ioam_desk_outputs.proofs.flush.flush.Goals as goal

pub returns-in-Ok-clause-touches : goal.returns-in-Ok-clause-touches
returns-in-Ok-clause-touches g c = touches-write_all g.D.Desk.tells (state (g.D.Desk.reading c.args.desk.now) (g.D.Desk.writing c.args.desk.now)) (state (g.D.Desk.reading c.write_all.new.desk) (g.D.Desk.writing c.write_all.new.desk))
    c.args.output.now.slot _ (Ok c.in-Ok.field-0) c.in-Ok.ensures.side c.in-Ok.ensures.written c.in-Ok.ensures.inputs

pub returns-in-Err-Failed-clause-touches : goal.returns-in-Err-Failed-clause-touches
returns-in-Err-Failed-clause-touches g c = touches-write_all g.D.Desk.tells (state (g.D.Desk.reading c.args.desk.now) (g.D.Desk.writing c.args.desk.now)) (state (g.D.Desk.reading c.write_all.new.desk) (g.D.Desk.writing c.write_all.new.desk))
    c.args.output.now.slot _ (Err (write.Failed c.in-Err-Failed.written)) (rw c.in-Err-Failed.field-0-is at c.in-Err-Failed.ensures.side) c.in-Err-Failed.ensures.written c.in-Err-Failed.ensures.inputs

pub returns-in-Err-NoMemory-clause-touches : goal.returns-in-Err-NoMemory-clause-touches
returns-in-Err-NoMemory-clause-touches g c = touches-write_all g.D.Desk.tells (state (g.D.Desk.reading c.args.desk.now) (g.D.Desk.writing c.args.desk.now)) (state (g.D.Desk.reading c.write_all.new.desk) (g.D.Desk.writing c.write_all.new.desk))
    c.args.output.now.slot _ (Err (write.NoMemory c.in-Err-NoMemory.written)) (rw c.in-Err-NoMemory.field-0-is at c.in-Err-NoMemory.ensures.side) c.in-Err-NoMemory.ensures.written c.in-Err-NoMemory.ensures.inputs
