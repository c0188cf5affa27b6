use Rattle.std.proofs.Common.{◌≢◌, ◌∷◌, []}
use Rattle.ioam_desk.specs.Touches.{state}
use Rattle.ioam_run_answer.specs.declared.outcome.Outcome.TheVariants as outcome
use Rattle.ioam_run_answer.proofs.RanLaws.{bounds_none}
use Rattle.ioam_run_part.proofs.PartLaws.{ran}
use Rattle.ioam_run_part.proofs.part.run_files.Goals as goal

pub returns-clause-cause : goal.returns-clause-cause
returns-clause-cause g c =
    (ran g.D.Desk.tells g.files.exports g.files.part (state (g.D.Desk.reading c.args.desk.now) (g.D.Desk.writing c.args.desk.now))
    (state (g.D.Desk.reading c.run-stop.new.desk) (g.D.Desk.writing c.run-stop.new.desk)) c.run-stop.new.stage.converter.cause c.args.ins.now c.args.outs.now c.run-stop.result
    c.answer.result c.answer.ensures c.requires.1.0 c.requires.1.1.0 c.requires.1.1.1 c.run-stop.ensures.frame c.run-stop.ensures.leaves).0

pub returns-clause-leaves : goal.returns-clause-leaves
returns-clause-leaves g c =
    (ran g.D.Desk.tells g.files.exports g.files.part (state (g.D.Desk.reading c.args.desk.now) (g.D.Desk.writing c.args.desk.now))
    (state (g.D.Desk.reading c.run-stop.new.desk) (g.D.Desk.writing c.run-stop.new.desk)) c.run-stop.new.stage.converter.cause c.args.ins.now c.args.outs.now c.run-stop.result
    c.answer.result c.answer.ensures c.requires.1.0 c.requires.1.1.0 c.requires.1.1.1 c.run-stop.ensures.frame c.run-stop.ensures.leaves).1

pub returns-clause-bounds : goal.returns-clause-bounds
returns-clause-bounds g c =
    (ran g.D.Desk.tells g.files.exports g.files.part (state (g.D.Desk.reading c.args.desk.now) (g.D.Desk.writing c.args.desk.now))
    (state (g.D.Desk.reading c.run-stop.new.desk) (g.D.Desk.writing c.run-stop.new.desk)) c.run-stop.new.stage.converter.cause c.args.ins.now c.args.outs.now c.run-stop.result
    c.answer.result c.answer.ensures c.requires.1.0 c.requires.1.1.0 c.requires.1.1.1 c.run-stop.ensures.frame c.run-stop.ensures.leaves).2

pub returns-in_default-new-clause-bounds : goal.returns-in_default-new-clause-bounds
returns-in_default-new-clause-bounds g c = bounds_none g.D.Desk.tells g.files.exports (g.files.part ∷ []) (g.files.exports ≢ g.files.part)
    (g.D.Desk.reading c.args.desk.now) (g.D.Desk.writing c.args.desk.now) outcome.NoMemory (λ behind. behind) (λ done. done)
