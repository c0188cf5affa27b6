use Rattle.ioam_desk.specs.Touches.{state}
use Rattle.ioam_stream.specs.Frame.{contents}
use Rattle.ioam_stream.proofs.running.run.Given as goal

abbrev pub ghost-run_begun : goal.ghost-run_begun
ghost-run_begun g a = record {
  contents = contents g.D.Desk.tells a.inputs.now a.outputs.now (state (g.D.Desk.reading a.desk.now) (g.D.Desk.writing a.desk.now)) (state (g.D.Desk.reading a.desk.now) (g.D.Desk.writing a.desk.now));
  base_in = (g.D.Desk.reading a.desk.now).side.slots;
  base_out = (g.D.Desk.writing a.desk.now).side.slots;
  names = a.outputs.now;
  begun = a.stage.now;
}
