use Rattle.std.proofs.Common.{ap, Err}
use Rattle.ioam_desk.specs.Desk.{Side, Writing}
use Rattle.ioam_desk.proofs.AskedLaws.{HaveSlots-each}
use Rattle.ioam_run_node.proofs.RanLaws.{ends_owes}
use Rattle.ioam_run_node.proofs.RefusedLaws.{refused_owes, refused_failures}
use Rattle.ioam_run_stream.proofs.FailuresLaws.{failures-behind}
use Rattle.ioam_run_node.proofs.node_run.run_names.Goals as goal

pub returns-in-Err : goal.returns-in-Err
returns-in-Err g c = record {
  owes = refused_owes g.D.Desk.tells c.args.files.now (g.D.Desk.reading c.args.desk.now) (g.D.Desk.reading c.read_names.new.desk)
      (g.D.Desk.writing c.args.desk.now) c.in-Err.refusal c.in-Err.ensures.refused c.in-Err.ensures.asked
      (λ fault is. c.in-Err.ensures.domain_first fault (ap Err is)) c.read_names.ensures.few c.read_names.ensures.kept c.read_names.ensures.in_turn
      (g.D.Desk.writing c.read_names.new.desk) c.refused.result c.in-Err.ensures.outputs c.refused.ensures;
  failures = refused_failures g.D.Desk.tells (g.D.Desk.reading c.args.desk.now) (g.D.Desk.reading c.read_names.new.desk)
      (g.D.Desk.writing c.args.desk.now) (g.D.Desk.writing c.read_names.new.desk) c.in-Err.refusal c.refused.result c.refused.ensures
      c.in-Err.ensures.opens c.in-Err.ensures.settled c.in-Err.ensures.outputs;
}

pub returns-in-Ok : goal.returns-in-Ok
returns-in-Ok g c = record {
  owes = ends_owes g.D.Desk.tells c.args.files.now (g.D.Desk.reading c.args.desk.now) (g.D.Desk.reading c.read_names.new.desk)
      c.in-Ok.ensures.side c.in-Ok.ensures.ended c.read_names.ensures.kept
      (g.D.Desk.writing c.args.desk.now) (g.D.Desk.writing c.read_names.new.desk) (g.D.Desk.writing c.run_set.new.desk)
      (g.D.Desk.reading c.run_set.new.desk) c.in-Ok.setting.domain c.in-Ok.setting.readings c.in-Ok.ensures.outputs c.in-Ok.ensures.read
      c.run_set.result c.run_set.ensures.ends;
  failures = failures-behind g.D.Desk.tells (g.D.Desk.reading c.args.desk.now) (g.D.Desk.reading c.read_names.new.desk) (g.D.Desk.reading c.run_set.new.desk)
      (g.D.Desk.writing c.args.desk.now) (g.D.Desk.writing c.read_names.new.desk) (g.D.Desk.writing c.run_set.new.desk) c.run_set.result
      (HaveSlots-each (g.D.Desk.reading c.args.desk.now).side (g.D.Desk.reading c.read_names.new.desk).side _ c.in-Ok.ensures.side)
      (ap (λ (s : Side). s.faults) c.in-Ok.ensures.side) (ap (λ (w : Writing). w.side.faults) c.in-Ok.ensures.outputs) c.run_set.ensures.failures;
}
