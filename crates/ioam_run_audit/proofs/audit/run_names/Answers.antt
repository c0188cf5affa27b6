use Rattle.std.proofs.Common.{ap}
use Rattle.ioam_desk.specs.Desk.{Side, Writing}
use Rattle.ioam_desk.proofs.AskedLaws.{HaveSlots-one}
use Rattle.ioam_run_answer.proofs.FailuresLaws.{failures-behind}
use Rattle.ioam_run_audit.proofs.FailuresLaws.{failures_refused}
use Rattle.ioam_run_audit.proofs.OwesLaws.{ends_owes}
use Rattle.ioam_run_audit.proofs.RefusedLaws.{refused_owes}
use Rattle.ioam_run_audit.proofs.audit.run_names.Goals as goal

pub returns-in-Err : goal.returns-in-Err
returns-in-Err g c = record {
  owes = refused_owes g.D.Desk.tells c.args.files.now (g.D.Desk.reading c.args.desk.now) (g.D.Desk.reading c.read_named.new.desk)
      (g.D.Desk.writing c.args.desk.now) c.in-Err.ensures.asked c.in-Err.ensures.few c.in-Err.ensures.kept c.in-Err.refusal c.in-Err.ensures.read
      (g.D.Desk.writing c.read_named.new.desk) c.refused.result c.in-Err.ensures.outputs c.refused.ensures;
  failures = failures_refused g.D.Desk.tells (g.D.Desk.reading c.args.desk.now) (g.D.Desk.reading c.read_named.new.desk)
      (g.D.Desk.writing c.args.desk.now) (g.D.Desk.writing c.read_named.new.desk) c.in-Err.refusal c.refused.result c.refused.ensures c.in-Err.ensures.opens
      c.in-Err.ensures.settled c.in-Err.ensures.outputs;
}

pub returns-in-Ok : goal.returns-in-Ok
returns-in-Ok g c = record {
  owes = ends_owes g.D.Desk.tells c.args.files.now (g.D.Desk.reading c.args.desk.now) (g.D.Desk.reading c.read_named.new.desk)
      c.in-Ok.ensures.side c.in-Ok.ensures.ended c.in-Ok.ensures.kept
      (g.D.Desk.writing c.args.desk.now) (g.D.Desk.writing c.read_named.new.desk) (g.D.Desk.writing c.run_set.new.desk)
      (g.D.Desk.reading c.run_set.new.desk) c.in-Ok.domain c.in-Ok.ensures.outputs c.in-Ok.ensures.read
      c.run_set.result c.run_set.ensures.ends;
  failures = failures-behind g.D.Desk.tells (g.D.Desk.reading c.args.desk.now) (g.D.Desk.reading c.read_named.new.desk) (g.D.Desk.reading c.run_set.new.desk)
      (g.D.Desk.writing c.args.desk.now) (g.D.Desk.writing c.read_named.new.desk) (g.D.Desk.writing c.run_set.new.desk) c.run_set.result
      (HaveSlots-one (g.D.Desk.reading c.args.desk.now).side (g.D.Desk.reading c.read_named.new.desk).side c.args.files.now.domain c.in-Ok.ensures.side)
      (ap (λ (s : Side). s.faults) c.in-Ok.ensures.side) (ap (λ (w : Writing). w.side.faults) c.in-Ok.ensures.outputs) c.run_set.ensures.failures;
}
