use Rattle.ioam_run_audit.proofs.AskedLaws.{HasCause-asked}
use Rattle.ioam_run_audit.proofs.audit.run_audit.Goals as goal

pub returns : goal.returns
returns g c = record {
  keeps = record {
    owes = c.run_names.ensures.owes;
    exact = λ asked told asks reads writes.
        HasCause-asked c.args.files.now (g.D.Desk.writing c.args.desk.now) (g.D.Desk.reading c.args.desk.now) (g.D.Desk.reading c.run_names.new.desk)
        (g.D.Desk.writing c.run_names.new.desk) c.run_names.result asked (c.run_names.ensures.owes.cause told) asks reads writes;
    failures = c.run_names.ensures.failures;
  };
}
