use Rattle.std.proofs.Common.{arith}
use Rattle.ioam_desk.specs.Desk.{holds}
use Rattle.ioam_run_part.proofs.PartAskedLaws.{part_asked}
use Rattle.ioam_run_part.proofs.part.run_part.Goals as goal

pub returns : goal.returns
returns g c = record {
  keeps = record {
    cause = c.run_names.ensures.cause;
    leaves = c.run_names.ensures.leaves;
    exact = λ asked told asks reads writes.
        part_asked g.D.Desk.tells (holds (g.D.Desk.writing c.args.desk.now) c.args.files.now.exports) c.args.files.now.exports c.args.files.now.part told
        (g.D.Desk.reading c.args.desk.now) (g.D.Desk.reading c.run_names.new.desk) (g.D.Desk.writing c.args.desk.now) (g.D.Desk.writing c.run_names.new.desk)
        c.run_names.result asked c.run_names.ensures.cause asks reads writes;
    asked_in = c.run_names.ensures.bounds.asked_in;
    asked_out = c.run_names.ensures.bounds.asked_out;
    all_in = c.run_names.ensures.bounds.all_in;
    all_out = c.run_names.ensures.bounds.all_out;
    unopened = c.run_names.ensures.bounds.unopened;
    differed = c.run_names.ensures.bounds.differed;
    no_output = c.run_names.ensures.bounds.no_output;
    unread = λ told none. c.run_names.ensures.bounds.unread told (omega (arith, none));
    drained = c.run_names.ensures.bounds.drained;
    failures = c.run_names.ensures.bounds.failures;
    kept_in = c.run_names.ensures.bounds.kept_in;
    kept_out = c.run_names.ensures.bounds.kept_out;
  };
}
