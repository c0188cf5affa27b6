use Rattle.std.proofs.Common.{ap, sym, subst, arith}
use Rattle.ioam_desk_outputs.specs.Names.{AreApart}
use Rattle.ioam_run_node.specs.Promise.{NodeNames}
use Rattle.ioam_run_node.specs.Seat.{seat_at}
use Rattle.ioam_run_node.proofs.BoundLaws.{apart_outputs}
use Rattle.ioam_run_node.proofs.EndsLaws.{ran_from}
use Rattle.ioam_run_node.proofs.node_run.run_apart.Goals as goal

pub run_capture-requires-clause-apart : goal.run_capture-requires-clause-apart
run_capture-requires-clause-apart g c = subst AreApart (sym c.outputs.ensures.value) (apart_outputs c.args.files.now c.requires.apart)

pub returns : goal.returns
returns g c = record {
  ran = ran_from g.D.Desk.tells c.args.files.now (g.D.Desk.reading c.args.desk.now) (g.D.Desk.reading c.run_capture.new.desk)
      (g.D.Desk.writing c.args.desk.now) (g.D.Desk.writing c.run_capture.new.desk)
      (seat_at c.args.setting.now.domain c.args.setting.now.readings c.args.node c.args.inward) c.run_capture.result
      _ _ _ c.packets-limit.ensures.value (ap (λ (n : NodeNames). n.input) c.files.view_is) c.outputs.ensures.value c.requires.apart
      (omega (arith, c.packets-limit.ensures.some, c.packets-limit.ensures.value)) (omega (arith, c.packets-limit.ensures.most, c.packets-limit.ensures.value))
      (record {
        cause = c.run_capture.ensures.cause;
        leaves = c.run_capture.ensures.leaves;
        asked_in = c.run_capture.ensures.asked_in;
        asked_out = c.run_capture.ensures.asked_out;
        all_in = c.run_capture.ensures.all_in;
        all_out = c.run_capture.ensures.all_out;
        no_output = c.run_capture.ensures.no_output;
        unread = c.run_capture.ensures.unread;
        drained = c.run_capture.ensures.drained;
        kept_in = c.run_capture.ensures.kept_in;
        kept_out = c.run_capture.ensures.kept_out;
      });
  failures = c.run_capture.ensures.failures;
}
