use Rattle.std.proofs.Common.{ap, Err}
use Rattle.ioam_run_domain.proofs.AnswerLaws as laws
use Rattle.ioam_run_domain.proofs.domain_run.run_domain.Goals as goal

pub returns-in-Err : goal.returns-in-Err
returns-in-Err g c = record {
  keeps = laws.refused-keeps g.G.Gate.opens g.D.Desk.tells c.args.files.now (g.D.Desk.reading c.args.desk.now) (g.D.Desk.reading c.read_names.new.desk)
      (g.D.Desk.writing c.args.desk.now) (g.D.Desk.writing c.read_names.new.desk) c.in-Err.refusal c.refused.result c.in-Err.ensures.refused c.in-Err.ensures.settled c.in-Err.ensures.opens c.in-Err.ensures.asked (λ fault is. c.in-Err.ensures.domain_first fault (ap Err is))
      c.read_names.ensures.in_turn c.in-Err.ensures.outputs c.refused.ensures c.read_names.ensures.kept;
}

pub returns-in-Ok : goal.returns-in-Ok
returns-in-Ok g c = record {
  keeps = laws.ended-keeps g.G.Gate.opens g.D.Desk.tells c.args.files.now (g.D.Desk.reading c.args.desk.now) (g.D.Desk.reading c.read_names.new.desk) (g.D.Desk.reading c.run_set.new.desk)
      (g.D.Desk.writing c.args.desk.now) (g.D.Desk.writing c.read_names.new.desk) (g.D.Desk.writing c.run_set.new.desk) c.in-Ok.setting.domain c.in-Ok.setting.readings c.run_set.result
      c.in-Ok.ensures.side c.in-Ok.ensures.outputs c.in-Ok.ensures.read c.run_set.ensures.ends c.in-Ok.ensures.ended c.run_set.ensures.kept
      c.run_set.ensures.asked_in c.run_set.ensures.asked_out c.run_set.ensures.all_in c.run_set.ensures.all_out c.run_set.ensures.inputs_first c.run_set.ensures.unread
      c.read_names.ensures.kept c.run_set.ensures.kept_out c.run_set.ensures.failures;
}
