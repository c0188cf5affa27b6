use Rattle.std.proofs.Common.{refl}
use Rattle.ioam_run_answer.specs.Desks.{around}
use Rattle.ioam_run_part.proofs.MergeLaws.{keeps_names}
use Rattle.ioam_run_part.proofs.merge.run_merge.Goals as goal

pub returns-in-Some : goal.returns-in-Some
returns-in-Some g c = record {
  keeps = keeps_names (around g.D.Desk.tells (g.D.Desk.reading c.args.desk.now) (g.D.Desk.reading c.args.desk.now) (g.D.Desk.writing c.args.desk.now) (g.D.Desk.writing c.args.desk.now))
      c.args.files.now refl refl c.names_outcome.result c.in-Some.name.now c.in-Some.ensures c.names_outcome.ensures;
}

pub returns-in-None : goal.returns-in-None
returns-in-None g c = record { keeps = c.run_apart.ensures }
