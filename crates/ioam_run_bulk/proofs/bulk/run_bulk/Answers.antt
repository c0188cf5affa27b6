use Rattle.std.proofs.Common.{sym, subst}
use Rattle.ioam_run_answer.specs.Desks.{around}
use Rattle.ioam_run_answer.specs.declared.outcome.Outcome.{Outcome}
use Rattle.ioam_run_bulk.specs.Promise.{Keeps}
use Rattle.ioam_run_bulk.proofs.RanLaws.{keeps_none}
use Rattle.ioam_run_bulk.proofs.bulk.run_bulk.Goals as goal

pub returns-in_default : goal.returns-in_default
returns-in_default g c = record {
  keeps = keeps_none g.D.Desk.tells c.args.seed c.args.count c.args.report.now (g.D.Desk.reading c.args.desk.now) (g.D.Desk.writing c.args.desk.now);
}

pub returns-in_default-no_readings : goal.returns-in_default-no_readings
returns-in_default-no_readings g c = record {
  keeps = keeps_none g.D.Desk.tells c.args.seed c.args.count c.args.report.now (g.D.Desk.reading c.args.desk.now) (g.D.Desk.writing c.args.desk.now);
}

pub returns : goal.returns
returns g c =
    let D = g.D.Desk in
    let desks = around D.tells (D.reading c.args.desk.now) (D.reading c.run_by-stop.new.desk) (D.writing c.args.desk.now) (D.writing c.run_by-stop.new.desk) in
    record { keeps = subst (λ (answer : Outcome). Keeps desks c.args.seed c.args.count c.args.report.now answer) (sym c.answered.ensures) c.run_by-stop.ensures.keeps }
