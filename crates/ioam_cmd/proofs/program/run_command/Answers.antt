use Rattle.std.proofs.Common.{sym, subst}
use Rattle.ioam_cmd.specs.Promise.{Keeps}
use Rattle.ioam_words.specs.Words.{IsForm}
use Rattle.ioam_words.specs.declared.command.Command.TheVariants.{Run, Bulk}
use Rattle.ioam_words.proofs.WordsLaws.{form_fits}
use Rattle.ioam_run_measured.proofs.MeasuredLaws.{run-then-collect}
use Rattle.ioam_run_answer.specs.Desks.{around}
use Rattle.ioam_run_domain.specs.Promise as domain
use Rattle.ioam_run_domain.specs.Promise.{RunNames, run_names}
use Rattle.ioam_cmd.proofs.program.run_command.Goals as goal

pub returns-in-Run : goal.returns-in-Run
returns-in-Run g c =
    let opens = g.G.Gate.opens in
    let words = c.args.words.now in
    let answer = c.run_domain.result in
    let desks = around g.D.Desk.tells (g.D.Desk.reading c.args.desk.now) (g.D.Desk.reading c.run_domain.new.desk)
    (g.D.Desk.writing c.args.desk.now) (g.D.Desk.writing c.run_domain.new.desk) in
    let its : domain.Keeps opens desks (run_names words) answer =
    subst (λ (f : RunNames). domain.Keeps opens desks f answer) c.of-in-Run.ensures c.run_domain.ensures.keeps in
    let keeps : Keeps opens desks words (Run c.in-Run.workers) answer = record {
      keeps = its;
      measured = λ told. run-then-collect opens (run_names words) desks.old_in desks.new_in desks.old desks.new answer (its.leaves told);
    } in
    record { keeps = subst (λ k. Keeps opens desks words k answer) (sym c.in-Run.is) keeps }

-- the numbers of workers and of arrivals are those that a form has
pub run_domain-requires-clause-staffed : goal.run_domain-requires-clause-staffed
run_domain-requires-clause-staffed g c κs within =
    form_fits c.args.words.now (Run c.in-Run.workers) (subst (λ k. IsForm k c.args.words.now) c.in-Run.is c.requires.form)

pub run_bulk-requires-clause-count : goal.run_bulk-requires-clause-count
run_bulk-requires-clause-count g c κs within =
    let fits = form_fits c.args.words.now (Bulk c.in-Bulk.seed c.in-Bulk.count c.in-Bulk.workers) (subst (λ k. IsForm k c.args.words.now) c.in-Bulk.is c.requires.form) in
    (fits.0, fits.1)

pub run_bulk-requires-clause-staffed : goal.run_bulk-requires-clause-staffed
run_bulk-requires-clause-staffed g c κs within =
    let fits = form_fits c.args.words.now (Bulk c.in-Bulk.seed c.in-Bulk.count c.in-Bulk.workers) (subst (λ k. IsForm k c.args.words.now) c.in-Bulk.is c.requires.form) in
    (fits.2, fits.3)
