use Rattle.std.proofs.Common.{refl, subst}
use Rattle.ioam_cmd.specs.Promise.{Keeps}
use Rattle.ioam_cmd.proofs.PromiseLaws.{sound}
use Rattle.ioam_words.proofs.WordsLaws.{one_form}
use Rattle.ioam_run_answer.specs.Desks.{around}
use Rattle.ioam_cmd.proofs.program.ioam.Goals as goal

pub returns-in-Some-clause-keeps : goal.returns-in-Some-clause-keeps
returns-in-Some-clause-keeps g c = λ command form.
    let desks = around g.D.Desk.tells (g.D.Desk.reading c.args.desk.now) (g.D.Desk.reading c.run_command.new.desk)
    (g.D.Desk.writing c.args.desk.now) (g.D.Desk.writing c.run_command.new.desk) in
    subst (λ k. Keeps g.G.Gate.opens desks c.args.words.now k c.run_command.result)
    (one_form c.args.words.now c.in-Some.command command c.in-Some.ensures form) c.run_command.ensures.keeps

pub returns-in-Some-clause-kept_out : goal.returns-in-Some-clause-kept_out
returns-in-Some-clause-kept_out g c =
    let desks = around g.D.Desk.tells (g.D.Desk.reading c.args.desk.now) (g.D.Desk.reading c.run_command.new.desk)
    (g.D.Desk.writing c.args.desk.now) (g.D.Desk.writing c.run_command.new.desk) in
    (sound g.G.Gate.opens desks c.args.words.now c.in-Some.command c.run_command.result c.run_command.ensures.keeps).kept_out

pub returns-in-Some-clause-failures : goal.returns-in-Some-clause-failures
returns-in-Some-clause-failures g c =
    let desks = around g.D.Desk.tells (g.D.Desk.reading c.args.desk.now) (g.D.Desk.reading c.run_command.new.desk)
    (g.D.Desk.writing c.args.desk.now) (g.D.Desk.writing c.run_command.new.desk) in
    (sound g.G.Gate.opens desks c.args.words.now c.in-Some.command c.run_command.result c.run_command.ensures.keeps).failures

pub returns-in-None-clause-failures : goal.returns-in-None-clause-failures
returns-in-None-clause-failures g c = record { opens = λ other. refl; reads = λ settled. refl; writes = λ other. refl }
