use Rattle.std.specs.Prelude.{true}
use Rattle.std.proofs.Common.{refl, arith}
use Rattle.ioam_desk.specs.SureDesk.{reading_of, writing_of}
use Rattle.ioam_run_answer.specs.Desks.{around}
use Rattle.ioam_cmd.proofs.PromiseLaws.{answers_asked}
use Rattle.ioam_cmd.proofs.program.ioam_surely.Goals as goal

pub returns-clause-exact : goal.returns-clause-exact
returns-clause-exact g c = λ command form asked asks.
    answers_asked g.G.Gate.opens (around true (reading_of c.args.desk.now) (reading_of c.ioam.new.desk) (writing_of c.args.desk.now) (writing_of c.ioam.new.desk)) c.args.words.now
    refl (λ rose. omega (arith, rose)) (λ rose. omega (arith, rose)) command c.ioam.result asked (c.ioam.ensures.keeps command form) asks

pub returns-clause-kept_out : goal.returns-clause-kept_out
returns-clause-kept_out g c = c.ioam.ensures.kept_out refl
