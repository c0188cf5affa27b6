use Rattle.std.proofs.Common.{List, ℕ, inr, sym, subst, refl, arith}
use Rattle.ioam_desk_outputs.specs.Names.{AreApart}
use Rattle.ioam_run_answer.specs.Desks.{around}
use Rattle.ioam_run_stream.specs.Promise.{most_packets}
use Rattle.ioam_run_stream.specs.Answers.{FileCause}
use Rattle.ioam_run_stream.proofs.WordsLaws.{apart_tail, cause_of_file}
use Rattle.ioam_desk.proofs.KeptLaws.{KeepsInputs-same, KeepsOutputs-same}
use Rattle.ioam_run_stream.proofs.over_capture.run_names.Goals as goal

pub run_capture-requires-clause-apart : goal.run_capture-requires-clause-apart
run_capture-requires-clause-apart g c =
    let P : List (List ℕ) → Type 0 = λ names. AreApart names in
    subst P (sym c.outputs.ensures) (apart_tail c.args.files.now.input c.args.files.now.outputs (subst P c.all-names.ensures c.in-None.ensures))

pub returns-in-None-clause-cause : goal.returns-in-None-clause-cause
returns-in-None-clause-cause g c =
    let P : List (List ℕ) → Type 0 = λ names. AreApart names in
    let Q : List ℕ → Type 0 = λ input. FileCause most_packets g.D.Desk.tells input (g.D.Desk.reading c.args.desk.now) (g.D.Desk.writing c.args.desk.now)
    (g.D.Desk.reading c.run_capture.new.desk) (g.D.Desk.writing c.run_capture.new.desk) c.run_capture.result in
    cause_of_file (around g.D.Desk.tells (g.D.Desk.reading c.args.desk.now) (g.D.Desk.reading c.run_capture.new.desk)
    (g.D.Desk.writing c.args.desk.now) (g.D.Desk.writing c.run_capture.new.desk)) c.args.files.now c.run_capture.result
    (subst P c.all-names.ensures c.in-None.ensures) (subst Q c.input.ensures c.run_capture.ensures.cause)

pub returns-in-None-clause-differed : goal.returns-in-None-clause-differed
returns-in-None-clause-differed g c =
    let P : List (List ℕ) → Type 0 = λ names. AreApart names in
    inr (subst P c.all-names.ensures c.in-None.ensures)

pub returns-in-Some-clause-kept_in : goal.returns-in-Some-clause-kept_in
returns-in-Some-clause-kept_in g c = KeepsInputs-same (g.D.Desk.reading c.args.desk.now) _ refl

pub returns-in-Some-clause-kept_out : goal.returns-in-Some-clause-kept_out
returns-in-Some-clause-kept_out g c = λ told. KeepsOutputs-same (g.D.Desk.writing c.args.desk.now) _ refl

pub returns-in-None-clause-no_output : goal.returns-in-None-clause-no_output
returns-in-None-clause-no_output g c = λ same. c.run_capture.ensures.no_output (omega (arith, same))

pub returns-in-Some-clause-unread : goal.returns-in-Some-clause-unread
returns-in-Some-clause-unread g c = λ told unopened opened. absurd (omega (arith, opened))
