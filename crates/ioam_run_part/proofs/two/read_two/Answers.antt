use Rattle.std.proofs.Common.{Ok, Err, ◌∙◌, subst}
use Rattle.ioam_desk.specs.Desk.{Writing, holds}
use Rattle.ioam_run_part.specs.Unread.{IsFlat, ReadsFile, TriesFile, answer_of}
use Rattle.ioam_run_part.proofs.FailuresLaws.{read_failed}
use Rattle.ioam_run_part.proofs.TwoLaws.{either_refuses, first_refuses, first_tries, second_answers, second_refuses, second_tries, holds_two}
use Rattle.ioam_run_part.proofs.two.read_two.Goals as goal

pub returns-in-Err : goal.returns-in-Err
returns-in-Err g c =
    let first = holds (g.D.Desk.writing c.args.desk.now) c.args.one.now in
    let second = holds (g.D.Desk.writing c.args.desk.now) c.args.two.now in
    let old = g.D.Desk.reading c.args.desk.now in
    let new = g.D.Desk.reading c.read_flat.new.desk in
    record {
      reads = either_refuses g.D.Desk.tells first second c.args.one.now c.args.two.now old new c.unread_outcome.result (answer_of c.args.one.now c.in-Err.why) c.unread_outcome.ensures.answer
          (first_refuses g.D.Desk.tells first second c.args.one.now c.args.two.now old new c.in-Err.why c.in-Err.ensures.reads);
      tries = first_tries g.D.Desk.tells first second c.args.one.now c.args.two.now old new c.in-Err.ensures.tries;
      faults = read_failed old new c.in-Err.why c.unread_outcome.result c.unread_outcome.ensures.failed c.in-Err.ensures.faults;
      outputs = c.in-Err.ensures.outputs;
    }

pub returns-in-Ok-read_flat : goal.returns-in-Ok-read_flat
returns-in-Ok-read_flat g c =
    let first = holds (g.D.Desk.writing c.args.desk.now) c.args.one.now in
    let second = holds (g.D.Desk.writing c.args.desk.now) c.args.two.now in
    let old = g.D.Desk.reading c.args.desk.now in
    let mid = g.D.Desk.reading c.read_flat.new.desk in
    let new = g.D.Desk.reading c.read_flat-2.new.desk in
    let P : Writing → Type 0 = λ w. ReadsFile (IsFlat g.D.Desk.tells (holds w c.args.two.now)) g.D.Desk.tells (holds w c.args.two.now) c.args.two.now mid new (Ok c.in-Ok-read_flat.second) in
    let F : Writing → Type 0 = λ w. TriesFile g.D.Desk.tells (holds w c.args.two.now) c.args.two.now mid new in
    let reads = subst P c.in-Ok.ensures.outputs c.in-Ok-read_flat.ensures.reads in
    record {
      reads = holds_two g.D.Desk.tells first second c.args.one.now c.args.two.now old mid new c.in-Ok.part c.in-Ok.ensures.reads c.in-Ok-read_flat.ensures.tries.kept c.in-Ok-read_flat.second reads;
      tries = second_tries g.D.Desk.tells first second c.args.one.now c.args.two.now old mid new c.in-Ok.part c.in-Ok.ensures.reads c.in-Ok.ensures.tries (subst F c.in-Ok.ensures.outputs c.in-Ok-read_flat.ensures.tries);
      faults = tt;
      outputs = c.in-Ok-read_flat.ensures.outputs ∙ c.in-Ok.ensures.outputs;
    }

pub returns-in-Err-read_flat : goal.returns-in-Err-read_flat
returns-in-Err-read_flat g c =
    let first = holds (g.D.Desk.writing c.args.desk.now) c.args.one.now in
    let second = holds (g.D.Desk.writing c.args.desk.now) c.args.two.now in
    let old = g.D.Desk.reading c.args.desk.now in
    let mid = g.D.Desk.reading c.read_flat.new.desk in
    let new = g.D.Desk.reading c.read_flat-2.new.desk in
    let P : Writing → Type 0 = λ w. ReadsFile (IsFlat g.D.Desk.tells (holds w c.args.two.now)) g.D.Desk.tells (holds w c.args.two.now) c.args.two.now mid new (Err c.in-Err-read_flat.why) in
    let F : Writing → Type 0 = λ w. TriesFile g.D.Desk.tells (holds w c.args.two.now) c.args.two.now mid new in
    let reads = subst P c.in-Ok.ensures.outputs c.in-Err-read_flat.ensures.reads in
    record {
      reads = either_refuses g.D.Desk.tells first second c.args.one.now c.args.two.now old new c.unread_outcome-in-Err-read_flat.result (answer_of c.args.two.now c.in-Err-read_flat.why)
          c.unread_outcome-in-Err-read_flat.ensures.answer
          (second_refuses g.D.Desk.tells first second c.args.one.now c.args.two.now old mid new c.in-Ok.part c.in-Ok.ensures.reads c.in-Err-read_flat.why reads);
      tries = second_tries g.D.Desk.tells first second c.args.one.now c.args.two.now old mid new c.in-Ok.part c.in-Ok.ensures.reads c.in-Ok.ensures.tries (subst F c.in-Ok.ensures.outputs c.in-Err-read_flat.ensures.tries);
      faults = second_answers g.D.Desk.tells first second c.args.one.now c.args.two.now old mid new c.in-Ok.part c.in-Ok.ensures.reads c.unread_outcome-in-Err-read_flat.result
          (read_failed mid new c.in-Err-read_flat.why c.unread_outcome-in-Err-read_flat.result c.unread_outcome-in-Err-read_flat.ensures.failed c.in-Err-read_flat.ensures.faults);
      outputs = c.in-Err-read_flat.ensures.outputs ∙ c.in-Ok.ensures.outputs;
    }
