use Rattle.std.proofs.Common.{List, ℕ, refl, subst}
use Rattle.ioam_desk.specs.Desk.{holds}
use Rattle.ioam_desk.specs.Intake as intake
use Rattle.ioam_desk.specs.Intake.{FailsFile, TakesFile}
use Rattle.ioam_part.specs.Reading as part
use Rattle.ioam_run_part.specs.Intakes.{TakesHeld, is_decided}
use Rattle.ioam_run_part.specs.Unread.{IsHeld}
use Rattle.ioam_run_part.specs.declared.intakes.HeldIntake.{HeldIntake}
use Rattle.ioam_run_part.proofs.FileLaws.{answers_failed, answers_taken, tries_failed, tries_none, tries_taken}
use Rattle.ioam_run_part.proofs.UnreadLaws.{is_held, judged, judges_read, unjudged}
use Rattle.ioam_run_part.proofs.unread.read_held.Goals as goal

pub returns-in_default-clause-tries : goal.returns-in_default-clause-tries
returns-in_default-clause-tries g c = tries_none g.D.Desk.tells (holds (g.D.Desk.writing c.args.desk.now) c.args.name.now) c.args.name.now (g.D.Desk.reading c.args.desk.now) (g.D.Desk.reading c.args.desk.now) refl

pub returns-in-Ok-read_into : goal.returns-in-Ok-read_into
returns-in-Ok-read_into g c =
    let tells = g.D.Desk.tells in
    let outputs = g.D.Desk.writing c.args.desk.now in
    let name = c.args.name.now in
    let held = holds outputs name in
    let old = g.D.Desk.reading c.args.desk.now in
    let new = g.D.Desk.reading c.read_into.new.desk in
    let full : HeldIntake → _ = λ now. is_decided now.reader now.left in
    let P : List ℕ → Type 0 = λ n. TakesFile TakesHeld full tells c.new-2.result old new (holds outputs n) n c.in-Ok-read_into.intake in
    let F : List ℕ → Type 0 = λ n. intake.ReadsFew tells c.new-2.result.left old new (holds outputs n) in
    let M : ℕ → Type 0 = λ most. intake.ReadsFew tells most old new held in
    let takes = subst P c.text.ensures c.in-Ok-read_into.ensures.reads in
    let few = subst M c.new-2.ensures.left (subst F c.text.ensures c.in-Ok-read_into.ensures.few) in
    record {
      reads = rw c.verdict.ensures (judged (λ now. now.reader) (λ now. now.left) TakesHeld (λ begun octets now fed. (1048576, fed)) (part.IsReadAs 1048576) (λ octets c is. (is.0, is.1)) (IsHeld tells held) tells held
          (is_held tells held) name c.new-2.result old new c.in-Ok-read_into.intake takes c.finish.result (judges_read takes.octets c.finish.result (c.finish.ensures 1048576 takes.octets takes.stands.stands)));
      tries = tries_taken tells held name old new TakesHeld full c.new-2.result c.in-Ok-read_into.intake takes few;
      faults = answers_taken tells held name old new TakesHeld full c.new-2.result c.in-Ok-read_into.intake takes c.verdict.result;
      outputs = c.in-Ok-read_into.ensures.outputs;
    }

pub returns-in-Err : goal.returns-in-Err
returns-in-Err g c =
    let tells = g.D.Desk.tells in
    let outputs = g.D.Desk.writing c.args.desk.now in
    let name = c.args.name.now in
    let held = holds outputs name in
    let old = g.D.Desk.reading c.args.desk.now in
    let new = g.D.Desk.reading c.read_into.new.desk in
    let P : List ℕ → Type 0 = λ n. FailsFile old new n c.in-Err.fault in
    let F : List ℕ → Type 0 = λ n. intake.ReadsFew tells c.new-2.result.left old new (holds outputs n) in
    let M : ℕ → Type 0 = λ most. intake.ReadsFew tells most old new held in
    let fails = subst P c.text.ensures c.in-Err.ensures.reads in
    let few = subst M c.new-2.ensures.left (subst F c.text.ensures c.in-Err.ensures.few) in
    record {
      reads = rw c.unread_by.ensures (unjudged (IsHeld tells held) tells held name old new c.in-Err.fault fails);
      tries = tries_failed tells held name old new c.in-Err.fault fails few;
      faults = rw c.unread_by.ensures (answers_failed tells held name old new c.in-Err.fault fails);
      outputs = c.in-Err.ensures.outputs;
    }
