use Rattle.std.proofs.Common.{sym, subst}
use Rattle.ioam_run_answer.specs.declared.outcome.Outcome.{Outcome}
use Rattle.ioam_run_part.specs.Joined.{WritesJoined}
use Rattle.ioam_run_part.proofs.FailuresLaws.{written_answered}
use Rattle.ioam_run_part.proofs.JoinedLaws.{both_part, both_text, planned, unwritten, written}
use Rattle.ioam_run_part.proofs.joined.write_joined.Goals as goal

pub returns-in-Ok-clause-writes : goal.returns-in-Ok-clause-writes
returns-in-Ok-clause-writes g c = λ xs ys p q.
    let plan = c.in-Ok.ensures xs ys p q in
    let old = g.D.Desk.writing c.args.desk.now in
    let new = g.D.Desk.writing c.tell.new.desk in
    let P : Outcome → Type 0 = λ answer. WritesJoined g.D.Desk.tells c.args.part.now xs ys old new answer in
    subst P (sym c.stored_outcome.ensures)
    (written g.D.Desk.tells c.args.part.now xs ys old new (both_text xs ys) c.tell.result plan.few (both_part c.args.first.now c.args.second.now xs ys p q plan.few)
    (c.tell.ensures.stores (both_text xs ys) (planned xs ys c.in-Ok.plan.count c.in-Ok.plan.walk plan)))

pub returns-in-Err-clause-writes : goal.returns-in-Err-clause-writes
returns-in-Err-clause-writes g c = λ xs ys p q.
    unwritten g.D.Desk.tells c.args.part.now xs ys (g.D.Desk.writing c.args.desk.now) c.in-Err.answer
    (c.in-Err.ensures xs ys p q)

pub returns-in-Ok-clause-faults : goal.returns-in-Ok-clause-faults
returns-in-Ok-clause-faults g c = written_answered (g.D.Desk.writing c.args.desk.now) (g.D.Desk.writing c.tell.new.desk) c.tell.result c.stored_outcome.result
    c.stored_outcome.ensures c.tell.ensures.faults
