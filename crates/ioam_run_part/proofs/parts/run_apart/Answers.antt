use Rattle.std.proofs.Common.{◌∷◌, [], IsTrue, Ok, refl, sym, subst}
use Rattle.ioam_desk.specs.Asked.{AsksFront}
use Rattle.ioam_desk.specs.Desk.{Reading, Writing, holds}
use Rattle.ioam_desk.specs.Kept.{KeepsOutputs}
use Rattle.ioam_run_answer.specs.Desks.{Desks, around}
use Rattle.ioam_run_answer.specs.declared.outcome.Outcome.{Outcome}
use Rattle.ioam_run_part.specs.Files.{PartsNames}
use Rattle.ioam_run_part.specs.KeptText.{AreLines, part_lines}
use Rattle.ioam_run_part.specs.PartsPromise.{PartsKeeps}
use Rattle.ioam_run_part.specs.Stored.{AnswersWrites, Stores}
use Rattle.ioam_run_part.specs.Unread.{IsHeld, ReadsFile, TriesFile}
use Rattle.ioam_run_part.proofs.PartsLaws.{keeps_stored, keeps_unread}
use Rattle.ioam_run_part.proofs.parts.run_apart.Goals as goal

pub returns-in-Ok : goal.returns-in-Ok
returns-in-Ok g c =
    let tells = g.D.Desk.tells in
    let old = g.D.Desk.writing c.args.desk.now in
    let new = g.D.Desk.writing c.tell.new.desk in
    let old_in = g.D.Desk.reading c.args.desk.now in
    let new_in = g.D.Desk.reading c.tell.new.desk in
    let names : PartsNames = record { part = c.args.part.now; report = c.args.report.now } in
    let held = holds old c.args.part.now in
    let R : Reading → Type 0 = λ r. ReadsFile (IsHeld tells held) tells held c.args.part.now old_in r (Ok c.in-Ok.collector) in
    let T : Reading → Type 0 = λ r. TriesFile tells held c.args.part.now old_in r in
    let reads = subst R (sym c.tell.ensures.inputs) c.in-Ok.ensures.reads in
    let text = part_lines reads.1.records in
    let lines : AreLines c.in-Ok.collector text = record { records = reads.1.records; in_order = reads.1.part.in_order; few = reads.1.part.few; stands = reads.1.stands; is = refl } in
    let S : Writing → Type 0 = λ w. Stores tells c.args.report.now text w new c.tell.result in
    let A : Writing → Type 0 = λ w. AsksFront w.side.asked new.side.asked (c.args.report.now ∷ []) in
    let O : Writing → Type 0 = λ w. IsTrue tells → KeepsOutputs w new in
    let G : Writing → Type 0 = λ w. AnswersWrites w new c.tell.result in
    let E : Outcome → Type 0 = λ o. PartsKeeps (around tells old_in new_in old new) names o in
    subst E (sym c.stored_outcome.ensures)
    (keeps_stored (around tells old_in new_in old new) names c.requires c.in-Ok.collector reads
    c.tell.result (subst S c.in-Ok.ensures.outputs (c.tell.ensures.stores text lines)) (subst A c.in-Ok.ensures.outputs c.tell.ensures.asked)
    (subst T (sym c.tell.ensures.inputs) c.in-Ok.ensures.tries) (subst O c.in-Ok.ensures.outputs c.tell.ensures.kept) (subst G c.in-Ok.ensures.outputs c.tell.ensures.faults))

pub returns-in-Err : goal.returns-in-Err
returns-in-Err g c =
    let names : PartsNames = record { part = c.args.part.now; report = c.args.report.now } in
    let desks : Desks = around g.D.Desk.tells (g.D.Desk.reading c.args.desk.now) (g.D.Desk.reading c.read_held.new.desk) (g.D.Desk.writing c.args.desk.now) (g.D.Desk.writing c.read_held.new.desk) in
    keeps_unread desks names c.in-Err.ensures.outputs c.requires c.unread_outcome.result c.in-Err.why c.in-Err.ensures.reads c.in-Err.ensures.tries
    c.unread_outcome.ensures.answer c.unread_outcome.ensures.failed c.in-Err.ensures.faults
