use Rattle.std.proofs.Common.{◌∷◌, [], ◌≡◌, ◌≢◌, IsTrue, sym, subst}
use Rattle.ioam_desk.specs.Asked.{AsksFront}
use Rattle.ioam_desk.specs.Desk as desk
use Rattle.ioam_desk.specs.Desk.{Writing, holds}
use Rattle.ioam_desk.specs.Kept.{KeepsOutputs}
use Rattle.ioam_run_answer.specs.Desks.{Desks, around}
use Rattle.ioam_run_answer.specs.declared.outcome.Outcome.TheVariants as outcome
use Rattle.ioam_run_part.specs.Files.{AreApart, MergeNames}
use Rattle.ioam_run_part.specs.Joined.{WritesJoined}
use Rattle.ioam_run_part.specs.MergePromise.{MergeKeeps}
use Rattle.ioam_run_part.specs.Two.{HoldsTwo, TriesTwo}
use Rattle.ioam_run_part.proofs.MergeLaws.{keeps_joined, keeps_refused}
use Rattle.ioam_run_part.proofs.merge.run_apart.Goals as goal

pub returns-in-Ok : goal.returns-in-Ok
returns-in-Ok g c =
    let names : MergeNames = record { one = c.files.inside.one.now; two = c.files.inside.two.now; part = c.files.inside.part.now } in
    let tells = g.D.Desk.tells in
    let old = g.D.Desk.writing c.args.desk.now in
    let new = g.D.Desk.writing c.write_joined.new.desk in
    let old_in = g.D.Desk.reading c.args.desk.now in
    let new_in = g.D.Desk.reading c.write_joined.new.desk in
    let first = holds old names.one in
    let second = holds old names.two in
    let P : desk.Reading → Type 0 = λ r. HoldsTwo tells first second names.one names.two old_in r c.in-Ok.first c.in-Ok.second in
    let Q : desk.Reading → Type 0 = λ r. TriesTwo tells first second names.one names.two old_in r in
    let held = subst P (sym c.write_joined.ensures.inputs) c.in-Ok.ensures.reads in
    let tries = subst Q (sym c.write_joined.ensures.inputs) c.in-Ok.ensures.tries in
    let W : Writing → Type 0 = λ w. WritesJoined tells names.part held.first_held.records held.second_held.records w new c.write_joined.result in
    let A : Writing → Type 0 = λ w. AsksFront w.side.asked new.side.asked (names.part ∷ []) in
    let K : Writing → Type 0 = λ w. IsTrue tells → KeepsOutputs w new in
    let F : Writing → Type 0 = λ w. c.write_joined.result ≢ outcome.WriteFault → new.side.faults ≡ w.side.faults in
    let N : MergeNames → Type 0 = λ f. AreApart f.one f.two f.part in
    let apart = subst N (sym c.files.view_is) c.requires in
    let E : MergeNames → Type 0 = λ f. MergeKeeps (around tells old_in new_in old new) f c.write_joined.result in
    subst E c.files.view_is (keeps_joined (around tells old_in new_in old new) names apart c.in-Ok.first c.in-Ok.second held c.write_joined.result
    (subst W c.in-Ok.ensures.outputs (c.write_joined.ensures.writes held.first_held.records held.second_held.records held.first_held.part held.second_held.part))
    tries (subst A c.in-Ok.ensures.outputs c.write_joined.ensures.asked) (subst K c.in-Ok.ensures.outputs c.write_joined.ensures.kept) (subst F c.in-Ok.ensures.outputs c.write_joined.ensures.faults))

pub returns-in-Err : goal.returns-in-Err
returns-in-Err g c =
    let names : MergeNames = record { one = c.files.inside.one.now; two = c.files.inside.two.now; part = c.files.inside.part.now } in
    let desks : Desks = around g.D.Desk.tells (g.D.Desk.reading c.args.desk.now) (g.D.Desk.reading c.read_two.new.desk) (g.D.Desk.writing c.args.desk.now) (g.D.Desk.writing c.read_two.new.desk) in
    let N : MergeNames → Type 0 = λ f. AreApart f.one f.two f.part in
    let apart = subst N (sym c.files.view_is) c.requires in
    let E : MergeNames → Type 0 = λ f. MergeKeeps desks f c.in-Err.answer in
    subst E c.files.view_is (keeps_refused desks names c.in-Err.ensures.outputs apart c.in-Err.answer c.in-Err.ensures.reads c.in-Err.ensures.tries c.in-Err.ensures.faults)
