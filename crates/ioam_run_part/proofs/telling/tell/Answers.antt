use Rattle.std.proofs.Common.{[], IsTrue, List, ℕ, false, subst}
use Rattle.std.specs.Prelude.{⊤}
use Rattle.ioam_desk.specs.Touches.{state}
use Rattle.ioam_desk.proofs.TouchesLaws.{touches-kept_out}
use Rattle.ioam_run_part.specs.Telling.{Tells, TellsFront}
use Rattle.ioam_run_part.specs.declared.telling.Telling.{Telling}
use Rattle.ioam_run_part.proofs.TellingLaws.{told_stored}
use Rattle.ioam_stream.specs.Frame.{Frame, Leaves, failing_all}
use Rattle.ioam_run_part.proofs.telling.tell.Goals as goal

pub returns-clause-stores : goal.returns-clause-stores
returns-clause-stores g c = λ text says.
    let tells = g.D.Desk.tells in
    let old = state (g.D.Desk.reading c.args.desk.now) (g.D.Desk.writing c.args.desk.now) in
    let new = state (g.D.Desk.reading c.run-stop.new.desk) (g.D.Desk.writing c.run-stop.new.desk) in
    let begun : Telling _ = record { source = c.args.source; done = false; fed = false } in
    let F : List (List ℕ) → Type 0 = λ outs. Frame tells [] outs old new ⊤ c.run-stop.result in
    let L : List (List ℕ) → Type 0 = λ outs. IsTrue tells → Leaves tells [] outs old new (λ how contents so. Tells g.T.Source.says g.T.Source.left begun so)
    (λ contents so. TellsFront g.T.Source.says g.T.Source.left begun so) c.run-stop.result in
    rw c.stored.ensures (told_stored tells c.args.name.now old new ⊤ g.T.Source.says g.T.Source.left begun c.run-stop.result (subst F c.from_ref.ensures.value c.run-stop.ensures.frame)
    (subst L c.from_ref.ensures.value c.run-stop.ensures.leaves) text says)

pub returns-clause-kept : goal.returns-clause-kept
returns-clause-kept g c = λ told. touches-kept_out g.D.Desk.tells [] c.from_ref.result.now (failing_all c.run-stop.result)
    (state (g.D.Desk.reading c.args.desk.now) (g.D.Desk.writing c.args.desk.now)) (state (g.D.Desk.reading c.run-stop.new.desk) (g.D.Desk.writing c.run-stop.new.desk)) told c.run-stop.ensures.frame.touches
