use Rattle.std.proofs.Common.{ℕ, IsTrue, List, [], ◌∷◌, refl, subst}
use Rattle.ioam_desk.specs.Touches.{State, state}
use Rattle.ioam_run_answer.specs.Bounds.{answered}
use Rattle.ioam_run_answer.specs.Desks.{around}
use Rattle.ioam_run_answer.specs.declared.outcome.Outcome.TheVariants as outcome
use Rattle.ioam_run_bulk.specs.Promise.{Keeps, MayReport}
use Rattle.ioam_run_bulk.specs.Stage.{Says, SaysOne}
use Rattle.ioam_run_bulk.proofs.RanLaws.{keeps_none, keeps_ran}
use Rattle.ioam_stream.specs.Frame.{Frame, Leaves}
use Rattle.std.specs.Prelude.{⊤}
use Rattle.ioam_run_bulk.proofs.bulk.run_by.Goals as goal

pub returns-in_default : goal.returns-in_default
returns-in_default g c = record {
  keeps = keeps_none g.D.Desk.tells c.args.seed c.args.count c.args.report.now (g.D.Desk.reading c.args.desk.now) (g.D.Desk.writing c.args.desk.now);
}

pub returns : goal.returns
returns g c =
    let tells = g.D.Desk.tells in
    let begun = c.in-Ok.stage in
    let seed = begun.terms.seed in
    let count = begun.terms.count in
    let old : State = state (g.D.Desk.reading c.args.desk.now) (g.D.Desk.writing c.args.desk.now) in
    let new : State = state (g.D.Desk.reading c.run.new.desk) (g.D.Desk.writing c.run.new.desk) in
    let desks = around tells old.inputs new.inputs old.outputs new.outputs in
    let Framed : List (List ℕ) → Type 0 = λ outs. Frame tells [] outs old new ⊤ c.run.result in
    let Left : List (List ℕ) → Type 0 = λ outs. Leaves tells [] outs old new (λ how contents. Says begun) (λ contents. SaysOne (MayReport seed count)) c.run.result in
    let frame = subst Framed c.from_ref.ensures.value c.run.ensures.frame in
    let leaves : IsTrue tells → Left (c.args.report.now ∷ []) = λ told. subst Left c.from_ref.ensures.value (c.run.ensures.leaves told) in
    let ran = keeps_ran tells seed count c.args.report.now old new (λ how. Says begun) (λ so says. says) ⊤ c.run.result frame leaves (c.run.ensures.alone refl) in
    let Answered : ℕ → ℕ → Type 0 = λ s n. Keeps desks s n c.args.report.now (answered c.run.result outcome.Done) in
    record {
      keeps = subst (λ (s : ℕ). Answered s c.args.count) c.in-Ok.ensures.seed.0 (subst (λ (n : ℕ). Answered seed n) c.in-Ok.ensures.seed.1 ran);
    }
