use Rattle.std.proofs.Common.{◌≡◌, ◌≢◌, Bool, MatchBool, refl, subst}
use Rattle.ioam_run_answer.specs.Desks.{Desks, around}
use Rattle.ioam_run_part.specs.Files.{PartsNames}
use Rattle.ioam_run_part.specs.PartsPromise.{PartsKeeps}
use Rattle.ioam_run_part.proofs.PartsLaws.{keeps_names}
use Rattle.ioam_run_part.proofs.parts.run_parts.Goals as goal

pub returns-then-is : goal.returns-then-is
returns-then-is g c =
    let names : PartsNames = record { part = c.files.inside.part.now; report = c.files.inside.report.now } in
    let desks : Desks = around g.D.Desk.tells (g.D.Desk.reading c.args.desk.now) (g.D.Desk.reading c.args.desk.now) (g.D.Desk.writing c.args.desk.now) (g.D.Desk.writing c.args.desk.now) in
    let B : Bool → Type 0 = λ b. MatchBool b (names.part ≡ names.report) (names.part ≢ names.report) in
    let K : PartsNames → Type 0 = λ f. PartsKeeps desks f c.names_outcome.result in
    record { keeps = subst K c.files.view_is (keeps_names desks names refl refl c.names_outcome.result names.report (subst B c.if-is.true c.is.ensures) refl c.names_outcome.ensures) }

pub run_apart-requires : goal.run_apart-requires
run_apart-requires g c =
    let B : Bool → Type 0 = λ b. MatchBool b (c.files.inside.part.now ≡ c.files.inside.report.now) (c.files.inside.part.now ≢ c.files.inside.report.now) in
    subst B c.if-is.false c.is.ensures

pub returns-else-is : goal.returns-else-is
returns-else-is g c =
    let desks : Desks = around g.D.Desk.tells (g.D.Desk.reading c.args.desk.now) (g.D.Desk.reading c.run_apart.new.desk) (g.D.Desk.writing c.args.desk.now) (g.D.Desk.writing c.run_apart.new.desk) in
    let K : PartsNames → Type 0 = λ f. PartsKeeps desks f c.run_apart.result in
    record { keeps = subst K c.files.view_is c.run_apart.ensures }
