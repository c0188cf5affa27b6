use Rattle.std.proofs.Common.{◌≢◌, ◌∷◌, []}
use Rattle.ioam_run_answer.proofs.RanLaws.{bounds_names}
use Rattle.ioam_run_part.proofs.part.run_names.Goals as goal

pub returns-then-is-clause-bounds : goal.returns-then-is-clause-bounds
returns-then-is-clause-bounds g c = bounds_names g.D.Desk.tells c.args.files.now.exports (c.args.files.now.part ∷ []) (c.args.files.now.exports ≢ c.args.files.now.part)
    (g.D.Desk.reading c.args.desk.now) (g.D.Desk.writing c.args.desk.now) c.names_outcome.result c.files.inside.part.now c.names_outcome.ensures
