use Rattle.std.proofs.Common.{◌≢◌, ◌∷◌, []}
use Rattle.ioam_run_answer.proofs.RanLaws.{bounds_names}
use Rattle.ioam_run_collect.proofs.collect.run_names.Goals as goal

pub returns-then-is-clause-bounds : goal.returns-then-is-clause-bounds
returns-then-is-clause-bounds g c = bounds_names g.D.Desk.tells c.args.files.now.exports (c.args.files.now.report ∷ []) (c.args.files.now.exports ≢ c.args.files.now.report)
    (g.D.Desk.reading c.args.desk.now) (g.D.Desk.writing c.args.desk.now) c.names_outcome.result c.files.inside.report.now c.names_outcome.ensures
