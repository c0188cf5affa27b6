use Rattle.std.proofs.Common.{◌≢◌, ◌∷◌, []}
use Rattle.ioam_run_answer.proofs.RanLaws.{bounds_names}
use Rattle.ioam_run_ipfix.proofs.ipfix.run_names.Goals as goal

pub returns-then-is-clause-bounds : goal.returns-then-is-clause-bounds
returns-then-is-clause-bounds g c = bounds_names g.D.Desk.tells c.args.files.now.exports (c.args.files.now.out ∷ []) (c.args.files.now.exports ≢ c.args.files.now.out) (g.D.Desk.reading c.args.desk.now) (g.D.Desk.writing c.args.desk.now)
    c.names_outcome.result c.files.inside.out.now c.names_outcome.ensures
