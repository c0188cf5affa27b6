use Rattle.ioam_run_files.proofs.NamesLaws.{named_each_of}
use Rattle.ioam_run_files.proofs.names.output_names.Goals as goal

pub returns-clause-sized : goal.returns-clause-sized
returns-clause-sized c = named_each_of c.args.domain.now c.args.report.now c.args.exports.now _ c.written_names.result c.written_names.ensures
