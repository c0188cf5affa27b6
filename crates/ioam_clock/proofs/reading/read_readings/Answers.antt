use Rattle.std.proofs.Common.{Ok, Err, arith}
use Rattle.std.proofs.lemmas.Grind.{common_steps}
use Rattle.ioam_clock.specs.Reading.{node_names}
use Rattle.ioam_clock.proofs.FileLaws.{file_read}
use Rattle.ioam_clock.proofs.SpelledLaws.{line_iff}
use Rattle.ioam_clock.proofs.reading.read_readings.Goals as goal

pub returns-in-Ok-add_lines-clause-file : goal.returns-in-Ok-add_lines-clause-file
returns-in-Ok-add_lines-clause-file c = file_read (node_names c.args.domain.now) c.args.octets.now (Ok c.add_lines.new.tracks.items) (grind (arith, common_steps))

pub returns-in-Err-add_lines-clause-file : goal.returns-in-Err-add_lines-clause-file
returns-in-Err-add_lines-clause-file c = file_read (node_names c.args.domain.now) c.args.octets.now (Err c.in-Err-add_lines.refused) (grind (arith, common_steps))

pub returns-then-octets-gt-MOST_OCTETS-clause-spelled : goal.returns-then-octets-gt-MOST_OCTETS-clause-spelled
returns-then-octets-gt-MOST_OCTETS-clause-spelled c = line_iff (node_names c.args.domain.now)

pub returns-in-Err-clause-spelled : goal.returns-in-Err-clause-spelled
returns-in-Err-clause-spelled c = line_iff (node_names c.args.domain.now)

pub returns-in-Ok-add_lines-clause-spelled : goal.returns-in-Ok-add_lines-clause-spelled
returns-in-Ok-add_lines-clause-spelled c = line_iff (node_names c.args.domain.now)

pub returns-in-Err-add_lines-clause-spelled : goal.returns-in-Err-add_lines-clause-spelled
returns-in-Err-add_lines-clause-spelled c = line_iff (node_names c.args.domain.now)
