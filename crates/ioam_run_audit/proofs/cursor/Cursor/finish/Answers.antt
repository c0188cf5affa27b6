use Rattle.std.proofs.Common.{refl}
use Rattle.ioam_pcap.specs.Ending.{ending_of}
use Rattle.ioam_run_audit.proofs.CursorLaws.{ended_of}
use Rattle.ioam_run_audit.proofs.cursor.Cursor.finish.Goals as goal

pub returns : goal.returns
returns c = ended_of c.args.self.now _ (ending_of c.finish.result) refl c.end_of-self.ensures refl refl refl c.requires.waits c.finish.ensures.reads
