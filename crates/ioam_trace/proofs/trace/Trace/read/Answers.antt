use Rattle.ioam_trace.proofs.ReadLaws.{fault_in-Reads, elements-Reads}
use Rattle.ioam_trace.proofs.DataLaws.{ReadsAgain-Reads}
use Rattle.ioam_trace.proofs.trace.Trace.read.Goals as goal

pub returns-clause-fault : goal.returns-clause-fault
returns-clause-fault c = fault_in-Reads c.args.octets.now c.read_octets.result c.read_octets.ensures

pub returns-clause-elements : goal.returns-clause-elements
returns-clause-elements c = elements-Reads c.args.octets.now c.read_octets.result c.read_octets.ensures

pub returns-clause-again : goal.returns-clause-again
returns-clause-again c = ReadsAgain-Reads c.args.octets.now c.read_octets.result c.read_octets.ensures
