use Rattle.ioam_trace.proofs.ReadLaws.{fault_in-Decodes, elements-Decodes, DecodesAgain-Decodes}
use Rattle.ioam_trace.proofs.incremental.Incremental.decode.Goals as goal

pub returns-clause-fault : goal.returns-clause-fault
returns-clause-fault c = fault_in-Decodes c.args.octets.now c.decode_octets.result c.decode_octets.ensures

pub returns-clause-elements : goal.returns-clause-elements
returns-clause-elements c = elements-Decodes c.args.octets.now c.decode_octets.result c.decode_octets.ensures

pub returns-clause-again : goal.returns-clause-again
returns-clause-again c = DecodesAgain-Decodes c.args.octets.now c.decode_octets.result c.decode_octets.ensures
