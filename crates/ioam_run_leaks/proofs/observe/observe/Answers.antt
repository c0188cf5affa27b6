use Rattle.std.proofs.Common.{arith}
use Rattle.ioam_pcap.specs.Cut.{is_cut}
use Rattle.ioam_run_stream.specs.Reader.{taken_of}
use Rattle.ioam_ip.proofs.WithinLaws.{held-within}
use Rattle.ioam_run_leaks.proofs.observe.observe.Goals as goal

pub returns-in-Packet-clause-sound : goal.returns-in-Packet-clause-sound
returns-in-Packet-clause-sound c =
    let record_is = taken_of c.args.link c.args.captured.now in
    let within = held-within record_is.link (is_cut record_is.entry) record_is.entry.octets c.in-Packet.packet.now c.in-Packet.ensures.framing in
    (c.in-Packet.ensures.packet, omega (arith, c.requires, within))
