-- What a record of a capture gives.
use Rattle.ioam_ip.specs.Framing.{Framing, framing_of}
use Rattle.ioam_pcap.specs.Cut.{is_cut}
use Rattle.ioam_pcap.specs.Entries.{Taken}

-- what a record of a capture gives: it is cut where it has fewer octets than the frame had
abbrev pub taken_framing : Taken → Framing
taken_framing t = framing_of t.link (is_cut t.entry) t.entry.octets
