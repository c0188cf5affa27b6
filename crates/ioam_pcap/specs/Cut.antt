-- Records of which fewer octets were captured than their packets had.
use Rattle.std.specs.Prelude.{Bool, nat_lt, length}
use Rattle.ioam_pcap.specs.Entries.{Entry}

-- whether fewer octets of a packet were captured than it had
abbrev pub is_cut : Entry → Bool
is_cut entry = nat_lt (length entry.octets) entry.original
