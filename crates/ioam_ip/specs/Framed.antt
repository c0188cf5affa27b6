-- What contracts see of a `Framed`.
use Rattle.ioam_ip.specs.Framing.{Framing, Holds, NoIpv6, CutShort, TooShort}
use Rattle.ioam_ip.specs.declared.frame.Framed.{Framed}
use Rattle.ioam_ip.specs.declared.frame.Framed.TheVariants.{Packet, NotIpv6, Cut, Length}

-- what a frame gave, with the packet's octets
abbrev pub framing : Framed → Framing
framing (Packet octets) = Holds octets.now
framing NotIpv6 = NoIpv6
framing Cut = CutShort
framing Length = TooShort
