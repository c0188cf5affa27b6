-- The layers that a captured frame may begin at.
use Rattle.std.specs.Prelude.{ℕ, Bool, true, false, Option, Some, None}
use Rattle.ioam_ip.specs.declared.layer.Layer.{Layer}
use Rattle.ioam_ip.specs.declared.layer.Layer.TheVariants.{Ethernet, Raw}

-- how many octets stand before the packet, and the offset of the Ethertype, if they have one: an Ethernet
-- header has 14, and ends with it (RFC 2464 section 3)
abbrev pub link_header : Layer → ℕ × Option ℕ
link_header Ethernet = (14, Some 12)
link_header Raw = (0, None)

-- the layer of a frame with an Ethernet header, and of one without
abbrev pub layer_of : Bool → Layer
layer_of true = Ethernet
layer_of false = Raw
