-- The packet that a captured frame holds has no more octets than the frame.
use Rattle.std.proofs.Common.{◌≡◌, ℕ, ◌≤◌, Bool, List, length, subst, sym, arith, length-take}
use Rattle.ioam_ip.specs.Framing.{Framing, Holds, IfHolds, framing_of}
use Rattle.ioam_ip.specs.declared.layer.Layer.{Layer}
use Rattle.ioam_ip.specs.Packet.{whole_length}
use Rattle.ioam_ip.proofs.FramingLaws.{framing-holds}

-- no more octets than so many
abbrev pub Within : ℕ → Framing → Type 0
Within size framing = IfHolds framing (λ packet. length packet ≤ size)

pub framing-within : (layer : Layer) (cut : Bool) (frame : List ℕ) (size : ℕ) → length frame ≤ size → Within size (framing_of layer cut frame)
framing-within layer cut frame size few = framing-holds (λ packet. length packet ≤ size) layer cut frame
    (λ octets fits six there whole. omega (arith, few, length-take (whole_length octets) octets))

-- the packet that a frame holds
pub held-within : (layer : Layer) (cut : Bool) (frame packet : List ℕ) → Holds packet ≡ framing_of layer cut frame → length packet ≤ length frame
held-within layer cut frame packet is = subst (Within (length frame)) (sym is) (framing-within layer cut frame (length frame) (omega arith))
