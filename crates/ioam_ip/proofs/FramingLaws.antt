-- The packet that a captured frame holds.
use Rattle.std.proofs.Common.{◌≡◌, ℕ, ◌/◌, ◌≤◌, Bool, true, false, List, length, take, drop, slice_index, refl, arith, length-take, length-drop, get_or-take, if◌then◌else◌}
use Rattle.std.specs.Prelude.{nat_lt, not, ◌||◌, ◌==◌}
use Rattle.std.proofs.lemmas.Bool.Decides.{nat_tests}
use Rattle.ioam_ip.specs.Framing.{Framing, Holds, NoIpv6, CutShort, TooShort, IfHolds, framed, framing_of, announces_ipv6}
use Rattle.ioam_ip.specs.Layer.{link_header}
use Rattle.ioam_ip.specs.declared.layer.Layer.{Layer}
use Rattle.ioam_ip.specs.Packet.{whole_length, IsPacket}

either : (P : List ℕ → Type 0) (b : Bool) (f g : Framing) → (b ≡ true → IfHolds f P) → (b ≡ false → IfHolds g P) → IfHolds (if b then f else g) P
either P true f g first second = first refl
either P false f g first second = second refl

-- the octets that a header counts are a packet
counted : (octets : List ℕ) → slice_index octets 0 / 16 ≡ 6 → 40 ≤ length octets → whole_length octets ≤ length octets
    → IsPacket (take (whole_length octets) octets)
counted octets version there whole =
    let size : ℕ = whole_length octets in
    let long : length (take size octets) ≡ size = omega (arith, length-take size octets) in
    record {
      header_there = omega (arith, long);
      version = omega (arith, version, get_or-take size octets 0 0 (omega arith));
      whole = omega (arith, long, get_or-take size octets 4 0 (omega arith), get_or-take size octets 5 0 (omega arith));
    }

-- what holds of the octets that a header counts holds of the packet that a frame gives
pub framing-holds : (P : List ℕ → Type 0) (layer : Layer) (cut : Bool) (frame : List ℕ)
    → ((octets : List ℕ) → length octets ≤ length frame → slice_index octets 0 / 16 ≡ 6 → 40 ≤ length octets → whole_length octets ≤ length octets
    → P (take (whole_length octets) octets)) → IfHolds (framing_of layer cut frame) P
framing-holds P layer cut frame holds =
    let n : ℕ = (link_header layer).0 in
    let octets : List ℕ = drop n frame in
    let short : Bool = nat_lt (length octets) 40 || nat_lt (length octets) (whole_length octets) in
    let packet : Framing = Holds (take (whole_length octets) octets) in
    let third : Framing = if short then TooShort else packet in
    either P (announces_ipv6 layer frame) (framed cut octets) NoIpv6
    (λ here. either P (not (slice_index octets 0 / 16 == 6)) NoIpv6 (if cut then CutShort else third) (λ no. tt)
    (λ six. either P cut CutShort third (λ no. tt)
    (λ whole. either P short TooShort packet (λ no. tt)
    (λ enough. holds octets (omega (arith, length-drop n frame)) (grind (arith, nat_tests)) (grind (arith, nat_tests)) (grind (arith, nat_tests))))))
    (λ no. tt)

-- what a frame gives is a packet
pub framing-packet : (layer : Layer) (cut : Bool) (frame : List ℕ) → IfHolds (framing_of layer cut frame) IsPacket
framing-packet layer cut frame = framing-holds IsPacket layer cut frame (λ octets fits. counted octets)
