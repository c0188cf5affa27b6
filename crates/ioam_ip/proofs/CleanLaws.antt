-- A packet that may leave the domain may leave it with another hop limit (RFC 8200 section 3).
use Rattle.std.proofs.Common.{◌≡◌, ◌≢◌, ℕ, ◌/◌, List, length, slice_index, set, ap, ◌∙◌, get_or-set_other, arith}
use Rattle.std.proofs.Math.ListN.{length-set}
use Rattle.ioam_ip.specs.Clean.{IsClean, MayLeave}
use Rattle.ioam_ip.specs.Packet.{IsPacket}
use Rattle.ioam_ip.proofs.SoundLaws.{IsSound-lowered}
use Rattle.ioam_ip.proofs.CarriedLaws.{CarriesIoam-raised}

pub clean-lowered : (packet : List ℕ) (hops : ℕ) → IsClean packet → IsClean (set packet 7 hops)
clean-lowered packet hops clean = (IsSound-lowered packet hops clean.0, λ carries. clean.1 (CarriesIoam-raised packet hops carries))

-- it is one packet still
pub packet-lowered : (packet : List ℕ) (hops : ℕ) → IsPacket packet → IsPacket (set packet 7 hops)
packet-lowered packet hops is =
    let long : length (set packet 7 hops) ≡ length packet = length-set packet 7 hops in
    let same : (i : ℕ) → i ≢ 7 → slice_index (set packet 7 hops) i ≡ slice_index packet i = λ i other. get_or-set_other packet 7 i hops 0 other in
    record {
      header_there = omega (arith, long, is.header_there);
      version = ap (λ (n : ℕ). n / 16) (same 0 (omega arith)) ∙ is.version;
      whole = omega (arith, long, is.whole, same 4 (omega arith), same 5 (omega arith));
    }

pub leaving-lowered : (packet : List ℕ) (hops : ℕ) → MayLeave packet → MayLeave (set packet 7 hops)
leaving-lowered packet hops may = (packet-lowered packet hops may.0, clean-lowered packet hops may.1)
