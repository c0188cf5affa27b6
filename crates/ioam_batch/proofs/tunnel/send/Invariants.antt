use Rattle.std.proofs.Common.{◌≡◌, ◌+◌, ◌*◌, ◌≤◌, [], length, map, take, drop, slice_index}
use Rattle.ioam_batch.specs.Crossings.{taps_of}
use Rattle.ioam_batch.specs.Ran.{Sent}
use Rattle.ioam_batch.specs.Taps.{is_tapped}
use Rattle.ioam_ip.specs.Chain.{IsSound}
use Rattle.ioam_ip.specs.Hop.{option_count}
use Rattle.ioam_ip.specs.Packet.{IsPacket}
use Rattle.ioam_tunnel.specs.Wire.{IsTunnel, Tunnel}
use Rattle.ioam_batch.proofs.tunnel.send.Given as goal

abbrev pub invariant-loop-i : goal.invariant-loop-i
invariant-loop-i l =
    IsPacket l.packet × IsSound l.packet × (slice_index l.packet 7 + l.i ≡ slice_index l.fn.packet 7 + 1)
    × (option_count l.packet ≡ option_count l.fn.packet)
    × (l.fn.room.spare ≤ l.room.spare + l.i * option_count l.fn.packet)
    × (l.room.spare + length l.room.notes ≡ l.fn.room.spare + length l.fn.room.notes)
    × (l.crossings.ahead ≡ drop l.i (map (is_tapped l.domain) l.visits))
    × (l.crossings.size ≡ l.fn.crossings.size) × (l.crossings.capacities ≡ l.fn.crossings.capacities)
    × (taps_of l.crossings ≡ taps_of l.fn.crossings)
    × ((tunnel : Tunnel) → IsTunnel tunnel → Sent l.domain l.readings tunnel [] l.fn.packet l.fn.crossings.past l.fn.room
    → Sent l.domain l.readings tunnel (take l.i l.visits) l.packet l.crossings.past l.room)
    × (l.room.capacities ≡ l.fn.room.capacities)
