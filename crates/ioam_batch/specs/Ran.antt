-- What the visits of a packet leave: the packet, what was sent on links with a tap, the notes and the export records.
use Rattle.std.specs.Prelude.{ℕ, ◌≡◌, ◌+◌, ◌-◌, Bool, true, false, List, [], ◌∷◌, ◌++◌, Option, length, map}
use Rattle.ioam_batch.specs.Along.{along}
use Rattle.ioam_batch.specs.Crossings.{sent_if}
use Rattle.ioam_batch.specs.Taps.{is_tapped}
use Rattle.ioam_clock.specs.declared.sample.Sample.{Sample}
use Rattle.ioam_dex.specs.Reads.{records_octets}
use Rattle.ioam_ip.specs.Lowered.{lowered}
use Rattle.ioam_plan.specs.declared.itinerary.Visit.{Visit}
use Rattle.ioam_topo.specs.declared.domain.Domain.{Domain}
use Rattle.ioam_tunnel.specs.Wire.{Tunnel}
use Rattle.ioam_node_visit.specs.Counted.{hop_notes}
use Rattle.ioam_node_visit.specs.Notes.{notes_of}
use Rattle.ioam_node_visit.specs.Room.{Room}
use Rattle.ioam_node_visit.specs.Visits.{Visited, closed_after, tunnel_records, wire_after}
use Rattle.ioam_node_visit.specs.declared.note.NodeNote.{NodeNote}

-- ---- an enclosed packet

-- a visit as the packet's traces see it
abbrev pub passed : Visit → Visited
passed visit = record { place = visit.place; time = visit.time }

module _ (domain : Domain) (readings : List (List Sample)) (tunnel : Tunnel) where
  -- the packet after these visits, at each of which it was sent on
  abbrev pub wired : List Visit → List ℕ
  wired visits = wire_after domain readings tunnel (map passed visits)

  -- what a visit behind those that are done sends on a link with a tap, notes and exports
  abbrev pub crossed_at : List Visit → Visit → List (Option (List ℕ))
  crossed_at done visit = sent_if (is_tapped domain visit) (wired (done ++ visit ∷ [])) ∷ []

  -- the notes of a visit, behind those that are done
  abbrev pub noted_at : List Visit → Visit → List NodeNote
  noted_at done visit = hop_notes (notes_of domain readings visit.place visit.time (tunnel.hops - length done)) (wired done)

  -- the octets of the records that a visit exports, behind those that are done
  abbrev pub exported_at : List Visit → Visit → List ℕ
  exported_at done visit = records_octets (tunnel_records domain readings tunnel (length done) (passed visit))

  -- what these visits sent on links with a tap, noted and exported
  pub record Ran (visits : List Visit) (past : List (Option (List ℕ))) (room : Room) : Type 0 where
    pub past_is : past ≡ along crossed_at [] visits
    pub notes_are : room.notes ≡ along noted_at [] visits
    pub exports_are : room.exports ≡ along exported_at [] visits

  -- these visits sent the packet on
  pub record Sent (visits : List Visit) (packet : List ℕ) (past : List (Option (List ℕ))) (room : Room) : Type 0 where
    pub packet_is : packet ≡ wired visits
    pub ran : Ran visits past room

  -- and at this one, its exit, the packet's traces were closed
  pub record Closed (visits : List Visit) (last : Visit) (packet : List ℕ) (past : List (Option (List ℕ))) (room : Room) : Type 0 where
    pub packet_is : packet ≡ closed_after domain readings tunnel (map passed visits) (passed last)
    pub ran : Ran (visits ++ last ∷ []) past room

  -- these visits, of which the last is its exit's
  pub record Exited (visits : List Visit) (packet : List ℕ) (past : List (Option (List ℕ))) (room : Room) : Type 0 where
    pub front : List Visit
    pub last : Visit
    pub are : visits ≡ front ++ last ∷ []
    pub closed : Closed front last packet past room

  -- the packet reached its exit at the last of these visits, or did not
  abbrev pub RanBy : Bool → List Visit → List ℕ → List (Option (List ℕ)) → Room → Type 0
  RanBy true visits packet past room = Exited visits packet past room
  RanBy false visits packet past room = Sent visits packet past room

-- ---- a packet that isn't enclosed

-- what visits send on links with a tap, behind so many: each lowers the hop limit by one
abbrev pub lowered_from : List ℕ → ℕ → List Bool → List (Option (List ℕ))
lowered_from packet count [] = []
lowered_from packet count (tap ∷ taps) = sent_if tap (lowered (count + 1) packet) ∷ lowered_from packet (count + 1) taps
