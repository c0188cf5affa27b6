-- An enclosed packet by the visits on its way.
use Rattle.std.specs.Prelude.{ℕ, ◌+◌, ◌-◌, if◌then◌else◌, List, [], ◌∷◌, ◌++◌, length}
use Rattle.ioam_clock.specs.declared.sample.Sample.{Sample}
use Rattle.ioam_data.specs.Kind.{words}
use Rattle.ioam_data.specs.Written.{element_of}
use Rattle.ioam_dex.specs.Record.{Record}
use Rattle.ioam_ip.specs.Laid.{Part}
use Rattle.ioam_node.specs.declared.place.Place.{Place}
use Rattle.ioam_topo.specs.declared.domain.Domain.{Domain}
use Rattle.ioam_tunnel.specs.Wire.{Tunnel, Room, packet_with, limit_after, hop_parts}
use Rattle.ioam_node_visit.specs.Exports.{records_of}
use Rattle.ioam_node_visit.specs.Seeing.{view_of}
use Rattle.ioam_node_visit.specs.Step.{knows}

-- a visit: where, and when
pub record Visited : Type 0 where
  pub place : Place
  pub time : ℕ

module _ (domain : Domain) (readings : List (List Sample)) (tunnel : Tunnel) where
  -- the element that a visit adds to a trace, so many visits after the entry's: what the node knows of the trace's
  -- namespace, and nothing where it doesn't know that
  abbrev pub element_at : Room → ℕ → Visited → List (List ℕ)
  element_at room before visit = if knows domain visit.place.node.0 room.namespace
      then element_of room.kind (words room.kind) (view_of domain readings visit.place visit.time (tunnel.hops - before) room.namespace) ∷ []
      else []

  -- the elements of visits in a trace, of which the first is so many visits after the entry's
  abbrev pub elements_from : Room → ℕ → List Visited → List (List ℕ)
  elements_from room before [] = []
  elements_from room before (visit ∷ visits) = element_at room before visit ++ elements_from room (before + 1) visits

  -- the elements of these visits in a trace, the entry's first
  abbrev pub elements : List Visited → Room → List (List ℕ)
  elements visits room = elements_from room 0 visits

  -- the packet after these nodes have sent it
  unfoldable pub wire_after : List Visited → List ℕ
  wire_after visits = packet_with tunnel (limit_after tunnel (length visits)) (hop_parts tunnel (elements visits))

  -- the packet after these nodes have sent it and the exit has recorded its visit
  unfoldable pub closed_after : List Visited → Visited → List ℕ
  closed_after visits last = packet_with tunnel (limit_after tunnel (length visits)) (hop_parts tunnel (elements (visits ++ last ∷ [])))

-- the records of options that are laid out, in their order
module _ (records : ℕ → List ℕ → List Record) where
  -- the export records of these options, in their order
  abbrev pub part_records : List Part → List Record
  part_records [] = []
  part_records (part ∷ parts) = records part.kind part.body ++ part_records parts

-- the records that a visit exports of an enclosed packet, so many visits after the entry's: those of the options behind
-- its traces, which are its direct export
abbrev pub tunnel_records : Domain → List (List Sample) → Tunnel → ℕ → Visited → List Record
tunnel_records domain readings tunnel before visit =
    part_records (records_of domain readings visit.place visit.time (tunnel.hops - before)) tunnel.others
