-- What a node makes of a packet that it sends.
use Rattle.std.proofs.Common.{◌≡◌, ◌↔◌, ℕ, ◌-◌, Bool, true, false, IsTrue, List, [], ◌∷◌, ◌++◌, length, take, slice_index, Option, Some, None, Ok, Err, refl, sym, ◌∙◌, ap, subst, append-nil}
use Rattle.std.specs.Prelude.{if◌then◌else◌, nat_eq, nat_le, nat_lt}
use Rattle.ioam_ip.specs.Chain.{IsSound}
use Rattle.ioam_ip.specs.ChainOptions.{CarriesIoam}
use Rattle.ioam_ip.specs.Hop.{hop_stepped}
use Rattle.ioam_ip.specs.Lowered.{lowered}
use Rattle.ioam_ip.specs.Packet.{IsPacket}
use Rattle.ioam_node.specs.Choice.{mtu_of, way_by}
use Rattle.ioam_node.specs.declared.reason.Reason.TheVariants as reason
use Rattle.ioam_node.specs.declared.place.Place.{Place}
use Rattle.ioam_node.specs.Outward.{outward_of}
use Rattle.ioam_topo.specs.Domain.{routes}
use Rattle.ioam_topo.specs.Forward.{way_to}
use Rattle.ioam_topo.specs.declared.domain.Domain.{Domain}
use Rattle.ioam_topo.specs.declared.ids.LinkId.{LinkId}
use Rattle.ioam_topo.specs.declared.ids.PortId.{PortId}
use Rattle.ioam_topo.specs.declared.ids.Way.{Way}
use Rattle.ioam_topo.specs.declared.ids.Way.TheVariants as way
use Rattle.ioam_node_visit.specs.Counted.{hop_exports, hop_notes}
use Rattle.ioam_node_visit.specs.Exports.{records_of}
use Rattle.ioam_node_visit.specs.Notes.{notes_of}
use Rattle.ioam_node_visit.specs.Step.{node_step}
use Rattle.ioam_node_visit.specs.declared.note.NodeNote.{NodeNote}
use Rattle.ioam_desk_outputs.specs.Told.{Adds}
use Rattle.ioam_desk_outputs.specs.declared.output.Output.{Output}
use Rattle.ioam_pcap.specs.Text.{record_octets, records_text}
use Rattle.ioam_run_node.specs.NodeText.{added_of, out_lines, passage_line, sent_of, way_name}
use Rattle.ioam_run_node.specs.Passage.{CanGo, Goes, LeavesClean, exported, hops_of, noted, passed_on, target_of, own_address, way_for}
use Rattle.ioam_run_node.specs.Seat.{Seat}

-- what a visit at a place, of a packet that came, makes of the packet that was judged
module _ (seat : Seat) (time : ℕ) (sent : Way) (packet came : List ℕ) (outward : Option ℕ) (same : came ≡ packet) (out : outward ≡ outward_of seat.domain sent) where
  abbrev at : Option ℕ → Place
  at o = record { node = seat.node; inward = seat.inward; outward = o }

  pub passed_is : (now : List ℕ) → now ≡ hop_stepped (node_step seat.domain seat.samples (at outward) time (slice_index came 7 - 1)) (lowered 1 came)
      → now ≡ passed_on seat time sent packet
  unfolding passed_on
  passed_is now is =
      let F : List ℕ → Option ℕ → List ℕ = λ c o. hop_stepped (node_step seat.domain seat.samples (at o) time (slice_index c 7 - 1)) (lowered 1 c) in
      is ∙ ap (λ (c : List ℕ). F c outward) same ∙ ap (λ (o : Option ℕ). F packet o) out

  pub noted_is : hop_notes (notes_of seat.domain seat.samples (at outward) time (slice_index came 7 - 1)) came ≡ noted seat time sent packet
  unfolding noted
  noted_is =
      let F : List ℕ → Option ℕ → List NodeNote = λ c o. hop_notes (notes_of seat.domain seat.samples (at o) time (slice_index c 7 - 1)) c in
      ap (λ (c : List ℕ). F c outward) same ∙ ap (λ (o : Option ℕ). F packet o) out

  pub exported_is : hop_exports (records_of seat.domain seat.samples (at outward) time (slice_index came 7 - 1)) came ≡ exported seat time sent packet
  unfolding exported
  exported_is =
      let F : List ℕ → Option ℕ → List ℕ = λ c o. hop_exports (records_of seat.domain seat.samples (at o) time (slice_index c 7 - 1)) c in
      ap (λ (c : List ℕ). F c outward) same ∙ ap (λ (o : Option ℕ). F packet o) out

link_or_port : (long : Bool) (link : LinkId) (port : PortId) → (if long then Err reason.TooBig else Ok (way.Link link)) ≡ Ok (way.Port port) → ⊥
link_or_port true link port is = absurd (cc)
link_or_port false link port is = absurd (cc)

no_port : (own low : Bool) (found : Option Way) (domain : Domain) (size : ℕ) (port : PortId)
    → (if own then Err reason.Local else (if low then Err reason.HopLimit else way_by domain true size found)) ≡ Ok (way.Port port) → ⊥
no_port true low found domain size port is = absurd (cc)
no_port false true found domain size port is = absurd (cc)
no_port false false None domain size port is = absurd (cc)
no_port false false (Some (way.Link link)) domain size port is = link_or_port (nat_lt (mtu_of domain link) size) link port is
no_port false false (Some (way.Port other)) domain size port is = absurd (cc)

-- by a port goes no packet with IOAM
port_free : (seat : Seat) (ioam : Bool) (packet : List ℕ) (port : PortId) → way_for seat ioam packet ≡ Ok (way.Port port) → IsTrue ioam → ⊥
port_free seat false packet port is so = absurd (cc)
port_free seat true packet port is so =
    no_port (nat_eq (target_of packet) (own_address seat)) (nat_le (hops_of packet) 1) (way_to (routes seat.domain) seat.node.0 (target_of packet))
    seat.domain (length packet) port is

-- what leaves by a port is clean
pub clean_is : (seat : Seat) (time : ℕ) (sent : Way) (packet came now : List ℕ) → came ≡ packet → CanGo seat sent packet → now ≡ passed_on seat time sent packet
    → IsPacket now → IsSound now → (CarriesIoam came ↔ CarriesIoam now) → LeavesClean seat (Goes time sent packet)
clean_is seat time (way.Link link) packet came now same can is is_packet sound carries = tt
clean_is seat time (way.Port port) packet came now same can is is_packet sound carries =
    let free : CarriesIoam now → ⊥ = λ so.
    let P : List ℕ → Type 0 = λ p. CarriesIoam p in
    port_free seat can.ioam packet port can.way_is (can.is_ioam.1 (subst P same (carries.1 so))) in
    let Q : List ℕ → Type 0 = λ p. IsPacket p × (IsSound p × (CarriesIoam p → ⊥)) in
    subst Q is (is_packet, (sound, free))

take_front : (xs ys : List ℕ) → take (length xs) (xs ++ ys) ≡ xs
take_front [] ys = refl
take_front (x ∷ xs) ys = ap (λ (rest : List ℕ). x ∷ rest) (take_front xs ys)

-- what was added, in the files of the definition
pub adds_for : (seat : Seat) (old new : List Output) (number time : ℕ) (sent : Way) (packet p : List ℕ) (name : List ℕ) (notes : List NodeNote) (exports : List ℕ)
    → p ≡ passed_on seat time sent packet → name ≡ way_name seat.domain sent → notes ≡ noted seat time sent packet → exports ≡ exported seat time sent packet
    → Adds old new (record_octets time p ∷ out_lines number name notes ∷ exports ∷ []) → Adds old new (added_of seat number (Goes time sent packet))
adds_for seat old new number time sent packet p name notes exports is named noted_so exported_so adds =
    let P : List ℕ → Type 0 = λ o. Adds old new (o ∷ out_lines number name notes ∷ exports ∷ []) in
    let Q : List ℕ → Type 0 = λ l. Adds old new (records_text (sent_of seat (Goes time sent packet)) ∷ l ∷ exports ∷ []) in
    let R : List ℕ → Type 0 = λ e. Adds old new (records_text (sent_of seat (Goes time sent packet)) ∷ passage_line seat number (Goes time sent packet) ∷ e ∷ []) in
    subst R exported_so (subst Q (ap (λ (n : List ℕ). out_lines number n notes) named ∙ ap (λ (n : List NodeNote). out_lines number (way_name seat.domain sent) n) noted_so)
    (subst P (ap (record_octets time) is ∙ sym (append-nil (record_octets time (passed_on seat time sent packet)))) adds))
