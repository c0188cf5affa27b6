-- An enclosed packet on its way (RFC 8200 sections 3 and 4, RFC 2473 section 3, RFC 9486 section 3).
use Rattle.std.specs.Prelude.{⊤, ◌^◌, ℕ, ◌≡◌, ◌<◌, ◌≤◌, ◌+◌, ◌-◌, ◌*◌, ◌==◌, true, false, List, [], ◌∷◌, ◌++◌, length, map}
use Rattle.std.specs.List.{All}
use Rattle.std.specs.Int.{w16, w32, w128, to_be_bytes}
use Rattle.ioam_data.specs.Kind.{is_entry_type}
use Rattle.ioam_trace.specs.Data.{trace_data}
use Rattle.ioam_ip.specs.Laid.{Part, AreParts, header_if, value_if}

-- a trace that packets carry: its namespace, its type, its free words as it leaves the entry node
pub record Room : Type 0 where
  pub namespace : ℕ
  pub kind : ℕ
  pub capacity : ℕ

-- what stays as it is on the packet's way: the fields of the outer header, the hop limit as the packet leaves
-- the entry node, the rooms of the traces, the options behind the traces in the Hop-by-Hop header, those of the
-- Destination Options header, and what is carried
pub record Tunnel : Type 0 where
  pub class : ℕ
  pub label : ℕ
  pub source : ℕ
  pub target : ℕ
  pub hops : ℕ
  pub traces : List Room
  pub others : List Part
  pub targets : List Part
  pub inner : List ℕ

-- the option of a pre-allocated trace, which nodes change on the way: the type 0x31, and as its data a reserved
-- octet, the IOAM-Option-Type 0 and the trace with these elements
abbrev pub trace_part : Room → List (List ℕ) → Part
trace_part room elements = record { kind = 0x31; body = 0 ∷ 0 ∷ trace_data room.namespace room.kind room.capacity elements }

-- the options of the traces, each with the elements that it has so far
abbrev pub trace_parts : List Room → (Room → List (List ℕ)) → List Part
trace_parts rooms elements = map (λ room. trace_part room (elements room)) rooms

-- before any visit a trace has no elements
abbrev pub no_elements : Room → List (List ℕ)
no_elements room = []

-- the options of the Hop-by-Hop header: the traces, then those that stay as they are
abbrev pub hop_parts : Tunnel → (Room → List (List ℕ)) → List Part
hop_parts tunnel elements = trace_parts tunnel.traces elements ++ tunnel.others

-- what follows the Hop-by-Hop header: Destination Options, or the packet that is carried
abbrev pub next_value : Tunnel → ℕ
next_value tunnel = value_if 60 tunnel.targets 41

-- all behind the outer header, with these options in its Hop-by-Hop header
abbrev pub behind_outer : Tunnel → List Part → List ℕ
behind_outer tunnel parts = header_if (next_value tunnel) parts ++ (header_if 41 tunnel.targets ++ tunnel.inner)

-- the outer header of these fields: version 6, the traffic class of 8 bits, the flow label of 20, the payload length, the
-- value that names what follows, the hop limit, the addresses
abbrev pub outer_start : ℕ → ℕ → ℕ → ℕ → ℕ → List ℕ
outer_start class label payload next limit =
    to_be_bytes w32 ((6 * 256 + class) * 1048576 + label) ++ to_be_bytes w16 payload ++ (next ∷ limit ∷ [])

-- a source and a target, 16 octets each
abbrev pub addresses : ℕ → ℕ → List ℕ
addresses source target = to_be_bytes w128 source ++ to_be_bytes w128 target

-- the 40 octets of the outer header of a tunnel, with this payload length, next header value and hop limit
abbrev pub outer_header : Tunnel → ℕ → ℕ → ℕ → List ℕ
outer_header tunnel payload next limit = outer_start tunnel.class tunnel.label payload next limit ++ addresses tunnel.source tunnel.target

-- the packet with this hop limit and these options in its Hop-by-Hop header
unfoldable pub packet_with : Tunnel → ℕ → List Part → List ℕ
packet_with tunnel limit parts =
    outer_header tunnel (length (behind_outer tunnel parts)) (value_if 0 parts (next_value tunnel)) limit ++ behind_outer tunnel parts

-- the hop limit after so many nodes have sent the packet: the first doesn't lower it
abbrev pub limit_after : Tunnel → ℕ → ℕ
limit_after tunnel sent = tunnel.hops - (sent - 1)

-- the packet after so many nodes have sent it, with these elements in its traces
abbrev pub wire : Tunnel → ℕ → (Room → List (List ℕ)) → List ℕ
wire tunnel sent elements = packet_with tunnel (limit_after tunnel sent) (hop_parts tunnel elements)

-- the options that stay as they are are of no type that may change on the way, and no paddings
abbrev pub AreConstant : List Part → Type 0
AreConstant [] = ⊤
AreConstant (part ∷ parts) = (1 < part.kind) × ((part.kind == 0x31) ≡ false) × AreConstant parts

-- the trace is one that entry nodes begin
pub record IsRoom (room : Room) : Type 0 where
  pub namespace_below : room.namespace < 65536
  pub kind_below : room.kind < 2 ^ 24
  pub entry : is_entry_type room.kind ≡ true
  pub capacity_some : 1 ≤ room.capacity
  pub capacity_most : room.capacity ≤ 61

-- the numbers of a tunnel are such as a flow gives, and the packet is no longer than its header can say
pub record IsTunnel (tunnel : Tunnel) : Type 0 where
  pub class_below : tunnel.class < 256
  pub label_below : tunnel.label < 1048576
  pub hops_below : tunnel.hops < 256
  pub rooms : All IsRoom tunnel.traces
  pub others : AreConstant tunnel.others
  pub targets : AreParts tunnel.targets
  pub payload_below : length (behind_outer tunnel (hop_parts tunnel no_elements)) < 65536
