-- How long an outer packet is.
use Rattle.std.specs.Prelude.{ℕ, ◌+◌, ◌*◌, Bool, if◌then◌else◌, List, [], ◌∷◌, ◌++◌, map, Option, Some, None}
use Rattle.ioam_edge.specs.Edge.{fields_size}
use Rattle.ioam_ip.specs.Sizes.{Sized, header_size}
use Rattle.ioam_topo.specs.declared.parts.Flow.{Flow}
use Rattle.ioam_topo.specs.declared.traces.FlowTrace.{FlowTrace}

-- a trace option has a reserved octet, the IOAM-Option-Type, a header of 8 octets and 4 for each word
abbrev pub trace_size : FlowTrace → Sized
trace_size trace = record { kind = 0x31; size = 10 + 4 * trace.capacity }

-- a direct export option has these two octets, 8 of data, the flow's id and the sequence number
abbrev pub direct_sizes : Bool → List Sized
direct_sizes direct = if direct then record { kind = 0x11; size = 18 } ∷ [] else []

-- the option of the tunnel encapsulation limit has one octet of data (RFC 2473 section 4.1.1)
abbrev pub limit_sizes : Bool → List Sized
limit_sizes limit = if limit then record { kind = 4; size = 1 } ∷ [] else []

-- an edge-to-edge option has these two octets, the namespace, the type and the fields
abbrev pub edge_sizes : Option ℕ → List Sized
edge_sizes None = []
edge_sizes (Some kind) = record { kind = 0x11; size = 6 + fields_size kind } ∷ []

-- the outer packet of a packet of so many octets, with a direct export option or without, and with an encapsulation
-- limit or without
abbrev pub outer_size : Flow → ℕ → Bool → Bool → ℕ
outer_size flow inner direct limit =
    40 + header_size (map trace_size flow.traces ++ direct_sizes direct) + header_size (limit_sizes limit ++ edge_sizes flow.edge) + inner
