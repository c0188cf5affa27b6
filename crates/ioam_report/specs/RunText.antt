-- The report of a run: a line for each arrival, which says by which port it came, what became of it, and in which flow it was
-- enclosed.
use Rattle.std.specs.Prelude.{ℕ, List, [], ◌++◌, Option, Some, None, slice_get, decimal, codes}
use Rattle.std.specs.Option.{option_map_or}
use Rattle.ioam_topo.specs.declared.domain.Domain.{Domain}
use Rattle.ioam_topo.specs.declared.ids.FlowId.{FlowId}
use Rattle.ioam_topo.specs.Domain.{nodes, ports, flows}
use Rattle.ioam_tunnel.specs.declared.numbers.Numbers.{Numbers}
use Rattle.ioam_node.specs.declared.reason.Reason.{Reason}
use Rattle.ioam_node.specs.declared.reason.Reason.TheVariants.{NotIpv6, Cut, Length, Chain, IoamIn, Local, HopLimit, NoRoute, EncapLimit, TooBig, IoamOut}
use Rattle.ioam_plan.specs.declared.itinerary.Itinerary.{Itinerary}
use Rattle.ioam_plan.specs.declared.itinerary.End.{End}
use Rattle.ioam_plan.specs.declared.itinerary.End.TheVariants.{Left, Drop}
use Rattle.ioam_report_lines.specs.TraceText.{line_feed}

-- why a packet is dropped
abbrev pub reason_name : Reason → List ℕ
reason_name NotIpv6 = codes "not-ipv6"
reason_name Cut = codes "cut"
reason_name Length = codes "length"
reason_name Chain = codes "chain"
reason_name IoamIn = codes "ioam-in"
reason_name Local = codes "local"
reason_name HopLimit = codes "hop-limit"
reason_name NoRoute = codes "no-route"
reason_name EncapLimit = codes "encap-limit"
reason_name TooBig = codes "too-big"
reason_name IoamOut = codes "ioam-out"

-- the names of the node, of the port and of the flow at a place of the file, from 0
abbrev pub node_name : Domain → ℕ → List ℕ
node_name domain place = option_map_or (λ node. node.name) (slice_get (nodes domain) place) []

-- the name of the port at a place of the file, from 0; no octets where there is none
abbrev pub port_name : Domain → ℕ → List ℕ
port_name domain place = option_map_or (λ port. port.name) (slice_get (ports domain) place) []

-- the name of the flow at a place of the file, from 0; no octets where there is none
abbrev pub flow_name : Domain → ℕ → List ℕ
flow_name domain place = option_map_or (λ flow. flow.name) (slice_get (flows domain) place) []

-- what became of a packet
abbrev pub end_text : Domain → End → List ℕ
end_text domain (Left port) = codes "left " ++ port_name domain port.0
end_text domain (Drop reason node) = codes "drop " ++ reason_name reason ++ codes " " ++ node_name domain node.0

-- the sequence number of its direct export, if it carries one
abbrev pub direct_text : Option ℕ → List ℕ
direct_text None = []
direct_text (Some number) = codes " direct " ++ decimal number

-- the flow in which it is enclosed, if it is, and its number there
abbrev pub carried_text : Domain → Option (FlowId × Numbers) → List ℕ
carried_text domain None = []
carried_text domain (Some carried) =
    codes " flow " ++ flow_name domain carried.0.0 ++ codes " " ++ decimal carried.1.number ++ direct_text carried.1.direct

-- the line of the arrival with this number
abbrev pub arrival_line : Domain → ℕ → Itinerary → List ℕ
arrival_line domain number itinerary = decimal number ++ codes " " ++ port_name domain itinerary.port.0 ++ codes " "
    ++ end_text domain itinerary.end ++ carried_text domain itinerary.carried ++ line_feed
