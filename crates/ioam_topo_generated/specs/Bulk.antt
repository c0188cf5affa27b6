-- The domain of a generated run, entry by entry: the nodes n1 to n5 in a row, and one flow from n1 to n5.
use Rattle.std.specs.Prelude.{◌≡◌, ℕ, ◌+◌, Bool, true, false, codes, List, [], ◌∷◌, Some, None}
use Rattle.ioam_data.specs.declared.namespace.Namespace.{Namespace}
use Rattle.ioam_topo.specs.declared.format.Format.TheVariants.{Ptp}
use Rattle.ioam_topo.specs.declared.ids.Way.{Way}
use Rattle.ioam_topo.specs.declared.ids.Way.TheVariants.{Link as ByLink, Port as ByPort}
use Rattle.ioam_topo.specs.declared.prefix.Prefix.{Prefix}
use Rattle.ioam_topo.specs.declared.parts.Node.{Node}
use Rattle.ioam_topo.specs.declared.parts.Link.{Link}
use Rattle.ioam_topo.specs.declared.parts.Port.{Port}
use Rattle.ioam_topo.specs.declared.parts.Route.{Route}
use Rattle.ioam_topo.specs.declared.parts.Flow.{Flow}
use Rattle.ioam_topo.specs.declared.domain.Domain.{Domain}
use Rattle.ioam_topo.specs.Domain.{nodes, links, ports, routes, node_data, flows}

-- a node of a number n, with the address 2001:db8::n
abbrev pub node_of : List ℕ → ℕ → List Namespace → Node
node_of name n spaces = record { name = name; id = n; address = 42540766411282592856903984951653826560 + n; namespaces = spaces }

-- the namespace 7 alone
abbrev pub seven : List Namespace
seven = record { 0 = 7 } ∷ []

-- what a node lists that knows it, or that doesn't
abbrev pub listed : Bool → List Namespace
listed true = seven
listed false = []

-- five nodes, of which all but n3 know namespace 7
unfoldable pub bulk_nodes : List Node
bulk_nodes = node_of (codes "n1") 1 seven ∷ node_of (codes "n2") 2 seven ∷ node_of (codes "n3") 3 [] ∷ node_of (codes "n4") 4 seven ∷ node_of (codes "n5") 5 seven ∷ []

-- a link from the node of a place to the next one: 1,000 ns long, for packets of at most 1,500 octets, and without a tap
abbrev pub link_of : List ℕ → ℕ → Link
link_of name at = record { name = name; from = record { 0 = at }; to = record { 0 = at + 1 }; out_id = 2; in_id = 1; delay = 1000; mtu = 1500; tap = None }

-- the four links, each from a node of the row to the next
unfoldable pub bulk_links : List Link
bulk_links = link_of (codes "n1n2") 0 ∷ link_of (codes "n2n3") 1 ∷ link_of (codes "n3n4") 2 ∷ link_of (codes "n4n5") 3 ∷ []

-- a port of the node of a place, at which packets leave into a file, and none arrive from one
abbrev pub port_of : List ℕ → ℕ → ℕ → List ℕ → Port
port_of name at id file = record { name = name; node = record { 0 = at }; id = id; input = None; output = file }

-- west at n1, and east at n5
unfoldable pub bulk_ports : List Port
bulk_ports = port_of (codes "west") 0 1 (codes "west-out.pcap") ∷ port_of (codes "east") 4 2 (codes "east-out.pcap") ∷ []

-- 2001:db8::5/128 and 2001:db8:2::/48
abbrev pub to_last : Prefix
to_last = record { bits = 42540766411282592856903984951653826565; length = 128 }

-- 2001:db8:2::/48, the prefix of what leaves at east
abbrev pub to_east : Prefix
to_east = record { bits = 42540766411285010708543214210003238912; length = 48 }

-- a route of the node of a place
abbrev pub route_of : ℕ → Prefix → Way → Route
route_of at prefix way = record { node = record { 0 = at }; prefix = prefix; way = way }

-- the way by the link of a place
abbrev pub by_link : ℕ → Way
by_link at = ByLink (record { 0 = at })

-- each node but the last sends both on to the next one, and the last sends the second out at east
unfoldable pub bulk_routes : List Route
bulk_routes = route_of 0 to_last (by_link 0) ∷ route_of 0 to_east (by_link 0) ∷ route_of 1 to_last (by_link 1) ∷ route_of 1 to_east (by_link 1)
    ∷ route_of 2 to_last (by_link 2) ∷ route_of 2 to_east (by_link 2) ∷ route_of 3 to_last (by_link 3) ∷ route_of 3 to_east (by_link 3)
    ∷ route_of 4 to_east (ByPort (record { 0 = 1 })) ∷ []

-- from n1 to n5, from any source to 2001:db8:2::/64, in namespace 7: a trace of hop limits and ids (bit 0) of five words, edge-to-edge data with
-- 32-bit numbers, and of every fourth packet direct exports of bit 0
unfoldable pub bulk_flow : Flow
bulk_flow = record {
  name = codes "f";
  entry = record { 0 = 0 };
  exit = record { 0 = 4 };
  source = record { bits = 0; length = 0 };
  target = record { bits = 42540766411285010708543214210003238912; length = 64 };
  namespace = record { 0 = 7 };
  hops = 64;
  label = 0;
  trace = Some 8388608;
  capacity = Some 5;
  traces = record { namespace = record { 0 = 7 }; kind = 8388608; capacity = 5 } ∷ [];
  edge = Some 16384;
  direct = Some 8388608;
  every = Some 4;
  flow_id = Some 1;
  limit = None;
}

-- this is the domain of a generated run of at most so many packets; no node has data of its own
pub record IsBulkDomain (packets : ℕ) (domain : Domain) : Type 0 where
  pub format : domain.format ≡ Ptp
  pub packets_are : domain.packets ≡ packets
  pub nodes_are : nodes domain ≡ bulk_nodes
  pub links_are : links domain ≡ bulk_links
  pub ports_are : ports domain ≡ bulk_ports
  pub routes_are : routes domain ≡ bulk_routes
  pub data_are : node_data domain ≡ []
  pub flows_are : flows domain ≡ bulk_flow ∷ []
