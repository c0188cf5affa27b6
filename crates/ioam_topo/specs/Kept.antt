-- What is true of a domain's nodes, links, ports, routes, node data and flows, whatever file they are of.
use Rattle.std.specs.Prelude.{◌≡◌, ◌≢◌, ◌<◌, ◌≤◌, ℕ, Bool, true, false, nat_eq, List, length, Option, Some, None, slice_get}
use Rattle.std.specs.List.{All}
use Rattle.ioam_topo.specs.declared.ids.Way.{Way}
use Rattle.ioam_topo.specs.declared.ids.Way.TheVariants.{Link as ByLink, Port as ByPort}
use Rattle.ioam_topo.specs.declared.parts.Node.{Node}
use Rattle.ioam_topo.specs.declared.parts.Link.{Link}
use Rattle.ioam_topo.specs.declared.parts.Port.{Port}
use Rattle.ioam_topo.specs.declared.parts.Route.{Route}
use Rattle.ioam_topo.specs.declared.parts.NodeData.{NodeData}
use Rattle.ioam_topo.specs.declared.parts.Flow.{Flow}
use Rattle.ioam_topo.specs.Keyed.{name_of_link, taps_of, name_of_port, key_of_route, key_of_data}
use Rattle.ioam_topo.specs.Apart.{AreApart, NodesApart, FlowsApart}
use Rattle.ioam_topo.specs.Prefixes.{IsPrefix}
use Rattle.ioam_topo.specs.Known.{IsKnownAtEnds}
use Rattle.ioam_topo.specs.Sound.{IsNode, IsLink, IsPort, IsNodeData, IsFlow}

-- the ends of a link are two of so many nodes
pub record JoinsNodes (nodes : ℕ) (link : Link) : Type 0 where
  pub starts : link.from.0 < nodes
  pub ends : link.to.0 < nodes
  pub apart : link.from.0 ≢ link.to.0

-- the ends of a flow are two of so many nodes
pub record JoinsEnds (nodes : ℕ) (flow : Flow) : Type 0 where
  pub starts : flow.entry.0 < nodes
  pub ends : flow.exit.0 < nodes
  pub apart : flow.entry.0 ≢ flow.exit.0

-- a port is at one of so many nodes
abbrev pub IsAtNode : ℕ → Port → Type 0
IsAtNode nodes port = port.node.0 < nodes

-- data are of one of so many nodes
abbrev pub IsOfNode : ℕ → NodeData → Type 0
IsOfNode nodes row = row.node.0 < nodes

-- whether something is there, and is of a node
abbrev pub is_of : {A : Type 0} → (A → ℕ) → ℕ → Option A → Bool
is_of node_of node None = false
is_of node_of node (Some x) = nat_eq node (node_of x)

-- whether a way is from a node; a test, since a domain keeps only what has one proof
abbrev pub is_way_from : List Link → List Port → ℕ → Way → Bool
is_way_from links ports node (ByLink link) = is_of (λ l. l.from.0) node (slice_get links link.0)
is_way_from links ports node (ByPort port) = is_of (λ p. p.node.0) node (slice_get ports port.0)

-- a route is of one of so many nodes, and its way is from there
pub record IsRouteOf (nodes : ℕ) (links : List Link) (ports : List Port) (route : Route) : Type 0 where
  pub known : route.node.0 < nodes
  pub leads : is_way_from links ports route.node.0 route.way ≡ true

-- these may be the nodes of a domain
pub record SoundNodes (nodes : List Node) : Type 0 where
  pub sound : All IsNode nodes
  pub few : length nodes ≤ 256
  pub apart : NodesApart nodes

-- the links, between so many nodes
pub record SoundLinks (nodes : ℕ) (links : List Link) : Type 0 where
  pub joined : All (JoinsNodes nodes) links
  pub sound : All IsLink links
  pub few : length links ≤ 1024
  pub few_taps : taps_of links ≤ 64
  pub apart : AreApart name_of_link links

-- the ports, at so many nodes
pub record SoundPorts (nodes : ℕ) (ports : List Port) : Type 0 where
  pub placed : All (IsAtNode nodes) ports
  pub sound : All IsPort ports
  pub few : length ports ≤ 64
  pub apart : AreApart name_of_port ports

-- the routes, of so many nodes with these links and ports
pub record SoundRoutes (nodes : ℕ) (links : List Link) (ports : List Port) (routes : List Route) : Type 0 where
  pub prefixes : All (λ route. IsPrefix route.prefix) routes
  pub routed : All (IsRouteOf nodes links ports) routes
  pub few : length routes ≤ 16384
  pub apart : AreApart key_of_route routes

-- the data of so many nodes
pub record SoundData (nodes : ℕ) (rows : List NodeData) : Type 0 where
  pub placed : All (IsOfNode nodes) rows
  pub sound : All IsNodeData rows
  pub few : length rows ≤ 4096
  pub apart : AreApart key_of_data rows

-- the flows, between these nodes
pub record SoundFlows (nodes : List Node) (flows : List Flow) : Type 0 where
  pub joined : All (JoinsEnds (length nodes)) flows
  pub known : All (IsKnownAtEnds nodes) flows
  pub sound : All IsFlow flows
  pub few : length flows ≤ 256
  pub apart : FlowsApart flows
