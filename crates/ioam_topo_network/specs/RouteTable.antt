-- The table `route`.
use Rattle.std.specs.Prelude.{ℕ, ◌+◌, Bool, true, false, is_some, codes, List, ◌++◌, length, Option, Some, None, Result, Ok, Err, if◌then◌else◌}
use Rattle.std.specs.List.{list_any}
use Rattle.toml.specs.Data.{Data, Members, get_member}
use Rattle.ioam_topo_values.specs.declared.why.Why.{Why}
use Rattle.ioam_topo_values.specs.declared.why.Why.TheVariants.{Missing, Twice}
use Rattle.ioam_topo.specs.declared.prefix.Prefix.{Prefix}
use Rattle.ioam_topo_values.specs.Reads.{◌▷◌, needed}
use Rattle.ioam_topo_values.specs.Texts.{name}
use Rattle.ioam_topo_values.specs.Prefixes.{prefix}
use Rattle.ioam_topo_entries.specs.declared.words.Table.TheVariants.{RouteTable}
use Rattle.ioam_topo_entries.specs.declared.fault.DomainFault.{DomainFault}
use Rattle.ioam_topo.specs.declared.ids.Way.{Way}
use Rattle.ioam_topo.specs.declared.ids.Way.TheVariants.{Link, Port}
use Rattle.ioam_topo.specs.declared.parts.Route.{Route}
use Rattle.ioam_topo_entries.specs.Faults.{at, other_key}
use Rattle.ioam_topo_entries.specs.Goods.{goods, known, agrees, read_at}
use Rattle.ioam_topo_entries.specs.Keys.{own_keys}
use Rattle.ioam_topo.specs.Keyed.{is_route}

-- a prefix that no route of the node, where it is known, has before
abbrev pub fresh_for : Result ℕ Why → List (ℕ × Prefix) → Prefix → Result Prefix Why
fresh_for (Ok node) seen p = if list_any (is_route node p) seen then Err Twice else Ok p
fresh_for (Err why) seen p = Ok p

-- one of a pair of keys of which the other is there or not
abbrev pub alone : Bool → ℕ → Result (Option ℕ) Why
alone false i = Ok (Some i)
alone true i = Err Twice

-- a link, needed where there is no port
abbrev pub link_part : (Data → Result ℕ Why) → Option Data → Bool → Result (Option ℕ) Why
link_part kind None true = Ok None
link_part kind None false = Err Missing
link_part kind (Some d) port = kind d ▷ (λ i. Ok (Some i))

-- a port, where there is no link
abbrev pub port_part : (Data → Result ℕ Why) → Option Data → Bool → Result (Option ℕ) Why
port_part kind None link = Ok None
port_part kind (Some d) link = kind d ▷ alone link

-- the way by a link or a port
abbrev pub way_of : Option ℕ → Option ℕ → Result Way Why
way_of (Some i) port = Ok (Link (record { 0 = i }))
way_of None (Some i) = Ok (Port (record { 0 = i }))
way_of None None = Err Missing

-- the prefix of a route, which is needed
abbrev pub route_prefix : Members → Result Prefix Why
route_prefix m = needed prefix (get_member (codes "prefix") m)

-- `nodes`, `links` and `ports` are names; `froms` and `homes` are the nodes of the links and of the ports of these names
module _ (nodes links : List (List ℕ)) (froms : List (Result ℕ Why)) (ports : List (List ℕ)) (homes : List (Result ℕ Why)) where
  -- the node of a route, by its place
  abbrev pub route_node : Members → Result ℕ Why
  route_node m = needed name (get_member (codes "node") m) ▷ known nodes

  -- a link from the route's node
  abbrev pub link_in : Members → Data → Result ℕ Why
  link_in m d = name d ▷ known links ▷ (λ i. agrees (route_node m) (read_at froms i) i)

  -- the link of a route: needed where there is no port, and from the route's node
  abbrev pub route_link : Members → Result (Option ℕ) Why
  route_link m = link_part (link_in m) (get_member (codes "link") m) (is_some (get_member (codes "port") m))

  -- a port of the route's node
  abbrev pub port_in : Members → Data → Result ℕ Why
  port_in m d = name d ▷ known ports ▷ (λ i. agrees (route_node m) (read_at homes i) i)

  -- the port of a route: where there is no link, and at the route's node
  abbrev pub route_port : Members → Result (Option ℕ) Why
  route_port m = port_part (port_in m) (get_member (codes "port") m) (is_some (get_member (codes "link") m))

  -- what no two routes may share
  abbrev pub route_key : Members → Result (ℕ × Prefix) Why
  route_key m = route_node m ▷ (λ node. route_prefix m ▷ (λ p. Ok (node, p)))

  -- a route, where all its keys are read; else the first reason why not
  abbrev pub route_of : Members → Result Route Why
  route_of m = route_node m ▷ (λ node. route_prefix m ▷ (λ p. route_link m ▷ (λ link. route_port m ▷ (λ port. way_of link port ▷ (λ way.
      Ok (record { node = record { 0 = node }; prefix = p; way = way }))))))

  -- the faults of the entry at a place, behind these routes
  abbrev pub route_keys : ℕ → List (ℕ × Prefix) → Members → List DomainFault
  route_keys place seen m =
      at RouteTable place other_key (own_keys RouteTable m)
      ++ (at RouteTable place (codes "node") (route_node m)
      ++ (at RouteTable place (codes "prefix") (route_prefix m ▷ fresh_for (route_node m) seen)
      ++ (at RouteTable place (codes "link") (route_link m)
      ++ at RouteTable place (codes "port") (route_port m))))

  -- the faults of an entry behind others
  abbrev pub route_faults : List Members → Members → List DomainFault
  route_faults earlier m = route_keys (length earlier + 1) (goods route_key earlier) m
