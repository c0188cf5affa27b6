-- Laws of what is true of a domain's tables, from what its file reads as.
use Rattle.std.proofs.Common.{◌≡◌, ◌≢◌, ◌<◌, ℕ, Bool, true, false, nat_eq, cond, codes, List, map, length, Option, Some, None, option_map, unwrap_or, slice_get, is_some, Result, Ok, Err, refl, ap, sym, subst, ◌∙◌, arith}
use Rattle.std.proofs.lemmas.Option.{slice_get-map, slice_get_cases}
use Rattle.toml.specs.Data.{Data, Members, get_member}
use Rattle.ioam_topo_values.specs.declared.why.Why.{Why}
use Rattle.ioam_topo_values.specs.declared.why.Why.TheVariants.{Unknown}
use Rattle.ioam_topo.specs.declared.prefix.Prefix.{Prefix}
use Rattle.ioam_topo.specs.Prefixes.{IsPrefix}
use Rattle.ioam_topo_values.proofs.PrefixSpelledLaws.{key_is_prefix}
use Rattle.ioam_topo_values.specs.Reads.{◌▷◌, needed}
use Rattle.ioam_topo_values.specs.Texts.{name}
use Rattle.ioam_topo.specs.declared.ids.Way.{Way}
use Rattle.ioam_topo.specs.declared.ids.Way.TheVariants.{Link as ByLink, Port as ByPort}
use Rattle.ioam_topo.specs.declared.parts.Link.{Link}
use Rattle.ioam_topo.specs.declared.parts.Port.{Port}
use Rattle.ioam_topo.specs.declared.parts.Route.{Route}
use Rattle.ioam_topo_entries.specs.Goods.{known, differs, agrees, read_at}
use Rattle.ioam_topo_entries.proofs.GoodsLaws.{known_below, differs_apart}
use Rattle.ioam_topo_entries.proofs.NumberLaws.{read_first}
use Rattle.ioam_topo_network.proofs.LinkLaws.{link_read}
use Rattle.ioam_topo_network.specs.LinkTable.{link_of}
use Rattle.ioam_topo_network.specs.PortTable.{port_of, port_node, port_name, port_id, port_input, port_output}
use Rattle.ioam_topo_network.specs.RouteTable.{route_of, route_node, route_prefix, route_link, route_port, link_in, port_in, link_part, port_part, alone, way_of}
use Rattle.ioam_topo_network.specs.LinkRead.{from_of}
use Rattle.ioam_topo_network.specs.PortRead.{node_of_port}
use Rattle.ioam_topo.specs.Kept.{JoinsNodes, IsAtNode, IsRouteOf, is_of, is_way_from}

-- a link joins nodes of these names
pub link_joins : (nodes : List (List ℕ)) (m : Members) (link : Link) → link_of nodes m ≡ Ok link → JoinsNodes (length nodes) link
link_joins nodes m link is =
    let both = link_read nodes m link is in
    let to : needed name (get_member (codes "to") m) ▷ known nodes ▷ differs (Ok link.from.0) ≡ Ok link.to.0 =
    ap (λ r. needed name (get_member (codes "to") m) ▷ known nodes ▷ differs r) (sym both.0) ∙ both.1 in
    let other : (needed name (get_member (codes "to") m) ▷ known nodes ≡ Ok link.to.0) × (link.from.0 ≢ link.to.0) =
    differs_apart link.from.0 (needed name (get_member (codes "to") m) ▷ known nodes) link.to.0 to in
    record {
      starts = known_below nodes (needed name (get_member (codes "from") m)) link.from.0 both.0;
      ends = known_below nodes (needed name (get_member (codes "to") m)) link.to.0 other.0;
      apart = other.1;
    }

-- the node and the id of a port that was read
pub port_read : (nodes : List (List ℕ)) (m : Members) (port : Port) → port_of nodes m ≡ Ok port → (port_node nodes m ≡ Ok port.node.0) × (port_id m ≡ Ok port.id)
port_read nodes m port is =
    let named = read_first (port_name m) _ port is in
    let placed = read_first (port_node nodes m) _ port named.2 in
    let numbered = read_first (port_id m) _ port placed.2 in
    let put = read_first (port_input m) _ port numbered.2 in
    let out = read_first (port_output m) _ port put.2 in
    let same : record { name = named.0; node = record { 0 = placed.0 }; id = numbered.0; input = put.0; output = out.0 } ≡ port = cc in
    let P : Port → Type 0 = λ p. (port_node nodes m ≡ Ok p.node.0) × (port_id m ≡ Ok p.id) in subst P same (placed.1, numbered.1)

-- a port is at a node of these names
pub port_placed : (nodes : List (List ℕ)) (m : Members) (port : Port) → port_of nodes m ≡ Ok port → IsAtNode (length nodes) port
port_placed nodes m port is = known_below nodes (needed name (get_member (codes "node") m)) port.node.0
    (port_read nodes m port is).0

part_kind : (kind : Data → Result ℕ Why) (d : Option Data) (port : Bool) (i : ℕ) → link_part kind d port ≡ Ok (Some i) → (x : Data) × (kind x ≡ Ok i)
part_kind kind None true i is = cc
part_kind kind None false i is = cc
part_kind kind (Some x) port i is = (x, some_of (kind x) is) where
  some_of : (r : Result ℕ Why) → r ▷ (λ j. Ok (Some j)) ≡ Ok (Some i) → r ≡ Ok i
  some_of (Ok j) is = cc
  some_of (Err why) is = cc

alone_kind : (kind : Data → Result ℕ Why) (d : Option Data) (link : Bool) (i : ℕ) → port_part kind d link ≡ Ok (Some i) → (x : Data) × (kind x ≡ Ok i)
alone_kind kind None link i is = cc
alone_kind kind (Some x) link i is = (x, some_of (kind x) link is) where
  some_of : (r : Result ℕ Why) (link : Bool) → r ▷ alone link ≡ Ok (Some i) → r ≡ Ok i
  some_of (Ok j) true is = cc
  some_of (Ok j) false is = cc
  some_of (Err why) link is = cc

agreed : (node end i j : ℕ) (b : Bool) → nat_eq node end ≡ b → cond b (Ok i) (Err Why.Range) ≡ Ok j → (i ≡ j) × (nat_eq node end ≡ true)
agreed node end i j true eq is = (cc, eq)
agreed node end i j false eq is = cc

module _ {A : Type 0} (node_of : A → ℕ) (names : List (List ℕ)) (items : List A) (same : length names ≡ length items) (node : ℕ) where
  -- what a name of the same node names is of this node
  named_of : (r : Result (List ℕ) Why) (i : ℕ) → r ▷ known names ▷ (λ j. agrees (Ok node) (read_at (map (λ x. Ok (node_of x)) items) j) j) ≡ Ok i
      → is_of node_of node (slice_get items i) ≡ true
  named_of r i is = known_of (r ▷ known names) refl is where
    at_item : (j : ℕ) (x : A) → slice_get items j ≡ Some x → agrees (Ok node) (read_at (map (λ x. Ok (node_of x)) items) j) j ≡ Ok i → is_of node_of node (slice_get items i) ≡ true
    at_item j x there also =
        let read : read_at (map (λ x. Ok (node_of x)) items) j ≡ Ok (node_of x) = ap (λ o. unwrap_or o (Err Unknown)) (slice_get-map (λ x. Ok (node_of x)) items j ∙ ap (option_map (λ x. Ok (node_of x))) there) in
        let both : (j ≡ i) × (nat_eq node (node_of x) ≡ true) = agreed node (node_of x) j i (nat_eq node (node_of x)) refl (ap (λ e. agrees (Ok node) e j) (sym read) ∙ also) in
        ap (λ k. is_of node_of node (slice_get items k)) (sym both.0) ∙ ap (is_of node_of node) there ∙ both.1

    at_some : (j : ℕ) (o : Option A) → j < length items → slice_get items j ≡ o → agrees (Ok node) (read_at (map (λ x. Ok (node_of x)) items) j) j ≡ Ok i → is_of node_of node (slice_get items i) ≡ true
    at_some j (Some x) lt there also = at_item j x there also
    at_some j None lt there also = grind (arith, slice_get_cases items j, lt, there)

    known_of : (s : Result ℕ Why) → r ▷ known names ≡ s → s ▷ (λ j. agrees (Ok node) (read_at (map (λ x. Ok (node_of x)) items) j) j) ≡ Ok i → is_of node_of node (slice_get items i) ≡ true
    known_of (Err why) knows also = cc
    known_of (Ok j) knows also =
        let below : j < length names = known_below names r j knows in
        at_some j (slice_get items j) (omega (arith, below, same)) refl also

module _ (nodes links : List (List ℕ)) (froms : List (Result ℕ Why)) (ports : List (List ℕ)) (homes : List (Result ℕ Why)) (link_items : List Link) (port_items : List Port)
    (from_items : froms ≡ map from_of link_items) (home_items : homes ≡ map node_of_port port_items) (link_count : length links ≡ length link_items) (port_count : length ports ≡ length port_items)
    (m : Members) (node : ℕ) (at_node : route_node nodes links froms ports homes m ≡ Ok node) where
  link_leads : (i : ℕ) → route_link nodes links froms ports homes m ≡ Ok (Some i) → is_of (λ l. l.from.0) node (slice_get link_items i) ≡ true
  link_leads i at_link =
      let x : (x : Data) × (link_in nodes links froms ports homes m x ≡ Ok i) = part_kind (link_in nodes links froms ports homes m) (get_member (codes "link") m) (is_some (get_member (codes "port") m)) i at_link in
      let e : name x.0 ▷ known links ▷ (λ j. agrees (Ok node) (read_at (map from_of link_items) j) j) ≡ Ok i =
      ap (λ n. name x.0 ▷ known links ▷ (λ j. agrees n (read_at (map from_of link_items) j) j)) (sym at_node)
      ∙ ap (λ f. name x.0 ▷ known links ▷ (λ j. agrees (route_node nodes links froms ports homes m) (read_at f j) j)) (sym from_items) ∙ x.1 in
      named_of (λ l. l.from.0) links link_items link_count node (name x.0) i e

  port_leads : (i : ℕ) → route_port nodes links froms ports homes m ≡ Ok (Some i) → is_of (λ p. p.node.0) node (slice_get port_items i) ≡ true
  port_leads i at_port =
      let x : (x : Data) × (port_in nodes links froms ports homes m x ≡ Ok i) = alone_kind (port_in nodes links froms ports homes m) (get_member (codes "port") m) (is_some (get_member (codes "link") m)) i at_port in
      let e : name x.0 ▷ known ports ▷ (λ j. agrees (Ok node) (read_at (map node_of_port port_items) j) j) ≡ Ok i =
      ap (λ n. name x.0 ▷ known ports ▷ (λ j. agrees n (read_at (map node_of_port port_items) j) j)) (sym at_node)
      ∙ ap (λ f. name x.0 ▷ known ports ▷ (λ j. agrees (route_node nodes links froms ports homes m) (read_at f j) j)) (sym home_items) ∙ x.1 in
      named_of (λ p. p.node.0) ports port_items port_count node (name x.0) i e

  way_leads : (way : Way) (link port : Option ℕ) → route_link nodes links froms ports homes m ≡ Ok link → route_port nodes links froms ports homes m ≡ Ok port → way_of link port ≡ Ok way
      → is_way_from link_items port_items node way ≡ true
  way_leads way (Some i) port at_link at_port is = let same : ByLink (record { 0 = i }) ≡ way = cc in
      ap (is_way_from link_items port_items node) (sym same) ∙ link_leads i at_link
  way_leads way None (Some i) at_link at_port is = let same : ByPort (record { 0 = i }) ≡ way = cc in
      ap (is_way_from link_items port_items node) (sym same) ∙ port_leads i at_port
  way_leads way None None at_link at_port is = cc

-- the keys of a route that was read
route_read : (nodes links : List (List ℕ)) (froms : List (Result ℕ Why)) (ports : List (List ℕ)) (homes : List (Result ℕ Why)) (m : Members) (route : Route)
    → route_of nodes links froms ports homes m ≡ Ok route → (route_node nodes links froms ports homes m ≡ Ok route.node.0) × (route_prefix m ≡ Ok route.prefix)
    × ((link port : Option ℕ) × (route_link nodes links froms ports homes m ≡ Ok link) × (route_port nodes links froms ports homes m ≡ Ok port) × (way_of link port ≡ Ok route.way))
route_read nodes links froms ports homes m route is =
    let node = read_first (route_node nodes links froms ports homes m) _ route is in
    let prefix = read_first (route_prefix m) _ route node.2 in
    let link = read_first (route_link nodes links froms ports homes m) _ route prefix.2 in
    let port = read_first (route_port nodes links froms ports homes m) _ route link.2 in
    let way = read_first (way_of link.0 port.0) _ route port.2 in
    let same : record { node = record { 0 = node.0 }; prefix = prefix.0; way = way.0 } ≡ route = cc in
    let P : Route → Type 0 = λ r. (route_node nodes links froms ports homes m ≡ Ok r.node.0) × (route_prefix m ≡ Ok r.prefix)
    × ((l p : Option ℕ) × (route_link nodes links froms ports homes m ≡ Ok l) × (route_port nodes links froms ports homes m ≡ Ok p) × (way_of l p ≡ Ok r.way)) in
    subst P same (node.1, prefix.1, (link.0, port.0, link.1, port.1, way.1))

-- a route is of a node of these names, and its way is from there
pub route_leads : (nodes links : List (List ℕ)) (froms : List (Result ℕ Why)) (ports : List (List ℕ)) (homes : List (Result ℕ Why)) (link_items : List Link) (port_items : List Port)
    → froms ≡ map from_of link_items → homes ≡ map node_of_port port_items → length links ≡ length link_items → length ports ≡ length port_items
    → (m : Members) (route : Route) → route_of nodes links froms ports homes m ≡ Ok route → IsRouteOf (length nodes) link_items port_items route
route_leads nodes links froms ports homes link_items port_items from_items home_items link_count port_count m route is =
    let parts = route_read nodes links froms ports homes m route is in
    record {
      known = known_below nodes (needed name (get_member (codes "node") m)) route.node.0 parts.0;
      leads = way_leads nodes links froms ports homes link_items port_items from_items home_items link_count port_count m route.node.0 parts.0
          route.way parts.2.0 parts.2.1 parts.2.2 parts.2.3 parts.2.4;
    }

-- a route's prefix is one
pub route_prefixed : (nodes links : List (List ℕ)) (froms : List (Result ℕ Why)) (ports : List (List ℕ)) (homes : List (Result ℕ Why))
    (m : Members) (route : Route) → route_of nodes links froms ports homes m ≡ Ok route → IsPrefix route.prefix
route_prefixed nodes links froms ports homes m route is = key_is_prefix (get_member (codes "prefix") m) route.prefix
    (route_read nodes links froms ports homes m route is).1
