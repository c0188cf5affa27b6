-- Laws of the routes that are collected.
use Rattle.std.proofs.Common.{◌≡◌, ℕ, ◌+◌, codes, List, [], ◌∷◌, ◌++◌, map, length, Bool, true, false, cond, Option, is_some, Result, Ok, Err, refl, ap, ◌∙◌, subst}
use Rattle.toml.specs.Data.{Members, get_member}
use Rattle.ioam_topo_values.specs.declared.why.Why.{Why}
use Rattle.ioam_topo_values.specs.declared.why.Why.TheVariants.{Twice}
use Rattle.ioam_topo_values.specs.Reads.{◌▷◌, needed}
use Rattle.ioam_topo_values.specs.Prefixes.{prefix}
use Rattle.ioam_topo_values.specs.Texts.{name}
use Rattle.ioam_topo_entries.specs.declared.words.Table.TheVariants.{RouteTable}
use Rattle.ioam_topo_entries.specs.declared.fault.DomainFault.{DomainFault}
use Rattle.ioam_topo_entries.specs.Faults.{at, other_key}
use Rattle.ioam_topo_entries.specs.Goods.{known, agrees, read_at}
use Rattle.ioam_topo_entries.specs.Keys.{own_keys}
use Rattle.ioam_topo_network.specs.LinkRead.{from_of}
use Rattle.ioam_topo_network.specs.PortRead.{node_of_port}
use Rattle.ioam_topo.specs.declared.prefix.Prefix.{Prefix}
use Rattle.ioam_topo_tables.specs.declared.routes.Parts.{Parts}
use Rattle.ioam_topo_tables.specs.declared.routes.Routes.{Routes}
use Rattle.ioam_topo.specs.declared.parts.Route.{Route}
use Rattle.ioam_topo_network.specs.RouteRead.{keys_behind, faults_behind, route_behind, key_behind, HoldsRoutes, IsNewRoute}
use Rattle.ioam_topo.specs.Keyed.{key_of_route, is_route}
use Rattle.ioam_topo_network.specs.RouteTable.{fresh_for, link_part, port_part}
use Rattle.std.specs.List.{list_any}
use Rattle.ioam_topo_entries.proofs.KeyLaws.{kept_by}
use Rattle.ioam_topo_entries.proofs.GoodsLaws.{goods_push}

pub held_faults : (parts : Parts) (earlier : List Members) (routes : Routes) (place : ℕ) (m : Members) → HoldsRoutes parts earlier routes → place ≡ length earlier + 1
    → keys_behind parts place routes.taken.keys m ≡ faults_behind parts earlier m
held_faults parts earlier routes place m holds there = rw (holds.keys, there)

pub route_added : (parts : Parts) (earlier : List Members) (m : Members) (route : Route) (old new : Routes)
    → HoldsRoutes parts earlier old → IsNewRoute parts old m route
    → new.items.items ≡ old.items.items ++ route ∷ [] → new.taken.keys ≡ old.taken.keys ++ (route.node.0, route.prefix) ∷ []
    → HoldsRoutes parts (earlier ++ m ∷ []) new
route_added parts earlier m route old new holds fits items keys = record {
  items = goods_push (route_behind parts) earlier m route _ _ fits.is holds.items items;
  keys = goods_push (key_behind parts) earlier m (route.node.0, route.prefix) _ _ fits.key_is holds.keys keys;
  keyed = kept_by key_of_route old.items.items new.items.items route _ _ holds.keyed items keys;
}

fresh_under : (b : Bool) (y x : Prefix) (r : Result Prefix Why) → r ≡ cond b (Err Twice) (Ok y) → r ≡ Ok x → (b ≡ false) × (y ≡ x)
fresh_under true y x r are is = cc
fresh_under false y x r are is = (refl, cc)

-- a prefix that was found fresh is fresh
pub fresh_for_new : (node : ℕ) (seen : List (ℕ × Prefix)) (r : Result Prefix Why) (x : Prefix) → r ▷ fresh_for (Ok node) seen ≡ Ok x → list_any (is_route node x) seen ≡ false
fresh_for_new node seen (Ok y) x is =
    let both : (list_any (is_route node y) seen ≡ false) × (y ≡ x) = fresh_under (list_any (is_route node y) seen) y x (Ok y ▷ fresh_for (Ok node) seen) refl is in
    let P : Prefix → Type 0 = λ z. list_any (is_route node z) seen ≡ false in subst P both.1 both.0
fresh_for_new node seen (Err why) x is = cc

-- the link and the port of an entry, behind a node
abbrev link_at : Parts → Members → Result ℕ Why → Result (Option ℕ) Why
link_at parts m node = link_part (λ d. name d ▷ known parts.links.names ▷ (λ i. agrees node (read_at (map from_of parts.links.items.items) i) i))
    (get_member (codes "link") m) (is_some (get_member (codes "port") m))

abbrev port_at : Parts → Members → Result ℕ Why → Result (Option ℕ) Why
port_at parts m node = port_part (λ d. name d ▷ known parts.ports.names ▷ (λ i. agrees node (read_at (map node_of_port parts.ports.items.items) i) i))
    (get_member (codes "port") m) (is_some (get_member (codes "link") m))

-- an entry whose keys were all read has no faults
pub keys_clear : (parts : Parts) (place : ℕ) (seen : List (ℕ × Prefix)) (m : Members) (node : ℕ) (p : Prefix) (link port : Option ℕ)
    → at RouteTable place other_key (own_keys RouteTable m) ≡ [] → needed name (get_member (codes "node") m) ▷ known parts.nodes.names ≡ Ok node
    → needed prefix (get_member (codes "prefix") m) ▷ fresh_for (Ok node) seen ≡ Ok p
    → link_at parts m (Ok node) ≡ Ok link → port_at parts m (Ok node) ≡ Ok port → keys_behind parts place seen m ≡ []
keys_clear parts place seen m node p link port own named fresh linked ported =
    let rest : Result Prefix Why → Result (Option ℕ) Why → Result (Option ℕ) Why → List DomainFault = λ a b c. at RouteTable place (codes "prefix") a
    ++ (at RouteTable place (codes "link") b ++ at RouteTable place (codes "port") c) in
    let from_node : Result ℕ Why → List DomainFault = λ r. at RouteTable place (codes "node") r
    ++ rest (needed prefix (get_member (codes "prefix") m) ▷ fresh_for r seen) (link_at parts m r) (port_at parts m r) in
    ap (λ l. l ++ from_node (needed name (get_member (codes "node") m) ▷ known parts.nodes.names)) own ∙ ap from_node named
    ∙ ap (λ a. rest a (link_at parts m (Ok node)) (port_at parts m (Ok node))) fresh ∙ ap (λ b. rest (Ok p) b (port_at parts m (Ok node))) linked
    ∙ ap (λ c. rest (Ok p) (Ok link) c) ported
