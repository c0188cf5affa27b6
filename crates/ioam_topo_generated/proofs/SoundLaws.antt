-- The entries of the generated run are as those of every domain.
use Rattle.std.proofs.Common.{◌≡◌, ◌<◌, ◌≤◌, ◌^◌, ℕ, true, nat_eq, List, [], ◌∷◌, map, length, Some, slice_get, refl, ap, sym, ◌∙◌, subst, arith}
use Rattle.std.specs.List.{All}
use Rattle.std.specs.Option.{ForSome}
use Rattle.std.specs.Str.{bytes_eq}
use Rattle.std.proofs.lemmas.Option.{same_Some}
use Rattle.std.proofs.lemmas.List.Elements.{All-cons, All-nil}
use Rattle.ioam_data.specs.Kind.{has, undefined, is_entry_type}
use Rattle.ioam_data.specs.Table.{table}
use Rattle.ioam_topo.specs.Types.{is_direct_type, is_edge_type}
use Rattle.ioam_topo.specs.declared.parts.Node.{Node}
use Rattle.ioam_topo.specs.declared.parts.Link.{Link}
use Rattle.ioam_topo.specs.declared.parts.Port.{Port}
use Rattle.ioam_topo.specs.declared.parts.Route.{Route}
use Rattle.ioam_topo.specs.declared.parts.NodeData.{NodeData}
use Rattle.ioam_topo.specs.declared.parts.Flow.{Flow}
use Rattle.ioam_topo.specs.declared.traces.FlowTrace.{FlowTrace}
use Rattle.ioam_topo.specs.Keyed.{name_of_node, id_of_node, address_of_node, name_of_link, name_of_port, taps_of, key_of_route, is_route}
use Rattle.ioam_topo.specs.Apart.{AreApart, NodesApart}
use Rattle.ioam_topo.specs.Prefixes.{IsPrefix}
use Rattle.ioam_topo.specs.Traces.{IsFlowTrace}
use Rattle.ioam_topo.specs.Known.{is_known, IsKnownAtEnds}
use Rattle.ioam_topo.specs.Sound.{IsNode, IsLink, IsPort, IsNodeData, IsFlow}
use Rattle.ioam_topo.specs.Kept.{JoinsNodes, JoinsEnds, IsAtNode, IsOfNode, IsRouteOf, SoundNodes, SoundLinks, SoundPorts, SoundRoutes, SoundData, SoundFlows}
use Rattle.ioam_topo.proofs.ApartLaws.{all_differ, distinct_by, names_differ, numbers_differ, prefixes_differ, apart_by, only_place}
use Rattle.ioam_topo_generated.specs.Bulk.{link_of, to_last, to_east, bulk_nodes, bulk_links, bulk_ports, bulk_routes, bulk_flow}

-- each of one to five entries
two : {A : Type 0} (P : A → Type 0) (a b : A) → P a → P b → All P (a ∷ b ∷ [])
two P a b x y = All-cons P a (b ∷ []) x (All-cons P b [] y (All-nil P))

four : {A : Type 0} (P : A → Type 0) (a b c d : A) → P a → P b → P c → P d → All P (a ∷ b ∷ c ∷ d ∷ [])
four P a b c d x y z w = All-cons P a (b ∷ c ∷ d ∷ []) x (All-cons P b (c ∷ d ∷ []) y (two P c d z w))

five : {A : Type 0} (P : A → Type 0) (a b c d e : A) → P a → P b → P c → P d → P e → All P (a ∷ b ∷ c ∷ d ∷ e ∷ [])
five P a b c d e x y z w v = All-cons P a (b ∷ c ∷ d ∷ e ∷ []) x (four P b c d e y z w v)

nine : {A : Type 0} (P : A → Type 0) (a b c d e f g h i : A) → P a → P b → P c → P d → P e → P f → P g → P h → P i → All P (a ∷ b ∷ c ∷ d ∷ e ∷ f ∷ g ∷ h ∷ i ∷ [])
nine P a b c d e f g h i x1 x2 x3 x4 x5 x6 x7 x8 x9 =
    All-cons P a (b ∷ c ∷ d ∷ e ∷ f ∷ g ∷ h ∷ i ∷ []) x1 (All-cons P b (c ∷ d ∷ e ∷ f ∷ g ∷ h ∷ i ∷ []) x2
    (All-cons P c (d ∷ e ∷ f ∷ g ∷ h ∷ i ∷ []) x3 (All-cons P d (e ∷ f ∷ g ∷ h ∷ i ∷ []) x4 (five P e f g h i x5 x6 x7 x8 x9))))

node_is : (node : Node) → node.id ≤ 5 → length node.namespaces ≤ 1 → IsNode node
node_is node small few = record { id_below = omega (arith, small); few_spaces = omega (arith, few) }

nodes_are : All IsNode bulk_nodes
unfolding bulk_nodes
nodes_are = five IsNode _ _ _ _ _ (node_is _ (omega arith) (omega arith)) (node_is _ (omega arith) (omega arith)) (node_is _ (omega arith) (omega arith)) (node_is _ (omega arith) (omega arith)) (node_is _ (omega arith) (omega arith))

five_nodes : length bulk_nodes ≡ 5
unfolding bulk_nodes
five_nodes = refl

link_is : (name : List ℕ) (at : ℕ) → IsLink (link_of name at)
link_is name at = record { out_below = omega arith; in_below = omega arith; delay_most = omega arith; mtu_least = omega arith; mtu_most = omega arith }

links_are : All IsLink bulk_links
unfolding bulk_links
links_are = four IsLink _ _ _ _ (link_is _ 0) (link_is _ 1) (link_is _ 2) (link_is _ 3)

link_joins : (name : List ℕ) (at : ℕ) → at ≤ 3 → JoinsNodes 5 (link_of name at)
link_joins name at small = record { starts = omega (arith, small); ends = omega (arith, small); apart = λ same. omega (arith, same) }

links_join : All (JoinsNodes 5) bulk_links
unfolding bulk_links
links_join = four (JoinsNodes 5) _ _ _ _ (link_joins _ 0 (omega arith)) (link_joins _ 1 (omega arith)) (link_joins _ 2 (omega arith)) (link_joins _ 3 (omega arith))

no_taps : taps_of bulk_links ≡ 0
unfolding bulk_links
no_taps = refl

four_links : length bulk_links ≡ 4
unfolding bulk_links
four_links = refl

ports_placed : All (IsAtNode 5) bulk_ports
unfolding bulk_ports
ports_placed = two (IsAtNode 5) _ _ (omega arith) (omega arith)

ports_are : All IsPort bulk_ports
unfolding bulk_ports
ports_are = two IsPort _ _ (record { id_below = omega arith }) (record { id_below = omega arith })

two_ports : length bulk_ports ≡ 2
unfolding bulk_ports
two_ports = refl

prefixes_are : All (λ route. IsPrefix route.prefix) bulk_routes
unfolding bulk_routes
prefixes_are = nine (λ route. IsPrefix route.prefix) _ _ _ _ _ _ _ _ _ last east last east last east last east east where
  last : IsPrefix to_last
  last = record { short = omega arith; rest = refl }

  east : IsPrefix to_east
  east = record { short = omega arith; rest = refl }

routes_lead : All (IsRouteOf 5 bulk_links bulk_ports) bulk_routes
unfolding bulk_routes bulk_links bulk_ports
routes_lead = nine (IsRouteOf 5 bulk_links bulk_ports) _ _ _ _ _ _ _ _ _ (record { known = omega arith; leads = refl }) (record { known = omega arith; leads = refl })
    (record { known = omega arith; leads = refl }) (record { known = omega arith; leads = refl }) (record { known = omega arith; leads = refl })
    (record { known = omega arith; leads = refl }) (record { known = omega arith; leads = refl }) (record { known = omega arith; leads = refl })
    (record { known = omega arith; leads = refl })

nine_routes : length bulk_routes ≡ 9
unfolding bulk_routes
nine_routes = refl

one : {A : Type 0} (P : A → Type 0) (a : A) → P a → All P (a ∷ [])
one P a x = All-cons P a [] x (All-nil P)

flow_joins : All (JoinsEnds 5) (bulk_flow ∷ [])
unfolding bulk_flow
flow_joins = one (JoinsEnds 5) bulk_flow (record { starts = omega arith; ends = omega arith; apart = λ same. cc })

flow_known : All (IsKnownAtEnds bulk_nodes) (bulk_flow ∷ [])
unfolding bulk_flow bulk_nodes
flow_known = one (IsKnownAtEnds bulk_nodes) bulk_flow (record {
  at_entry = refl;
  at_exit = refl;
  traces_at_entry = one (λ (trace : FlowTrace). is_known bulk_nodes 0 trace.namespace.0 ≡ true) _ refl;
  traces_at_exit = one (λ (trace : FlowTrace). is_known bulk_nodes 4 trace.namespace.0 ≡ true) _ refl;
})

for_one : {A : Type 0} (P : A → Type 0) (x : A) → P x → ForSome (Some x) P
for_one P x p y is = subst P (same_Some x y is) p

-- the flow is one that a domain may have
bulk_flow_is : IsFlow bulk_flow
unfolding bulk_flow has is_entry_type undefined table
bulk_flow_is = record {
  source = record { short = omega arith; rest = refl };
  target = record { short = omega arith; rest = refl };
  namespace_below = omega arith;
  hops_some = omega arith;
  hops_below = omega arith;
  label_most = omega arith;
  trace_type = for_one (λ kind. is_entry_type kind ≡ true) 8388608 refl;
  capacity_some = for_one (λ n. 1 ≤ n) 5 (omega arith);
  capacity_most = for_one (λ n. n ≤ 61) 5 (omega arith);
  trace_room = refl;
  own_first = refl;
  few_traces = omega arith;
  traces_sound = one IsFlowTrace _ (record { kind_is = refl; capacity_some = omega arith; capacity_most = omega arith });
  traces_apart = λ i j d lt within. absurd (omega (arith, lt, within));
  edge_some = for_one (λ kind. 1 ≤ kind) 16384 (omega arith);
  edge_type = for_one (λ kind. is_edge_type kind ≡ true) 16384 refl;
  direct_type = for_one (λ kind. is_direct_type kind ≡ true) 8388608 refl;
  direct_below = for_one (λ kind. kind < 2 ^ 24) 8388608 (omega arith);
  every_some = for_one (λ n. 1 ≤ n) 4 (omega arith);
  every_most = for_one (λ n. n ≤ 1000000) 4 (omega arith);
  direct_every = refl;
  direct_id = refl;
  id_below = for_one (λ id. id < 2 ^ 32) 1 (omega arith);
}

-- by names, and by numbers, of which none is equal to one behind it
apart_by_names : {A : Type 0} (key : A → List ℕ) (xs : List A) → all_differ bytes_eq (map key xs) ≡ true → AreApart key xs
apart_by_names key xs on = apart_by key xs (map key xs) refl (names_differ (map key xs) (distinct_by bytes_eq (map key xs) on))

apart_by_numbers : {A : Type 0} (key : A → ℕ) (xs : List A) → all_differ nat_eq (map key xs) ≡ true → AreApart key xs
apart_by_numbers key xs on = apart_by key xs (map key xs) refl (numbers_differ (map key xs) (distinct_by nat_eq (map key xs) on))

-- no two share what they are found by
nodes_apart : NodesApart bulk_nodes
unfolding bulk_nodes
nodes_apart = record {
  names = apart_by_names name_of_node bulk_nodes refl;
  ids = apart_by_numbers id_of_node bulk_nodes refl;
  addresses = apart_by_numbers address_of_node bulk_nodes refl;
}

links_apart : AreApart name_of_link bulk_links
unfolding bulk_links
links_apart = apart_by_names name_of_link bulk_links refl

ports_apart : AreApart name_of_port bulk_ports
unfolding bulk_ports
ports_apart = apart_by_names name_of_port bulk_ports refl

routes_apart : AreApart key_of_route bulk_routes
unfolding bulk_routes
routes_apart = apart_by key_of_route bulk_routes (map key_of_route bulk_routes) refl
    (prefixes_differ (map key_of_route bulk_routes) (distinct_by (λ a b. is_route a.0 a.1 b) (map key_of_route bulk_routes) refl))

one_place : (i j : ℕ) (f g : Flow) → slice_get (bulk_flow ∷ []) i ≡ Some f → slice_get (bulk_flow ∷ []) j ≡ Some g → i ≡ j
one_place i j f g here there = only_place bulk_flow i f here ∙ sym (only_place bulk_flow j g there)

-- the lists are as those of every domain
nodes_are_sound : SoundNodes bulk_nodes
nodes_are_sound = record {
  sound = nodes_are;
  few = let n = five_nodes in omega (arith, n);
  apart = nodes_apart;
}

links_are_sound : SoundLinks 5 bulk_links
links_are_sound = record {
  joined = links_join;
  sound = links_are;
  few = let n = four_links in omega (arith, n);
  few_taps = let n = no_taps in omega (arith, n);
  apart = links_apart;
}

ports_are_sound : SoundPorts 5 bulk_ports
ports_are_sound = record { placed = ports_placed; sound = ports_are; few = let n = two_ports in omega (arith, n); apart = ports_apart }

routes_are_sound : SoundRoutes 5 bulk_links bulk_ports bulk_routes
routes_are_sound = record { prefixes = prefixes_are; routed = routes_lead; few = let n = nine_routes in omega (arith, n); apart = routes_apart }

no_data_sound : (n : ℕ) → SoundData n []
no_data_sound n = record { placed = All-nil (IsOfNode n); sound = All-nil IsNodeData; few = omega arith; apart = λ i j x y here there same. cc }

flows_are_sound : SoundFlows bulk_nodes (bulk_flow ∷ [])
flows_are_sound = record {
  joined = subst (λ n. All (JoinsEnds n) (bulk_flow ∷ [])) (sym five_nodes) flow_joins;
  known = flow_known;
  sound = one IsFlow bulk_flow bulk_flow_is;
  few = omega arith;
  apart = record { names = λ i j f g here there same. one_place i j f g here there; ids = λ i j f g id here there first second same. one_place i j f g here there };
}

-- and so are lists that are equal to them
pub nodes_sound : {nodes : List Node} → nodes ≡ bulk_nodes → SoundNodes nodes
nodes_sound are = subst SoundNodes (sym are) nodes_are_sound

module _ {nodes : List Node} (nodes_same : nodes ≡ bulk_nodes) where
  count : length nodes ≡ 5
  count = ap length nodes_same ∙ five_nodes

  pub links_sound : {links : List Link} → links ≡ bulk_links → SoundLinks (length nodes) links
  links_sound {links} are = subst (λ n. SoundLinks n links) (sym count) (subst (SoundLinks 5) (sym are) links_are_sound)

  pub ports_sound : {ports : List Port} → ports ≡ bulk_ports → SoundPorts (length nodes) ports
  ports_sound {ports} are = subst (λ n. SoundPorts n ports) (sym count) (subst (SoundPorts 5) (sym are) ports_are_sound)

  pub routes_sound : {links : List Link} {ports : List Port} {routes : List Route} → links ≡ bulk_links → ports ≡ bulk_ports → routes ≡ bulk_routes
      → SoundRoutes (length nodes) links ports routes
  routes_sound {links} {ports} {routes} links_same ports_same are =
      subst (λ n. SoundRoutes n links ports routes) (sym count)
      (subst (λ l. SoundRoutes 5 l ports routes) (sym links_same)
      (subst (λ p. SoundRoutes 5 bulk_links p routes) (sym ports_same)
      (subst (SoundRoutes 5 bulk_links bulk_ports) (sym are) routes_are_sound)))

  pub flows_sound : {flows : List Flow} → flows ≡ bulk_flow ∷ [] → SoundFlows nodes flows
  flows_sound {flows} are = subst (λ n. SoundFlows n flows) (sym nodes_same) (subst (SoundFlows bulk_nodes) (sym are) flows_are_sound)

pub data_sound : (n : ℕ) {rows : List NodeData} → rows ≡ [] → SoundData n rows
data_sound n none = subst (SoundData n) (sym none) (no_data_sound n)
