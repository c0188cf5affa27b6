-- The keys of the table `flow`.
use Rattle.std.specs.Prelude.{ℕ, ◌||◌, is_some, codes, List, ◌++◌, Option, Result, Ok}
use Rattle.toml.specs.Data.{Members, get_member}
use Rattle.ioam_data.specs.declared.namespace.Namespace.{Namespace}
use Rattle.ioam_topo_values.specs.declared.why.Why.{Why}
use Rattle.ioam_topo.specs.declared.prefix.Prefix.{Prefix}
use Rattle.ioam_topo_values.specs.Reads.{◌▷◌, needed, maybe, optional}
use Rattle.ioam_topo_values.specs.Pairs.{beside}
use Rattle.ioam_topo_values.specs.Numbers.{number}
use Rattle.ioam_topo_values.specs.Texts.{name}
use Rattle.ioam_topo_values.specs.Prefixes.{prefix}
use Rattle.ioam_topo_values.specs.Types.{trace_type, direct_type, edge_type}
use Rattle.ioam_topo_entries.specs.declared.words.Table.TheVariants.{FlowTable}
use Rattle.ioam_topo_entries.specs.declared.fault.DomainFault.{DomainFault}
use Rattle.ioam_topo_flows.specs.declared.flow_parts.Selection.{Selection}
use Rattle.ioam_topo_flows.specs.declared.flow_parts.Outer.{Outer}
use Rattle.ioam_topo_flows.specs.declared.flow_parts.Tracing.{Tracing}
use Rattle.ioam_topo_flows.specs.declared.flow_parts.Exporting.{Exporting}
use Rattle.ioam_topo_entries.specs.Faults.{at}
use Rattle.ioam_topo_entries.specs.Goods.{known, differs}
use Rattle.ioam_topo_flows.specs.Apart.{fresh_some}
use Rattle.ioam_topo_flows.specs.Spaces.{known_at}

-- the prefix of the sources of a flow's packets, which is needed
abbrev pub flow_source : Members → Result Prefix Why
flow_source m = needed prefix (get_member (codes "source") m)

-- the prefix of their targets, which is needed
abbrev pub flow_target : Members → Result Prefix Why
flow_target m = needed prefix (get_member (codes "target") m)

-- the hop limit of a flow's outer packets: 1 to 255
abbrev pub flow_hops : Members → Result ℕ Why
flow_hops m = needed (number 1 255) (get_member (codes "hops") m)

-- their flow label: 0 to 2^20 - 1, and 0 where the key is absent
abbrev pub flow_label : Members → Result ℕ Why
flow_label m = optional 0 (number 0 1048575) (get_member (codes "label") m)

-- a trace and its capacity, each needed with the other
abbrev pub flow_trace : Members → Result (Option ℕ) Why
flow_trace m = maybe trace_type (get_member (codes "trace") m) ▷ beside (is_some (get_member (codes "capacity") m))

-- how many words the trace has room for: 1 to 61, and needed where there is a trace
abbrev pub flow_capacity : Members → Result (Option ℕ) Why
flow_capacity m = maybe (number 1 61) (get_member (codes "capacity") m) ▷ beside (is_some (get_member (codes "trace") m))

-- the type of edge-to-edge data that its packets carry, where they carry any
abbrev pub flow_edge : Members → Result (Option ℕ) Why
flow_edge m = maybe edge_type (get_member (codes "edge") m)

-- direct exports, how often they are and the id that they have: each needed with the first, and the first with either
abbrev pub flow_direct : Members → Result (Option ℕ) Why
flow_direct m = maybe direct_type (get_member (codes "direct") m)
    ▷ beside (is_some (get_member (codes "every") m) || is_some (get_member (codes "flow_id") m))

-- of so many packets one carries direct export: 1 to 1,000,000, and needed where there is direct export
abbrev pub flow_every : Members → Result (Option ℕ) Why
flow_every m = maybe (number 1 1000000) (get_member (codes "every") m) ▷ beside (is_some (get_member (codes "direct") m))

-- the Flow ID of its direct exports: 0 to 2^32 - 1, and needed where there is direct export
abbrev pub flow_id : Members → Result (Option ℕ) Why
flow_id m = maybe (number 0 4294967295) (get_member (codes "flow_id") m) ▷ beside (is_some (get_member (codes "direct") m))

-- the tunnel encapsulation limit of its outer packets, where it sets one: 0 to 255 (RFC 2473 section 4.1.1)
abbrev pub flow_limit : Members → Result (Option ℕ) Why
flow_limit m = maybe (number 0 255) (get_member (codes "limit") m)

-- the outer header
abbrev pub outer_of : Members → Result Outer Why
outer_of m = flow_hops m ▷ (λ hops. flow_label m ▷ (λ label. Ok (record { hops = hops; label = label })))

-- the faults of the outer header's keys
abbrev pub outer_keys : ℕ → Members → List DomainFault
outer_keys place m = at FlowTable place (codes "hops") (flow_hops m) ++ at FlowTable place (codes "label") (flow_label m)

-- the options that every packet carries
abbrev pub tracing_of : Members → Result Tracing Why
tracing_of m = flow_trace m ▷ (λ trace. flow_capacity m ▷ (λ capacity. flow_edge m ▷ (λ edge.
    Ok (record { trace = trace; capacity = capacity; edge = edge }))))

-- the faults of the keys of the options that every packet carries
abbrev pub tracing_keys : ℕ → Members → List DomainFault
tracing_keys place m = at FlowTable place (codes "trace") (flow_trace m) ++ (at FlowTable place (codes "capacity") (flow_capacity m) ++ at FlowTable place (codes "edge") (flow_edge m))

-- the option that some packets carry, and the tunnel's limit
abbrev pub exporting_of : Members → Result Exporting Why
exporting_of m = flow_direct m ▷ (λ direct. flow_every m ▷ (λ every. flow_id m ▷ (λ id. flow_limit m ▷ (λ limit.
    Ok (record { direct = direct; every = every; flow_id = id; limit = limit })))))

-- the same with the ids of each namespace before it, where the namespace is read
abbrev pub exporting_keys : ℕ → Result ℕ Why → List (ℕ × ℕ) → Members → List DomainFault
exporting_keys place space seen m =
    at FlowTable place (codes "direct") (flow_direct m)
    ++ (at FlowTable place (codes "every") (flow_every m)
    ++ (at FlowTable place (codes "flow_id") (flow_id m ▷ fresh_some space seen)
    ++ at FlowTable place (codes "limit") (flow_limit m)))

-- `nodes` are the names of the nodes, and `lists` the namespaces that these list
module _ (nodes : List (List ℕ)) (lists : List (Result (List Namespace) Why)) where
  -- the entry node of a flow, by its place
  abbrev pub flow_entry : Members → Result ℕ Why
  flow_entry m = needed name (get_member (codes "entry") m) ▷ known nodes

  -- its exit node, by its place: another one
  abbrev pub flow_exit : Members → Result ℕ Why
  flow_exit m = needed name (get_member (codes "exit") m) ▷ known nodes ▷ differs (flow_entry m)

  -- known to both ends
  abbrev pub flow_space : Members → Result ℕ Why
  flow_space m = needed (number 0 65535) (get_member (codes "namespace") m) ▷ known_at lists (flow_entry m) ▷ known_at lists (flow_exit m)

  -- which packets are enclosed, and from where to where
  abbrev pub selection_of : Members → Result Selection Why
  selection_of m = flow_entry m ▷ (λ entry. flow_exit m ▷ (λ exit. flow_source m ▷ (λ source. flow_target m ▷ (λ target. flow_space m ▷ (λ space.
      Ok (record { entry = entry; exit = exit; source = source; target = target; namespace = space }))))))

  -- the faults of the keys that say which packets are enclosed
  abbrev pub selection_keys : ℕ → Members → List DomainFault
  selection_keys place m =
      at FlowTable place (codes "entry") (flow_entry m)
      ++ (at FlowTable place (codes "exit") (flow_exit m)
      ++ (at FlowTable place (codes "source") (flow_source m)
      ++ (at FlowTable place (codes "target") (flow_target m)
      ++ at FlowTable place (codes "namespace") (flow_space m))))
