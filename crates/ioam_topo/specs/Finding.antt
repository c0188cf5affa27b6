-- What is looked up among the node data and the flows of a domain.
use Rattle.std.specs.Prelude.{ℕ, Bool, nat_eq, ◌&&◌, List, Option, option_map, position, find}
use Rattle.ioam_topo.specs.Prefixes.{matches}
use Rattle.ioam_topo.specs.declared.ids.FlowId.{FlowId}
use Rattle.ioam_topo.specs.declared.parts.NodeData.{NodeData}
use Rattle.ioam_topo.specs.declared.parts.Flow.{Flow}

-- whether this is the data of a node in a namespace
abbrev pub is_data_of : ℕ → ℕ → NodeData → Bool
is_data_of node space row = nat_eq node row.node.0 && nat_eq space row.namespace.0

-- the data of a node in a namespace
abbrev pub data_at : List NodeData → ℕ → ℕ → Option NodeData
data_at rows node space = find (is_data_of node space) rows

-- whether a node encloses, for this flow, packets from a source to a target
abbrev pub encloses : ℕ → ℕ → ℕ → Flow → Bool
encloses node source target flow = nat_eq flow.entry.0 node && (matches flow.source source && matches flow.target target)

-- the first flow of a node for a source and a target, by its place
abbrev pub flow_at : List Flow → ℕ → ℕ → ℕ → Option FlowId
flow_at flows node source target = option_map (λ at. record { 0 = at }) (position (encloses node source target) flows)
