-- The whole file.
use Rattle.std.specs.Prelude.{ℕ, codes, List, ◌++◌, Result, Ok, Err, if◌then◌else◌}
use Rattle.std.specs.Str.{bytes_eq}
use Rattle.toml.specs.Data.{Data, Members, get_member}
use Rattle.ioam_topo_values.specs.declared.why.Why.{Why}
use Rattle.ioam_topo_values.specs.declared.why.Why.TheVariants.{Range}
use Rattle.ioam_topo_values.specs.Reads.{◌▷◌, optional}
use Rattle.ioam_topo_values.specs.Numbers.{number}
use Rattle.ioam_topo_values.specs.Texts.{text}
use Rattle.ioam_topo.specs.declared.format.Format.{Format}
use Rattle.ioam_topo.specs.declared.format.Format.TheVariants.{Ptp, Ntp, Posix}
use Rattle.ioam_topo.specs.declared.parts.NodeData.{NodeData}
use Rattle.ioam_topo.specs.declared.parts.Flow.{Flow}
use Rattle.ioam_topo_entries.specs.declared.words.Table.TheVariants.{Top}
use Rattle.ioam_topo_entries.specs.declared.fault.DomainFault.{DomainFault}
use Rattle.ioam_topo_entries.specs.Faults.{at, other_key}
use Rattle.ioam_topo_entries.specs.Keys.{own_keys}
use Rattle.ioam_topo_network.specs.Places.{node_names, node_lists, part_faults, route_table_faults}
use Rattle.ioam_topo_flows.specs.Tables.{data_behind, flows_behind, data_table_faults, flow_table_faults, extra_table_faults}

-- "ptp", "ntp" or "posix"
abbrev pub format_named : List ℕ → Result Format Why
format_named s = if bytes_eq s (codes "ptp") then Ok Ptp else if bytes_eq s (codes "ntp") then Ok Ntp else
    if bytes_eq s (codes "posix") then Ok Posix else Err Range

-- the format of the times: one of the three names
abbrev pub format : Data → Result Format Why
format d = text d ▷ format_named

-- "ptp" where there is none
abbrev pub format_of : Members → Result Format Why
format_of t = optional Ptp format (get_member (codes "format") t)

-- 1,000,000 where there is none
abbrev pub packets_of : Members → Result ℕ Why
packets_of t = optional 1000000 (number 1 16777216) (get_member (codes "packets") t)

-- the node data of the file, in order
abbrev pub node_data_of : Members → List NodeData
node_data_of t = data_behind (node_names t) (node_lists t) t

-- the flows of the file, in order, each with its traces
abbrev pub flows_of : Members → List Flow
flows_of t = flows_behind (node_names t) (node_lists t) t

-- the faults of the file's own keys
abbrev pub top_keys : Members → List DomainFault
top_keys t = at Top 0 other_key (own_keys Top t) ++ (at Top 0 (codes "format") (format_of t) ++ at Top 0 (codes "packets") (packets_of t))

-- the faults of the tables of what nodes and flows record: at most 256 flows and 512 extra traces
abbrev pub telemetry_faults : Members → List DomainFault
telemetry_faults t = data_table_faults (node_names t) (node_lists t) t
    ++ (flow_table_faults (node_names t) (node_lists t) t 256 ++ extra_table_faults (node_names t) (node_lists t) t 512)

-- all faults of a file, in the order in which they are looked for, where at most 64 links have a tap
abbrev pub faults_of : Members → List DomainFault
faults_of t = top_keys t ++ (part_faults 64 t ++ (route_table_faults t ++ telemetry_faults t))
