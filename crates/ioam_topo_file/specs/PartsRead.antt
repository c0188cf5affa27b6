-- What is known of the node data and the flows of a file.
use Rattle.std.specs.Prelude.{map}
use Rattle.toml.specs.Data.{Members}
use Rattle.ioam_topo_tables.specs.declared.nodes.Nodes.{Nodes}
use Rattle.ioam_topo_tables.specs.declared.telemetry.Telemetry.{Telemetry}
use Rattle.ioam_topo_entries.specs.Goods.{list_of}
use Rattle.ioam_topo_flows.specs.DataTable.{data_entries}
use Rattle.ioam_topo_flows.specs.DataRead.{HoldsData}
use Rattle.ioam_topo_flows.specs.Tables.{AreFlows}

-- these are the node data and the flows of a file, behind these nodes
pub record HoldsTelemetry (nodes : Nodes) (t : Members) (telemetry : Telemetry) : Type 0 where
  pub rows : HoldsData nodes.names (data_entries t) telemetry.rows
  pub flows : AreFlows nodes (map list_of nodes.items.items) t 256 telemetry.flows
