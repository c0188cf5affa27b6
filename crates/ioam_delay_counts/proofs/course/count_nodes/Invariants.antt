use Rattle.std.proofs.Common.{◌≡◌, ◌<◌, ◌+◌, ◌^◌, ◌++◌, List, length, take}
use Rattle.ioam_delay_counts.specs.Tables.{IsTable}
use Rattle.ioam_delays.specs.declared.sight.Sight.{Sight}
use Rattle.ioam_delay_counts.specs.Courses.{nodes_from}
use Rattle.ioam_delay_counts.specs.Orders.{node_before}
use Rattle.ioam_delay_counts.specs.Tallies.{CountsSeen}
use Rattle.ioam_delay_counts.specs.declared.keys.NodeKey.{NodeKey}
use Rattle.ioam_delay_counts.proofs.course.count_nodes.Given as goal

abbrev pub invariant-sights : goal.invariant-sights
invariant-sights l = record {
  limit : l.nodes.limit ≡ l.initial.nodes.limit;
  counted : (seen : List (NodeKey × Sight)) → length seen + length l.sights < 2 ^ 48 → IsTable node_before CountsSeen seen l.initial.nodes
      → IsTable node_before CountsSeen (seen ++ nodes_from l.namespace (take l.sight-index l.sights)) l.nodes;
}
