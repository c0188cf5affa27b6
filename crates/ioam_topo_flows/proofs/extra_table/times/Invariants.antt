use Rattle.std.proofs.Common.{◌≡◌, ◌≤◌, ◌+◌, drop}
use Rattle.ioam_topo_flows.specs.ExtraTable.{times}
use Rattle.ioam_topo_flows.proofs.extra_table.times.Given as goal

abbrev pub invariant-loop-place : goal.invariant-loop-place
invariant-loop-place l = record {
  so_far : l.count + times l.flow (drop l.place-index l.places) ≡ times l.flow l.places;
  few : l.count ≤ l.place-index;
}
