use Rattle.std.proofs.Common.{◌≡◌, drop}
use Rattle.toml.specs.View.{items_view}
use Rattle.ioam_topo_values.specs.Entries.{are_whole}
use Rattle.ioam_topo_values.proofs.spaces.are_whole.Given as goal

abbrev pub invariant-loop-value : goal.invariant-loop-value
invariant-loop-value l = are_whole (items_view (drop l.value-index l.items)) ≡ are_whole (items_view l.items)
