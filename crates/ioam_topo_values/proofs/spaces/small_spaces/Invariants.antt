use Rattle.std.proofs.Common.{◌≡◌, drop}
use Rattle.toml.specs.View.{items_view}
use Rattle.ioam_topo_values.specs.Entries.{spaces}
use Rattle.ioam_topo_values.proofs.EntryLaws.{all_front}
use Rattle.ioam_topo_values.proofs.spaces.small_spaces.Given as goal

abbrev pub invariant-loop-value : goal.invariant-loop-value
invariant-loop-value l = all_front l.out.items (spaces (items_view (drop l.value-index l.items))) ≡ spaces (items_view l.items)
