use Rattle.std.proofs.Common.{◌≡◌, drop, map}
use Rattle.toml.specs.View.{items_view, table_view}
use Rattle.ioam_topo_values.specs.Entries.{tables}
use Rattle.ioam_topo_values.proofs.EntryLaws.{all_front}
use Rattle.ioam_topo_values.proofs.entries.tables.Given as goal

abbrev pub invariant-loop-value : goal.invariant-loop-value
invariant-loop-value l = all_front (map (λ t. table_view t.now) l.out.items) (tables (items_view (drop l.value-index l.items))) ≡ tables (items_view l.items)
