use Rattle.std.proofs.Common.{◌≡◌, [], map, take, drop}
use Rattle.toml.specs.View.{table_view}
use Rattle.ioam_topo_entries.specs.Faults.{each}
use Rattle.ioam_topo_entries.proofs.collecting.collect.Given as goal

abbrev pub invariant-loop-at : goal.invariant-loop-at
invariant-loop-at g l = record {
  holds : g.T.Collects.Holds l.before (map (λ t. table_view t.now) (take l.at l.entries)) l.out;
  rest : each (g.T.Collects.faults l.before) (map (λ t. table_view t.now) (take l.at l.entries)) (map (λ t. table_view t.now) (drop l.at l.entries))
      ≡ each (g.T.Collects.faults l.before) [] (map (λ t. table_view t.now) l.entries);
}
