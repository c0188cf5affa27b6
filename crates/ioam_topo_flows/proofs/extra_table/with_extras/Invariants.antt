use Rattle.std.proofs.Common.{◌≡◌, take}
use Rattle.ioam_topo_flows.specs.ExtraTable.{traced}
use Rattle.ioam_topo_flows.proofs.extra_table.with_extras.Given as goal

abbrev pub invariant-loop-extra : goal.invariant-loop-extra
invariant-loop-extra l = record {
  items : l.out.items.items ≡ traced 0 l.fn.flows.items.items (take l.extra-index l.extras);
  names : l.out.names ≡ l.fn.flows.names;
  keys : l.out.taken.keys ≡ l.fn.flows.taken.keys;
}
