-- Laws of the ports that are collected.
use Rattle.std.proofs.Common.{◌≡◌, ℕ, ◌+◌, List, [], ◌∷◌, ◌++◌, length, map, ap, ◌∙◌}
use Rattle.toml.specs.Data.{Members}
use Rattle.ioam_topo_tables.specs.declared.ports.Ports.{Ports}
use Rattle.ioam_topo.specs.declared.parts.Port.{Port}
use Rattle.ioam_topo_network.specs.PortTable.{port_keys, port_faults, port_of, port_name, port_end}
use Rattle.ioam_topo_network.specs.PortRead.{HoldsPorts, IsNewPort, node_of_port}
use Rattle.ioam_topo.specs.Keyed.{name_of_port}
use Rattle.ioam_topo_entries.proofs.GoodsLaws.{goods_push}
use Rattle.ioam_topo.proofs.KeyLaws.{map_append}
use Rattle.ioam_topo_entries.proofs.KeyLaws.{kept_by}

pub held_faults : (nodes : List (List ℕ)) (earlier : List Members) (ports : Ports) (place : ℕ) (m : Members) → HoldsPorts nodes earlier ports → place ≡ length earlier + 1
    → port_keys nodes place ports.names m ≡ port_faults nodes earlier m
held_faults nodes earlier ports place m holds there = rw (holds.names, there)

pub port_added : (nodes : List (List ℕ)) (earlier : List Members) (m : Members) (text : List ℕ) (port : Port) (old new : Ports)
    → HoldsPorts nodes earlier old → IsNewPort nodes old m text port
    → new.items.items ≡ old.items.items ++ port ∷ [] → new.names ≡ old.names ++ port.name ∷ []
    → HoldsPorts nodes (earlier ++ m ∷ []) new
port_added nodes earlier m text port old new holds fits items names = record {
  items = goods_push (port_of nodes) earlier m port _ _ fits.is holds.items items;
  ends = goods_push (port_end nodes) earlier m (node_of_port port) _ _ fits.end_is holds.ends
      (ap (map node_of_port) items ∙ map_append node_of_port old.items.items (port ∷ []));
  names = goods_push port_name earlier m port.name _ _ fits.name_is holds.names names;
  named = kept_by name_of_port old.items.items new.items.items port _ _ holds.named items names;
}
