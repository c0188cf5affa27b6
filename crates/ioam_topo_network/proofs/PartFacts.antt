-- What is true of nodes, links and ports, from what they read as.
use Rattle.std.proofs.Common.{◌≡◌, ◌<◌, ◌≤◌, ◌^◌, ℕ, Bool, true, false, nat_le, cond, codes, List, [], length, Option, Some, None, Result, Ok, Err, refl, subst, arith}
use Rattle.std.specs.List.{All}
use Rattle.std.proofs.lemmas.Bool.Decides.{nat_tests}
use Rattle.toml.specs.Data.{Data, Members, get_member, string, integer, float, boolean, datetime, array, table}
use Rattle.ioam_data.specs.declared.namespace.Namespace.{Namespace}
use Rattle.ioam_topo_values.specs.declared.why.Why.{Why}
use Rattle.ioam_topo_values.specs.Reads.{◌▷◌, optional}
use Rattle.ioam_topo_values.specs.Entries.{namespaces, are_whole, spaces, apart, at_most}
use Rattle.ioam_topo.specs.declared.parts.Node.{Node}
use Rattle.ioam_topo.specs.declared.parts.Link.{Link}
use Rattle.ioam_topo.specs.declared.parts.Port.{Port}
use Rattle.ioam_topo_entries.specs.Goods.{goods}
use Rattle.ioam_topo_network.specs.NodeTable.{node_of}
use Rattle.ioam_topo_network.specs.LinkTable.{link_of}
use Rattle.ioam_topo_network.specs.PortTable.{port_of}
use Rattle.ioam_topo.specs.Sound.{IsNode, IsLink, IsPort}
use Rattle.ioam_topo_entries.proofs.ReadLaws.{needed_bounds}
use Rattle.ioam_topo_entries.specs.Keys.{link_rows}
use Rattle.ioam_topo_entries.specs.Rows.{row}
use Rattle.ioam_topo_entries.proofs.GoodsLaws.{goods_all}
use Rattle.ioam_topo_entries.proofs.NumberLaws.{row_bounds}
use Rattle.ioam_topo_network.proofs.NodeLaws.{node_read}
use Rattle.ioam_topo_network.proofs.LinkLaws.{link_read}
use Rattle.ioam_topo_network.proofs.KeptLaws.{port_read}

few_in : (most : ℕ) (ss out : List Namespace) (b : Bool) → nat_le (length ss) most ≡ b → cond b (Ok ss) (Err Why.TooMany) ≡ Ok out → length out ≤ most
few_in most ss out true le is = let same : ss ≡ out = cc in subst (λ l. length l ≤ most) same (grind (arith, nat_tests, le))
few_in most ss out false le is = cc

few_of : (most : ℕ) (r : Result (List Namespace) Why) (out : List Namespace) → r ▷ at_most most ≡ Ok out → length out ≤ most
few_of most (Ok ss) out is = few_in most ss out (nat_le (length ss) most) refl is
few_of most (Err why) out is = cc

few_whole : (r : Result (List Namespace) Why) (out : List Namespace) (b : Bool) → cond b (r ▷ at_most 16) (Err Why.Kind) ≡ Ok out → length out ≤ 16
few_whole r out true is = few_of 16 r out is
few_whole r out false is = cc

few_namespaces : (d : Data) (out : List Namespace) → namespaces d ≡ Ok out → length out ≤ 16
few_namespaces (array ds) out is = few_whole (spaces ds ▷ apart) out (are_whole ds) is
few_namespaces (string s) out is = cc
few_namespaces (integer z) out is = cc
few_namespaces (float f) out is = cc
few_namespaces (boolean b) out is = cc
few_namespaces (datetime t) out is = cc
few_namespaces (table ms) out is = cc

few_listed : (o : Option Data) (out : List Namespace) → optional [] namespaces o ≡ Ok out → length out ≤ 16
few_listed None out is = let same : [] ≡ out = cc in subst (λ l. length l ≤ 16) same (omega arith)
few_listed (Some d) out is = few_namespaces d out is

node_facts : (m : Members) (node : Node) → node_of m ≡ Ok node → IsNode node
node_facts m node is =
    let read = node_read m node is in
    let most = (needed_bounds 0 72057594037927935 (get_member (codes "id") m) node.id read.1).1 in
    record { id_below = omega (arith, most); few_spaces = few_listed (get_member (codes "namespaces") m) node.namespaces read.3 }

-- what is true of the nodes of entries
pub nodes_sound : (ms : List Members) (nodes : List Node) → nodes ≡ goods node_of ms → All IsNode nodes
nodes_sound ms nodes are = rw are (goods_all IsNode node_of ms node_facts)

link_facts : (nodes : List (List ℕ)) (m : Members) (link : Link) → link_of nodes m ≡ Ok link → IsLink link
link_facts nodes m link is =
    let read = (link_read nodes m link is).2 in
    let out_most = (row_bounds link_rows m read.0 0 (row (codes "out_id") 0 4294967295) read.1 refl).1 in
    let in_most = (row_bounds link_rows m read.0 1 (row (codes "in_id") 0 4294967295) read.1 refl).1 in
    let mtu = row_bounds link_rows m read.0 3 (row (codes "mtu") 1280 65575) read.1 refl in
    subst IsLink read.2 (record {
      out_below = omega (arith, out_most);
      in_below = omega (arith, in_most);
      delay_most = (row_bounds link_rows m read.0 2 (row (codes "delay") 0 1000000000) read.1 refl).1;
      mtu_least = mtu.0;
      mtu_most = mtu.1;
    })

-- what is true of the links of entries
pub links_sound : (nodes : List (List ℕ)) (ms : List Members) (links : List Link) → links ≡ goods (link_of nodes) ms → All IsLink links
links_sound nodes ms links are = rw are (goods_all IsLink (link_of nodes) ms (link_facts nodes))

port_facts : (nodes : List (List ℕ)) (m : Members) (port : Port) → port_of nodes m ≡ Ok port → IsPort port
port_facts nodes m port is =
    let most = (needed_bounds 0 4294967295 (get_member (codes "id") m) port.id (port_read nodes m port is).1).1 in
    record { id_below = omega (arith, most) }

-- and of ports
pub ports_sound : (nodes : List (List ℕ)) (ms : List Members) (ports : List Port) → ports ≡ goods (port_of nodes) ms → All IsPort ports
ports_sound nodes ms ports are = rw are (goods_all IsPort (port_of nodes) ms (port_facts nodes))
