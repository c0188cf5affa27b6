-- Laws of what is true of flows, from what their entries read as.
use Rattle.std.proofs.Common.{◌≡◌, ◌≢◌, ℕ, true, codes, List, [], map, length, Option, Some, None, Result, Ok, refl, ap, sym, subst, ◌∙◌}
use Rattle.toml.specs.Data.{Members, get_member}
use Rattle.ioam_data.specs.declared.namespace.Namespace.{Namespace}
use Rattle.ioam_topo_values.specs.declared.why.Why.{Why}
use Rattle.ioam_topo_values.specs.Reads.{◌▷◌, needed}
use Rattle.ioam_topo_values.specs.Texts.{name}
use Rattle.ioam_topo.specs.declared.parts.Flow.{Flow}
use Rattle.ioam_topo_entries.specs.Goods.{known, differs}
use Rattle.ioam_topo_flows.specs.FlowParts.{flow_entry, flow_exit, flow_space}
use Rattle.ioam_topo_flows.specs.FlowTable.{flow_of}
use Rattle.ioam_topo.specs.Kept.{JoinsEnds}
use Rattle.std.specs.List.{All}
use Rattle.std.proofs.lemmas.List.Elements.{All-cons, All-nil}
use Rattle.ioam_topo_values.specs.Numbers.{number}
use Rattle.ioam_topo.specs.declared.parts.Node.{Node}
use Rattle.ioam_topo.specs.declared.traces.FlowTrace.{FlowTrace}
use Rattle.ioam_topo.specs.Known.{is_known, IsKnownAtEnds}
use Rattle.ioam_topo.specs.Traces.{own_traces}
use Rattle.ioam_topo_entries.specs.Goods.{list_of}
use Rattle.ioam_topo_flows.specs.Spaces.{known_at}
use Rattle.ioam_topo_flows.specs.ExtraRead.{OwnAlone}
use Rattle.ioam_topo_flows.proofs.SpaceLaws.{known_read}
use Rattle.ioam_topo_flows.proofs.PartLaws.{flow_read, selection_read}
use Rattle.ioam_topo_entries.proofs.GoodsLaws.{known_below, differs_apart}

-- the ends and the namespace of a flow that was read; it has no traces but its own
ends_read : (nodes : List (List ℕ)) (lists : List (Result (List Namespace) Why)) (m : Members) (flow : Flow) → flow_of nodes lists m ≡ Ok flow
    → (flow_entry nodes lists m ≡ Ok flow.entry.0) × (flow_exit nodes lists m ≡ Ok flow.exit.0) × (flow_space nodes lists m ≡ Ok flow.namespace.0) × OwnAlone flow
ends_read nodes lists m flow is =
    let f = flow_read nodes lists m flow is in
    let s = selection_read nodes lists m f.s f.selected in
    let P : Flow → Type 0 = λ x. (flow_entry nodes lists m ≡ Ok x.entry.0) × (flow_exit nodes lists m ≡ Ok x.exit.0) × (flow_space nodes lists m ≡ Ok x.namespace.0) × OwnAlone x in
    subst P f.is (s.entry, s.exit, s.space, refl)

-- a flow is from one node of these names to another
pub flow_joins : (nodes : List (List ℕ)) (lists : List (Result (List Namespace) Why)) (m : Members) (flow : Flow) → flow_of nodes lists m ≡ Ok flow → JoinsEnds (length nodes) flow
flow_joins nodes lists m flow is =
    let read = ends_read nodes lists m flow is in
    let exit : needed name (get_member (codes "exit") m) ▷ known nodes ▷ differs (Ok flow.entry.0) ≡ Ok flow.exit.0 =
    ap (λ r. needed name (get_member (codes "exit") m) ▷ known nodes ▷ differs r) (sym read.0) ∙ read.1 in
    let other : (needed name (get_member (codes "exit") m) ▷ known nodes ≡ Ok flow.exit.0) × (flow.entry.0 ≢ flow.exit.0) =
    differs_apart flow.entry.0 (needed name (get_member (codes "exit") m) ▷ known nodes) flow.exit.0 exit in
    record {
      starts = known_below nodes (needed name (get_member (codes "entry") m)) flow.entry.0 read.0;
      ends = known_below nodes (needed name (get_member (codes "exit") m)) flow.exit.0 other.0;
      apart = other.1;
    }

-- a flow that was read has no traces but its own
pub flow_alone : (nodes : List (List ℕ)) (lists : List (Result (List Namespace) Why)) (m : Members) (flow : Flow) → flow_of nodes lists m ≡ Ok flow → OwnAlone flow
flow_alone nodes lists m flow is = (ends_read nodes lists m flow is).3

own_all : (P : FlowTrace → Type 0) (space : Namespace) (kind capacity : Option ℕ) → ((t : FlowTrace) → t.namespace ≡ space → P t) → All P (own_traces space kind capacity)
own_all P space (Some kind) (Some n) each = All-cons P (record { namespace = space; kind = kind; capacity = n }) [] (each (record { namespace = space; kind = kind; capacity = n }) refl) (All-nil P)
own_all P space (Some kind) None each = All-nil P
own_all P space None n each = All-nil P

-- both ends of a flow that was read know its namespaces
pub flow_known : (nodes : List Node) (names : List (List ℕ)) (m : Members) (flow : Flow) → length names ≡ length nodes
    → flow_of names (map list_of nodes) m ≡ Ok flow → IsKnownAtEnds nodes flow
flow_known nodes names m flow count is =
    let joins : JoinsEnds (length nodes) flow = subst (λ n. JoinsEnds n flow) count (flow_joins names (map list_of nodes) m flow is) in
    let ends = ends_read names (map list_of nodes) m flow is in
    let read : needed (number 0 65535) (get_member (codes "namespace") m) ▷ known_at (map list_of nodes) (Ok flow.entry.0) ▷ known_at (map list_of nodes) (Ok flow.exit.0) ≡ Ok flow.namespace.0 =
    ap (λ e. needed (number 0 65535) (get_member (codes "namespace") m) ▷ known_at (map list_of nodes) e ▷ known_at (map list_of nodes) (Ok flow.exit.0)) (sym ends.0)
    ∙ ap (λ x. needed (number 0 65535) (get_member (codes "namespace") m) ▷ known_at (map list_of nodes) (flow_entry names (map list_of nodes) m) ▷ known_at (map list_of nodes) x) (sym ends.1)
    ∙ ends.2 in
    let exit : (needed (number 0 65535) (get_member (codes "namespace") m) ▷ known_at (map list_of nodes) (Ok flow.entry.0) ≡ Ok flow.namespace.0) × (is_known nodes flow.exit.0 flow.namespace.0 ≡ true) =
    known_read nodes flow.exit.0 (needed (number 0 65535) (get_member (codes "namespace") m) ▷ known_at (map list_of nodes) (Ok flow.entry.0)) flow.namespace.0 joins.ends read in
    let entry : (needed (number 0 65535) (get_member (codes "namespace") m) ≡ Ok flow.namespace.0) × (is_known nodes flow.entry.0 flow.namespace.0 ≡ true) =
    known_read nodes flow.entry.0 (needed (number 0 65535) (get_member (codes "namespace") m)) flow.namespace.0 joins.starts exit.0 in
    record {
      at_entry = entry.1;
      at_exit = exit.1;
      traces_at_entry = let P : List FlowTrace → Type 0 = All (λ (t : FlowTrace). is_known nodes flow.entry.0 t.namespace.0 ≡ true) in
          subst P (sym ends.3) (own_all (λ (t : FlowTrace). is_known nodes flow.entry.0 t.namespace.0 ≡ true) flow.namespace flow.trace flow.capacity
          (λ t of. ap (λ (s : Namespace). is_known nodes flow.entry.0 s.0) of ∙ entry.1));
      traces_at_exit = let P : List FlowTrace → Type 0 = All (λ (t : FlowTrace). is_known nodes flow.exit.0 t.namespace.0 ≡ true) in
          subst P (sym ends.3) (own_all (λ (t : FlowTrace). is_known nodes flow.exit.0 t.namespace.0 ≡ true) flow.namespace flow.trace flow.capacity
          (λ t of. ap (λ (s : Namespace). is_known nodes flow.exit.0 s.0) of ∙ exit.1));
    }
