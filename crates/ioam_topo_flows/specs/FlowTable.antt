-- The table `flow`.
use Rattle.std.specs.Prelude.{ℕ, ◌+◌, codes, List, ◌++◌, length, Option, Result, Ok}
use Rattle.std.specs.Str.{bytes_eq}
use Rattle.toml.specs.Data.{Members, get_member}
use Rattle.ioam_data.specs.declared.namespace.Namespace.{Namespace}
use Rattle.ioam_topo_values.specs.declared.why.Why.{Why}
use Rattle.ioam_topo_values.specs.Reads.{◌▷◌, needed}
use Rattle.ioam_topo_values.specs.Numbers.{number}
use Rattle.ioam_topo_values.specs.Texts.{name}
use Rattle.ioam_topo_values.specs.Entries.{entries}
use Rattle.ioam_topo_entries.specs.declared.words.Table.TheVariants.{FlowTable}
use Rattle.ioam_topo_entries.specs.declared.fault.DomainFault.{DomainFault}
use Rattle.ioam_topo.specs.declared.parts.Flow.{Flow}
use Rattle.ioam_topo.specs.Traces.{own_traces}
use Rattle.ioam_topo_flows.specs.declared.flow_parts.Selection.{Selection}
use Rattle.ioam_topo_flows.specs.declared.flow_parts.Outer.{Outer}
use Rattle.ioam_topo_flows.specs.declared.flow_parts.Tracing.{Tracing}
use Rattle.ioam_topo_flows.specs.declared.flow_parts.Exporting.{Exporting}
use Rattle.ioam_topo_entries.specs.Faults.{at, other_key}
use Rattle.ioam_topo_entries.specs.Goods.{goods, fresh}
use Rattle.ioam_topo_entries.specs.Keys.{own_keys}
use Rattle.ioam_topo_flows.specs.FlowParts.{flow_entry, flow_exit, flow_space, flow_trace, selection_of, selection_keys, outer_of, outer_keys, tracing_of, tracing_keys, exporting_of, exporting_keys}

-- the entries of the table
abbrev pub flow_entries : Members → List Members
flow_entries t = entries (get_member (codes "flow") t)

-- what an entry of a name says of its ends, its namespace and its own trace, each where it is read
pub record FlowLook : Type 0 where
  pub entry : Result ℕ Why
  pub exit : Result ℕ Why
  pub space : Result ℕ Why
  pub trace : Result (Option ℕ) Why

-- the name of a flow, which is needed
abbrev pub flow_name : Members → Result (List ℕ) Why
flow_name m = needed name (get_member (codes "name") m)

-- the id of a flow in a namespace, where it has one
abbrev pub id_key : Result ℕ Why → Members → Result (ℕ × ℕ) Why
id_key space m = space ▷ (λ s. needed (number 0 4294967295) (get_member (codes "flow_id") m) ▷ (λ id. Ok (s, id)))

-- the flow of these parts
abbrev pub flow_with : List ℕ → Selection → Outer → Tracing → Exporting → Flow
flow_with name s o t e = record {
  name = name;
  entry = record { 0 = s.entry };
  exit = record { 0 = s.exit };
  source = s.source;
  target = s.target;
  namespace = record { 0 = s.namespace };
  hops = o.hops;
  label = o.label;
  trace = t.trace;
  capacity = t.capacity;
  traces = own_traces (record { 0 = s.namespace }) t.trace t.capacity;
  edge = t.edge;
  direct = e.direct;
  every = e.every;
  flow_id = e.flow_id;
  limit = e.limit;
}

-- `nodes` are the names of the nodes, and `lists` the namespaces that these list
module _ (nodes : List (List ℕ)) (lists : List (Result (List Namespace) Why)) where
  -- what the entry of a flow of a name says
  abbrev pub flow_look : Members → Result FlowLook Why
  flow_look m = flow_name m ▷ (λ name. Ok (record { entry = flow_entry nodes lists m; exit = flow_exit nodes lists m; space = flow_space nodes lists m; trace = flow_trace m }))

  -- what no two flows may share
  abbrev pub flow_key : Members → Result (ℕ × ℕ) Why
  flow_key m = id_key (flow_space nodes lists m) m

  -- a flow with its own trace alone, where all its keys are read; else the first reason why not
  abbrev pub flow_of : Members → Result Flow Why
  flow_of m = flow_name m ▷ (λ name. selection_of nodes lists m ▷ (λ s. outer_of m ▷ (λ o. tracing_of m ▷ (λ t. exporting_of m ▷ (λ e.
      Ok (flow_with name s o t e))))))

  -- the faults of the entry at a place, with these names, and these ids of namespaces, before it
  abbrev pub flow_keys : ℕ → List (List ℕ) → List (ℕ × ℕ) → Members → List DomainFault
  flow_keys place names seen m =
      at FlowTable place other_key (own_keys FlowTable m)
      ++ (at FlowTable place (codes "name") (flow_name m ▷ fresh bytes_eq names)
      ++ (selection_keys nodes lists place m ++ (outer_keys place m ++ (tracing_keys place m
      ++ exporting_keys place (flow_space nodes lists m) seen m))))

  -- the faults of an entry behind others
  abbrev pub flow_faults : List Members → Members → List DomainFault
  flow_faults earlier m = flow_keys (length earlier + 1) (goods flow_name earlier) (goods flow_key earlier) m
