-- The parts that a flow was read from.
use Rattle.std.proofs.Common.{◌≡◌, ℕ, List, Result, Ok, subst}
use Rattle.toml.specs.Data.{Members}
use Rattle.ioam_data.specs.declared.namespace.Namespace.{Namespace}
use Rattle.ioam_topo_values.specs.declared.why.Why.{Why}
use Rattle.ioam_topo.specs.declared.parts.Flow.{Flow}
use Rattle.ioam_topo_entries.proofs.NumberLaws.{read_first}
use Rattle.ioam_topo_flows.specs.declared.flow_parts.Selection.{Selection}
use Rattle.ioam_topo_flows.specs.declared.flow_parts.Outer.{Outer}
use Rattle.ioam_topo_flows.specs.declared.flow_parts.Tracing.{Tracing}
use Rattle.ioam_topo_flows.specs.declared.flow_parts.Exporting.{Exporting}
use Rattle.ioam_topo_flows.specs.FlowParts.{flow_entry, flow_exit, flow_source, flow_target, flow_space, flow_hops, flow_label, flow_trace, flow_capacity, flow_edge, flow_direct, flow_every, flow_id, flow_limit, selection_of, outer_of, tracing_of, exporting_of}
use Rattle.ioam_topo_flows.specs.FlowTable.{flow_name, flow_of, flow_with}

-- the outer header is what its keys read as
pub record IsOuterRead (m : Members) (o : Outer) : Type 0 where
  pub hops : flow_hops m ≡ Ok o.hops
  pub label : flow_label m ≡ Ok o.label

pub outer_read : (m : Members) (o : Outer) → outer_of m ≡ Ok o → IsOuterRead m o
outer_read m o is =
    let hops = read_first (flow_hops m) _ o is in
    let label = read_first (flow_label m) _ o hops.2 in
    let same : record { hops = hops.0; label = label.0 } ≡ o = cc in
    subst (IsOuterRead m) same (record { hops = hops.1; label = label.1 })

-- the options of every packet are what their keys read as
pub record IsTracingRead (m : Members) (t : Tracing) : Type 0 where
  pub trace : flow_trace m ≡ Ok t.trace
  pub capacity : flow_capacity m ≡ Ok t.capacity
  pub edge : flow_edge m ≡ Ok t.edge

pub tracing_read : (m : Members) (t : Tracing) → tracing_of m ≡ Ok t → IsTracingRead m t
tracing_read m t is =
    let trace = read_first (flow_trace m) _ t is in
    let capacity = read_first (flow_capacity m) _ t trace.2 in
    let edge = read_first (flow_edge m) _ t capacity.2 in
    let same : record { trace = trace.0; capacity = capacity.0; edge = edge.0 } ≡ t = cc in
    subst (IsTracingRead m) same (record { trace = trace.1; capacity = capacity.1; edge = edge.1 })

-- the option of some packets is what its keys read as
pub record IsExportingRead (m : Members) (e : Exporting) : Type 0 where
  pub direct : flow_direct m ≡ Ok e.direct
  pub every : flow_every m ≡ Ok e.every
  pub id : flow_id m ≡ Ok e.flow_id

pub exporting_read : (m : Members) (e : Exporting) → exporting_of m ≡ Ok e → IsExportingRead m e
exporting_read m e is =
    let direct = read_first (flow_direct m) _ e is in
    let every = read_first (flow_every m) _ e direct.2 in
    let id = read_first (flow_id m) _ e every.2 in
    let limit = read_first (flow_limit m) _ e id.2 in
    let same : record { direct = direct.0; every = every.0; flow_id = id.0; limit = limit.0 } ≡ e = cc in
    subst (IsExportingRead m) same (record { direct = direct.1; every = every.1; id = id.1 })

module _ (nodes : List (List ℕ)) (lists : List (Result (List Namespace) Why)) (m : Members) where
  -- which packets are enclosed is what these keys read as
  pub record IsSelectionRead (s : Selection) : Type 0 where
    pub entry : flow_entry nodes lists m ≡ Ok s.entry
    pub exit : flow_exit nodes lists m ≡ Ok s.exit
    pub source : flow_source m ≡ Ok s.source
    pub target : flow_target m ≡ Ok s.target
    pub space : flow_space nodes lists m ≡ Ok s.namespace

  pub selection_read : (s : Selection) → selection_of nodes lists m ≡ Ok s → IsSelectionRead s
  selection_read s is =
      let entry = read_first (flow_entry nodes lists m) _ s is in
      let exit = read_first (flow_exit nodes lists m) _ s entry.2 in
      let source = read_first (flow_source m) _ s exit.2 in
      let target = read_first (flow_target m) _ s source.2 in
      let space = read_first (flow_space nodes lists m) _ s target.2 in
      let same : record { entry = entry.0; exit = exit.0; source = source.0; target = target.0; namespace = space.0 } ≡ s = cc in
      subst IsSelectionRead same (record { entry = entry.1; exit = exit.1; source = source.1; target = target.1; space = space.1 })

  -- a flow is made of parts that were read
  pub record IsFlowRead (flow : Flow) : Type 0 where
    pub name : List ℕ
    pub s : Selection
    pub o : Outer
    pub t : Tracing
    pub e : Exporting
    pub named : flow_name m ≡ Ok name
    pub selected : selection_of nodes lists m ≡ Ok s
    pub around : outer_of m ≡ Ok o
    pub traced : tracing_of m ≡ Ok t
    pub exported : exporting_of m ≡ Ok e
    pub is : flow_with name s o t e ≡ flow

  pub flow_read : (flow : Flow) → flow_of nodes lists m ≡ Ok flow → IsFlowRead flow
  flow_read flow is =
      let named = read_first (flow_name m) _ flow is in
      let selected = read_first (selection_of nodes lists m) _ flow named.2 in
      let around = read_first (outer_of m) _ flow selected.2 in
      let traced = read_first (tracing_of m) _ flow around.2 in
      let exported = read_first (exporting_of m) _ flow traced.2 in
      let same : flow_with named.0 selected.0 around.0 traced.0 exported.0 ≡ flow = cc in
      record {
        name = named.0;
        s = selected.0;
        o = around.0;
        t = traced.0;
        e = exported.0;
        named = named.1;
        selected = selected.1;
        around = around.1;
        traced = traced.1;
        exported = exported.1;
        is = same;
      }
