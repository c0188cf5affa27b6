-- What flows are found by, and a flow with one trace more.
use Rattle.std.specs.Prelude.{ℕ, List, [], ◌∷◌, ◌++◌}
use Rattle.ioam_topo.specs.declared.parts.Flow.{Flow}
use Rattle.ioam_topo.specs.declared.traces.FlowTrace.{FlowTrace}
use Rattle.ioam_topo.specs.Keyed.{pairs_of}

-- the name of a flow
abbrev pub name_of_flow : Flow → List ℕ
name_of_flow flow = flow.name

-- the namespaces and the ids of the flows that have an id
abbrev pub ids_of_flows : List Flow → List (ℕ × ℕ)
ids_of_flows [] = []
ids_of_flows (flow ∷ flows) = pairs_of flow.namespace.0 flow.flow_id ++ ids_of_flows flows

-- the flow with a trace more, behind its others
abbrev pub with_trace : Flow → FlowTrace → Flow
with_trace flow trace = record flow { traces = flow.traces ++ trace ∷ [] }
