-- The packets of a run carry the direct export options of their flows.
use Rattle.std.proofs.Common.{◌≡◌, ℕ, ◌-◌, ◌<◌, ◌^◌, List, length, Option, Some, None, slice_get, refl, sym, ap, ◌∙◌, subst, arith}
use Rattle.std.specs.Prelude.{is_some}
use Rattle.ioam_node_visit.specs.FlowExports.{AreFlowExports, CarriesDirect, MayHaveDirect}
use Rattle.ioam_node_visit.proofs.FlowExportsLaws.{flow-exports}
use Rattle.ioam_run_texts.specs.Drawn.{direct_number}
use Rattle.ioam_run_texts.specs.Enclosed.{tunnel_by}
use Rattle.ioam_run_texts.specs.Numbers.{Numbers}
use Rattle.ioam_run_texts.specs.Ran.{passed}
use Rattle.ioam_run_texts.specs.Sample.{Sample}
use Rattle.ioam_run_texts.specs.Visit.{Visit}
use Rattle.ioam_topo.specs.Domain.{flows}
use Rattle.ioam_topo.specs.Sound.{IsFlow}
use Rattle.ioam_topo.specs.declared.domain.Domain.{Domain}
use Rattle.ioam_topo.specs.declared.ids.FlowId.{FlowId}
use Rattle.ioam_topo.specs.declared.parts.Flow.{Flow}
use Rattle.ioam_collect_laws.specs.Flows.{AreOfFlows, CarriesFlow}
use Rattle.ioam_collect_laws.specs.Paths.{recorded_at}
use Rattle.ioam_collect_laws.proofs.RunLaws.{known_at}
use Rattle.ioam_collect_laws.proofs.TrailLaws.{if_some, number_is}

-- the flow's numbers and the packet's are within their fields
may_direct : (flow : Flow) (kind number : Option ℕ) (count : ℕ) → IsFlow flow → flow.direct ≡ kind
    → direct_number flow.direct flow.every count ≡ number → count < 4294967296 → MayHaveDirect flow kind number
may_direct flow (Some kind) (Some seq) count sound is drawn below =
    let small = (number_is flow.direct flow.every count seq drawn).3 in
    record {
      namespace_below = sound.namespace_below;
      kind_below = sound.direct_below kind is;
      id_there = sound.direct_id ∙ ap is_some is;
      id_below = if_some (λ id. id < 2 ^ 32) flow.flow_id sound.id_below;
      seq_below = omega (arith, small, below);
    }
may_direct flow (Some kind) None count sound is drawn below = tt
may_direct flow None number count sound is drawn below = tt

module _ (domain : Domain) (readings : List (List Sample)) (packet : List ℕ) (id : FlowId) (numbers : Numbers) (flow : Flow) where
  abbrev Carries : Option Flow → Type 0
  Carries found = CarriesDirect (tunnel_by domain found numbers packet) flow numbers.direct

  abbrev Exports : Option Flow → Type 0
  Exports found = (done : List Visit) (visit : Visit) → AreFlowExports domain readings visit.place visit.time (flow.hops - length done) flow flow.direct numbers.direct
      (recorded_at domain readings (tunnel_by domain found numbers packet) done visit)

  carries_flow : slice_get (flows domain) id.0 ≡ Some flow → MayHaveDirect flow flow.direct numbers.direct → CarriesFlow domain readings packet id numbers
  carries_flow found may =
      let carries : Carries (Some flow) = record { others = refl; may = may } in
      record {
        flow = flow;
        found = found;
        carries = subst Carries (sym found) carries;
        exports = subst Exports (sym found) (λ done visit.
            flow-exports domain readings (tunnel_by domain (Some flow) numbers packet) (length done) (passed visit) flow numbers.direct carries);
      }

pub of_flows : AreOfFlows
of_flows domain readings frames fates run place fate id numbers there is =
    let known = known_at domain readings frames fates run place fate id numbers there is in
    let flow = known.is.flow in
    carries_flow domain readings fate.packet id numbers flow known.is.found
    (may_direct flow flow.direct numbers.direct known.count known.is.sound refl
    (sym known.is.direct) known.below)
