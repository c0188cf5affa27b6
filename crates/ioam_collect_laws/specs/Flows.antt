-- What the export records of a run are by the flows of its packets: field by field (RFC 9326 section 3.2).
use Rattle.std.specs.Prelude.{◌≡◌, ℕ, ◌-◌, List, length, Some, slice_get}
use Rattle.ioam_node_visit.specs.FlowExports.{AreFlowExports, CarriesDirect}
use Rattle.ioam_run_texts.specs.Enclosed.{tunnel_of}
use Rattle.ioam_run_texts.specs.Fate.{Frame, Fate}
use Rattle.ioam_run_texts.specs.Numbers.{Numbers}
use Rattle.ioam_run_texts.specs.Sample.{Sample}
use Rattle.ioam_run_texts.specs.Visit.{Visit}
use Rattle.ioam_topo.specs.Domain.{flows}
use Rattle.ioam_topo.specs.declared.domain.Domain.{Domain}
use Rattle.ioam_topo.specs.declared.ids.FlowId.{FlowId}
use Rattle.ioam_topo.specs.declared.parts.Flow.{Flow}
use Rattle.ioam_collect_laws.specs.Paths.{IsRun, recorded_at}

-- A packet was enclosed in a flow, with these numbers: it carries the direct export option of the flow with its own number, if
-- it has one, and each visit exports a record with the flow's fields and that number, where the node knows the flow's namespace
pub record CarriesFlow (domain : Domain) (readings : List (List Sample)) (packet : List ℕ) (id : FlowId) (numbers : Numbers) : Type 0 where
  pub flow : Flow
  pub found : slice_get (flows domain) id.0 ≡ Some flow
  pub carries : CarriesDirect (tunnel_of domain id numbers packet) flow numbers.direct
  pub exports : (done : List Visit) (visit : Visit)
      → AreFlowExports domain readings visit.place visit.time (flow.hops - length done) flow flow.direct numbers.direct
      (recorded_at domain readings (tunnel_of domain id numbers packet) done visit)

-- so it is of each packet of a run that was enclosed, whatever the domain
abbrev pub AreOfFlows : Type 0
AreOfFlows = (domain : Domain) (readings : List (List Sample)) (frames : List Frame) (fates : List Fate) → IsRun domain readings frames fates
    → (place : ℕ) (fate : Fate) (id : FlowId) (numbers : Numbers) → slice_get fates place ≡ Some fate → fate.itinerary.carried ≡ Some (id, numbers)
    → CarriesFlow domain readings fate.packet id numbers
