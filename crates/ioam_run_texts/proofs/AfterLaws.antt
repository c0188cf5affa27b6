-- What a job holds whose visits are done, by what becomes of its arrival.
use Rattle.std.proofs.Common.{◌≡◌, ℕ, zero, suc, Bool, true, false, List, [], ◌∷◌, Option, Some, None, length, slice_get, refl, sym, ap, ◌∙◌, subst, ◌<◌, arith}
use Rattle.std.specs.Prelude.{IsSome}
use Rattle.ioam_batch.specs.Along.{along}
use Rattle.ioam_batch.specs.Crossings.{crossings}
use Rattle.ioam_batch.specs.Jobs.{HoldsBy, RunsBy}
use Rattle.ioam_batch.specs.Ran.{RanBy, exported_at}
use Rattle.ioam_batch.specs.declared.job.Job.{Job}
use Rattle.ioam_batch.specs.Sample.{Sample}
use Rattle.ioam_ip.specs.Lowered.{lowered}
use Rattle.ioam_plan.specs.declared.itinerary.Itinerary.{Itinerary}
use Rattle.ioam_plan.specs.declared.itinerary.Visit.{Visit}
use Rattle.ioam_topo.specs.Domain.{flows}
use Rattle.ioam_topo.specs.declared.domain.Domain.{Domain}
use Rattle.ioam_topo.specs.declared.ids.FlowId.{FlowId}
use Rattle.ioam_topo.specs.declared.parts.Flow.{Flow}
use Rattle.ioam_batch.specs.Enclosed.{tunnel_of, tunnel_by}
use Rattle.ioam_batch.specs.Wire.{IsTunnel}
use Rattle.ioam_batch.specs.Numbers.{Numbers}
use Rattle.ioam_node_visit.specs.Room.{Room}
use Rattle.ioam_run_texts.specs.Fate.{Fate}
use Rattle.ioam_run_texts.specs.Texts.{exports_by, fate_exports}
use Rattle.ioam_run_texts.specs.Told.{RanFor}

-- its packet, what it kept on links with a tap, and its room, by the flow in which the packet is enclosed
abbrev pub AfterBy : Domain → List (List Sample) → List ℕ → List Visit → Bool → Job → Option (FlowId × Numbers) → Type 0
AfterBy domain readings packet visits exited job None = (job.packet.items ≡ lowered (length visits) packet) × (job.room.exports ≡ [])
AfterBy domain readings packet visits exited job (Some carried) = IsTunnel (tunnel_of domain carried.0 carried.1 packet)
    × RanBy domain readings (tunnel_of domain carried.0 carried.1 packet) exited visits job.packet.items (crossings job.crossings) job.room

abbrev pub After : Domain → List (List Sample) → Fate → Job → Type 0
After domain readings fate job =
    AfterBy domain readings fate.packet fate.itinerary.visits fate.itinerary.exited job fate.itinerary.carried

after-by : (domain : Domain) (readings : List (List Sample)) (packet : List ℕ) (itinerary : Itinerary) (was job : Job) (carried : Option (FlowId × Numbers))
    → HoldsBy domain packet carried was.packet.items → RunsBy domain readings carried was job → was.itinerary ≡ itinerary → was.room.exports ≡ []
    → AfterBy domain readings packet itinerary.visits itinerary.exited job carried
after-by domain readings packet itinerary was job None holds runs same none = (
  runs.packet ∙ ap (λ (it : Itinerary). lowered (length it.visits) was.packet.items) same
      ∙ ap (λ (p : List ℕ). lowered (length itinerary.visits) p) holds,
  ap (λ (room : Room). room.exports) runs.room ∙ none,
)
after-by domain readings packet itinerary was job (Some carried) holds runs same none = (
  holds.0,
  subst (λ (it : Itinerary). RanBy domain readings (tunnel_of domain carried.0 carried.1 packet) it.exited it.visits job.packet.items (crossings job.crossings) job.room)
      same (runs (tunnel_of domain carried.0 carried.1 packet) holds.0 holds.1),
)

pub after : (domain : Domain) (readings : List (List Sample)) (fate : Fate) (job : Job) → RanFor domain readings fate job → After domain readings fate job
after domain readings fate job ran =
    let same = ran.of.itinerary_is in
    after-by domain readings fate.packet fate.itinerary ran.was job fate.itinerary.carried ran.of.holds
    (subst (λ (it : Itinerary). RunsBy domain readings it.carried ran.was job) same ran.ran.runs) same ran.of.fresh.exports

-- its way is that of the arrival
pub same-way : (domain : Domain) (readings : List (List Sample)) (fate : Fate) (job : Job) → RanFor domain readings fate job
    → job.itinerary ≡ fate.itinerary
same-way domain readings fate job ran = ran.ran.itinerary ∙ ran.of.itinerary_is

-- ---- what is carried

inner-by : (domain : Domain) (flow : Option Flow) (numbers : Numbers) (packet : List ℕ) → IsSome flow → (tunnel_by domain flow numbers packet).inner ≡ lowered 1 packet
inner-by domain None numbers packet some = let never : false ≡ true = some in cc
inner-by domain (Some flow) numbers packet some = refl

there : (flows : List Flow) (at : ℕ) → at < length flows → IsSome (slice_get flows at)
there [] at inside = absurd (omega (arith, inside))
there (flow ∷ flows) zero inside = refl
there (flow ∷ flows) (suc at) inside = there flows at (omega (arith, inside))

-- the packet with its hop limit one less
pub inner-of : (domain : Domain) (id : FlowId) (numbers : Numbers) (packet : List ℕ) → id.0 < length (flows domain)
    → (tunnel_of domain id numbers packet).inner ≡ lowered 1 packet
inner-of domain id numbers packet inside = inner-by domain (slice_get (flows domain) id.0) numbers packet (there (flows domain) id.0 inside)

-- ---- the exports

exports-ran : (domain : Domain) (readings : List (List Sample)) (packet : List ℕ) (visits : List Visit) (exited : Bool) (job : Job) (carried : FlowId × Numbers)
    → RanBy domain readings (tunnel_of domain carried.0 carried.1 packet) exited visits job.packet.items (crossings job.crossings) job.room
    → job.room.exports ≡ along (exported_at domain readings (tunnel_of domain carried.0 carried.1 packet)) [] visits
exports-ran domain readings packet visits true job carried ran = ran.closed.ran.exports_are
    ∙ ap (λ (vs : List Visit). along (exported_at domain readings (tunnel_of domain carried.0 carried.1 packet)) [] vs) (sym ran.are)
exports-ran domain readings packet visits false job carried ran = ran.ran.exports_are

exports-after : (domain : Domain) (readings : List (List Sample)) (packet : List ℕ) (visits : List Visit) (exited : Bool) (job : Job)
    (carried : Option (FlowId × Numbers)) → AfterBy domain readings packet visits exited job carried
    → job.room.exports ≡ exports_by domain readings packet visits carried
exports-after domain readings packet visits exited job None after = after.1
exports-after domain readings packet visits exited job (Some carried) after = exports-ran domain readings packet visits exited job carried after.1

-- they are those of the arrival
pub exports-are : (domain : Domain) (readings : List (List Sample)) (fate : Fate) (job : Job) → RanFor domain readings fate job
    → job.room.exports ≡ fate_exports domain readings fate
exports-are domain readings fate job ran = exports-after domain readings fate.packet fate.itinerary.visits fate.itinerary.exited job
    fate.itinerary.carried (after domain readings fate job ran)
