-- The times of an enclosed packet's visits and the interfaces by which it comes have room in a record.
use Rattle.std.proofs.Common.{◌≡◌, ℕ, zero, suc, ◌+◌, ◌-◌, ◌*◌, ◌^◌, ◌<◌, ◌≤◌, Bool, true, false, cond, List, [], ◌∷◌, ◌++◌, length, Option, Some, None, slice_get, refl, sym, ap, ◌∙◌, subst, arith}
use Rattle.std.specs.Prelude.{⊤, IsSomeAnd, Result, Ok, Err, nat_eq, unwrap_or}
use Rattle.std.specs.List.{AllByRecursion}
use Rattle.std.proofs.lemmas.List.Elements.{recursion_from_All}
use Rattle.ioam_run_texts.specs.Sample.{Sample}
use Rattle.ioam_run_texts.specs.Fate.{Frame, Fate, HasFate, AreFatesFrom}
use Rattle.ioam_run_texts.specs.Choice.{choice, entry_choice}
use Rattle.ioam_run_texts.specs.Admit.{Admit}
use Rattle.ioam_run_texts.specs.Admit.TheVariants as admit
use Rattle.ioam_run_texts.specs.Reason.{Reason}
use Rattle.ioam_run_texts.specs.Counted.{enclosed_in}
use Rattle.ioam_run_texts.specs.Drawn.{numbers_of}
use Rattle.ioam_run_texts.specs.Journey.{Reaches, crossed, led, sent_in, sent_on, step_at, visit_by}
use Rattle.ioam_run_texts.specs.Plans.{PlansBy, PlansFlow, flow_trip, start_of, entry_of}
use Rattle.ioam_run_texts.specs.Itinerary.{Itinerary}
use Rattle.ioam_run_texts.specs.Visit.{Visit}
use Rattle.ioam_run_texts.specs.Inside.{Inside}
use Rattle.ioam_run_texts.specs.JourneySpot.{JourneySpot}
use Rattle.ioam_run_texts.specs.Stage.{Stage}
use Rattle.ioam_run_texts.specs.Stage.TheVariants.{Enter, At, Gone, Out}
use Rattle.ioam_run_texts.specs.JourneyStep.{JourneyStep}
use Rattle.ioam_run_texts.specs.JourneyStep.TheVariants.{Goes, Ends}
use Rattle.ioam_run_texts.specs.Trip.{Trip}
use Rattle.ioam_topo.specs.Domain.{flows, links, ports}
use Rattle.ioam_topo.specs.Sound.{IsLink, IsPort}
use Rattle.ioam_topo.specs.declared.domain.Domain.{Domain}
use Rattle.ioam_topo.specs.declared.ids.FlowId.{FlowId}
use Rattle.ioam_topo.specs.declared.ids.LinkId.{LinkId}
use Rattle.ioam_topo.specs.declared.ids.Way.{Way}
use Rattle.ioam_topo.specs.declared.ids.Way.TheVariants as way
use Rattle.ioam_topo.specs.declared.parts.Flow.{Flow}
use Rattle.ioam_topo.specs.declared.parts.Link.{Link}
use Rattle.ioam_topo.specs.declared.parts.Port.{Port}
use Rattle.ioam_run_texts.specs.Numbers.{Numbers}
use Rattle.ioam_run_texts.proofs.FateLaws.{plans_of}
use Rattle.ioam_collect_laws.specs.Exported.{IsTimely}
use Rattle.ioam_collect_laws.proofs.EnclosedLaws.{all_get, none_carried}

-- a record has room for the visit
abbrev pub HasRoom : Visit → Type 0
HasRoom visit = (visit.time < 2 ^ 64) × (visit.place.inward < 2 ^ 32)

-- no later than this, by an interface of 32 bits
abbrev IsSpot : ℕ → JourneySpot → Type 0
IsSpot time spot = (spot.time ≤ time) × (spot.inward < 2 ^ 32)

abbrev IsHeld : ℕ → Stage → Type 0
IsHeld time (Enter spot entry) = IsSpot time spot
IsHeld time (At spot) = IsSpot time spot
IsHeld time (Gone port) = ⊤
IsHeld time (Out node inside) = ⊤

abbrev IsVisitBy : ℕ → Visit → Type 0
IsVisitBy time visit = (visit.time ≤ time) × (visit.place.inward < 2 ^ 32)

-- a step leads to a stage no later than the longest delay of a link after
abbrev Holds : ℕ → JourneyStep → Type 0
Holds time (Goes visit next) = IsVisitBy time visit × IsHeld (time + 1000000000) next
Holds time (Ends end exited) = ⊤

crossed_held : (xs : List Link) (at time hops : ℕ) (spot : JourneySpot) → AllByRecursion IsLink xs
    → IsSpot time spot → IsSpot (time + 1000000000) (crossed spot hops (slice_get xs at))
crossed_held [] at time hops spot sound is = let early = is.0 in (omega (arith, early), is.1)
crossed_held (x ∷ xs) zero time hops spot sound is =
    let early = is.0 in
    let most = sound.0.delay_most in
    (omega (arith, early, most), sound.0.in_below)
crossed_held (x ∷ xs) (suc at) time hops spot sound is = crossed_held xs at time hops spot sound.1 is

module _ (domain : Domain) where
  across_held : (link : LinkId) (time hops : ℕ) (spot : JourneySpot) → IsSpot time spot → IsSpot (time + 1000000000) (crossed spot hops (slice_get (links domain) link.0))
  across_held link time hops spot is =
      crossed_held (links domain) link.0 time hops spot (recursion_from_All IsLink (links domain) domain.sound_links.sound) is

  led_held : (w : Way) (time hops : ℕ) (spot : JourneySpot) → IsSpot time spot → IsHeld (time + 1000000000) (led domain spot hops w)
  led_held (way.Link link) time hops spot is = across_held link time hops spot is
  led_held (way.Port port) time hops spot is = tt

  sent_holds : (r : Result Way Reason) (time hops : ℕ) (spot : JourneySpot) → IsSpot time spot → Holds time (sent_on domain spot hops r)
  sent_holds (Ok w) time hops spot is = (is, led_held w time hops spot is)
  sent_holds (Err reason) time hops spot is = tt

  entered_holds : (r : Result LinkId Reason) (time hops : ℕ) (spot : JourneySpot) → IsSpot time spot → Holds time (sent_in domain spot hops r)
  entered_holds (Ok link) time hops spot is = (is, across_held link time hops spot is)
  entered_holds (Err reason) time hops spot is = tt

  met_holds : (here : Bool) (r : Result Way Reason) (inside : Inside) (time : ℕ) (spot : JourneySpot) → IsSpot time spot
      → Holds time (cond here (Goes (visit_by domain spot None) (Out spot.node inside)) (sent_on domain spot (spot.hops - 1) r))
  met_holds true r inside time spot is = (is, tt)
  met_holds false r inside time spot is = sent_holds r time (spot.hops - 1) spot is

  module _ (target size : ℕ) (inside : Inside) where
    abbrev trip : Trip
    trip = record { target = target; size = size; inside = Some inside }

    step_holds : (stage : Stage) (time : ℕ) → IsHeld time stage → Holds time (step_at domain trip stage)
    step_holds (Enter spot entry) time is =
        entered_holds (entry_choice domain spot.node.0 entry.refused spot.hops target size) time entry.hops spot is
    step_holds (At spot) time is =
        met_holds (nat_eq inside.exit.0 spot.node.0) (choice domain spot.node.0 true spot.hops target size) inside time spot is
    step_holds (Gone port) time is = tt
    step_holds (Out node found) time is = tt

    visits_held : (from : Stage) (visits : List Visit) (last : Stage) (time : ℕ) → IsHeld time from → Reaches domain trip from visits last
        → time + length visits * 1000000000 < 2 ^ 64 → AllByRecursion HasRoom visits
    visits_held from [] last time is reaches fits = tt
    visits_held from (visit ∷ visits) last time is reaches fits =
        let step : Holds time (Goes visit reaches.0) = subst (Holds time) reaches.1 (step_holds from time is) in
        let early = step.0.0 in
        ((omega (arith, early, fits), step.0.1), visits_held reaches.0 visits last (time + 1000000000) step.1 reaches.2 (omega (arith, fits)))

  module _ (readings : List (List Sample)) (earlier : List Itinerary) (time : ℕ) (it : Itinerary) (id : FlowId) (numbers : Numbers)
      (some : it.carried ≡ Some (id, numbers)) (short : length it.visits ≤ 256) (timely : time < 2 ^ 62) where
    of_flow : (from : Port) (other : FlowId) (flow : Flow) (packet : List ℕ) (limit : Option ℕ) → from.id < 2 ^ 32
        → PlansFlow domain readings (enclosed_in other.0 earlier) from time other flow packet limit it → AllByRecursion HasRoom it.visits
    of_flow from other flow packet limit face plans =
        let drawn : Numbers = numbers_of domain readings flow (enclosed_in other.0 earlier) limit time in
        let t = flow_trip domain other flow drawn plans.header.target plans.header.hops packet in
        let inside : Inside = record { flow = other; numbers = drawn; exit = flow.exit; target = plans.header.target; hops = plans.header.hops - 1 } in
        visits_held t.target t.size inside (Enter (start_of from time plans.header.hops) (entry_of flow limit)) it.visits plans.journey.last time
        (omega arith, face) plans.journey.reaches (omega (arith, short, timely))

    by_flow : (from : Port) (other : FlowId) (flow : Option Flow) (packet : List ℕ) (limit : Option ℕ) → from.id < 2 ^ 32
        → IsSomeAnd flow (λ f. PlansFlow domain readings (enclosed_in other.0 earlier) from time other f packet limit it)
        → AllByRecursion HasRoom it.visits
    by_flow from other None packet limit face plans = absurd plans
    by_flow from other (Some flow) packet limit face plans = of_flow from other flow packet limit face plans

    by_answer : (from : Port) (answer : Admit) → from.id < 2 ^ 32 → PlansBy domain readings earlier time it answer from → AllByRecursion HasRoom it.visits
    by_answer from (admit.Plain packet) face plans = absurd (cc (sym some ∙ plans.journey.carried ∙ none_carried it.visits))
    by_answer from (admit.Drop reason) face plans = absurd (cc (sym some ∙ plans.carried))
    by_answer from (admit.Enclose other packet limit) face plans = by_flow from other (slice_get (flows domain) other.0) packet.now limit face plans

    by_port : (at : ℕ) (from : Option Port) (answer : Admit) → slice_get (ports domain) at ≡ from
        → IsSomeAnd from (PlansBy domain readings earlier time it answer) → AllByRecursion HasRoom it.visits
    by_port at None answer found plans = absurd plans
    by_port at (Some from) answer found plans =
        by_answer from answer (all_get IsPort (ports domain) at from (recursion_from_All IsPort (ports domain) domain.sound_ports.sound) found).id_below plans

  -- those of a packet that arrives in time and is enclosed
  pub visits_at : (readings : List (List Sample)) (earlier : List Itinerary) (frames : List Frame) (fates : List Fate) (i : ℕ) (fate : Fate) (id : FlowId) (numbers : Numbers)
      → AreFatesFrom domain readings earlier frames fates → AllByRecursion IsTimely frames → slice_get fates i ≡ Some fate
      → fate.itinerary.carried ≡ Some (id, numbers) → length fate.itinerary.visits ≤ 256 → AllByRecursion HasRoom fate.itinerary.visits
  visits_at readings earlier [] [] i fate id numbers are timely there some short = absurd (cc there)
  visits_at readings earlier [] (f ∷ fates) i fate id numbers are timely there some short = absurd are
  visits_at readings earlier (frame ∷ frames) [] i fate id numbers are timely there some short = absurd are
  visits_at readings earlier (frame ∷ frames) (f ∷ fates) zero fate id numbers are timely there some short =
      let same : f ≡ fate = ap (λ o. unwrap_or o fate) there in
      let has = subst (HasFate domain readings earlier frame) same are.0 in
      by_port readings earlier frame.entry.time fate.itinerary id numbers some short timely.0 frame.port.0 (slice_get (ports domain) frame.port.0) has.answer refl
      (plans_of domain readings earlier frame fate has).1
  visits_at readings earlier (frame ∷ frames) (f ∷ fates) (suc i) fate id numbers are timely there some short =
      visits_at readings (earlier ++ f.itinerary ∷ []) frames fates i fate id numbers are.1 timely.1 there some short
