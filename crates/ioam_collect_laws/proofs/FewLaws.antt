-- How many visits a journey through a tunnel has.
use Rattle.std.proofs.Common.{◌≡◌, ℕ, zero, suc, ◌+◌, ◌-◌, ◌<◌, ◌≤◌, Bool, true, false, cond, List, [], ◌∷◌, length, Option, Some, None, slice_get, refl, sym, ap, subst, arith}
use Rattle.std.specs.Prelude.{⊤, Ok, Err, nat_eq, nat_le, nat_lt, option_map, unwrap_or}
use Rattle.std.proofs.lemmas.Bool.{leb-false}
use Rattle.ioam_run_texts.specs.Choice.{mtu_of, link_by, way_by, choice}
use Rattle.ioam_run_texts.specs.Reason.TheVariants as reason
use Rattle.ioam_run_texts.specs.Journey.{Reaches, across, crossed, sent_in, sent_on, step_at, visit_by}
use Rattle.ioam_run_texts.specs.Visit.{Visit}
use Rattle.ioam_run_texts.specs.Inside.{Inside}
use Rattle.ioam_run_texts.specs.JourneySpot.{JourneySpot}
use Rattle.ioam_run_texts.specs.Stage.{Stage}
use Rattle.ioam_run_texts.specs.Stage.TheVariants.{Enter, At, Gone, Out}
use Rattle.ioam_run_texts.specs.JourneyStep.{JourneyStep}
use Rattle.ioam_run_texts.specs.JourneyStep.TheVariants.{Goes, Ends}
use Rattle.ioam_run_texts.specs.Trip.{Trip}
use Rattle.ioam_topo.specs.Domain.{nodes, links, ports, routes}
use Rattle.ioam_topo.specs.Forward.{IsWayFrom, bits_of, fits, longest, way_to}
use Rattle.ioam_topo.specs.declared.domain.Domain.{Domain}
use Rattle.ioam_topo.specs.declared.ids.LinkId.{LinkId}
use Rattle.ioam_topo.specs.declared.ids.Way.{Way}
use Rattle.ioam_topo.specs.declared.ids.Way.TheVariants as way
use Rattle.ioam_topo.specs.declared.parts.Link.{Link}
use Rattle.ioam_topo.specs.declared.parts.Route.{Route}
use Rattle.ioam_topo.proofs.ForwardLaws.{way_inside}

-- how many visits can be from a stage on
abbrev room : Stage → ℕ
room (Enter spot entry) = entry.hops + 1
room (At spot) = spot.hops
room (Gone port) = 0
room (Out node inside) = 0

-- the packet has a hop limit yet
abbrev pub IsAlive : Stage → Type 0
IsAlive (Enter spot entry) = 1 ≤ entry.hops
IsAlive (At spot) = 1 ≤ spot.hops
IsAlive (Gone port) = ⊤
IsAlive (Out node inside) = ⊤

-- a step leaves less room than this
abbrev Narrows : ℕ → JourneyStep → Type 0
Narrows n (Goes visit next) = IsAlive next × (room next + 1 ≤ n)
Narrows n (Ends end exited) = ⊤

module _ (domain : Domain) where
  -- a link that is a way is there
  link_by_route : (node target : ℕ) (link : LinkId) (o : Option Route) → o ≡ longest bits_of (fits node target) (routes domain)
      → option_map (λ (route : Route). route.way) o ≡ Some (way.Link link) → link.0 < length (links domain)
  link_by_route node target link None is found = absurd (cc found)
  link_by_route node target link (Some route) is found =
      let inside : IsWayFrom (links domain) (ports domain) node route.way =
      way_inside (length (nodes domain)) (links domain) (ports domain) (routes domain) node target route domain.sound_routes.routed is in
      let same : route.way ≡ way.Link link = ap (λ (w : Option Way). unwrap_or w route.way) found in
      let P : Way → Type 0 = IsWayFrom (links domain) (ports domain) node in
      (subst P same inside).0

  link_there : (node target : ℕ) (link : LinkId) → Some (way.Link link) ≡ way_to (routes domain) node target → link.0 < length (links domain)
  link_there node target link is = link_by_route node target link (longest bits_of (fits node target) (routes domain)) refl (sym is)

  crossed_by : (xs : List Link) (at : ℕ) (spot : JourneySpot) (hops : ℕ) → at < length xs → (crossed spot hops (slice_get xs at)).hops ≡ hops
  crossed_by [] at spot hops inside = absurd (omega (arith, inside))
  crossed_by (x ∷ xs) zero spot hops inside = refl
  crossed_by (x ∷ xs) (suc at) spot hops inside = crossed_by xs at spot hops (omega (arith, inside))

  -- so it leads to a stage with the hop limit that is sent
  across_is : (spot : JourneySpot) (hops n : ℕ) (link : LinkId) → link.0 < length (links domain) → 1 ≤ hops → hops + 1 ≤ n
      → IsAlive (across domain spot hops link) × (room (across domain spot hops link) + 1 ≤ n)
  across_is spot hops n link inside some fits =
      let is = crossed_by (links domain) link.0 spot hops inside in
      (omega (arith, is, some), omega (arith, is, fits))

  enter_link : (spot : JourneySpot) (hops : ℕ) (link : LinkId) (refused big : Bool) → link.0 < length (links domain) → 1 ≤ hops
      → Narrows (hops + 1) (sent_in domain spot hops (cond refused (Err reason.EncapLimit) (cond big (Err reason.TooBig) (Ok link))))
  enter_link spot hops link true big inside some = tt
  enter_link spot hops link false true inside some = tt
  enter_link spot hops link false false inside some = across_is spot hops (hops + 1) link inside some (omega arith)

  enter_port : (spot : JourneySpot) (hops : ℕ) (refused : Bool)
      → Narrows (hops + 1) (sent_in domain spot hops (cond refused (Err reason.EncapLimit) (Err reason.IoamOut)))
  enter_port spot hops true = tt
  enter_port spot hops false = tt

  enter_by : (spot : JourneySpot) (hops size target : ℕ) (refused low : Bool) (w : Option Way) → w ≡ way_to (routes domain) spot.node.0 target → 1 ≤ hops
      → Narrows (hops + 1) (sent_in domain spot hops (cond low (Err reason.HopLimit) (link_by domain refused size w)))
  enter_by spot hops size target refused true w is some = tt
  enter_by spot hops size target refused false None is some = tt
  enter_by spot hops size target refused false (Some (way.Link link)) is some =
      enter_link spot hops link refused (nat_lt (mtu_of domain link) size) (link_there spot.node.0 target link is) some
  enter_by spot hops size target refused false (Some (way.Port port)) is some = enter_port spot hops refused

  on_link : (spot : JourneySpot) (link : LinkId) (big : Bool) → link.0 < length (links domain) → 2 ≤ spot.hops
      → Narrows spot.hops (sent_on domain spot (spot.hops - 1) (cond big (Err reason.TooBig) (Ok (way.Link link))))
  on_link spot link true inside some = tt
  on_link spot link false inside some = across_is spot (spot.hops - 1) spot.hops link inside (omega arith) (omega arith)

  on_by : (spot : JourneySpot) (size target : ℕ) (low : Bool) (w : Option Way) → nat_le spot.hops 1 ≡ low → w ≡ way_to (routes domain) spot.node.0 target
      → Narrows spot.hops (sent_on domain spot (spot.hops - 1) (cond low (Err reason.HopLimit) (way_by domain true size w)))
  on_by spot size target true w high is = tt
  on_by spot size target false None high is = tt
  on_by spot size target false (Some (way.Link link)) high is =
      on_link spot link (nat_lt (mtu_of domain link) size) (link_there spot.node.0 target link is) (let more = leb-false spot.hops 1 high in omega arith)
  on_by spot size target false (Some (way.Port port)) high is = tt

  at_by : (spot : JourneySpot) (size target : ℕ) (inside : Inside) (here : Bool) → 1 ≤ spot.hops
      → Narrows spot.hops (cond here (Goes (visit_by domain spot None) (Out spot.node inside))
      (sent_on domain spot (spot.hops - 1) (choice domain spot.node.0 true spot.hops target size)))
  at_by spot size target inside true some = (tt, some)
  at_by spot size target inside false some =
      on_by spot size target (nat_le spot.hops 1) (way_to (routes domain) spot.node.0 target) refl refl

  module _ (target size : ℕ) (inside : Inside) where
    abbrev trip : Trip
    trip = record { target = target; size = size; inside = Some inside }

    narrows : (stage : Stage) → IsAlive stage → Narrows (room stage) (step_at domain trip stage)
    narrows (Enter spot entry) some =
        enter_by spot entry.hops size target entry.refused (nat_le spot.hops 1) (way_to (routes domain) spot.node.0 target) refl some
    narrows (At spot) some = at_by spot size target inside (nat_eq inside.exit.0 spot.node.0) some
    narrows (Gone port) some = tt
    narrows (Out node found) some = tt

    -- no more than there is room for
    pub few : (from : Stage) (visits : List Visit) (last : Stage) → IsAlive from → Reaches domain trip from visits last → length visits ≤ room from
    few from [] last some reaches = omega arith
    few from (visit ∷ visits) last some reaches =
        let step : Narrows (room from) (Goes visit reaches.0) = subst (Narrows (room from)) reaches.1 (narrows from some) in
        let more = few reaches.0 visits last step.0 reaches.2 in
        omega (arith, more, step.1)
