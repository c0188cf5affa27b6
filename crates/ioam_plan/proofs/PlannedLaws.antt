-- A journey that is planned goes from node to node as it should.
use Rattle.std.proofs.Common.{◌≡◌, ◌≢◌, ◌⊎◌, inl, inr, ℕ, zero, suc, ◌+◌, ◌-◌, ◌<◌, Bool, true, false, cond, nat_eq, List, [], ◌∷◌, length, Option, Some, None, Result, Ok, Err, MatchResult, option_map, slice_get, refl, sym, ◌∙◌, ap, subst, arith}
use Rattle.std.specs.Prelude.{unwrap_or}
use Rattle.std.proofs.lemmas.Bool.{eqb-true, eqb-false}
use Rattle.ioam_topo.specs.declared.domain.Domain.{Domain}
use Rattle.ioam_topo.specs.declared.ids.FlowId.{FlowId}
use Rattle.ioam_topo.specs.declared.ids.LinkId.{LinkId}
use Rattle.ioam_topo.specs.declared.ids.NodeId.{NodeId}
use Rattle.ioam_topo.specs.declared.ids.PortId.{PortId}
use Rattle.ioam_topo.specs.declared.ids.Way.{Way}
use Rattle.ioam_topo.specs.declared.ids.Way.TheVariants as way
use Rattle.ioam_topo.specs.declared.parts.Flow.{Flow}
use Rattle.ioam_topo.specs.declared.parts.Link.{Link}
use Rattle.ioam_topo.specs.declared.parts.Port.{Port}
use Rattle.ioam_topo.specs.declared.parts.Route.{Route}
use Rattle.ioam_topo.specs.Domain.{nodes, links, ports, routes}
use Rattle.ioam_topo.specs.Forward.{IsWayFrom, bits_of, fits, longest, way_to}
use Rattle.ioam_topo.proofs.ForwardLaws.{way_inside}
use Rattle.ioam_node.specs.Choice.{choice, stops, Goes, entry_choice, entry_stops, Enters, exit_choice, exit_stops, Leaves}
use Rattle.ioam_node.specs.Order.{Stop, IsFirst}
use Rattle.ioam_node.specs.declared.reason.Reason.{Reason}
use Rattle.ioam_node.proofs.ChoiceLaws.{choice_right, enclosed_stays, entry_right, exit_right}
use Rattle.ioam_tunnel.specs.Enclosed.{address_at}
use Rattle.ioam_tunnel.specs.declared.numbers.Numbers.{Numbers}
use Rattle.ioam_plan.specs.declared.itinerary.End.{End}
use Rattle.ioam_plan.specs.declared.itinerary.End.TheVariants.{Left, Drop}
use Rattle.ioam_plan.specs.declared.itinerary.Visit.{Visit}
use Rattle.ioam_plan.specs.declared.stage.Inside.{Inside}
use Rattle.ioam_plan.specs.declared.stage.JourneyStep.{JourneyStep}
use Rattle.ioam_plan.specs.declared.stage.JourneyStep.TheVariants.{Goes as Passed, Ends}
use Rattle.ioam_plan.specs.declared.stage.Stage.{Stage}
use Rattle.ioam_plan.specs.declared.stage.Stage.TheVariants.{Enter, At, Gone, Out}
use Rattle.ioam_plan.specs.declared.stage.Trip.{Trip}
use Rattle.ioam_plan.specs.Journey.{step_at, sent_on, sent_in, visit_by, across, end_by, carried_by}
use Rattle.ioam_plan.specs.Passes.{visit_at, IsDropped, IsPortOf, GoesOut, GoesOn, PassesPlain, PassesInside, ComesOut}
use Rattle.ioam_plan.specs.Travels.{PassesEntry}
use Rattle.ioam_plan.proofs.PassesLaws.{spot_at, plain_by, inside_by, Runs, over_link, out_port, same_node, held, entering}

-- ---- ways of a domain

pub there_in : {A : Type 0} (xs : List A) (i : ℕ) → i < length xs → (x : A) × (slice_get xs i ≡ Some x)
there_in [] i inside = absurd (omega (arith, inside))
there_in (x ∷ xs) zero inside = (x, refl)
there_in (x ∷ xs) (suc i) inside = there_in xs i (omega (arith, inside))

module _ (domain : Domain) (node : NodeId) (target : ℕ) where
  -- a way that is chosen is from its node
  way_by_route : (w : Way) (o : Option Route) → o ≡ longest bits_of (fits node.0 target) (routes domain)
      → option_map (λ (route : Route). route.way) o ≡ Some w → IsWayFrom (links domain) (ports domain) node.0 w
  way_by_route w None is found = absurd (cc found)
  way_by_route w (Some route) is found =
      let inside : IsWayFrom (links domain) (ports domain) node.0 route.way =
      way_inside (length (nodes domain)) (links domain) (ports domain) (routes domain) node.0 target route domain.sound_routes.routed is in
      let same : route.way ≡ w = ap (λ (v : Option Way). unwrap_or v route.way) found in
      subst (IsWayFrom (links domain) (ports domain) node.0) same inside

  way_there : (w : Way) → way_to (routes domain) node.0 target ≡ Some w → IsWayFrom (links domain) (ports domain) node.0 w
  way_there w is = way_by_route w (longest bits_of (fits node.0 target) (routes domain)) refl is

  pub link_there : (id : LinkId) → way_to (routes domain) node.0 target ≡ Some (way.Link id)
      → (link : Link) × (slice_get (links domain) id.0 ≡ Some link) × (link.from ≡ node)
  link_there id is =
      let from = way_there (way.Link id) is in
      let at = there_in (links domain) id.0 from.0 in
      (at.0, at.1, same_node at.0.from node (from.1 at.0 at.1))

  pub port_there : (id : PortId) → way_to (routes domain) node.0 target ≡ Some (way.Port id)
      → (port : Port) × IsPortOf domain node id port
  port_there id is =
      let from = way_there (way.Port id) is in
      let at = there_in (ports domain) id.0 from.0 in
      (at.0, (at.1, same_node at.0.node node (from.1 at.0 at.1)))

-- ---- steps

ends_end : (a b : End) (c d : Bool) → Ends a c ≡ Ends b d → b ≡ a
ends_end a b c d same = let one : a ≡ b = cc in sym one

ends_exited : (a b : End) (c d : Bool) → Ends a c ≡ Ends b d → d ≡ c
ends_exited a b c d same = let one : c ≡ d = cc in sym one

goes_ends : (visit : Visit) (next : Stage) (end : End) (exited : Bool) → Passed visit next ≡ Ends end exited → ⊥
goes_ends visit next end exited same = cc

passed_visit : (a b : Visit) (c d : Stage) → Passed a c ≡ Passed b d → b ≡ a
passed_visit a b c d same = let one : a ≡ b = cc in sym one

passed_next : (a b : Visit) (c d : Stage) → Passed a c ≡ Passed b d → d ≡ c
passed_next a b c d same = let one : c ≡ d = cc in sym one

module _ (domain : Domain) (trip : Trip) where
  runs_ends : (from : Stage) (end : End) (exited : Bool) → Runs domain trip from [] end exited → step_at domain trip from ≡ Ends end exited
  runs_ends from end exited runs = let P : Stage → Type 0 = λ s. step_at domain trip s ≡ Ends end exited in subst P (sym runs.1) runs.2

  runs_next : (from : Stage) (visit : Visit) (visits : List Visit) (end : End) (exited : Bool) → Runs domain trip from (visit ∷ visits) end exited
      → (next : Stage) × (step_at domain trip from ≡ Passed visit next) × Runs domain trip next visits end exited
  runs_next from visit visits end exited runs = (runs.1.0, runs.1.1, (runs.0, runs.1.2, runs.2))

  -- out of the domain there is no visit more
  gone_ends : (id : PortId) (visits : List Visit) (end : End) (exited : Bool) → Runs domain trip (Gone id) visits end exited
      → (visits ≡ []) × (end ≡ Left id) × (exited ≡ false)
  gone_ends id [] end exited runs =
      let ends : Ends (Left id) false ≡ Ends end exited = runs_ends (Gone id) end exited runs in
      (refl, ends_end (Left id) end false exited ends, ends_exited (Left id) end false exited ends)
  gone_ends id (visit ∷ visits) end exited runs =
      let on = runs_next (Gone id) visit visits end exited runs in
      absurd (goes_ends visit on.0 (Left id) false (sym on.1))

-- ---- a node that sends the packet on, or drops it

module _ (domain : Domain) (enclosed : Bool) (target size : ℕ) (node : NodeId) (inward time hops : ℕ) where
  abbrev answers : Result Way Reason
  answers = choice domain node.0 enclosed hops target size

  abbrev Sent : Way → Type 0
  Sent = Goes domain node.0 enclosed hops target size

  abbrev rows : List Stop
  rows = stops domain node.0 enclosed hops target size

  abbrev step_by : Result Way Reason → JourneyStep
  step_by r = sent_on domain (spot_at node inward time hops) (hops - 1) r

  pub right_by : (r : Result Way Reason) → answers ≡ r → MatchResult r Sent (IsFirst rows)
  right_by r is = subst (λ (r : Result Way Reason). MatchResult r Sent (IsFirst rows)) is (choice_right domain node.0 enclosed hops target size)

  drops : (r : Result Way Reason) → answers ≡ r → (end : End) (exited : Bool) → step_by r ≡ Ends end exited
      → IsDropped rows node end × (exited ≡ false)
  drops (Ok (way.Link id)) is end exited ends =
      absurd (goes_ends (visit_by domain (spot_at node inward time hops) (Some (way.Link id))) (across domain (spot_at node inward time hops) (hops - 1) id) end exited ends)
  drops (Ok (way.Port id)) is end exited ends =
      absurd (goes_ends (visit_by domain (spot_at node inward time hops) (Some (way.Port id))) (Gone id) end exited ends)
  drops (Err why) is end exited ends =
      ((why, right_by (Err why) is, ends_end (Drop why node) end false exited ends), ends_exited (Drop why node) end false exited ends)

  -- it goes on: out by a port, or by a link to what follows
  abbrev Onward : Trip → Visit → List Visit → End → Bool → Type 0
  Onward trip visit visits end exited =
      (GoesOut domain (λ id. Sent (way.Port id)) node inward time visit visits end × (exited ≡ false))
      ⊎ GoesOn domain (λ id. Sent (way.Link id)) node inward time visit
      (λ link. Runs domain trip (At (spot_at link.to link.in_id (time + link.delay) (hops - 1))) visits end exited)

  onward : (trip : Trip) (r : Result Way Reason) → answers ≡ r → (visit : Visit) (next : Stage) (visits : List Visit) (end : End) (exited : Bool)
      → step_by r ≡ Passed visit next → Runs domain trip next visits end exited → Onward trip visit visits end exited
  onward trip (Err why) is visit next visits end exited step runs = absurd (goes_ends visit next (Drop why node) false (sym step))
  onward trip (Ok (way.Port id)) is visit next visits end exited step runs =
      let sent : Sent (way.Port id) = right_by (Ok (way.Port id)) is in
      let at = port_there domain node target id sent.0 in
      let P : Stage → Type 0 = λ s. Runs domain trip s visits end exited in
      let V : Visit = visit_by domain (spot_at node inward time hops) (Some (way.Port id)) in
      let W : Visit = visit_at node inward time (Some (way.Port id)) (Some at.0.id) in
      let gone = gone_ends domain trip id visits end exited (subst P (passed_next V visit (Gone id) next step) runs) in
      let same : Passed W (Gone id) ≡ Passed visit next = sym (out_port domain node inward time hops id at.0 W at.1.0 refl) ∙ step in
      inl (record { id = id; port = at.0; of_node = at.1; sent = sent; visited = passed_visit W visit (Gone id) next same; last = gone.0; leaves = gone.1 }, gone.2)
  onward trip (Ok (way.Link id)) is visit next visits end exited step runs =
      let sent : Sent (way.Link id) = right_by (Ok (way.Link id)) is in
      let at = link_there domain node target id sent.0 in
      let P : Stage → Type 0 = λ s. Runs domain trip s visits end exited in
      let W : Visit = visit_at node inward time (Some (way.Link id)) (Some at.0.out_id) in
      let N : Stage = At (spot_at at.0.to at.0.in_id (time + at.0.delay) (hops - 1)) in
      let same : Passed W N ≡ Passed visit next = sym (over_link domain node inward time hops (hops - 1) id at.0 W at.1 refl) ∙ step in
      inr (record { id = id; link = at.0; there = at.1; of_node = at.2; sent = sent; visited = passed_visit W visit N next same; follows = subst P (passed_next W visit N next same) runs })

-- ---- a packet that isn't enclosed

module _ (domain : Domain) (target size : ℕ) where
  plain_on : (node : NodeId) (inward time hops : ℕ) (visit : Visit) (visits : List Visit) (end : End) (exited : Bool)
      → ((link : Link) → Runs domain (plain_by target size) (At (spot_at link.to link.in_id (time + link.delay) (hops - 1))) visits end exited
      → PassesPlain domain target size link.to link.in_id (time + link.delay) (hops - 1) visits end × (exited ≡ false))
      → Onward domain false target size node inward time hops (plain_by target size) visit visits end exited
      → PassesPlain domain target size node inward time hops (visit ∷ visits) end × (exited ≡ false)
  plain_on node inward time hops visit visits end exited more (inl out) = (inl out.0, out.1)
  plain_on node inward time hops visit visits end exited more (inr on) =
      let rest = more on.link on.follows in
      (inr (record { id = on.id; link = on.link; there = on.there; of_node = on.of_node; sent = on.sent; visited = on.visited; follows = rest.0 }), rest.1)

  pub plain_passes : (node : NodeId) (inward time hops : ℕ) (visits : List Visit) (end : End) (exited : Bool)
      → Runs domain (plain_by target size) (At (spot_at node inward time hops)) visits end exited
      → PassesPlain domain target size node inward time hops visits end × (exited ≡ false)
  plain_passes node inward time hops [] end exited runs =
      drops domain false target size node inward time hops (choice domain node.0 false hops target size) refl end exited
      (runs_ends domain (plain_by target size) (At (spot_at node inward time hops)) end exited runs)
  plain_passes node inward time hops (visit ∷ visits) end exited runs =
      let on = runs_next domain (plain_by target size) (At (spot_at node inward time hops)) visit visits end exited runs in
      plain_on node inward time hops visit visits end exited
      (λ link. plain_passes link.to link.in_id (time + link.delay) (hops - 1) visits end exited)
      (onward domain false target size node inward time hops (plain_by target size) (choice domain node.0 false hops target size) refl visit on.0
      visits end exited on.1 on.2)

-- ---- a packet in a tunnel

pub here_is : (node exit : NodeId) → nat_eq exit.0 node.0 ≡ true → node ≡ exit
here_is node exit on = same_node node exit (sym (eqb-true exit.0 node.0 on))

pub not_here_is : (node exit : NodeId) → nat_eq exit.0 node.0 ≡ false → node ≢ exit
not_here_is node exit off same = eqb-false exit.0 node.0 off (ap (λ (n : NodeId). n.0) (sym same))

module _ (domain : Domain) (size : ℕ) (inside : Inside) where
  abbrev outer : Trip
  outer = inside_by domain size inside

  abbrev step_if : Bool → NodeId → ℕ → ℕ → ℕ → JourneyStep
  step_if here node inward time hops =
      cond here (Passed (visit_at node inward time None None) (Out node inside))
      (step_by domain true (address_at domain inside.exit) size node inward time hops (choice domain node.0 true hops (address_at domain inside.exit) size))

  -- it came out
  comes_out : (node : NodeId) (r : Result PortId Reason) → exit_choice domain node.0 inside.hops inside.target ≡ r → (end : End) (exited : Bool)
      → Ends (end_by node r) true ≡ Ends end exited → ComesOut domain inside.target inside.hops node end × (exited ≡ true)
  comes_out node (Ok id) is end exited ends =
      let P : Result PortId Reason → Type 0 = λ r. MatchResult r (Leaves domain node.0 inside.hops inside.target) (IsFirst (exit_stops domain node.0 inside.hops inside.target)) in
      let leaves : Leaves domain node.0 inside.hops inside.target id = subst P is (exit_right domain node.0 inside.hops inside.target) in
      let at = port_there domain node inside.target id leaves.0 in
      (inl (id, at.0, at.1, leaves, ends_end (Left id) end true exited ends), ends_exited (Left id) end true exited ends)
  comes_out node (Err why) is end exited ends =
      let P : Result PortId Reason → Type 0 = λ r. MatchResult r (Leaves domain node.0 inside.hops inside.target) (IsFirst (exit_stops domain node.0 inside.hops inside.target)) in
      let first : IsFirst (exit_stops domain node.0 inside.hops inside.target) why = subst P is (exit_right domain node.0 inside.hops inside.target) in
      (inr (why, first, ends_end (Drop why node) end true exited ends), ends_exited (Drop why node) end true exited ends)

  out_ends : (node : NodeId) (visits : List Visit) (end : End) (exited : Bool) → Runs domain outer (Out node inside) visits end exited
      → (visits ≡ []) × ComesOut domain inside.target inside.hops node end × (exited ≡ true)
  out_ends node [] end exited runs =
      let out = comes_out node (exit_choice domain node.0 inside.hops inside.target) refl end exited (runs_ends domain outer (Out node inside) end exited runs) in
      (refl, out.0, out.1)
  out_ends node (visit ∷ visits) end exited runs =
      let on = runs_next domain outer (Out node inside) visit visits end exited runs in
      absurd (goes_ends visit on.0 (end_by node (exit_choice domain node.0 inside.hops inside.target)) true (sym on.1))

  stops_inside : (node : NodeId) (inward time hops : ℕ) (end : End) (exited here : Bool) → nat_eq inside.exit.0 node.0 ≡ here
      → step_if here node inward time hops ≡ Ends end exited
      → PassesInside domain inside.exit size inside.target inside.hops node inward time hops [] end exited
  stops_inside node inward time hops end exited true at ends =
      absurd (goes_ends (visit_at node inward time None None) (Out node inside) end exited ends)
  stops_inside node inward time hops end exited false at ends =
      let dropped = drops domain true (address_at domain inside.exit) size node inward time hops
      (choice domain node.0 true hops (address_at domain inside.exit) size) refl end exited ends in
      (not_here_is node inside.exit at, dropped.0, dropped.1)

  inside_on : (node : NodeId) (inward time hops : ℕ) (visit : Visit) (visits : List Visit) (end : End) (exited : Bool) → node ≢ inside.exit
      → ((link : Link) → Runs domain outer (At (spot_at link.to link.in_id (time + link.delay) (hops - 1))) visits end exited
      → PassesInside domain inside.exit size inside.target inside.hops link.to link.in_id (time + link.delay) (hops - 1) visits end exited)
      → Onward domain true (address_at domain inside.exit) size node inward time hops outer visit visits end exited
      → PassesInside domain inside.exit size inside.target inside.hops node inward time hops (visit ∷ visits) end exited
  inside_on node inward time hops visit visits end exited differs more (inl out) =
      absurd (enclosed_stays domain node.0 hops (address_at domain inside.exit) size out.0.id out.0.sent)
  inside_on node inward time hops visit visits end exited differs more (inr on) =
      inr (differs, record { id = on.id; link = on.link; there = on.there; of_node = on.of_node; sent = on.sent; visited = on.visited; follows = more on.link on.follows })

  goes_inside : (node : NodeId) (inward time hops : ℕ) (visit : Visit) (next : Stage) (visits : List Visit) (end : End) (exited here : Bool)
      → nat_eq inside.exit.0 node.0 ≡ here → step_if here node inward time hops ≡ Passed visit next → Runs domain outer next visits end exited
      → ((link : Link) → Runs domain outer (At (spot_at link.to link.in_id (time + link.delay) (hops - 1))) visits end exited
      → PassesInside domain inside.exit size inside.target inside.hops link.to link.in_id (time + link.delay) (hops - 1) visits end exited)
      → PassesInside domain inside.exit size inside.target inside.hops node inward time hops (visit ∷ visits) end exited
  goes_inside node inward time hops visit next visits end exited true at step runs more =
      let V : Visit = visit_at node inward time None None in
      let P : Stage → Type 0 = λ s. Runs domain outer s visits end exited in
      let out = out_ends node visits end exited (subst P (passed_next V visit (Out node inside) next step) runs) in
      inl (here_is node inside.exit at, passed_visit V visit (Out node inside) next step, out.0, out.1, out.2)
  goes_inside node inward time hops visit next visits end exited false at step runs more =
      inside_on node inward time hops visit visits end exited (not_here_is node inside.exit at) more
      (onward domain true (address_at domain inside.exit) size node inward time hops outer (choice domain node.0 true hops (address_at domain inside.exit) size)
      refl visit next visits end exited step runs)

  pub inside_passes : (node : NodeId) (inward time hops : ℕ) (visits : List Visit) (end : End) (exited : Bool)
      → Runs domain outer (At (spot_at node inward time hops)) visits end exited
      → PassesInside domain inside.exit size inside.target inside.hops node inward time hops visits end exited
  inside_passes node inward time hops [] end exited runs =
      stops_inside node inward time hops end exited (nat_eq inside.exit.0 node.0) refl
      (runs_ends domain outer (At (spot_at node inward time hops)) end exited runs)
  inside_passes node inward time hops (visit ∷ visits) end exited runs =
      let on = runs_next domain outer (At (spot_at node inward time hops)) visit visits end exited runs in
      goes_inside node inward time hops visit on.0 visits end exited (nat_eq inside.exit.0 node.0) refl on.1 on.2
      (λ link. inside_passes link.to link.in_id (time + link.delay) (hops - 1) visits end exited)

-- ---- a packet that is to be enclosed

module _ (domain : Domain) (id : FlowId) (flow : Flow) (numbers : Numbers) (refused : Bool) (size target hops : ℕ) where
  abbrev within : Inside
  within = held domain id flow numbers refused size target hops

  abbrev start : NodeId → ℕ → ℕ → Stage
  start node inward time = Enter (spot_at node inward time hops) (entering domain id flow numbers refused size target hops)

  abbrev rows_in : NodeId → List Stop
  rows_in node = entry_stops domain node.0 refused hops (address_at domain flow.exit) size

  abbrev Goes_in : NodeId → LinkId → Type 0
  Goes_in node = Enters domain node.0 refused hops (address_at domain flow.exit) size

  pub right_in : (node : NodeId) (r : Result LinkId Reason) → entry_choice domain node.0 refused hops (address_at domain flow.exit) size ≡ r
      → MatchResult r (Goes_in node) (IsFirst (rows_in node))
  right_in node r is = subst (λ (r : Result LinkId Reason). MatchResult r (Goes_in node) (IsFirst (rows_in node))) is
      (entry_right domain node.0 refused hops (address_at domain flow.exit) size)

  drops_in : (node : NodeId) (inward time : ℕ) (r : Result LinkId Reason) → entry_choice domain node.0 refused hops (address_at domain flow.exit) size ≡ r
      → (end : End) (exited : Bool) → sent_in domain (spot_at node inward time hops) flow.hops r ≡ Ends end exited
      → IsDropped (rows_in node) node end × (exited ≡ false)
  drops_in node inward time (Ok link) is end exited ends =
      absurd (goes_ends (visit_by domain (spot_at node inward time hops) (Some (way.Link link))) (across domain (spot_at node inward time hops) flow.hops link) end exited ends)
  drops_in node inward time (Err why) is end exited ends =
      ((why, right_in node (Err why) is, ends_end (Drop why node) end false exited ends), ends_exited (Drop why node) end false exited ends)

  goes_in : (node : NodeId) (inward time : ℕ) (r : Result LinkId Reason) → entry_choice domain node.0 refused hops (address_at domain flow.exit) size ≡ r
      → (visit : Visit) (next : Stage) (visits : List Visit) (end : End) (exited : Bool)
      → sent_in domain (spot_at node inward time hops) flow.hops r ≡ Passed visit next → Runs domain (inside_by domain size within) next visits end exited
      → GoesOn domain (Goes_in node) node inward time visit
      (λ link. PassesInside domain flow.exit size target (hops - 1) link.to link.in_id (time + link.delay) flow.hops visits end exited)
  goes_in node inward time (Err why) is visit next visits end exited step runs = absurd (goes_ends visit next (Drop why node) false (sym step))
  goes_in node inward time (Ok link) is visit next visits end exited step runs =
      let sent : Goes_in node link = right_in node (Ok link) is in
      let at = link_there domain node (address_at domain flow.exit) link sent.0 in
      let P : Stage → Type 0 = λ s. Runs domain (inside_by domain size within) s visits end exited in
      let W : Visit = visit_at node inward time (Some (way.Link link)) (Some at.0.out_id) in
      let N : Stage = At (spot_at at.0.to at.0.in_id (time + at.0.delay) flow.hops) in
      let same : Passed W N ≡ Passed visit next = sym (over_link domain node inward time hops flow.hops link at.0 W at.1 refl) ∙ step in
      record {
        id = link;
        link = at.0;
        there = at.1;
        of_node = at.2;
        sent = sent;
        visited = passed_visit W visit N next same;
        follows = inside_passes domain size within at.0.to at.0.in_id (time + at.0.delay) flow.hops visits end exited (subst P (passed_next W visit N next same) runs);
      }

  pub entry_passes : (node : NodeId) (inward time : ℕ) (visits : List Visit) (end : End) (exited : Bool) (carried : Option (FlowId × Numbers))
      → Runs domain (inside_by domain size within) (start node inward time) visits end exited → carried ≡ carried_by visits (Some within)
      → PassesEntry domain id flow numbers refused size target hops node inward time visits end exited carried
  entry_passes node inward time [] end exited carried runs has =
      let dropped = drops_in node inward time (entry_choice domain node.0 refused hops (address_at domain flow.exit) size) refl end exited
      (runs_ends domain (inside_by domain size within) (start node inward time) end exited runs) in
      (dropped.0, dropped.1, has)
  entry_passes node inward time (visit ∷ visits) end exited carried runs has =
      let on = runs_next domain (inside_by domain size within) (start node inward time) visit visits end exited runs in
      (goes_in node inward time (entry_choice domain node.0 refused hops (address_at domain flow.exit) size) refl visit on.0 visits end exited on.1 on.2, has)
