-- Laws of journeys.
use Rattle.std.proofs.Common.{◌≡◌, ℕ, true, false, Bool, List, [], ◌∷◌, ◌++◌, Option, Result, Err, refl, sym, ◌∙◌, ap, subst, if◌then◌else◌}
use Rattle.ioam_topo.specs.declared.domain.Domain.{Domain}
use Rattle.ioam_topo.specs.declared.ids.FlowId.{FlowId}
use Rattle.ioam_topo.specs.declared.ids.LinkId.{LinkId}
use Rattle.ioam_topo.specs.declared.ids.PortId.{PortId}
use Rattle.ioam_node.specs.declared.reason.Reason.{Reason}
use Rattle.ioam_node.specs.declared.reason.Reason.TheVariants.{HopLimit}
use Rattle.ioam_tunnel.specs.declared.numbers.Numbers.{Numbers}
use Rattle.ioam_plan.specs.declared.itinerary.Itinerary.{Itinerary}
use Rattle.ioam_plan.specs.declared.itinerary.Visit.{Visit}
use Rattle.ioam_plan.specs.declared.itinerary.End.{End}
use Rattle.ioam_plan.specs.declared.itinerary.End.TheVariants.{Drop}
use Rattle.ioam_plan.specs.declared.stage.JourneySpot.{JourneySpot}
use Rattle.ioam_plan.specs.declared.stage.Stage.{Stage}
use Rattle.ioam_plan.specs.declared.stage.JourneyStep.TheVariants.{Goes, Ends}
use Rattle.ioam_plan.specs.declared.stage.Trip.{Trip}
use Rattle.ioam_plan.specs.Journey.{Journey, Reaches, step_at, carried_by, sent_in}

module _ (domain : Domain) (trip : Trip) where
  -- visits that lead to a stage, and one more
  pub Reaches-push : (from : Stage) (visits : List Visit) (stage : Stage) (visit : Visit) (next : Stage)
      → Reaches domain trip from visits stage → step_at domain trip stage ≡ Goes visit next
      → Reaches domain trip from (visits ++ visit ∷ []) next
  Reaches-push from [] stage visit next here step =
      let P : Stage → Type 0 = λ s. step_at domain trip s ≡ Goes visit next in
      (next, subst P (sym here) step, refl)
  Reaches-push from (first ∷ visits) stage visit next leads step =
      (leads.0, leads.1, Reaches-push leads.0 visits stage visit next leads.2 step)

  -- a journey that goes on doesn't end there
  no_end : (stage : Stage) (visit : Visit) (next : Stage) (end : End) (exited : Bool)
      → step_at domain trip stage ≡ Goes visit next → step_at domain trip stage ≡ Ends end exited → ⊥
  no_end stage visit next end exited goes ends =
      let never : Goes visit next ≡ Ends end exited = sym goes ∙ ends in cc

  -- from a stage on the same visits lead to the end
  one_way : (from : Stage) (visits : List Visit) (last : Stage) (end : End) (exited : Bool)
      (others : List Visit) (final : Stage) (other : End) (out : Bool)
      → Reaches domain trip from visits last → step_at domain trip last ≡ Ends end exited
      → Reaches domain trip from others final → step_at domain trip final ≡ Ends other out
      → (visits ≡ others) × (end ≡ other) × (exited ≡ out)
  one_way from [] last end exited [] final other out here ends there stops =
      let P : Stage → Type 0 = λ s. step_at domain trip s ≡ Ends end exited in
      let Q : Stage → Type 0 = λ s. step_at domain trip s ≡ Ends other out in
      let same : Ends end exited ≡ Ends other out = sym (subst P (sym here) ends) ∙ subst Q (sym there) stops in
      let one : end ≡ other = cc in
      let two : exited ≡ out = cc in
      (refl, one, two)
  one_way from [] last end exited (visit ∷ others) final other out here ends leads stops =
      let P : Stage → Type 0 = λ s. step_at domain trip s ≡ Ends end exited in
      absurd (no_end from visit leads.0 end exited leads.1 (subst P (sym here) ends))
  one_way from (visit ∷ visits) last end exited [] final other out leads ends here stops =
      let P : Stage → Type 0 = λ s. step_at domain trip s ≡ Ends other out in
      absurd (no_end from visit leads.0 other out leads.1 (subst P (sym here) stops))
  one_way from (visit ∷ visits) last end exited (second ∷ others) final other out leads ends follows stops =
      let same : Goes visit leads.0 ≡ Goes second follows.0 = sym leads.1 ∙ follows.1 in
      let first : visit ≡ second = cc in
      let next : follows.0 ≡ leads.0 = cc in
      let P : Stage → Type 0 = λ s. Reaches domain trip s others final in
      let rest : (visits ≡ others) × (end ≡ other) × (exited ≡ out) =
      one_way leads.0 visits last end exited others final other out leads.2 ends (subst P next follows.2) stops in
      let whole : visit ∷ visits ≡ second ∷ others = let tail : visits ≡ others = rest.0 in cc in
      (whole, rest.1, rest.2)

-- two itineraries with the same port, visits, end and numbers are one
pub same_itinerary : (a b : Itinerary) → a.port ≡ b.port → a.visits ≡ b.visits → a.end ≡ b.end → a.exited ≡ b.exited → a.carried ≡ b.carried → a ≡ b
same_itinerary a b port visits ends exits carries =
    let F : PortId → List Visit → End → Bool → Option (FlowId × Numbers) → Itinerary =
    λ port visits end exited carried. record { port = port; visits = visits; end = end; exited = exited; carried = carried } in
    ap (λ port. F port a.visits a.end a.exited a.carried) port ∙ ap (λ visits. F b.port visits a.end a.exited a.carried) visits
    ∙ ap (λ end. F b.port b.visits end a.exited a.carried) ends ∙ ap (λ exited. F b.port b.visits b.end exited a.carried) exits
    ∙ ap (λ carried. F b.port b.visits b.end b.exited carried) carries

-- by a port and from a stage on there is one journey only
pub Journey-unique : (domain : Domain) (trip : Trip) (start : Stage) (it other : Itinerary) → it.port ≡ other.port
    → Journey domain trip start it → Journey domain trip start other → it ≡ other
Journey-unique domain trip start it other port first second =
    let same = one_way domain trip start it.visits first.last it.end it.exited other.visits second.last other.end other.exited
    first.reaches first.ends second.reaches second.ends in
    same_itinerary it other port same.0 same.1 same.2
    (first.carried ∙ ap (λ (visits : List Visit). carried_by visits trip.inside) same.0 ∙ sym second.carried)

-- a packet that goes on from where it enters its tunnel has a hop limit that can be lowered
pub by_choice : (domain : Domain) (spot : JourneySpot) (hops : ℕ) (low : Bool) (choice : Result LinkId Reason) (visit : Visit) (next : Stage)
    → sent_in domain spot hops (if low then Err HopLimit else choice) ≡ Goes visit next → low ≡ false
by_choice domain spot hops false choice visit next goes = refl
by_choice domain spot hops true choice visit next goes =
    let stopped : Ends (Drop HopLimit spot.node) false ≡ Goes visit next = goes in cc
