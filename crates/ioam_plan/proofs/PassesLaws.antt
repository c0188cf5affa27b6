-- Where a packet goes from node to node as it should, its journey is the one that is planned.
use Rattle.std.proofs.Common.{◌≡◌, ◌≢◌, inl, inr, ℕ, ◌+◌, ◌-◌, Bool, true, false, cond, nat_eq, List, [], ◌∷◌, Option, Some, None, option_map, slice_get, refl, sym, ◌∙◌, ap, subst}
use Rattle.std.proofs.lemmas.Bool.{eq-eqb, ne_eqb}
use Rattle.ioam_topo.specs.declared.domain.Domain.{Domain}
use Rattle.ioam_topo.specs.declared.ids.FlowId.{FlowId}
use Rattle.ioam_topo.specs.declared.ids.LinkId.{LinkId}
use Rattle.ioam_topo.specs.declared.ids.NodeId.{NodeId}
use Rattle.ioam_topo.specs.declared.ids.PortId.{PortId}
use Rattle.ioam_topo.specs.declared.ids.Way.TheVariants as way
use Rattle.ioam_topo.specs.declared.parts.Flow.{Flow}
use Rattle.ioam_topo.specs.declared.parts.Link.{Link}
use Rattle.ioam_topo.specs.declared.parts.Port.{Port}
use Rattle.ioam_topo.specs.Domain.{links, ports}
use Rattle.ioam_node.specs.Choice.{choice, exit_choice}
use Rattle.ioam_node.proofs.ChoiceLaws.{choice_goes, choice_first, entry_goes, entry_first, exit_goes, exit_first}
use Rattle.ioam_tunnel.specs.Enclosed.{address_at}
use Rattle.ioam_tunnel.specs.declared.numbers.Numbers.{Numbers}
use Rattle.ioam_plan.specs.declared.itinerary.End.{End}
use Rattle.ioam_plan.specs.declared.itinerary.Visit.{Visit}
use Rattle.ioam_plan.specs.declared.stage.Entry.{Entry}
use Rattle.ioam_plan.specs.declared.stage.Inside.{Inside}
use Rattle.ioam_plan.specs.declared.stage.JourneySpot.{JourneySpot}
use Rattle.ioam_plan.specs.declared.stage.JourneyStep.{JourneyStep}
use Rattle.ioam_plan.specs.declared.stage.JourneyStep.TheVariants.{Goes as Passed, Ends}
use Rattle.ioam_plan.specs.declared.stage.Stage.{Stage}
use Rattle.ioam_plan.specs.declared.stage.Stage.TheVariants.{Enter, At, Gone, Out}
use Rattle.ioam_plan.specs.declared.stage.Trip.{Trip}
use Rattle.ioam_plan.specs.Journey.{Reaches, step_at, sent_on, sent_in, visit_by, across, crossed, end_by, carried_by}
use Rattle.ioam_plan.specs.Passes.{visit_at, PassesPlain, PassesInside, ComesOut}
use Rattle.ioam_plan.specs.Travels.{PassesEntry}

-- where a packet comes to a node
abbrev pub spot_at : NodeId → ℕ → ℕ → ℕ → JourneySpot
spot_at node inward time hops = record { node = node; inward = inward; time = time; hops = hops }

-- what goes by these addresses and sizes: plainly, or with a packet inside
abbrev pub plain_by : ℕ → ℕ → Trip
plain_by target size = record { target = target; size = size; inside = None }

abbrev pub inside_by : Domain → ℕ → Inside → Trip
inside_by domain size inside = record { target = address_at domain inside.exit; size = size; inside = Some inside }

pub same_node : (a b : NodeId) → a.0 ≡ b.0 → a ≡ b
same_node a b same = let F : ℕ → NodeId = λ n. record { 0 = n } in ap F same

-- from a stage on these are the visits and the end
abbrev pub Runs : Domain → Trip → Stage → List Visit → End → Bool → Type 0
Runs domain trip from visits end exited = (last : Stage) × Reaches domain trip from visits last × (step_at domain trip last ≡ Ends end exited)

module _ (domain : Domain) where
  runs_on : (trip : Trip) (from next : Stage) (visit : Visit) (visits : List Visit) (end : End) (exited : Bool)
      → step_at domain trip from ≡ Passed visit next → Runs domain trip next visits end exited → Runs domain trip from (visit ∷ visits) end exited
  runs_on trip from next visit visits end exited step rest = (rest.0, (next, step, rest.1), rest.2)

  -- a visit by a port and by a link
  by_port : (node : NodeId) (inward time hops : ℕ) (id : PortId) (port : Port) → slice_get (ports domain) id.0 ≡ Some port
      → visit_by domain (spot_at node inward time hops) (Some (way.Port id)) ≡ visit_at node inward time (Some (way.Port id)) (Some port.id)
  by_port node inward time hops id port there =
      ap (λ (o : Option Port). visit_at node inward time (Some (way.Port id)) (option_map (λ p. p.id) o)) there

  by_link : (node : NodeId) (inward time hops : ℕ) (id : LinkId) (link : Link) → slice_get (links domain) id.0 ≡ Some link
      → visit_by domain (spot_at node inward time hops) (Some (way.Link id)) ≡ visit_at node inward time (Some (way.Link id)) (Some link.out_id)
  by_link node inward time hops id link there =
      ap (λ (o : Option Link). visit_at node inward time (Some (way.Link id)) (option_map (λ l. l.out_id) o)) there

  -- and where the link leads
  pub over_link : (node : NodeId) (inward time hops left : ℕ) (id : LinkId) (link : Link) (visit : Visit) → slice_get (links domain) id.0 ≡ Some link
      → visit ≡ visit_at node inward time (Some (way.Link id)) (Some link.out_id)
      → Passed (visit_by domain (spot_at node inward time hops) (Some (way.Link id))) (across domain (spot_at node inward time hops) left id)
      ≡ Passed visit (At (spot_at link.to link.in_id (time + link.delay) left))
  over_link node inward time hops left id link visit there is =
      ap (λ v. Passed v (across domain (spot_at node inward time hops) left id)) (by_link node inward time hops id link there ∙ sym is)
      ∙ ap (λ (o : Option Link). Passed visit (At (crossed (spot_at node inward time hops) left o))) there

  pub out_port : (node : NodeId) (inward time hops : ℕ) (id : PortId) (port : Port) (visit : Visit) → slice_get (ports domain) id.0 ≡ Some port
      → visit ≡ visit_at node inward time (Some (way.Port id)) (Some port.id)
      → Passed (visit_by domain (spot_at node inward time hops) (Some (way.Port id))) (Gone id) ≡ Passed visit (Gone id)
  out_port node inward time hops id port visit there is = ap (λ v. Passed v (Gone id)) (by_port node inward time hops id port there ∙ sym is)

  module _ (target size : ℕ) where
    pub plain_runs : (node : NodeId) (inward time hops : ℕ) (visits : List Visit) (end : End)
        → PassesPlain domain target size node inward time hops visits end
        → Runs domain (plain_by target size) (At (spot_at node inward time hops)) visits end false
    plain_runs node inward time hops [] end goes = (
      At (spot_at node inward time hops),
      refl,
      ap (sent_on domain (spot_at node inward time hops) (hops - 1)) (choice_first domain node.0 false hops target size goes.0 goes.1)
          ∙ ap (λ e. Ends e false) (sym goes.2),
    )
    plain_runs node inward time hops (visit ∷ visits) end (inl out) =
        let P : List Visit → Type 0 = λ vs. Runs domain (plain_by target size) (Gone out.id) vs end false in
        let gone : P [] = (Gone out.id, refl, ap (λ e. Ends e false) (sym out.leaves)) in
        runs_on (plain_by target size) (At (spot_at node inward time hops)) (Gone out.id) visit visits end false
        (ap (sent_on domain (spot_at node inward time hops) (hops - 1)) (choice_goes domain node.0 false hops target size (way.Port out.id) out.sent)
        ∙ out_port node inward time hops out.id out.port visit out.of_node.0 out.visited)
        (subst P (sym out.last) gone)
    plain_runs node inward time hops (visit ∷ visits) end (inr on) =
        runs_on (plain_by target size) (At (spot_at node inward time hops)) (At (spot_at on.link.to on.link.in_id (time + on.link.delay) (hops - 1)))
        visit visits end false
        (ap (sent_on domain (spot_at node inward time hops) (hops - 1)) (choice_goes domain node.0 false hops target size (way.Link on.id) on.sent)
        ∙ over_link node inward time hops (hops - 1) on.id on.link visit on.there on.visited)
        (plain_runs on.link.to on.link.in_id (time + on.link.delay) (hops - 1) visits end on.follows)

  -- whether a node is the exit
  is_here : (node exit : NodeId) → node ≡ exit → nat_eq exit.0 node.0 ≡ true
  is_here node exit here = eq-eqb exit.0 node.0 (ap (λ (n : NodeId). n.0) (sym here))

  is_not_here : (node exit : NodeId) → node ≢ exit → nat_eq exit.0 node.0 ≡ false
  is_not_here node exit differs = ne_eqb exit.0 node.0 (λ same. differs (same_node node exit (sym same)))

  module _ (size : ℕ) (inside : Inside) where
    -- the packet came out
    out_end : (node : NodeId) (end : End) (exited : Bool) → ComesOut domain inside.target inside.hops node end → exited ≡ true
        → Ends (end_by node (exit_choice domain node.0 inside.hops inside.target)) true ≡ Ends end exited
    out_end node end exited (inl left) out =
        ap (λ r. Ends (end_by node r) true) (exit_goes domain node.0 inside.hops inside.target left.0 left.3)
        ∙ ap (λ e. Ends e true) (sym left.4) ∙ ap (Ends end) (sym out)
    out_end node end exited (inr drop) out =
        ap (λ r. Ends (end_by node r) true) (exit_first domain node.0 inside.hops inside.target drop.0 drop.1)
        ∙ ap (λ e. Ends e true) (sym drop.2) ∙ ap (Ends end) (sym out)

    -- what becomes of it elsewhere
    abbrev elsewhere : NodeId → ℕ → ℕ → ℕ → JourneyStep
    elsewhere node inward time hops =
        sent_on domain (spot_at node inward time hops) (hops - 1) (choice domain node.0 true hops (address_at domain inside.exit) size)

    abbrev met_if : Bool → NodeId → ℕ → ℕ → ℕ → JourneyStep
    met_if here node inward time hops =
        cond here (Passed (visit_by domain (spot_at node inward time hops) None) (Out node inside)) (elsewhere node inward time hops)

    pub inside_runs : (node : NodeId) (inward time hops : ℕ) (visits : List Visit) (end : End) (exited : Bool)
        → PassesInside domain inside.exit size inside.target inside.hops node inward time hops visits end exited
        → Runs domain (inside_by domain size inside) (At (spot_at node inward time hops)) visits end exited
    inside_runs node inward time hops [] end exited goes = (
      At (spot_at node inward time hops),
      refl,
      ap (λ b. met_if b node inward time hops) (is_not_here node inside.exit goes.0)
          ∙ ap (sent_on domain (spot_at node inward time hops) (hops - 1))
          (choice_first domain node.0 true hops (address_at domain inside.exit) size goes.1.0 goes.1.1)
          ∙ ap (λ e. Ends e false) (sym goes.1.2) ∙ ap (Ends end) (sym goes.2),
    )
    inside_runs node inward time hops (visit ∷ visits) end exited (inl out) =
        let P : List Visit → Type 0 = λ vs. Runs domain (inside_by domain size inside) (Out node inside) vs end exited in
        let ends : P [] = (Out node inside, refl, out_end node end exited out.3 out.4) in
        runs_on (inside_by domain size inside) (At (spot_at node inward time hops)) (Out node inside) visit visits end exited
        (ap (λ b. met_if b node inward time hops) (is_here node inside.exit out.0) ∙ ap (λ v. Passed v (Out node inside)) (sym out.1))
        (subst P (sym out.2) ends)
    inside_runs node inward time hops (visit ∷ visits) end exited (inr (differs, on)) =
        runs_on (inside_by domain size inside) (At (spot_at node inward time hops))
        (At (spot_at on.link.to on.link.in_id (time + on.link.delay) (hops - 1))) visit visits end exited
        (ap (λ b. met_if b node inward time hops) (is_not_here node inside.exit differs)
        ∙ ap (sent_on domain (spot_at node inward time hops) (hops - 1))
        (choice_goes domain node.0 true hops (address_at domain inside.exit) size (way.Link on.id) on.sent)
        ∙ over_link node inward time hops (hops - 1) on.id on.link visit on.there on.visited)
        (inside_runs on.link.to on.link.in_id (time + on.link.delay) (hops - 1) visits end exited on.follows)

  module _ (id : FlowId) (flow : Flow) (numbers : Numbers) (refused : Bool) (size target hops : ℕ) where
    -- what is inside, and what is to be known at the entry
    abbrev pub held : Inside
    held = record { flow = id; numbers = numbers; exit = flow.exit; target = target; hops = hops - 1 }

    abbrev pub entering : Entry
    entering = record { hops = flow.hops; refused = refused }

    pub entry_runs : (node : NodeId) (inward time : ℕ) (visits : List Visit) (end : End) (exited : Bool) (carried : Option (FlowId × Numbers))
        → PassesEntry domain id flow numbers refused size target hops node inward time visits end exited carried
        → Runs domain (inside_by domain size held) (Enter (spot_at node inward time hops) entering) visits end exited
        × (carried ≡ carried_by visits (Some held))
    entry_runs node inward time [] end exited carried goes = (
      (
        Enter (spot_at node inward time hops) entering,
        refl,
        ap (sent_in domain (spot_at node inward time hops) flow.hops)
            (entry_first domain node.0 refused hops (address_at domain flow.exit) size goes.0.0 goes.0.1)
            ∙ ap (λ e. Ends e false) (sym goes.0.2) ∙ ap (Ends end) (sym goes.1),
      ),
      goes.2,
    )
    entry_runs node inward time (visit ∷ visits) end exited carried goes =
        let on = goes.0 in (
          runs_on (inside_by domain size held) (Enter (spot_at node inward time hops) entering)
              (At (spot_at on.link.to on.link.in_id (time + on.link.delay) flow.hops)) visit visits end exited
              (ap (sent_in domain (spot_at node inward time hops) flow.hops)
              (entry_goes domain node.0 refused hops (address_at domain flow.exit) size on.id on.sent)
              ∙ over_link node inward time hops flow.hops on.id on.link visit on.there on.visited)
              (inside_runs size held on.link.to on.link.in_id (time + on.link.delay) flow.hops visits end exited on.follows),
          goes.1,
        )
