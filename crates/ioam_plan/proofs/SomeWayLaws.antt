-- Whatever arrives has a journey: each link lowers a hop limit, so that there is an end.
use Rattle.std.proofs.Common.{◌≡◌, ◌≢◌, inl, inr, ℕ, zero, suc, ◌+◌, ◌-◌, ◌<◌, ◌≤◌, Bool, true, false, nat_eq, List, [], ◌∷◌, length, Option, Some, None, IsSomeAnd, is_some, Result, Ok, Err, MatchResult, slice_get, refl, sym, subst, lt_of_not-le, arith}
use Rattle.std.specs.Prelude.{◌/◌, ◌%◌, slice_index, slice_range}
use Rattle.std.specs.Int.{w128, from_be_bytes}
use Rattle.ioam_base.specs.Octets.{u16_at, u32_at}
use Rattle.ioam_clock.specs.declared.sample.Sample.{Sample}
use Rattle.ioam_ip.specs.Header.{HasFields}
use Rattle.ioam_ip.specs.declared.packet.Header.{Header}
use Rattle.ioam_topo.specs.declared.domain.Domain.{Domain}
use Rattle.ioam_topo.specs.declared.ids.FlowId.{FlowId}
use Rattle.ioam_topo.specs.declared.ids.LinkId.{LinkId}
use Rattle.ioam_topo.specs.declared.ids.NodeId.{NodeId}
use Rattle.ioam_topo.specs.declared.ids.PortId.{PortId}
use Rattle.ioam_topo.specs.declared.ids.Way.{Way}
use Rattle.ioam_topo.specs.declared.ids.Way.TheVariants as way
use Rattle.ioam_topo.specs.declared.parts.Flow.{Flow}
use Rattle.ioam_topo.specs.declared.parts.Link.{Link}
use Rattle.ioam_topo.specs.declared.parts.Port.{Port}
use Rattle.ioam_topo.specs.Domain.{flows, ports}
use Rattle.ioam_node.specs.Admission.{KnowsFlow}
use Rattle.ioam_node.specs.Choice.{choice, entry_choice, exit_choice, exit_stops, Leaves}
use Rattle.ioam_node.specs.Order.{IsFirst}
use Rattle.ioam_node.specs.declared.answer.Admit.{Admit}
use Rattle.ioam_node.specs.declared.answer.Admit.TheVariants as admit
use Rattle.ioam_node.specs.declared.reason.Reason.{Reason}
use Rattle.ioam_node.proofs.ChoiceLaws.{enclosed_stays, exit_right, goes_high}
use Rattle.ioam_tunnel.specs.Enclosed.{address_at}
use Rattle.ioam_tunnel.specs.Limits.{limit_by}
use Rattle.ioam_tunnel.specs.Size.{outer_size}
use Rattle.ioam_tunnel.specs.declared.numbers.Numbers.{Numbers}
use Rattle.ioam_plan.specs.declared.itinerary.End.{End}
use Rattle.ioam_plan.specs.declared.itinerary.End.TheVariants.{Left, Drop}
use Rattle.ioam_plan.specs.declared.itinerary.Itinerary.{Itinerary}
use Rattle.ioam_plan.specs.declared.itinerary.Visit.{Visit}
use Rattle.ioam_plan.specs.Counted.{enclosed_in}
use Rattle.ioam_plan.specs.Drawn.{numbers_of, is_refused}
use Rattle.ioam_plan.specs.Passes.{visit_at, PassesPlain, PassesInside, ComesOut}
use Rattle.ioam_plan.specs.Travels.{PassesEntry, Travels, TravelsBy, TravelsFlow}
use Rattle.ioam_plan.proofs.PlannedLaws.{there_in, link_there, port_there, right_by, right_in, here_is, not_here_is}

none_left : (hops : ℕ) → (hops ≤ 1 → ⊥) → hops ≤ 0 → ⊥
none_left hops high most = let more : 1 < hops = lt_of_not-le high in omega (arith, more, most)

module _ (domain : Domain) (target size : ℕ) where
  -- a packet that isn't enclosed
  abbrev Plainly : NodeId → ℕ → ℕ → ℕ → Type 0
  Plainly node inward time hops = (visits : List Visit) × (end : End) × PassesPlain domain target size node inward time hops visits end

  plainly_by : (node : NodeId) (inward time hops : ℕ) (r : Result Way Reason) → choice domain node.0 false hops target size ≡ r
      → ((hops ≤ 1 → ⊥) → (link : Link) → Plainly link.to link.in_id (time + link.delay) (hops - 1)) → Plainly node inward time hops
  plainly_by node inward time hops (Err why) is more = ([], Drop why node, (why, right_by domain false target size node inward time hops (Err why) is, refl))
  plainly_by node inward time hops (Ok (way.Port id)) is more =
      let sent = right_by domain false target size node inward time hops (Ok (way.Port id)) is in
      let at = port_there domain node target id sent.0 in (
        visit_at node inward time (Some (way.Port id)) (Some at.0.id) ∷ [],
        Left id,
        inl (record { id = id; port = at.0; of_node = at.1; sent = sent; visited = refl; last = refl; leaves = refl }),
      )
  plainly_by node inward time hops (Ok (way.Link id)) is more =
      let sent = right_by domain false target size node inward time hops (Ok (way.Link id)) is in
      let at = link_there domain node target id sent.0 in
      let rest = more (goes_high domain node.0 false hops target size (way.Link id) sent) at.0 in (
        visit_at node inward time (Some (way.Link id)) (Some at.0.out_id) ∷ rest.0,
        rest.1,
        inr (record { id = id; link = at.0; there = at.1; of_node = at.2; sent = sent; visited = refl; follows = rest.2 }),
      )

  plainly : (n : ℕ) (node : NodeId) (inward time hops : ℕ) → hops ≤ n → Plainly node inward time hops
  plainly zero node inward time hops most =
      plainly_by node inward time hops (choice domain node.0 false hops target size) refl (λ high link. absurd (none_left hops high most))
  plainly (suc n) node inward time hops most =
      plainly_by node inward time hops (choice domain node.0 false hops target size) refl
      (λ high link. plainly n link.to link.in_id (time + link.delay) (hops - 1) (omega (arith, most)))

module _ (domain : Domain) (exit : NodeId) (size target inner : ℕ) where
  -- a packet in a tunnel
  abbrev Inside : NodeId → ℕ → ℕ → ℕ → Type 0
  Inside node inward time hops =
      (visits : List Visit) × (end : End) × (exited : Bool) × PassesInside domain exit size target inner node inward time hops visits end exited

  out_by : (node : NodeId) (r : Result PortId Reason) → exit_choice domain node.0 inner target ≡ r → (end : End) × ComesOut domain target inner node end
  out_by node (Ok id) is =
      let P : Result PortId Reason → Type 0 = λ r. MatchResult r (Leaves domain node.0 inner target) (IsFirst (exit_stops domain node.0 inner target)) in
      let leaves : Leaves domain node.0 inner target id = subst P is (exit_right domain node.0 inner target) in
      let at = port_there domain node target id leaves.0 in
      (Left id, inl (id, at.0, at.1, leaves, refl))
  out_by node (Err why) is =
      let P : Result PortId Reason → Type 0 = λ r. MatchResult r (Leaves domain node.0 inner target) (IsFirst (exit_stops domain node.0 inner target)) in
      let first : IsFirst (exit_stops domain node.0 inner target) why = subst P is (exit_right domain node.0 inner target) in
      (Drop why node, inr (why, first, refl))

  on_by : (node : NodeId) (inward time hops : ℕ) (r : Result Way Reason) → choice domain node.0 true hops (address_at domain exit) size ≡ r
      → node ≢ exit → ((hops ≤ 1 → ⊥) → (link : Link) → Inside link.to link.in_id (time + link.delay) (hops - 1)) → Inside node inward time hops
  on_by node inward time hops (Err why) is differs more =
      let first = right_by domain true (address_at domain exit) size node inward time hops (Err why) is in
      ([], Drop why node, false, (differs, (why, first, refl), refl))
  on_by node inward time hops (Ok (way.Port id)) is differs more =
      let sent = right_by domain true (address_at domain exit) size node inward time hops (Ok (way.Port id)) is in
      absurd (enclosed_stays domain node.0 hops (address_at domain exit) size id sent)
  on_by node inward time hops (Ok (way.Link id)) is differs more =
      let sent = right_by domain true (address_at domain exit) size node inward time hops (Ok (way.Link id)) is in
      let at = link_there domain node (address_at domain exit) id sent.0 in
      let rest = more (goes_high domain node.0 true hops (address_at domain exit) size (way.Link id) sent) at.0 in (
        visit_at node inward time (Some (way.Link id)) (Some at.0.out_id) ∷ rest.0,
        rest.1,
        rest.2,
        inr (differs, record { id = id; link = at.0; there = at.1; of_node = at.2; sent = sent; visited = refl; follows = rest.3 }),
      )

  inside_by_place : (node : NodeId) (inward time hops : ℕ) (here : Bool) → nat_eq exit.0 node.0 ≡ here
      → ((hops ≤ 1 → ⊥) → (link : Link) → Inside link.to link.in_id (time + link.delay) (hops - 1)) → Inside node inward time hops
  inside_by_place node inward time hops true at more =
      let out = out_by node (exit_choice domain node.0 inner target) refl in
      (visit_at node inward time None None ∷ [], out.0, true, inl (here_is node exit at, refl, refl, out.1, refl))
  inside_by_place node inward time hops false at more =
      on_by node inward time hops (choice domain node.0 true hops (address_at domain exit) size) refl (not_here_is node exit at) more

  inside : (n : ℕ) (node : NodeId) (inward time hops : ℕ) → hops ≤ n → Inside node inward time hops
  inside zero node inward time hops most =
      inside_by_place node inward time hops (nat_eq exit.0 node.0) refl (λ high link. absurd (none_left hops high most))
  inside (suc n) node inward time hops most =
      inside_by_place node inward time hops (nat_eq exit.0 node.0) refl
      (λ high link. inside n link.to link.in_id (time + link.delay) (hops - 1) (omega (arith, most)))

module _ (domain : Domain) (id : FlowId) (flow : Flow) (numbers : Numbers) (refused : Bool) (size target hops : ℕ) where
  -- a packet that is to be enclosed
  abbrev Entered : NodeId → ℕ → ℕ → Type 0
  Entered node inward time = (visits : List Visit) × (end : End) × (exited : Bool) × (carried : Option (FlowId × Numbers))
      × PassesEntry domain id flow numbers refused size target hops node inward time visits end exited carried

  entered_by : (node : NodeId) (inward time : ℕ) (r : Result LinkId Reason) → entry_choice domain node.0 refused hops (address_at domain flow.exit) size ≡ r
      → Entered node inward time
  entered_by node inward time (Err why) is =
      let first = right_in domain id flow numbers refused size target hops node (Err why) is in
      ([], Drop why node, false, None, ((why, first, refl), refl, refl))
  entered_by node inward time (Ok link) is =
      let sent = right_in domain id flow numbers refused size target hops node (Ok link) is in
      let at = link_there domain node (address_at domain flow.exit) link sent.0 in
      let rest = inside domain flow.exit size target (hops - 1) flow.hops at.0.to at.0.in_id (time + at.0.delay) flow.hops (omega arith) in (
        visit_at node inward time (Some (way.Link link)) (Some at.0.out_id) ∷ rest.0,
        rest.1,
        rest.2,
        Some (id, numbers),
        (record { id = link; link = at.0; there = at.1; of_node = at.2; sent = sent; visited = refl; follows = rest.3 }, refl),
      )

  entered : (node : NodeId) (inward time : ℕ) → Entered node inward time
  entered node inward time = entered_by node inward time (entry_choice domain node.0 refused hops (address_at domain flow.exit) size) refl

-- any octets have a header's fields
header_of : (octets : List ℕ) → (header : Header) × HasFields octets header
header_of octets = (
  record {
    class = u32_at octets 0 / 1048576 % 256;
    label = u32_at octets 0 % 1048576;
    payload = u16_at octets 4;
    next = slice_index octets 6;
    hops = slice_index octets 7;
    source = from_be_bytes w128 (slice_range octets 8 24);
    target = from_be_bytes w128 (slice_range octets 24 40);
    label_fits = omega arith;
  },
  record { class = refl; label = refl; payload = refl; next = refl; hops = refl; source = refl; target = refl },
)

module _ (domain : Domain) (readings : List (List Sample)) (earlier : List Itinerary) (id : PortId) (time : ℕ) where
  abbrev Goes_so : Admit → Port → Type 0
  Goes_so admitted port = (it : Itinerary) × (it.port ≡ id) × TravelsBy domain readings earlier time it admitted port

  in_flow : (port : Port) (flow : FlowId) (packet : List ℕ) (found : Option ℕ) → (at : Option Flow) → (f : Flow) → at ≡ Some f
      → (it : Itinerary) × (it.port ≡ id)
      × IsSomeAnd at (λ f. TravelsFlow domain readings (enclosed_in flow.0 earlier) port time flow f packet found it)
  in_flow port flow packet found at f is =
      let header = header_of packet in
      let numbers : Numbers = numbers_of domain readings f (enclosed_in flow.0 earlier) found time in
      let way_in = entered domain flow f numbers (is_refused (limit_by found f.limit))
      (outer_size f (length packet) (is_some numbers.direct) (is_some numbers.limit)) header.0.target header.0.hops port.node port.id time in
      let it : Itinerary = record { port = id; visits = way_in.0; end = way_in.1; exited = way_in.2; carried = way_in.3 } in
      let P : Option Flow → Type 0 = λ at. IsSomeAnd at (λ f. TravelsFlow domain readings (enclosed_in flow.0 earlier) port time flow f packet found it) in
      (it, refl, subst P (sym is) (record { header = header.0; fields = header.1; numbers = numbers; drawn = refl; passes = way_in.4 }))

  by_answer : (admitted : Admit) (port : Port) → KnowsFlow domain admitted → Goes_so admitted port
  by_answer (admit.Plain packet) port knows =
      let header = header_of packet.now in
      let on = plainly domain header.0.target (length packet.now) header.0.hops port.node port.id time header.0.hops (omega arith) in (
        record { port = id; visits = on.0; end = on.1; exited = false; carried = None },
        refl,
        record { header = header.0; fields = header.1; passes = on.2; exited = refl; carried = refl },
      )
  by_answer (admit.Drop why) port knows = (
    record { port = id; visits = []; end = Drop why port.node; exited = false; carried = None },
    refl,
    record { none = refl; ends = refl; exited = refl; carried = refl },
  )
  by_answer (admit.Enclose flow packet found) port knows =
      let at = there_in (flows domain) flow.0 knows in
      in_flow port flow packet.now found (slice_get (flows domain) flow.0) at.0 at.1

  pub Travels-some : (admitted : Admit) → id.0 < length (ports domain) → KnowsFlow domain admitted
      → (it : Itinerary) × Travels domain readings earlier id time admitted it
  Travels-some admitted there knows =
      let at = there_in (ports domain) id.0 there in
      let some = by_answer admitted at.0 knows in
      let P : Option Port → Type 0 = λ at. IsSomeAnd at (TravelsBy domain readings earlier time some.0 admitted) in
      (some.0, (some.1, subst P (sym at.1) some.2))
