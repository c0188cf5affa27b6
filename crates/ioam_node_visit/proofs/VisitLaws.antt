-- One visit takes an enclosed packet to the next form on its way.
use Rattle.std.proofs.Common.{◌≡◌, ℕ, ◌+◌, ◌-◌, ◌≤◌, Bool, true, false, cond, List, [], ◌∷◌, ◌++◌, length, map, set, slice_index, refl, sym, ap, ◌∙◌, arith, append_assoc, length-append}
use Rattle.std.specs.Prelude.{All}
use Rattle.std.proofs.lemmas.List.{append-nil, map-append}
use Rattle.std.proofs.lemmas.List.Elements.{All-nil, All-cons, All-append, All-head, All-tail}
use Rattle.ioam_clock.specs.declared.sample.Sample.{Sample}
use Rattle.ioam_data.specs.Elements.{IsElement}
use Rattle.ioam_data.specs.Kind.{words}
use Rattle.ioam_data.specs.Written.{element_of}
use Rattle.ioam_data.proofs.ElementLaws.{IsElement-element_of}
use Rattle.ioam_data.proofs.KindLaws.{is_entry_type-can_add}
use Rattle.ioam_ip.specs.Hop.{hop_stepped}
use Rattle.ioam_ip.specs.Laid.{Part, stepped, AreParts}
use Rattle.ioam_topo.specs.declared.domain.Domain.{Domain}
use Rattle.ioam_trace.specs.Data.{CanHold}
use Rattle.ioam_tunnel.specs.Wire.{Tunnel, Room, IsRoom, IsTunnel, AreConstant, trace_part, trace_parts, no_elements, hop_parts, packet_with, limit_after}
use Rattle.ioam_tunnel.proofs.WireLaws.{AreParts-hop, packet-stepped, limit-set, limit-is}
use Rattle.ioam_node_visit.specs.Seeing.{view_of}
use Rattle.ioam_node_visit.specs.Step.{knows, node_step}
use Rattle.ioam_node_visit.specs.Visits.{Visited, element_at, elements_from, elements, wire_after, closed_after}
use Rattle.ioam_node_visit.proofs.SeeingLaws.{view_of-right}
use Rattle.ioam_node_visit.proofs.StepLaws.{length-step, step-other, step-trace}

module _ (domain : Domain) (readings : List (List Sample)) (tunnel : Tunnel) (is : IsTunnel tunnel) where
  abbrev from : Room → ℕ → List Visited → List (List ℕ)
  from room before visits = elements_from domain readings tunnel room before visits

  -- one visit more at the end
  elements-push : (room : Room) (before : ℕ) (visits : List Visited) (visit : Visited)
      → from room before (visits ++ visit ∷ []) ≡ from room before visits ++ element_at domain readings tunnel room (before + length visits) visit
  elements-push room before [] visit =
      let same : before ≡ before + 0 = omega arith in
      append-nil (element_at domain readings tunnel room before visit) ∙ ap (λ n. element_at domain readings tunnel room n visit) same
  elements-push room before (v ∷ visits) visit =
      let same : before + 1 + length visits ≡ before + length (v ∷ visits) = omega arith in
      ap (λ es. element_at domain readings tunnel room before v ++ es) (elements-push room (before + 1) visits visit)
      ∙ ap (λ n. element_at domain readings tunnel room before v ++ (from room (before + 1) visits ++ element_at domain readings tunnel room n visit)) same
      ∙ sym (append_assoc (element_at domain readings tunnel room before v) (from room (before + 1) visits) (element_at domain readings tunnel room (before + length (v ∷ visits)) visit))

  pub elements-whole : (room : Room) → IsRoom room → (before : ℕ) (visits : List Visited) → All (IsElement room.kind (words room.kind)) (from room before visits)
  elements-whole room right before [] = All-nil (IsElement room.kind (words room.kind))
  elements-whole room right before (visit ∷ visits) =
      All-append (IsElement room.kind (words room.kind)) (element_at domain readings tunnel room before visit) (from room (before + 1) visits)
      (one (knows domain visit.place.node.0 room.namespace)) (elements-whole room right (before + 1) visits)
    where
      one : (b : Bool) → All (IsElement room.kind (words room.kind))
          (cond b (element_of room.kind (words room.kind) (view_of domain readings visit.place visit.time (tunnel.hops - before) room.namespace) ∷ []) [])
      one true = All-cons (IsElement room.kind (words room.kind)) _ []
          (IsElement-element_of room.kind (words room.kind) (view_of domain readings visit.place visit.time (tunnel.hops - before) room.namespace) right.kind_below
          (is_entry_type-can_add room.kind right.entry) (view_of-right domain readings visit.place visit.time (tunnel.hops - before) room.namespace))
          (All-nil (IsElement room.kind (words room.kind)))
      one false = All-nil (IsElement room.kind (words room.kind))

  -- a trace can hold the elements of any visits
  pub can_hold : (room : Room) → IsRoom room → (visits : List Visited) → CanHold room.namespace room.kind room.capacity (elements domain readings tunnel visits room)
  can_hold room right visits = record {
    namespace_below = right.namespace_below;
    kind_below = right.kind_below;
    entry = right.entry;
    capacity_below = omega (arith, right.capacity_most);
    elements = elements-whole room right 0 visits;
  }

  -- no option of the packet is a padding
  pub are_parts : (es : Room → List (List ℕ)) → AreParts (hop_parts tunnel es)
  are_parts es = AreParts-hop tunnel es is.others

  module _ (visits : List Visited) (visit : Visited) where
    abbrev step : ℕ → List ℕ → List ℕ
    step = node_step domain readings visit.place visit.time (tunnel.hops - length visits)

    others-same : (parts : List Part) → AreConstant parts → map (stepped step) parts ≡ parts
    others-same [] are = refl
    others-same (part ∷ parts) are =
        let body : step part.kind part.body ≡ part.body = step-other domain readings visit.place visit.time (tunnel.hops - length visits) part.kind part.body are.1 in
        let others = others-same parts are.2 in
        λ i. record { kind = part.kind; body = body i } ∷ others i

    -- each trace gets its element
    trace-step : (room : Room) → IsRoom room
        → stepped step (trace_part room (elements domain readings tunnel visits room)) ≡ trace_part room (elements domain readings tunnel (visits ++ visit ∷ []) room)
    trace-step room right =
        let body = step-trace domain readings visit.place visit.time (tunnel.hops - length visits) room.namespace room.kind room.capacity (from room 0 visits) (can_hold room right visits) in
        let none : 0 + length visits ≡ length visits = omega arith in
        let more = elements-push room 0 visits visit ∙ ap (λ n. from room 0 visits ++ element_at domain readings tunnel room n visit) none in
        ap (λ xs. record { kind = 0x31; body = xs }) body ∙ ap (λ es. trace_part room es) (sym more)

    traces-step : (rooms : List Room) → All IsRoom rooms
        → map (stepped step) (trace_parts rooms (elements domain readings tunnel visits)) ≡ trace_parts rooms (elements domain readings tunnel (visits ++ visit ∷ []))
    traces-step [] right = refl
    traces-step (room ∷ rooms) right =
        let one = trace-step room (All-head IsRoom room rooms right) in
        let others = traces-step rooms (All-tail IsRoom room rooms right) in
        λ i. one i ∷ others i

    parts-step : map (stepped step) (hop_parts tunnel (elements domain readings tunnel visits)) ≡ hop_parts tunnel (elements domain readings tunnel (visits ++ visit ∷ []))
    parts-step =
        map-append (stepped step) (trace_parts tunnel.traces (elements domain readings tunnel visits)) tunnel.others
        ∙ ap (λ xs. xs ++ map (stepped step) tunnel.others) (traces-step tunnel.traces is.rooms)
        ∙ ap (λ xs. trace_parts tunnel.traces (elements domain readings tunnel (visits ++ visit ∷ [])) ++ xs) (others-same tunnel.others is.others)

    -- changed in place, the packet has one element more in each trace whose namespace the node knows
    pub visit-packet : (limit : ℕ) → hop_stepped step (packet_with tunnel limit (hop_parts tunnel (elements domain readings tunnel visits)))
        ≡ packet_with tunnel limit (hop_parts tunnel (elements domain readings tunnel (visits ++ visit ∷ [])))
    visit-packet limit =
        packet-stepped step (length-step domain readings visit.place visit.time (tunnel.hops - length visits)) tunnel limit
        (hop_parts tunnel (elements domain readings tunnel visits)) (are_parts (elements domain readings tunnel visits))
        ∙ ap (λ parts. packet_with tunnel limit parts) parts-step

  -- ---- the three visits

  module _ (visits : List Visited) (visit : Visited) (old : List ℕ) (same : old ≡ wire_after domain readings tunnel visits) where
    abbrev parts : List Visited → List Part
    parts vs = hop_parts tunnel (elements domain readings tunnel vs)

    pub old_is : old ≡ packet_with tunnel (limit_after tunnel (length visits)) (parts visits)
    unfolding wire_after
    old_is = same

    pub hops_is : slice_index old 7 ≡ limit_after tunnel (length visits)
    hops_is = ap (λ xs. slice_index xs 7) old_is ∙ limit-is tunnel (limit_after tunnel (length visits)) (parts visits)

    abbrev stepped_with : ℕ → List ℕ → List ℕ
    stepped_with hops packet = hop_stepped (node_step domain readings visit.place visit.time hops) packet

    pub begins : (new : List ℕ) → visits ≡ [] → new ≡ stepped_with (slice_index old 7) old
        → new ≡ wire_after domain readings tunnel (visits ++ visit ∷ [])
    unfolding wire_after
    begins new none is_new =
        let hops : slice_index old 7 ≡ tunnel.hops - length visits = omega (arith, hops_is, ap length none) in
        let limit : limit_after tunnel (length visits) ≡ limit_after tunnel (length (visits ++ visit ∷ [])) = omega (arith, ap length none, length-append visits (visit ∷ [])) in
        is_new ∙ ap (λ n. stepped_with n old) hops ∙ ap (λ xs. stepped_with (tunnel.hops - length visits) xs) old_is
        ∙ visit-packet visits visit (limit_after tunnel (length visits)) ∙ ap (λ n. packet_with tunnel n (parts (visits ++ visit ∷ []))) limit

    pub transits : (new : List ℕ) → 1 ≤ length visits → new ≡ stepped_with (slice_index old 7 - 1) (set old 7 (slice_index old 7 - 1))
        → new ≡ wire_after domain readings tunnel (visits ++ visit ∷ [])
    unfolding wire_after
    transits new some is_new =
        let hops : slice_index old 7 - 1 ≡ tunnel.hops - length visits = omega (arith, hops_is) in
        let limit : tunnel.hops - length visits ≡ limit_after tunnel (length (visits ++ visit ∷ [])) = omega (arith, length-append visits (visit ∷ [])) in
        is_new ∙ ap (λ n. stepped_with n (set old 7 n)) hops
        ∙ ap (λ xs. stepped_with (tunnel.hops - length visits) (set xs 7 (tunnel.hops - length visits))) old_is
        ∙ ap (λ xs. stepped_with (tunnel.hops - length visits) xs) (limit-set tunnel (limit_after tunnel (length visits)) (tunnel.hops - length visits) (parts visits))
        ∙ visit-packet visits visit (tunnel.hops - length visits)
        ∙ ap (λ n. packet_with tunnel n (parts (visits ++ visit ∷ []))) limit

    pub exits : (new : List ℕ) → 1 ≤ length visits → new ≡ stepped_with (slice_index old 7 - 1) old
        → new ≡ closed_after domain readings tunnel visits visit
    unfolding closed_after
    exits new some is_new =
        let hops : slice_index old 7 - 1 ≡ tunnel.hops - length visits = omega (arith, hops_is) in
        is_new ∙ ap (λ n. stepped_with n old) hops ∙ ap (λ xs. stepped_with (tunnel.hops - length visits) xs) old_is
        ∙ visit-packet visits visit (limit_after tunnel (length visits))

-- what an entry node encloses is the packet before any visit
pub wire-start : (domain : Domain) (readings : List (List Sample)) (tunnel : Tunnel)
    → packet_with tunnel tunnel.hops (hop_parts tunnel no_elements) ≡ wire_after domain readings tunnel []
unfolding wire_after
wire-start domain readings tunnel =
    let same : tunnel.hops ≡ limit_after tunnel 0 = omega arith in
    ap (λ n. packet_with tunnel n (hop_parts tunnel no_elements)) same
