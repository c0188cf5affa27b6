-- The packet of a job that leaves by a port.
use Rattle.std.proofs.Common.{get_or, ◌≡◌, ℕ, zero, suc, ◌+◌, ◌-◌, ◌<◌, Bool, true, false, List, [], ◌∷◌, ◌++◌, Option, Some, None, drop, length, map, set, length-set, slice_get, refl, sym, ap, ◌∙◌, subst, arith, append_assoc, append-nil, length-append}
use Rattle.std.specs.Prelude.{IsSome, IsSomeAnd, MatchOption, if◌then◌else◌, slice_index}
use Rattle.std.proofs.lemmas.Bool.{ne_eqb, eq-eqb}
use Rattle.ioam_batch.specs.Ran.{passed}
use Rattle.ioam_batch.specs.declared.job.Job.{Job}
use Rattle.ioam_batch.proofs.RanLaws.{lowered-more}
use Rattle.ioam_batch.specs.Sample.{Sample}
use Rattle.ioam_ip.specs.Chain.{IsSound}
use Rattle.ioam_ip.specs.Lowered.{lowered}
use Rattle.ioam_ip.specs.Packet.{IsPacket}
use Rattle.ioam_ip.proofs.SoundLaws.{IsPacket-lowered, IsSound-lowered}
use Rattle.ioam_run_outputs.specs.Outlets.{of_outlets, outlet_count, place_of_port}
use Rattle.ioam_desk_outputs.specs.Told.{Adds}
use Rattle.ioam_desk_outputs.specs.declared.output.Output.{Output}
use Rattle.ioam_pcap.specs.Text.{Sent, record_head, record_octets, records_text}
use Rattle.ioam_plan.specs.Rides.{RidesBy}
use Rattle.ioam_plan.specs.declared.itinerary.End.{End}
use Rattle.ioam_plan.specs.declared.itinerary.End.TheVariants.{Left, Drop}
use Rattle.ioam_plan.specs.declared.itinerary.Itinerary.{Itinerary}
use Rattle.ioam_plan.specs.declared.itinerary.Visit.{Visit}
use Rattle.ioam_node_visit.specs.Reason.{Reason}
use Rattle.ioam_topo.specs.Domain.{ports}
use Rattle.ioam_topo.specs.declared.domain.Domain.{Domain}
use Rattle.ioam_topo.specs.declared.ids.FlowId.{FlowId}
use Rattle.ioam_topo.specs.declared.ids.NodeId.{NodeId}
use Rattle.ioam_topo.specs.declared.ids.PortId.{PortId}
use Rattle.ioam_batch.specs.Enclosed.{tunnel_of}
use Rattle.ioam_batch.specs.Numbers.{Numbers}
use Rattle.ioam_batch.specs.Inner.{InnerAt}
use Rattle.ioam_run_texts.specs.Standing.{IsInside, LeavesAt, LeavesBy, lowered_at}
use Rattle.ioam_run_texts.specs.Texts.{last_time, leaves_by, fate_leaves, sent_by_end}
use Rattle.ioam_run_texts.specs.Told.{AreLeaving, AreSent, GivesInside}
use Rattle.ioam_run_texts.proofs.AddsLaws.{port-told, none-told}
use Rattle.ioam_run_texts.proofs.AfterLaws.{AfterBy, after, same-way, inner-of}

-- ---- a record whose packet is lowered in its place

set-behind : (front back : List ℕ) (at v : ℕ) → set (front ++ back) (length front + at) v ≡ front ++ set back at v
set-behind [] back at v = ap (λ (k : ℕ). set back k v) (omega arith)
set-behind (x ∷ front) back at v =
    let place : length (x ∷ front) + at ≡ suc (length front + at) = omega arith in
    ap (λ (k : ℕ). set (x ∷ (front ++ back)) k v) place ∙ ap (λ (rest : List ℕ). x ∷ rest) (set-behind front back at v)

pub record-lowered : (old packet items : List ℕ) (time hops at : ℕ) → items ≡ old ++ record_octets time packet
    → at ≡ length items - length packet + 7 → hops ≡ slice_index packet 7 - 1
    → set items at hops ≡ old ++ record_octets time (lowered 1 packet)
record-lowered old packet items time hops at is place less =
    let head : List ℕ = record_head time (length packet) in
    let whole : length items ≡ length (old ++ (head ++ packet)) = ap length is in
    let long_front = length-append old (head ++ packet) in
    let long_back = length-append head packet in
    let long_head = length-append old head in
    let there : at ≡ length (old ++ head) + 7 = omega (arith, place, whole, long_front, long_back, long_head) in
    let same : length (set packet 7 hops) ≡ length packet = length-set packet 7 hops in
    let turned : set packet 7 hops ≡ lowered 1 packet = ap (λ (h : ℕ). set packet 7 h) less in
    ap (λ (xs : List ℕ). set xs at hops) is
    ∙ ap (λ (xs : List ℕ). set xs at hops) (sym (append_assoc old head packet))
    ∙ ap (λ (k : ℕ). set ((old ++ head) ++ packet) k hops) there
    ∙ set-behind (old ++ head) packet 7 hops
    ∙ append_assoc old head (set packet 7 hops)
    ∙ ap (λ (size : ℕ). old ++ (record_head time size ++ set packet 7 hops)) (sym same)
    ∙ ap (λ (p : List ℕ). old ++ record_octets time p) turned

-- ---- the time of the last visit

last_of : (visits : List Visit) (v : Visit) (k : ℕ) → suc k ≡ length visits → Some v ≡ slice_get visits k → v.time ≡ last_time visits
last_of [] v k is has = absurd (omega (arith, is))
last_of (visit ∷ []) v zero is has = cc
last_of (visit ∷ []) v (suc k) is has = absurd (omega (arith, is))
last_of (visit ∷ next ∷ visits) v zero is has = absurd (omega (arith, is))
last_of (visit ∷ next ∷ visits) v (suc k) is has = last_of (next ∷ visits) v k (omega (arith, is)) has

pub last_visit : (visits : List Visit) (v : Visit) → Some v ≡ slice_get visits (length visits - 1) → v.time ≡ last_time visits
last_visit [] v has = cc
last_visit (visit ∷ visits) v has = last_of (visit ∷ visits) v (length (visit ∷ visits) - 1) (omega arith) has

-- ---- one record

pub one-record : (old items : List ℕ) (s : Sent) → items ≡ old ++ record_octets s.time s.octets → items ≡ old ++ records_text (s ∷ [])
one-record old items s is = is ∙ ap (λ (t : List ℕ). old ++ t) (sym (append-nil (record_octets s.time s.octets)))

-- ---- what leaves of a job, whether it ran or not

-- what stands in a packet from a place on is what it carries
pub inside-said : {X : Type 0} (octets_of : X → List ℕ) (result : Option X) (packet : List ℕ) (place : ℕ) → IsPacket packet → InnerAt packet place
    → IsSomeAnd result (λ x. octets_of x ≡ drop place packet) → MatchOption result (IsInside packet None) (λ x. IsInside packet (Some (octets_of x)))
inside-said octets_of None packet place is at found = absurd found
inside-said octets_of (Some x) packet place is at found = (is, (place, at, found))

module _ (job : Job) where
  pub plain-by-job : (carried : Option (FlowId × Numbers)) (exited : Bool) (time : ℕ) → carried ≡ None → time ≡ last_time job.itinerary.visits
      → LeavesBy carried exited job (record { time = time; octets = job.packet.items } ∷ [])
  plain-by-job None exited time none when = ap (λ (t : ℕ). record { time = t; octets = job.packet.items } ∷ []) when
  plain-by-job (Some carried) exited time none when = let never : Some carried ≡ None = none in cc

  pub inside-by-job : (carried : Option (FlowId × Numbers)) (exited : Bool) (time : ℕ) (inner : Option (List ℕ)) → IsSome carried → exited ≡ true
      → time ≡ last_time job.itinerary.visits → IsInside job.packet.items inner → LeavesBy carried exited job (lowered_at time inner)
  inside-by-job None exited time inner some out when is = let never : false ≡ true = some in cc
  inside-by-job (Some carried) true time inner some out when is = (inner, is, ap (λ (t : ℕ). lowered_at t inner) when)
  inside-by-job (Some carried) false time inner some out when is = let never : false ≡ true = out in cc

-- ---- what leaves is what the arrival says

module _ (domain : Domain) (readings : List (List Sample)) (packet : List ℕ) (itinerary : Itinerary) (job : Job) where
  -- a packet that isn't enclosed
  plain-by : (carried : Option (FlowId × Numbers)) → carried ≡ None → AfterBy domain readings packet itinerary.visits itinerary.exited job carried
      → record { time = last_time itinerary.visits; octets = job.packet.items } ∷ [] ≡ leaves_by packet itinerary.visits itinerary.exited carried
  plain-by None none held = ap (λ (p : List ℕ). record { time = last_time itinerary.visits; octets = p } ∷ []) held.0
  plain-by (Some carried) none held = let never : Some carried ≡ None = none in cc

  -- one that did
  twice : IsPacket packet → lowered 1 (lowered 1 packet) ≡ lowered 2 packet
  twice is = lowered-more packet (lowered 1 packet) 1 (omega (arith, is.header_there)) refl

  out-by : (carried : Option (FlowId × Numbers)) (inner : Option (List ℕ)) → IsSome carried → AfterBy domain readings packet itinerary.visits true job carried
      → RidesBy domain packet itinerary carried → GivesInside job.packet.items inner
      → lowered_at (last_time itinerary.visits) inner ≡ leaves_by packet itinerary.visits true carried
  out-by None inner some held rides gives = let never : false ≡ true = some in cc
  out-by (Some carried) inner some held rides gives =
      let tunnel = tunnel_of domain carried.0 carried.1 packet in
      let is = inner-of domain carried.0 carried.1 packet rides.known in
      let given : inner ≡ Some tunnel.inner = gives domain readings tunnel (map passed held.1.front) (passed held.1.last) held.0
      (subst (λ (p : List ℕ). IsPacket p) (sym is) (IsPacket-lowered packet (slice_index packet 7 - 1) rides.is_packet))
      (subst (λ (p : List ℕ). IsSound p) (sym is) (IsSound-lowered packet (slice_index packet 7 - 1) rides.sound))
      held.1.closed.packet_is in
      ap (λ (found : Option (List ℕ)). lowered_at (last_time itinerary.visits) found) (given ∙ ap (λ (p : List ℕ). Some p) is)
      ∙ ap (λ (p : List ℕ). record { time = last_time itinerary.visits; octets = p } ∷ []) (twice rides.is_packet)

module _ (domain : Domain) (job : Job) where
  pub plain-leaves : (time : ℕ) → job.itinerary.carried ≡ None → time ≡ last_time job.itinerary.visits
      → AreLeaving domain job (record { time = time; octets = job.packet.items } ∷ [])
  plain-leaves time none when readings fate ran =
      let way = same-way domain readings fate job ran in
      ap (λ (t : ℕ). record { time = t; octets = job.packet.items } ∷ []) (when ∙ ap (λ (it : Itinerary). last_time it.visits) way)
      ∙ plain-by domain readings fate.packet fate.itinerary job fate.itinerary.carried (subst (λ (it : Itinerary). it.carried ≡ None) way none)
      (after domain readings fate job ran)

  pub inside-leaves : (time : ℕ) (inner : Option (List ℕ)) → IsSome job.itinerary.carried → job.itinerary.exited ≡ true
      → time ≡ last_time job.itinerary.visits → GivesInside job.packet.items inner → AreLeaving domain job (lowered_at time inner)
  inside-leaves time inner some out when gives readings fate ran =
      let way = same-way domain readings fate job ran in
      let exits : fate.itinerary.exited ≡ true = subst (λ (it : Itinerary). it.exited ≡ true) way out in
      ap (λ (t : ℕ). lowered_at t inner) (when ∙ ap (λ (it : Itinerary). last_time it.visits) way)
      ∙ out-by domain readings fate.packet fate.itinerary job fate.itinerary.carried inner (subst (λ (it : Itinerary). IsSome it.carried) way some)
      (subst (λ (b : Bool). AfterBy domain readings fate.packet fate.itinerary.visits b job fate.itinerary.carried) exits (after domain readings fate job ran))
      ran.rides.carries gives
      ∙ ap (λ (b : Bool). leaves_by fate.packet fate.itinerary.visits b fate.itinerary.carried) (sym exits)

  -- ---- by each port

  -- what leaves, where the journey ends by this port
  abbrev pub by-end : End → List Sent → ℕ → List Sent
  by-end end sent port = sent_by_end port sent end

  pub sent-are : (sent : List Sent) → AreLeaving domain job sent → AreSent domain job (by-end job.itinerary.end sent)
  sent-are sent leaves readings fate ran port =
      ap (λ (s : List Sent). sent_by_end port s job.itinerary.end) (leaves readings fate ran)
      ∙ ap (λ (it : Itinerary). sent_by_end port (fate_leaves fate) it.end) (same-way domain readings fate job ran)

  pub drop-sent : (reason : Reason) (node : NodeId) → job.itinerary.end ≡ Drop reason node → AreSent domain job (λ port. [])
  drop-sent reason node is readings fate ran port =
      ap (λ (e : End). sent_by_end port (fate_leaves fate) e) (sym is)
      ∙ ap (λ (it : Itinerary). sent_by_end port (fate_leaves fate) it.end) (same-way domain readings fate job ran)

sent-here : (port : PortId) (sent : List Sent) → sent_by_end port.0 sent (Left port) ≡ sent
sent-here port sent = ap (λ (b : Bool). if b then sent else []) (eq-eqb port.0 port.0 refl)

sent-elsewhere : (k : ℕ) (port : PortId) (sent : List Sent) → (k ≡ port.0 → ⊥) → records_text (sent_by_end k sent (Left port)) ≡ []
sent-elsewhere k port sent other = ap (λ (b : Bool). records_text (if b then sent else [])) (ne_eqb k port.0 other)

-- ---- the output of its port

module _ (domain : Domain) (job : Job) (outputs : List Output) (long : length outputs ≡ outlet_count domain) where
  -- where its journey ends so
  abbrev Ends : List Output → End → Type 0
  Ends new end = (left : List Sent) × Adds outputs new (of_outlets domain (λ port. records_text (sent_by_end port left end)) (λ link. []) [] [])
      × AreSent domain job (λ port. sent_by_end port left end) × LeavesAt end job left

  abbrev pub Told : List Output → Type 0
  Told new = Ends new job.itinerary.end

  pub left-told : (d after : Output) (port : PortId) (sent : List Sent) → job.itinerary.end ≡ Left port → port.0 < length (ports domain)
      → after.slot ≡ (get_or outputs port.0 d).slot → after.gathered.items ≡ (get_or outputs port.0 d).gathered.items ++ records_text sent
      → AreLeaving domain job sent → LeavesBy job.itinerary.carried job.itinerary.exited job sent → Told (set outputs port.0 after)
  left-told d after port sent is inside slot adds leaves by = subst (Ends (set outputs port.0 after)) (sym is) (
    sent,
    port-told domain outputs d after (λ k. records_text (sent_by_end k sent (Left port))) port.0 inside (λ k other. sent-elsewhere k port sent other) long slot
        (adds ∙ ap (λ (ss : List Sent). (get_or outputs port.0 d).gathered.items ++ records_text ss) (sym (sent-here port sent))),
    (λ readings fate ran k. ap (λ (e : End). sent_by_end k sent e) (sym is) ∙ sent-are domain job sent leaves readings fate ran k),
    by,
  )

  -- at the place of the port
  pub left-there : (d after : Output) (port : PortId) (at : ℕ) (sent : List Sent) → at ≡ place_of_port port → job.itinerary.end ≡ Left port
      → port.0 < length (ports domain)
      → after.slot ≡ (get_or outputs at d).slot → after.gathered.items ≡ (get_or outputs at d).gathered.items ++ records_text sent
      → AreLeaving domain job sent → LeavesBy job.itinerary.carried job.itinerary.exited job sent → Told (set outputs at after)
  left-there d after port at sent place is inside slot adds leaves by =
      subst (λ (n : ℕ). Told (set outputs n after)) (sym place)
      (left-told d after port sent is inside (slot ∙ ap (λ (n : ℕ). (get_or outputs n d).slot) place)
      (adds ∙ ap (λ (n : ℕ). (get_or outputs n d).gathered.items ++ records_text sent) place) leaves by)

  pub drop-told : (reason : Reason) (node : NodeId) → job.itinerary.end ≡ Drop reason node → Told outputs
  drop-told reason node is = subst (Ends outputs) (sym is)
      ([], none-told domain outputs (λ k. []) (λ k. refl) long, drop-sent domain job reason node is, refl)
