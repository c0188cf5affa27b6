-- Laws of how many octets a job has room for.
use Rattle.std.proofs.Common.{◌≡◌, ℕ, zero, suc, ◌+◌, ◌*◌, ◌≤◌, Bool, true, false, cond, List, [], ◌∷◌, length, map, Option, Some, None, slice_get, refl, sym, ap, ◌∙◌, subst, arith, length-append, mul-le-mul_left, mul-suc}
use Rattle.std.specs.Prelude.{IsSome, count_by, unwrap_or}
use Rattle.std.specs.List.{AllByRecursion}
use Rattle.std.proofs.lemmas.List.{length-map}
use Rattle.std.proofs.lemmas.List.Elements.{recursion_from_All}
use Rattle.std.proofs.lemmas.List.Sums.{count_by-le-length, sum_by-cons}
use Rattle.ioam_batch.specs.Crossings.{filled, taps_of}
use Rattle.ioam_batch.specs.Jobs.{IsFresh, asked_for, reserved_of, spare_by}
use Rattle.ioam_batch.specs.Taps.{is_tapped, tap_count}
use Rattle.ioam_batch.specs.declared.job.Job.{Job}
use Rattle.ioam_batch.proofs.RunLaws.{taps-fresh}
use Rattle.ioam_ip.specs.Hop.{has_hop, hop_head, hop_options, ioam_count, option_count}
use Rattle.ioam_ip.specs.Laid.{Part, behind_part, items_of}
use Rattle.ioam_ip.specs.Findings.{is_ioam_type}
use Rattle.ioam_ip.specs.Rewriting.{options_in}
use Rattle.ioam_node_visit.proofs.PartsLaws.{hop_options-packet}
use Rattle.ioam_plan.specs.declared.itinerary.Itinerary.{Itinerary}
use Rattle.ioam_topo.specs.Domain.{flows}
use Rattle.ioam_topo.specs.Sound.{IsFlow}
use Rattle.ioam_topo.specs.declared.domain.Domain.{Domain}
use Rattle.ioam_topo.specs.declared.ids.FlowId.{FlowId}
use Rattle.ioam_topo.specs.declared.parts.Flow.{Flow}
use Rattle.ioam_tunnel.proofs.WireLaws.{AreParts-hop}
use Rattle.ioam_tunnel.specs.Enclosed.{direct_parts, room_of, tunnel_by, tunnel_of}
use Rattle.ioam_tunnel.specs.Wire.{IsTunnel, Tunnel, hop_parts, limit_after, no_elements, trace_part, trace_parts, wire}
use Rattle.ioam_tunnel.specs.declared.numbers.Numbers.{Numbers}

-- ---- the IOAM options of an enclosed packet

count_is : (packet : List ℕ) → option_count packet ≡ ioam_count (hop_options packet)
count_is packet = by_test (has_hop packet)
  where
    by_test : (b : Bool) → cond b (ioam_count (options_in (hop_head packet))) 0 ≡ ioam_count (cond b (options_in (hop_head packet)) [])
    by_test true = refl
    by_test false = refl

one_at_most : (b : Bool) → cond b 1 0 ≤ 1
one_at_most true = omega arith
one_at_most false = omega arith

few_items : (size : ℕ) (parts : List Part) → ioam_count (items_of size parts) ≤ length parts
few_items size [] = omega arith
few_items size (part ∷ parts) = omega (arith, one_at_most (is_ioam_type part.kind), few_items (behind_part size part) parts)

-- they are no more than the options that its entry node puts into the Hop-by-Hop header
count-few : (tunnel : Tunnel) → IsTunnel tunnel → option_count (wire tunnel 0 no_elements) ≤ length tunnel.traces + length tunnel.others
count-few tunnel is =
    let parts = hop_parts tunnel no_elements in
    let packet = wire tunnel 0 no_elements in
    omega (
      arith,
      count_is packet,
      ap ioam_count (hop_options-packet tunnel (limit_after tunnel 0) parts (AreParts-hop tunnel no_elements is.others)),
      few_items 2 parts,
      length-append (trace_parts tunnel.traces no_elements) tunnel.others,
      length-map tunnel.traces (λ room. trace_part room (no_elements room)),
    )

one_direct : (flow : Flow) (kind : Option ℕ) (seq : Option ℕ) → length (direct_parts flow kind seq) ≤ 1
one_direct flow (Some kind) (Some seq) = omega arith
one_direct flow (Some kind) None = omega arith
one_direct flow None seq = omega arith

-- what holds of all holds at a place
all_get : {X : Type 0} (P : X → Type 0) (xs : List X) (i : ℕ) (x : X) → AllByRecursion P xs → slice_get xs i ≡ Some x → P x
all_get P [] i x all there = absurd (cc there)
all_get P (y ∷ xs) zero x all there = subst P (ap (λ o. unwrap_or o x) there) all.0
all_get P (y ∷ xs) (suc i) x all there = all_get P xs i x all.1 there

-- at most three traces and one direct export
options-by : (domain : Domain) (found : Option Flow) (numbers : Numbers) (packet : List ℕ) → ((flow : Flow) → found ≡ Some flow → IsFlow flow)
    → length (tunnel_by domain found numbers packet).traces + length (tunnel_by domain found numbers packet).others ≤ 4
options-by domain None numbers packet sound = omega arith
options-by domain (Some flow) numbers packet sound =
    omega (arith, (sound flow refl).few_traces, length-map flow.traces room_of, one_direct flow flow.direct numbers.direct)

pub options-few : (domain : Domain) (id : FlowId) (numbers : Numbers) (packet octets : List ℕ) → IsTunnel (tunnel_of domain id numbers packet)
    → octets ≡ wire (tunnel_of domain id numbers packet) 0 no_elements → option_count octets ≤ 4
options-few domain id numbers packet octets is wired =
    let sound = recursion_from_All IsFlow (flows domain) domain.sound_flows.sound in
    omega (
      arith,
      ap option_count wired,
      count-few (tunnel_of domain id numbers packet) is,
      options-by domain (slice_get (flows domain) id.0) numbers packet (λ flow found. all_get IsFlow (flows domain) id.0 flow sound found),
    )

-- ---- what is asked for

one-more : (b : Bool) (size n m more : ℕ) → n ≡ size * m → more ≡ cond b 1 0 + m → cond b size 0 + n ≡ size * more
one-more true size n m more is next =
    let suc_is : suc m ≡ more = omega (arith, next) in
    let all : size + n ≡ size * suc m = omega (arith, is, mul-suc size m) in
    all ∙ ap (λ k. size * k) suc_is
one-more false size n m more is next =
    let same : m ≡ more = omega (arith, next) in
    let none : 0 + n ≡ size * m = omega (arith, is) in
    none ∙ ap (λ k. size * k) same

filled-count : {X : Type 0} (size : ℕ) (f : X → Bool) (xs : List X) → filled size (map f xs) ≡ size * count_by f xs
filled-count size f [] = omega arith
filled-count size f (x ∷ xs) = one-more (f x) size (filled size (map f xs)) (count_by f xs) (count_by f (x ∷ xs)) (filled-count size f xs)
    (sum_by-cons (λ y. cond (f y) 1 0) x xs)

-- a job has room for what its packet, the taps on its way and its IOAM options ask for
pub reserved-is : (domain : Domain) (job : Job) → taps_of job.crossings ≡ map (is_tapped domain) job.itinerary.visits
    → job.crossings.size ≡ length job.packet.items
    → job.room.spare + length job.room.notes ≡ spare_by job.itinerary.carried job.itinerary job.packet.items
    → reserved_of job ≡ asked_for domain job.itinerary job.packet.items
reserved-is domain job taps size given =
    let long = length job.packet.items in
    let filled_is : filled job.crossings.size (taps_of job.crossings) ≡ long * tap_count domain job.itinerary.visits =
    ap (λ n. filled n (taps_of job.crossings)) size ∙ ap (λ ts. filled long ts) taps ∙ filled-count long (is_tapped domain) job.itinerary.visits in
    omega (arith, filled_is, given)

pub reserved-fresh : (domain : Domain) (job : Job) → IsFresh domain job → reserved_of job ≡ asked_for domain job.itinerary job.packet.items
reserved-fresh domain job fresh = reserved-is domain job
    (taps-fresh domain job fresh) (sym fresh.size)
    (omega (arith, ap length fresh.notes, fresh.spare))

-- ---- how much that is

spare-few : (carried : Option (FlowId × Numbers)) (it : Itinerary) (packet : List ℕ) → length it.visits ≤ 256
    → (IsSome carried → option_count packet ≤ 4) → spare_by carried it packet ≤ 1024
spare-few None it packet few options = omega arith
spare-few (Some carried) it packet few options =
    let each : length it.visits * option_count packet ≤ length it.visits * 4 = mul-le-mul_left (length it.visits) (options refl) in
    omega (arith, each, few)

-- 257 packets of 65,575 octets, and 274 octets for each of four options at each of 256 visits
pub asked-most : (domain : Domain) (it : Itinerary) (packet : List ℕ) → length it.visits ≤ 256 → length packet ≤ 65575
    → (IsSome it.carried → option_count packet ≤ 4) → asked_for domain it packet ≤ 17 * 1048576
asked-most domain it packet few short options =
    let taps = tap_count domain it.visits in
    let tapped : taps ≤ 256 = omega (arith, few, count_by-le-length (is_tapped domain) it.visits) in
    let each : length packet * taps ≤ length packet * 256 = mul-le-mul_left (length packet) tapped in
    omega (arith, each, short, spare-few it.carried it packet few options)
