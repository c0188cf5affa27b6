-- Laws of what visits leave, one visit after the other.
use Rattle.std.proofs.Common.{◌≡◌, ℕ, zero, suc, ◌+◌, ◌-◌, ◌*◌, ◌<◌, ◌≤◌, Bool, false, List, [], ◌∷◌, ◌++◌, Option, None, length, get_or, map, set, drop, refl, sym, ap, ◌∙◌, arith, append_assoc, mul-le-mul_left}
use Rattle.std.proofs.lemmas.List.{length-map, map-append, get_or-set_same, set-set}
use Rattle.std.specs.Prelude.{slice_index, slice_set}
use Rattle.ioam_batch.specs.Crossings.{sent_if}
use Rattle.ioam_batch.specs.Ran.{Closed, Ran, Sent, crossed_at, exported_at, lowered_from, noted_at, passed, wired}
use Rattle.ioam_batch.specs.Taps.{is_tapped, taps_by}
use Rattle.ioam_batch.proofs.AlongLaws.{along-push}
use Rattle.ioam_clock.specs.declared.sample.Sample.{Sample}
use Rattle.ioam_dex.specs.Reads.{records_octets}
use Rattle.ioam_ip.specs.Lowered.{lowered}
use Rattle.ioam_plan.specs.declared.itinerary.Visit.{Visit}
use Rattle.ioam_topo.specs.declared.domain.Domain.{Domain}
use Rattle.ioam_tunnel.proofs.WireLaws.{limit-is}
use Rattle.ioam_tunnel.specs.Wire.{Tunnel, hop_parts, limit_after, no_elements, wire}
use Rattle.ioam_node_visit.proofs.VisitLaws.{wire-start}
use Rattle.ioam_node_visit.specs.Counted.{hop_notes}
use Rattle.ioam_node_visit.specs.Notes.{notes_of}
use Rattle.ioam_node_visit.specs.Room.{Room}
use Rattle.ioam_node_visit.specs.Visits.{closed_after, elements, tunnel_records, wire_after}

-- ---- an enclosed packet

module _ (domain : Domain) (readings : List (List Sample)) (tunnel : Tunnel) where
  -- what an entry node encloses is the packet before any visit
  pub starts : (packet : List ℕ) → packet ≡ wire tunnel 0 no_elements → packet ≡ wired domain readings tunnel []
  starts packet is =
      let same : limit_after tunnel 0 ≡ tunnel.hops = omega arith in
      is ∙ ap (λ n. packet_at n) same ∙ wire-start domain readings tunnel
    where
      packet_at : ℕ → List ℕ
      packet_at n = Rattle.ioam_tunnel.specs.Wire.packet_with tunnel n (hop_parts tunnel no_elements)

  -- its hop limit
  pub wire-limit : (visits : List Visit) → slice_index (wired domain readings tunnel visits) 7 ≡ tunnel.hops - (length visits - 1)
  unfolding wire_after
  wire-limit visits =
      limit-is tunnel (limit_after tunnel (length (map passed visits))) (hop_parts tunnel (elements domain readings tunnel (map passed visits)))
      ∙ ap (λ n. tunnel.hops - (n - 1)) (length-map visits passed)

  -- one visit more
  ran-more : (done : List Visit) (visit : Visit) (past past' : List (Option (List ℕ))) (room room' : Room) → Ran domain readings tunnel done past room
      → past' ≡ past ++ crossed_at domain readings tunnel done visit
      → room'.notes ≡ room.notes ++ noted_at domain readings tunnel done visit
      → room'.exports ≡ room.exports ++ exported_at domain readings tunnel done visit
      → Ran domain readings tunnel (done ++ visit ∷ []) past' room'
  ran-more done visit past past' room room' so crossed noted exported = record {
    past_is = crossed ∙ ap (λ xs. xs ++ crossed_at domain readings tunnel done visit) so.past_is
        ∙ sym (along-push (crossed_at domain readings tunnel) [] done visit);
    notes_are = noted ∙ ap (λ xs. xs ++ noted_at domain readings tunnel done visit) so.notes_are
        ∙ sym (along-push (noted_at domain readings tunnel) [] done visit);
    exports_are = exported ∙ ap (λ xs. xs ++ exported_at domain readings tunnel done visit) so.exports_are
        ∙ sym (along-push (exported_at domain readings tunnel) [] done visit);
  }

  -- the notes, by the hop limit that is recorded
  notes-at : (done : List Visit) (visit : Visit) (packet : List ℕ) (limit : ℕ) → packet ≡ wired domain readings tunnel done
      → limit ≡ tunnel.hops - length done
      → hop_notes (notes_of domain readings visit.place visit.time limit) packet ≡ noted_at domain readings tunnel done visit
  notes-at done visit packet limit is limited =
      ap (λ n. hop_notes (notes_of domain readings visit.place visit.time n) packet) limited
      ∙ ap (λ xs. hop_notes (notes_of domain readings visit.place visit.time (tunnel.hops - length done)) xs) is

  pub enters : (visit : Visit) (packet packet' : List ℕ) (past past' : List (Option (List ℕ))) (room room' : Room) (tap : Bool)
      → Sent domain readings tunnel [] packet past room
      → packet' ≡ wire_after domain readings tunnel (passed visit ∷ [])
      → past' ≡ past ++ sent_if tap packet' ∷ []
      → tap ≡ is_tapped domain visit
      → room'.notes ≡ room.notes ++ hop_notes (notes_of domain readings visit.place visit.time (slice_index packet 7)) packet
      → room'.exports ≡ room.exports ++ records_octets (tunnel_records domain readings tunnel 0 (passed visit))
      → Sent domain readings tunnel (visit ∷ []) packet' past' room'
  enters visit packet packet' past past' room room' tap so is crossed tapped noted exported =
      let limit : slice_index packet 7 ≡ tunnel.hops - 0 = omega (arith, ap (λ xs. slice_index xs 7) so.packet_is, wire-limit []) in
      record {
        packet_is = is;
        ran = ran-more [] visit past past' room room' so.ran
            (crossed ∙ ap (λ t. past ++ sent_if t packet' ∷ []) tapped ∙ ap (λ xs. past ++ sent_if (is_tapped domain visit) xs ∷ []) is)
            (noted ∙ ap (λ xs. room.notes ++ xs) (notes-at [] visit packet (slice_index packet 7) so.packet_is limit))
            exported;
      }

  pub passes : (done : List Visit) (visit : Visit) (packet packet' : List ℕ) (past past' : List (Option (List ℕ))) (room room' : Room) (tap : Bool)
      → 1 ≤ length done
      → Sent domain readings tunnel done packet past room
      → packet' ≡ wire_after domain readings tunnel (map passed done ++ passed visit ∷ [])
      → past' ≡ past ++ sent_if tap packet' ∷ []
      → tap ≡ is_tapped domain visit
      → room'.notes ≡ room.notes ++ hop_notes (notes_of domain readings visit.place visit.time (slice_index packet 7 - 1)) packet
      → room'.exports ≡ room.exports ++ records_octets (tunnel_records domain readings tunnel (length (map passed done)) (passed visit))
      → Sent domain readings tunnel (done ++ visit ∷ []) packet' past' room'
  passes done visit packet packet' past past' room room' tap some so is crossed tapped noted exported =
      let limit : slice_index packet 7 - 1 ≡ tunnel.hops - length done = omega (arith, some, ap (λ xs. slice_index xs 7) so.packet_is, wire-limit done) in
      let left : packet' ≡ wired domain readings tunnel (done ++ visit ∷ []) =
      is ∙ ap (λ xs. wire_after domain readings tunnel xs) (sym (map-append passed done (visit ∷ []))) in
      record {
        packet_is = left;
        ran = ran-more done visit past past' room room' so.ran
            (crossed ∙ ap (λ t. past ++ sent_if t packet' ∷ []) tapped ∙ ap (λ xs. past ++ sent_if (is_tapped domain visit) xs ∷ []) left)
            (noted ∙ ap (λ xs. room.notes ++ xs) (notes-at done visit packet (slice_index packet 7 - 1) so.packet_is limit))
            (exported ∙ ap (λ n. room.exports ++ records_octets (tunnel_records domain readings tunnel n (passed visit))) (length-map done passed));
      }

  pub closes : (done : List Visit) (visit : Visit) (packet packet' : List ℕ) (past past' : List (Option (List ℕ))) (room room' : Room) (tap : Bool)
      → 1 ≤ length done
      → visit.way ≡ None
      → Sent domain readings tunnel done packet past room
      → packet' ≡ closed_after domain readings tunnel (map passed done) (passed visit)
      → past' ≡ past ++ sent_if tap packet' ∷ []
      → tap ≡ is_tapped domain visit
      → room'.notes ≡ room.notes ++ hop_notes (notes_of domain readings visit.place visit.time (slice_index packet 7 - 1)) packet
      → room'.exports ≡ room.exports ++ records_octets (tunnel_records domain readings tunnel (length (map passed done)) (passed visit))
      → Closed domain readings tunnel done visit packet' past' room'
  closes done visit packet packet' past past' room room' tap some stays so is crossed tapped noted exported =
      let limit : slice_index packet 7 - 1 ≡ tunnel.hops - length done = omega (arith, some, ap (λ xs. slice_index xs 7) so.packet_is, wire-limit done) in
      let none : is_tapped domain visit ≡ false = ap (taps_by domain) stays in
      record {
        packet_is = is;
        ran = ran-more done visit past past' room room' so.ran
            (crossed ∙ ap (λ t. past ++ sent_if t packet' ∷ []) (tapped ∙ none)
            ∙ sym (ap (λ t. past ++ sent_if t (wired domain readings tunnel (done ++ visit ∷ [])) ∷ []) none))
            (noted ∙ ap (λ xs. room.notes ++ xs) (notes-at done visit packet (slice_index packet 7 - 1) so.packet_is limit))
            (exported ∙ ap (λ n. room.exports ++ records_octets (tunnel_records domain readings tunnel n (passed visit))) (length-map done passed));
      }

-- ---- taps and room on the way

-- whether the next visit sends on a link with a tap
pub tap-at : {X : Type 0} (f : X → Bool) (xs : List X) (i : ℕ) (d : X) → i < length xs → get_or (drop i (map f xs)) 0 false ≡ f (get_or xs i d)
tap-at f [] i d inside = absurd (omega (arith, inside))
tap-at f (x ∷ xs) zero d inside = refl
tap-at f (x ∷ xs) (suc i) d inside = tap-at f xs i d (omega (arith, inside))

-- one visit more has room
pub room-left : (i count options given spare : ℕ) → i < count → count * options ≤ given → given ≤ spare + i * options → options ≤ spare
room-left i count options given spare before fits left =
    let more : options * (i + 1) ≤ options * count = mul-le-mul_left options (omega (arith, before)) in
    omega (arith, more, fits, left)

-- ---- a packet that isn't enclosed

pub inside-index : (xs : List ℕ) (i : ℕ) → 1 ≤ slice_index xs i → i < length xs
inside-index [] i some = absurd (omega (arith, some))
inside-index (x ∷ xs) zero some = omega arith
inside-index (x ∷ xs) (suc i) some = omega (arith, inside-index xs i some)

pub lowered-more : (first packet : List ℕ) (count : ℕ) → 7 < length first → packet ≡ lowered count first
    → slice_set packet 7 (slice_index packet 7 - 1) ≡ lowered (count + 1) first
lowered-more first packet count long is =
    let limit : slice_index packet 7 ≡ slice_index first 7 - count =
    ap (λ xs. slice_index xs 7) is ∙ get_or-set_same first 7 (slice_index first 7 - count) 0 long in
    let less : slice_index packet 7 - 1 ≡ slice_index first 7 - (count + 1) = omega (arith, limit) in
    ap (λ n. set packet 7 n) less ∙ ap (λ xs. set xs 7 (slice_index first 7 - (count + 1))) is ∙ set-set first 7 (slice_index first 7 - count) (slice_index first 7 - (count + 1))

pub lowered_from-next : (first : List ℕ) (count : ℕ) (taps : List Bool) → 0 < length taps
    → lowered_from first count taps ≡ sent_if (get_or taps 0 false) (lowered (count + 1) first) ∷ lowered_from first (count + 1) (drop 1 taps)
lowered_from-next first count [] some = absurd (omega (arith, some))
lowered_from-next first count (tap ∷ taps) some = refl

-- one visit more
pub lower-past : (first packet : List ℕ) (count : ℕ) (past past' : List (Option (List ℕ))) (ahead ahead' : List Bool)
    → past' ≡ past ++ sent_if (get_or ahead 0 false) packet ∷ [] → ahead' ≡ drop 1 ahead → packet ≡ lowered (count + 1) first → 0 < length ahead
    → past' ++ lowered_from first (count + 1) ahead' ≡ past ++ lowered_from first count ahead
lower-past first packet count past past' ahead ahead' crossed left is some =
    let next = sent_if (get_or ahead 0 false) (lowered (count + 1) first) in
    ap (λ xs. xs ++ lowered_from first (count + 1) ahead') crossed
    ∙ ap (λ xs. (past ++ sent_if (get_or ahead 0 false) xs ∷ []) ++ lowered_from first (count + 1) ahead') is
    ∙ append_assoc past (next ∷ []) (lowered_from first (count + 1) ahead')
    ∙ ap (λ ts. past ++ (next ∷ lowered_from first (count + 1) ts)) left
    ∙ ap (λ xs. past ++ xs) (sym (lowered_from-next first count ahead some))
