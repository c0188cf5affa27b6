-- What a reader stands for after a piece or a step.
use Rattle.std.proofs.Common.{◌≡◌, ℕ, ◌+◌, ◌-◌, ◌<◌, ◌≤◌, List, [], ◌∷◌, ◌++◌, length, take, drop, Option, Some, None, arith, refl, sym, ap, ◌∙◌, subst, inl, length-append, length-drop, length-take, ◌^◌}
use Rattle.std.proofs.lemmas.List.{append-nil, take-take}
use Rattle.ioam_base.specs.Fed.{Kept, passed, with_piece}
use Rattle.ioam_base.proofs.FedLaws.{last_taken, passed_held}
use Rattle.ioam_ng.specs.Front.{Known}
use Rattle.ioam_base.proofs.LeadsLaws.{Leads-push, Leads-append}
use Rattle.ioam_pcap.specs.declared.capture.CapFault.{CapFault}
use Rattle.ioam_ng.specs.declared.reader.NgStep.{NgStep}
use Rattle.ioam_ng.specs.declared.reader.NgStep.TheVariants.{More, Bad, NoMemory}
use Rattle.ioam_pcap.specs.declared.form.Order.{Order}
use Rattle.ioam_ng.specs.declared.face.Face.{Face}
use Rattle.ioam_ng.specs.declared.block.Block.{Block}
use Rattle.ioam_ng.specs.declared.block.PacketHead.{PacketHead}
use Rattle.ioam_ng.specs.declared.block.Content.TheVariants as content
use Rattle.ioam_ng.specs.BlockSteps.{taken_of}
use Rattle.ioam_ng.specs.Blocks.{Place, CanPass, packet_there, behind, Blocks, packets, front, size}
use Rattle.ioam_pcap.specs.Entries.{Taken}
use Rattle.ioam_ng.specs.Reading.{Reading, place_of, fed, held}
use Rattle.ioam_pcap.specs.Ending.{Faulty}
use Rattle.ioam_ng.specs.Reads.{Reads, CapNg}
use Rattle.ioam_ng.specs.Reader.{StandsBehind, Stands, Skips, Waits, HoldsFew, IsFaulty, IsPlain, IsFace, HasPacket, Rested, Told, SaysFault, SaysPacket, EndsFaulty, IsMoved, IsPacket, moved_by, faces_with}
use Rattle.ioam_ng.proofs.ReadsLaws.{with_more, Blocks-behind, HasFault-behind, fault_stops, cut_stops, cut_sound, fault_unique, Reads-unique}

pub packets-append : (xs ys : List (Option Taken)) → packets (xs ++ ys) ≡ packets xs ++ packets ys
packets-append [] ys = refl
packets-append (None ∷ xs) ys = packets-append xs ys
packets-append (Some x ∷ xs) ys = ap (λ rest. x ∷ rest) (packets-append xs ys)

-- a piece more
pub Stands-feed : (reader : Reading) (piece octets : List ℕ) (taken : List Taken) → Stands reader octets taken
    → Stands (record reader { pending = reader.pending ++ piece; given = 0 }) (octets ++ piece) taken
Stands-feed reader piece octets taken stands = record {
  blocks = stands.blocks;
  leads = Blocks-behind piece (front octets) stands.blocks (place_of reader) stands.leads;
  given = stands.given;
  inside = omega (arith, stands.inside, length-append reader.pending piece, length-append octets piece);
}

pub Skips-push : (old mid new : Reading) → Skips old mid → IsPlain mid → place_of new ≡ behind (place_of mid) → fed new ≡ fed mid → held new ≡ held mid → Skips old new
Skips-push old mid new skips plain next same kept =
    let pushed = Leads-push CanPass packet_there behind (place_of old) skips.blocks (place_of mid) skips.leads plain.0 in
    let blocks = skips.blocks ++ packet_there (place_of mid) ∷ [] in
    let Q : Place → Type 0 = λ p. Blocks (place_of old) blocks p in
    let last : packets (packet_there (place_of mid) ∷ []) ≡ [] = ap (λ x. packets (x ∷ [])) plain.1 in
    record {
      blocks = blocks;
      leads = subst Q (sym next) pushed;
      none = packets-append skips.blocks (packet_there (place_of mid) ∷ []) ∙ (λ i. skips.none i ++ last i);
      fed = same ∙ skips.fed;
      still = λ none. absurd (omega (arith, ap length none, length-append skips.blocks (packet_there (place_of mid) ∷ [])));
      held = kept ∙ skips.held;
    }

pub Stands-skips : (old new : Reading) → Skips old new → (octets : List ℕ) (taken : List Taken) → Stands old octets taken → Stands new octets taken
Stands-skips old new skips octets taken stands = record {
  blocks = stands.blocks ++ skips.blocks;
  leads = Leads-append CanPass packet_there behind (front octets) stands.blocks (place_of old) skips.blocks (place_of new) stands.leads skips.leads;
  given = sym (packets-append stands.blocks skips.blocks ∙ ap (λ xs. packets stands.blocks ++ xs) skips.none ∙ append-nil (packets stands.blocks) ∙ sym stands.given);
  inside = skips.fed ∙ stands.inside;
}

-- a packet was taken
pub Stands-packet : (mid new : Reading) (packet : Taken) → CanPass (place_of mid) → packet_there (place_of mid) ≡ Some packet
    → place_of new ≡ behind (place_of mid) → fed new ≡ fed mid → (octets : List ℕ) (taken : List Taken) → Stands mid octets taken
    → Stands new octets (taken ++ packet ∷ [])
Stands-packet mid new packet pass there next same octets taken stands =
    let pushed = Leads-push CanPass packet_there behind (front octets) stands.blocks (place_of mid) stands.leads pass in
    let blocks = stands.blocks ++ packet_there (place_of mid) ∷ [] in
    let Q : Place → Type 0 = λ p. Blocks (front octets) blocks p in
    let last : packets (packet_there (place_of mid) ∷ []) ≡ packet ∷ [] = ap (λ x. packets (x ∷ [])) there in
    record {
      blocks = blocks;
      leads = subst Q (sym next) pushed;
      given = sym (packets-append stands.blocks (packet_there (place_of mid) ∷ []) ∙ (λ i. (sym stands.given) i ++ last i));
      inside = same ∙ stands.inside;
    }

-- exactly blocks and a rest
cap_by : (reader : Reading) (octets : List ℕ) (taken : List Taken) → Stands reader octets taken → (CanPass (place_of reader) → ⊥) → CapNg octets taken reader.pending
cap_by reader octets taken stands stops = record { known = reader.known; blocks = stands.blocks; leads = stands.leads; given = stands.given; stops = stops }

-- a fault ends the capture, whatever is fed
pub ends_faulty : (reader : Reading) (octets : List ℕ) (taken : List Taken) (f : CapFault) → Stands reader octets taken → IsFaulty reader f → EndsFaulty octets taken reader.start f
ends_faulty reader octets taken f stands bad = (all, λ more others end reads. Reads-unique (octets ++ more) others taken end (Faulty reader.start f) reads (all more))
  where
    all : (more : List ℕ) → Reads (octets ++ more) taken (Faulty reader.start f)
    all more = record {
      place = with_more more (place_of reader);
      blocks = stands.blocks;
      leads = Blocks-behind more (front octets) stands.blocks (place_of reader) stands.leads;
      given = stands.given;
      ends = (omega (arith, stands.inside, length-append reader.pending more, length-append octets more), inl (HasFault-behind more (place_of reader) f bad));
    }

-- no octets come to those that are pending
Blocks-kept : (p : Place) (blocks : List (Option Taken)) (q : Place) → Blocks p blocks q → length q.octets ≤ length p.octets
Blocks-kept p [] q here = omega (arith, ap (λ r. length r.octets) here)
Blocks-kept p (x ∷ xs) q leads = omega (arith, Blocks-kept (behind p) xs q leads.2, length-drop (size p.known p.octets) p.octets)

pub Skips-kept : (old mid : Reading) → Skips old mid → length mid.pending ≤ length old.pending
Skips-kept old mid skips = Blocks-kept (place_of old) skips.blocks (place_of mid) skips.leads

module _ (old mid : Reading) (skips : Skips old mid) where
  unmoved : place_of old ≡ place_of mid → mid.given ≡ old.given → mid ≡ old
  unmoved here still =
      let starts : mid.start ≡ old.start = omega (arith, skips.fed, ap (λ p. length p.octets) here) in
      λ i. record { known = (sym here i).known; start = starts i; pending = (sym here i).octets; given = still i }

  -- where what is due has a fault no block is passed
  pub skips_fault : (f : CapFault) → IsFaulty old f → mid ≡ old
  skips_fault f bad = by skips.blocks refl skips.leads
    where
      by : (blocks : List (Option Taken)) → skips.blocks ≡ blocks → Blocks (place_of old) blocks (place_of mid) → mid ≡ old
      by [] is here = unmoved here (skips.still is)
      by (x ∷ xs) is leads = absurd (fault_stops (place_of old) f bad leads.0)

  -- nor where it has a packet
  skips_packet : (packet : Taken) → HasPacket old packet → mid ≡ old
  skips_packet packet has = by skips.blocks refl skips.leads skips.none
    where
      by : (blocks : List (Option Taken)) → skips.blocks ≡ blocks → Blocks (place_of old) blocks (place_of mid) → packets blocks ≡ [] → mid ≡ old
      by [] is here none = unmoved here (skips.still is)
      by (x ∷ xs) is leads none =
          let some : ◌≡◌ {A = List Taken} (packet ∷ packets xs) [] = sym (ap (λ y. packets (y ∷ xs)) (leads.1 ∙ has.1)) ∙ none in
          absurd (cc)

  -- then it is due behind them too
  pub packet_due : (packet : Taken) → HasPacket old packet → HasPacket mid packet
  packet_due packet has = let Q : Reading → Type 0 = λ r. HasPacket r packet in subst Q (sym (skips_packet packet has)) has

module _ (old mid new : Reading) (skips : Skips old mid) where
  -- what a step tells that has no packet
  abbrev pub Tells : NgStep → Type 0
  Tells step = Rested new step × (fed new ≡ fed old) × (length new.pending ≤ length old.pending)
      × ((octets : List ℕ) (taken : List Taken) → Stands old octets taken → Told octets taken new step) × SaysFault old new step × SaysPacket old step × StandsBehind old new step
      × (held new ≡ held old)

  module _ (same : new ≡ mid) where
    fed_same : fed new ≡ fed old
    fed_same = ap fed same ∙ skips.fed

    stood : (octets : List ℕ) (taken : List Taken) → Stands old octets taken → Stands new octets (taken ++ [])
    stood octets taken stands =
        let Q : Reading → Type 0 = λ r. Stands r octets taken in
        let R : List Taken → Type 0 = λ xs. Stands new octets xs in
        subst R (sym (append-nil taken)) (subst Q (sym same) (Stands-skips old mid skips octets taken stands))

    held_same : held new ≡ held old
    held_same = ap held same ∙ skips.held

    kept : length new.pending ≤ length old.pending
    kept = omega (arith, Skips-kept old mid skips, ap (λ r. length r.pending) same)

    skipped : Skips old new
    skipped = let Q : Reading → Type 0 = λ r. Skips old r in subst Q (sym same) skips

    unended : (f : CapFault) → IsFaulty old f → IsFaulty mid f
    unended f bad = let Q : Reading → Type 0 = λ r. IsFaulty r f in subst Q (sym (skips_fault old mid skips f bad)) bad

    pub tells_more : Waits mid → HoldsFew mid → Tells More
    tells_more waits few =
        let Q : Reading → Type 0 = λ r. Waits r × HoldsFew r in
        let rested = subst Q (sym same) (waits, few) in (
          rested,
          fed_same,
          kept,
          λ octets taken stands. (
            stood octets taken stands,
            let R : List Taken → Type 0 = λ xs. CapNg octets xs new.pending in
                subst R (append-nil taken) (cap_by new octets (taken ++ []) (stood octets taken stands) (cut_stops (place_of new) rested.0)),
          ),
          λ f bad. absurd (cut_sound (place_of mid) f waits (unended f bad)),
          λ packet has. absurd (cut_stops (place_of mid) waits (packet_due old mid skips packet has).0),
          skipped,
          held_same,
        )

    pub tells_bad : (at : ℕ) (f : CapFault) → at ≡ mid.start → IsFaulty mid f → Tells (Bad at f)
    tells_bad at f here bad =
        let Q : Reading → Type 0 = λ r. (at ≡ r.start) × IsFaulty r f in
        let rested = subst Q (sym same) (here, bad) in (
          rested,
          fed_same,
          kept,
          λ octets taken stands. (
            stood octets taken stands,
            let R : List Taken → Type 0 = λ xs. CapNg octets xs new.pending × EndsFaulty octets xs at f in
                let S : ℕ → Type 0 = λ n. EndsFaulty octets (taken ++ []) n f in
                subst R (append-nil taken) (
                  cap_by new octets (taken ++ []) (stood octets taken stands) (fault_stops (place_of new) f rested.1),
                  subst S (sym rested.0) (ends_faulty new octets (taken ++ []) f (stood octets taken stands) rested.1),
                ),
          ),
          λ g worse.
              let still = skips_fault old mid skips g worse in
              let faults = fault_unique (place_of mid) f g bad (unended g worse) in
              let places : at ≡ old.start = here ∙ ap (λ r. r.start) still in
              (λ i. Bad (places i) (faults i), same ∙ still),
          λ packet has. absurd (fault_stops (place_of mid) f bad (packet_due old mid skips packet has).0),
          skipped,
          held_same,
        )

    pub tells_memory : IsFace mid → Tells NoMemory
    tells_memory plain =
        let Q : Reading → Type 0 = λ r. IsFace r in (
          subst Q (sym same) plain,
          fed_same,
          kept,
          λ octets taken stands. (stood octets taken stands, tt),
          λ f bad. absurd (fault_stops (place_of mid) f (unended f bad) plain.0.0),
          λ packet has.
              let wrong : ◌≡◌ {A = Option Taken} None (Some packet) = sym plain.0.1 ∙ (packet_due old mid skips packet has).1 in
              absurd (cc),
          skipped,
          held_same,
        )

-- ---- a packet

-- the octets of a packet, as the last that were taken
pub octets_of_packet : (held new : Kept) (size captured : ℕ) → new ≡ passed size held → size ≤ length held.pending → 32 + captured ≤ size
    → take captured (drop (length new.given - (size - 28)) new.given) ≡ take captured (drop 28 held.pending)
octets_of_packet held new size captured taken fits few =
    let front : size - (size - 28) ≡ 28 = omega arith in
    let last = ap (λ k. drop (length k.given - (size - 28)) k.given) taken ∙ last_taken held size (size - 28) fits (omega arith)
    ∙ ap (λ n. take (size - 28) (drop n held.pending)) front in
    ap (take captured) last ∙ take-take captured (size - 28) (drop 28 held.pending) (omega arith)

-- the reader's value where a piece more was fed
pub fed_with : (held new : Kept) (known : Known) (old : Reading) (piece : List ℕ)
    → ◌≡◌ {A = Reading} (record { known = known; start = held.start; pending = held.pending; given = length held.given }) old → new ≡ with_piece piece held
    → ◌≡◌ {A = Reading} (record old { pending = old.pending ++ piece; given = 0 }) (record { known = known; start = new.start; pending = new.pending; given = length new.given })
fed_with held new known old piece view fed =
    sym (ap (λ (k : Kept). record { known = known; start = k.start; pending = k.pending; given = length k.given }) fed ∙ ap (λ (r : Reading). record r { pending = r.pending ++ piece; given = 0 }) view)

-- and behind the block of a packet
pub moved_packet : (held new : Kept) (count : ℕ) (order : Option Order) (faces : List Face) (mid : Reading) (b : Block) (head : PacketHead)
    → ◌≡◌ {A = Reading} (record { known = record { count = count; order = order; faces = faces }; start = held.start; pending = held.pending; given = length held.given }) mid
    → b.content ≡ content.Packet head → new ≡ passed b.size held
    → ◌≡◌ {A = Reading} (record { known = record { count = count + 1; order = Some b.order; faces = faces }; start = new.start; pending = new.pending; given = length new.given })
    (record (moved_by mid b) { given = length new.given })
moved_packet held new count order faces mid b head view is taken =
    let same : faces ≡ faces_with mid.known.faces b.content = ap (λ r. r.known.faces) view ∙ sym (ap (faces_with mid.known.faces) is) in
    ap (λ (k : Kept). record { known = record { count = count + 1; order = Some b.order; faces = faces }; start = k.start; pending = k.pending; given = length new.given }) taken
    ∙ (λ i. record {
      known = record { count = (view i).known.count + 1; order = Some b.order; faces = same i };
      start = (view i).start + b.size;
      pending = drop b.size (view i).pending;
      given = length new.given;
    })

-- as many octets are kept then
pub held_kept : (kept new : Kept) (known : Known) (mid : Reading) (size : ℕ)
    → ◌≡◌ {A = Reading} (record { known = known; start = kept.start; pending = kept.pending; given = length kept.given }) mid
    → new ≡ passed size kept → size ≤ length kept.pending → length new.given + length new.pending ≡ held mid
held_kept kept new known mid size view taken fits =
    ap (λ (k : Kept). length k.given + length k.pending) taken ∙ passed_held kept size fits ∙ ap (λ (r : Reading). held r) view

-- what a step tells that has a packet
pub packet_told : (old mid new : Reading) → Skips old mid → (b : Block) (head : PacketHead) → IsPacket mid b (content.Packet head) → IsMoved mid b new → held new ≡ held mid
    → (octets : List ℕ) → octets ≡ take head.captured (drop 28 mid.pending)
    → ((head.time < 2 ^ 62) × (length octets ≤ 262144)) × (fed new ≡ fed old) × (length new.pending ≤ length old.pending)
    × ((all : List ℕ) (taken : List Taken) → Stands old all taken → Stands new all (taken ++ taken_of head octets ∷ []))
    × ((step : NgStep) → SaysFault old new step)
    × ((packet : Taken) → HasPacket old packet → taken_of head octets ∷ [] ≡ packet ∷ [])
    × ((before : Reading) × Skips old before × HasPacket before (taken_of head octets) × (place_of new ≡ behind (place_of before)))
    × (held new ≡ held old)
packet_told old mid new skips b head is moved kept octets shown =
    let same : fed new ≡ fed mid = ap fed moved ∙ (omega (arith, is.3, length-drop b.size mid.pending)) in
    let there = is.1 ∙ ap (λ xs. Some (taken_of head xs)) (sym shown) in (
      (is.6, omega (arith, is.5, ap length shown, length-take head.captured (drop 28 mid.pending))),
      same ∙ skips.fed,
      omega (arith, Skips-kept old mid skips, ap (λ r. length r.pending) moved, length-drop b.size mid.pending),
      λ all taken stands. Stands-packet mid new (taken_of head octets) is.0 there (ap place_of moved ∙ is.2) same all taken (Stands-skips old mid skips all taken stands),
      λ step f bad.
          let Q : Reading → Type 0 = λ r. IsFaulty r f in
          absurd (fault_stops (place_of mid) f (subst Q (sym (skips_fault old mid skips f bad)) bad) is.0),
      λ packet has.
          let both : ◌≡◌ {A = Option Taken} (Some (taken_of head octets)) (Some packet) = sym there ∙ (packet_due old mid skips packet has).1 in
          ap (λ x. x ∷ []) (cc),
      (mid, skips, (is.0, there), ap place_of moved ∙ is.2),
      kept ∙ skips.held,
    )
