-- What a step of a form's reader leaves of a reader of either form.
use Rattle.std.proofs.Common.{◌≡◌, ℕ, ◌≤◌, List, [], ◌∷◌, ◌++◌, length, Option, Some, None, arith, refl, sym, ap, ◌∙◌, subst, inl, inr}
use Rattle.std.specs.Prelude.{⊤, map}
use Rattle.std.proofs.lemmas.List.{append-nil, map-append}
use Rattle.ioam_pcap.specs.declared.capture.CapFault.{CapFault}
use Rattle.ioam_pcap.specs.declared.capture.CapStep.{CapStep}
use Rattle.ioam_pcap.specs.declared.capture.CapStep.TheVariants as cap
use Rattle.ioam_pcap.specs.declared.capture.Packet as packet
use Rattle.ioam_ip.specs.declared.layer.Layer.{Layer}
use Rattle.ioam_pcap.specs.Ending.{Faulty}
use Rattle.ioam_pcap.specs.Entries.{Entry, Taken}
use Rattle.ioam_pcap.specs.Reads.{link_by}
use Rattle.ioam_pcap.specs.Reading as classic_reading
use Rattle.ioam_pcap.specs.Reader as classic
use Rattle.ioam_pcap.proofs.StandsLaws.{front_pending}
use Rattle.ioam_ng.specs.declared.reader.NgStep.{NgStep}
use Rattle.ioam_ng.specs.declared.reader.NgStep.TheVariants as ng_step
use Rattle.ioam_ng.specs.Reading as ng_reading
use Rattle.ioam_ng.specs.Reader as ng
use Rattle.ioam_capture.specs.declared.reader.Step.{Step}
use Rattle.ioam_capture.specs.declared.reader.Step.TheVariants.{Packet, More, Bad, NoMemory}
use Rattle.ioam_capture.specs.Reading.{Reading, Classic, Ng, pending, fed, held, HoldsFew}
use Rattle.ioam_capture.specs.Reads.{of_link, Reads}
use Rattle.ioam_capture.specs.Reader.{Stands, Waits, HasFault, IsFace, KeepsOn, Leaves, taken_of}
use Rattle.ioam_capture.proofs.ReadsLaws.{IsNg-behind, not_ng-behind, Reads-unique}
use Rattle.ioam_capture.proofs.StandsLaws.{Stands-shows}

-- ---- of either form

-- memory was wanted by `NoMemory` alone
abbrev pub WantsNone : Step → Type 0
WantsNone (Packet link p) = ⊤
WantsNone More = ⊤
WantsNone (Bad at f) = ⊤
WantsNone NoMemory = ⊥

pub wants_none : (step : Step) → WantsNone step → step ≡ NoMemory → ⊥
wants_none step none same = subst WantsNone same none

module _ (old new : Reading) (same : fed new ≡ fed old) (less : length (pending new) ≤ length (pending old)) (kept : held new ≡ held old) where
  nothing_more : (octets : List ℕ) (taken : List Taken) → Stands new octets taken → Stands new octets (taken ++ [])
  nothing_more octets taken stands = subst (Stands new octets) (sym (append-nil taken)) stands

  leaves_more : KeepsOn old new → Waits new → HoldsFew new → Leaves old new More
  leaves_more keeps waits few = (
    (waits, few),
    same,
    less,
    λ octets taken stands.
        let stood = keeps octets taken stands in
        (nothing_more octets taken stood, Stands-shows new octets taken stood waits),
    kept,
  )

  leaves_bad : KeepsOn old new → (at : ℕ) (f : CapFault) → HasFault new at f → ((octets : List ℕ) (taken : List Taken) → Stands old octets taken → (more : List ℕ) → Reads (octets ++ more) taken (Faulty at f))
      → Leaves old new (Bad at f)
  leaves_bad keeps at f has faulty = (
    has,
    same,
    less,
    λ octets taken stands.
        let reads = faulty octets taken stands in (
          nothing_more octets taken (keeps octets taken stands),
          (reads, λ more others end others_read. Reads-unique (octets ++ more) others taken end (Faulty at f) others_read (reads more)),
        ),
    kept,
  )

  leaves_no_memory : KeepsOn old new → IsFace new → Leaves old new NoMemory
  leaves_no_memory keeps face = (face, same, less, (λ octets taken stands. (nothing_more octets taken (keeps octets taken stands), tt)), kept)

  -- what stands before the record was passed first
  pub leaves_after : KeepsOn old new → (last : Reading) (step : Step) → Leaves new last step → Leaves old last step
  leaves_after keeps last step leaves = (leaves.0, leaves.1 ∙ same, omega (arith, leaves.2, less), (λ octets taken stands. leaves.3 octets taken (keeps octets taken stands)), leaves.4 ∙ kept)

-- a reader that changes nothing
keeps_same : (old new : Reading) → new ≡ old → KeepsOn old new
keeps_same old new same octets taken stands = subst (λ r. Stands r octets taken) (sym same) stands

pub leaves_waiting : (old new : Reading) → new ≡ old → Waits old → HoldsFew old → Leaves old new More
leaves_waiting old new same waits few =
    let Q : Reading → Type 0 = λ r. Waits r × HoldsFew r in
    let there = subst Q (sym same) (waits, few) in
    leaves_more old new (ap fed same) (omega (arith, ap (λ r. length (pending r)) same)) (ap held same) (keeps_same old new same) there.0 there.1

-- ---- of the classic form

-- with a record more
with_record : (link : Layer) (entries : List Entry) (e : Entry) (taken : List Taken) (old new : Option Layer) → old ≡ Some link → new ≡ old → taken ≡ of_link old entries
    → taken ++ record { link = link; entry = e } ∷ [] ≡ of_link new (entries ++ e ∷ [])
with_record link entries e taken old new linked same is =
    let with_link : Entry → Taken = λ entry. record { link = link; entry = entry } in
    let front : taken ≡ map with_link entries = is ∙ ap (λ l. of_link l entries) linked in
    ap (λ xs. xs ++ record { link = link; entry = e } ∷ []) front ∙ sym (map-append with_link entries (e ∷ []))
    ∙ ap (λ l. of_link l (entries ++ e ∷ [])) (sym (same ∙ linked))

module _ (old new : classic_reading.Reading) where
  abbrev pub Tells : CapStep → Type 0
  Tells step = (octets : List ℕ) (entries : List Entry) → classic.Stands old octets entries → classic.Told octets entries old new step

  classic_kept : new ≡ old → KeepsOn (Classic old) (Classic new)
  classic_kept same = keeps_same (Classic old) (Classic new) (ap Classic same)

  pub classic_packet : (link : Layer) → classic.link_of old ≡ Some link → (p : packet.Packet) → classic.Moved old new (cap.Packet p) → Tells (cap.Packet p) → classic.held new ≡ classic.held old
      → Leaves (Classic old) (Classic new) (Packet link p)
  classic_packet link linked p moved tells kept = (
    (moved.4, moved.6),
    omega (arith, moved.1, moved.3),
    omega (arith, moved.3),
    λ octets taken stands.
        let (entries, stood, is) = stands.2 in
        let told = tells octets entries stood in
        let all : taken ++ taken_of link p ∷ [] ≡ of_link (classic.link_of new) (entries ++ classic.entry_of p ∷ []) =
        with_record link entries (classic.entry_of p) taken (classic.link_of old) (classic.link_of new) linked (ap link_by moved.0) is in
        ((stands.0, stands.1, (entries ++ classic.entry_of p ∷ [], told.1, all)), tt),
    kept,
  )

  pub classic_more : classic.Moved old new cap.More → Leaves (Classic old) (Classic new) More
  classic_more moved = leaves_waiting (Classic old) (Classic new) (ap Classic moved.0) moved.1 moved.2

  pub classic_bad : (at : ℕ) (f : CapFault) → classic.Moved old new (cap.Bad at f) → Tells (cap.Bad at f) → Leaves (Classic old) (Classic new) (Bad at f)
  classic_bad at f moved tells =
      let same : Classic new ≡ Classic old = ap Classic moved.0 in
      let Q : Reading → Type 0 = λ r. HasFault r at f in
      leaves_bad (Classic old) (Classic new) (ap fed same) (omega (arith, ap (λ r. length (pending r)) same)) (ap held same) (classic_kept moved.0) at f
      (subst Q (sym same) (moved.1, moved.2)) faulty
    where
      faulty : (octets : List ℕ) (taken : List Taken) → Stands (Classic old) octets taken → (more : List ℕ) → Reads (octets ++ more) taken (Faulty at f)
      faulty octets taken stands more =
          let (entries, stood, is) = stands.2 in
          let told = tells octets entries stood in
          inr (not_ng-behind octets more stands.1 stands.0, record { link = classic.link_of old; entries = entries; reads = told.1.3 more; are = is })

  -- the head was passed
  pub classic_head : (link : Layer) → classic.Moved old new (cap.Head link) → Tells (cap.Head link)
      → (fed (Classic new) ≡ fed (Classic old)) × (length (pending (Classic new)) ≤ length (pending (Classic old))) × KeepsOn (Classic old) (Classic new)
  classic_head link moved tells = (omega (arith, moved.0, moved.2), omega (arith, moved.2), keeps)
    where
      keeps : KeepsOn (Classic old) (Classic new)
      keeps octets taken stands =
          let (entries, stood, is) = stands.2 in
          let told = tells octets entries stood in
          let none = front_pending old octets entries moved.3 stood in
          let before : taken ≡ [] = is ∙ ap (λ l. of_link l entries) (ap link_by moved.3) in
          let behind : of_link (classic.link_of new) entries ≡ [] = ap (λ l. of_link l entries) moved.4 ∙ ap (of_link (Some link)) none.2 in
          (stands.0, stands.1, (entries, told.1.1, before ∙ sym behind))

  -- no head behind the head
  pub no_head : (link other : Layer) → classic.link_of old ≡ Some link → classic.Moved old new (cap.Head other) → ⊥
  no_head link other linked moved =
      let wrong : ◌≡◌ {A = Option Layer} (Some link) None = sym linked ∙ ap link_by moved.3 in
      absurd (cc)

  -- what a step of the form's reader leaves
  abbrev pub ClassicLeaves : CapStep → Type 0
  ClassicLeaves step = classic.Moved old new step × Tells step × classic.SaysFault old step × (classic.held new ≡ classic.held old)

  abbrev pub ClassicGives : Layer → CapStep → Type 0
  ClassicGives link (cap.Packet p) = Leaves (Classic old) (Classic new) (Packet link p)
  ClassicGives link cap.More = Leaves (Classic old) (Classic new) More
  ClassicGives link (cap.Bad at f) = Leaves (Classic old) (Classic new) (Bad at f)
  ClassicGives link (cap.Head other) = ⊥

  pub classic_step : (link : Layer) → classic.link_of old ≡ Some link → (step : CapStep) → ClassicLeaves step → ClassicGives link step
  classic_step link linked (cap.Packet p) leaves = classic_packet link linked p leaves.0 leaves.1 leaves.3
  classic_step link linked cap.More leaves = classic_more leaves.0
  classic_step link linked (cap.Bad at f) leaves = classic_bad at f leaves.0 leaves.1
  classic_step link linked (cap.Head other) leaves = no_head link other linked leaves.0

-- ---- of the form pcapng

module _ (old new : ng_reading.Reading) (same : ng_reading.fed new ≡ ng_reading.fed old) (less : length new.pending ≤ length old.pending)
    (kept : ng_reading.held new ≡ ng_reading.held old) where
  abbrev pub NgTells : NgStep → Type 0
  NgTells step = (octets : List ℕ) (taken : List Taken) → ng.Stands old octets taken → ng.Told octets taken new step

  ng_keeps : (step : NgStep) → ng.packet_shown step ≡ [] → NgTells step → KeepsOn (Ng old) (Ng new)
  ng_keeps step none tells octets taken stands =
      let all : taken ++ ng.packet_shown step ≡ taken = ap (λ xs. taken ++ xs) none ∙ append-nil taken in
      (stands.0, subst (ng.Stands new octets) all (tells octets taken stands.1).0)

  pub ng_packet : (link : Layer) (p : packet.Packet) → ng.Rested new (ng_step.Packet link p) → NgTells (ng_step.Packet link p) → Leaves (Ng old) (Ng new) (Packet link p)
  ng_packet link p rested tells = (rested, same, less, (λ octets taken stands. ((stands.0, (tells octets taken stands.1).0), tt)), kept)

  pub ng_more : ng.Rested new ng_step.More → NgTells ng_step.More → Leaves (Ng old) (Ng new) More
  ng_more rested tells = leaves_more (Ng old) (Ng new) same less kept (ng_keeps ng_step.More refl tells) rested.0 rested.1

  pub ng_bad : (at : ℕ) (f : CapFault) → ng.Rested new (ng_step.Bad at f) → NgTells (ng_step.Bad at f) → Leaves (Ng old) (Ng new) (Bad at f)
  ng_bad at f rested tells = leaves_bad (Ng old) (Ng new) same less kept (ng_keeps (ng_step.Bad at f) refl tells) at f rested
      (λ octets taken stands more. inl (IsNg-behind octets more stands.0, (tells octets taken stands.1).1.1.0 more))

  pub ng_no_memory : ng.Rested new ng_step.NoMemory → NgTells ng_step.NoMemory → Leaves (Ng old) (Ng new) NoMemory
  ng_no_memory rested tells = leaves_no_memory (Ng old) (Ng new) same less kept (ng_keeps ng_step.NoMemory refl tells) rested

-- what a step of the form's reader leaves, by what its clause says
abbrev pub NgLeaves : ng_reading.Reading → ng_reading.Reading → NgStep → Type 0
NgLeaves old new step = ng.Rested new step × (ng_reading.fed new ≡ ng_reading.fed old) × (length new.pending ≤ length old.pending)
    × ((octets : List ℕ) (taken : List Taken) → ng.Stands old octets taken → ng.Told octets taken new step) × ng.SaysFault old new step × ng.SaysPacket old step
    × ng.StandsBehind old new step × (ng_reading.held new ≡ ng_reading.held old)

abbrev pub NgGives : ng_reading.Reading → ng_reading.Reading → NgStep → Type 0
NgGives old new (ng_step.Packet link p) = Leaves (Ng old) (Ng new) (Packet link p)
NgGives old new ng_step.More = Leaves (Ng old) (Ng new) More
NgGives old new (ng_step.Bad at f) = Leaves (Ng old) (Ng new) (Bad at f)
NgGives old new ng_step.NoMemory = Leaves (Ng old) (Ng new) NoMemory

pub ng_gives : (old new : ng_reading.Reading) (step : NgStep) → NgLeaves old new step → NgGives old new step
ng_gives old new (ng_step.Packet link p) leaves = ng_packet old new leaves.1 leaves.2 leaves.7 link p leaves.0 leaves.3
ng_gives old new ng_step.More leaves = ng_more old new leaves.1 leaves.2 leaves.7 leaves.0 leaves.3
ng_gives old new (ng_step.Bad at f) leaves = ng_bad old new leaves.1 leaves.2 leaves.7 at f leaves.0 leaves.3
ng_gives old new ng_step.NoMemory leaves = ng_no_memory old new leaves.1 leaves.2 leaves.7 leaves.0 leaves.3
