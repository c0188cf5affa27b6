-- What octets so far tell of a capture of which more may come: it reads in some way; a fault that is
-- there stays; and its packets so far are the first of all.
use Rattle.std.proofs.Common.{◌≡◌, ℕ, zero, suc, ◌-◌, ◌<◌, ◌≤◌, List, [], ◌∷◌, ◌++◌, length, Bool, true, false, Option, Some, None, arith, refl, sym, ap, ◌∙◌, subst, inl, inr, length-append, length-drop, append_assoc}
use Rattle.std.specs.Prelude.{nat_le, ⊤}
use Rattle.std.specs.Option.{IsSome}
use Rattle.std.proofs.lemmas.Bool.{and_parts, leb-true, false≢true, true≢false}
use Rattle.ioam_base.proofs.LeadsLaws.{Leads-push, Leads-beyond}
use Rattle.ioam_pcap.specs.declared.capture.CapFault.{CapFault}
use Rattle.ioam_pcap.specs.declared.capture.CapFault.TheVariants.{Short}
use Rattle.ioam_pcap.specs.Ending.{Ending, Whole, Faulty, stays}
use Rattle.ioam_pcap.specs.Entries.{Taken}
use Rattle.ioam_pcap.specs.declared.form.Order.{Order}
use Rattle.ioam_ng.specs.Front.{is_front}
use Rattle.ioam_ng.specs.Blocks.{Place, CanPass, packet_there, behind, Blocks, packets, front, fault_in, is_whole, size}
use Rattle.ioam_ng.specs.Reading.{Reading, place_of}
use Rattle.ioam_ng.specs.Reads.{IsCut, EndsAt, Reads}
use Rattle.ioam_ng.specs.Reader.{Stands, Waits, IsFaulty, HasPacket}
use Rattle.ioam_ng.proofs.ReadsLaws.{with_more, Blocks-behind, HasFault-behind, ends_stop}
use Rattle.ioam_ng.proofs.SizeLaws.{size_some}
use Rattle.ioam_ng.proofs.StandsLaws.{packets-append}

-- ---- in some way

-- what a file is found to be
abbrev pub Found : List ℕ → Type 0
Found octets = (taken : List Taken) × (ending : Ending) × Reads octets taken ending

-- an end, or a capture that is too short: more octets may yet change it
abbrev pub IsOpen : Ending → Type 0
IsOpen Whole = ⊤
IsOpen (Faulty at f) = stays f ≡ false

-- a block that can be passed has some octets, and they are there
passed : (p : Place) → CanPass p → (0 < size p.known p.octets) × (size p.known p.octets ≤ length p.octets)
passed p pass =
    let both = and_parts (is_front p.octets) (nat_le (size p.known p.octets) (length p.octets)) pass.1 in
    (size_some p.known p.octets pass.0 both.0, leb-true (size p.known p.octets) (length p.octets) both.1)

module _ (octets : List ℕ) where
  -- what is cut ends the octets, whole or too short
  cut_ends : (p : Place) → length p.octets ≤ length octets → IsCut p → (ending : Ending) × EndsAt octets p ending × IsOpen ending
  cut_ends p inside cut = by p.octets p.known.order refl refl
    where
      at : ℕ
      at = length octets - length p.octets

      short : (IsSome p.known.order → 0 < length p.octets) → (ending : Ending) × EndsAt octets p ending × IsOpen ending
      short some = (Faulty at (Short (length p.octets)), (omega (arith, inside), inr (cut, refl, some)), refl)

      by : (xs : List ℕ) (o : Option Order) → p.octets ≡ xs → p.known.order ≡ o → (ending : Ending) × EndsAt octets p ending × IsOpen ending
      by xs None left order = short (λ some. let Q : Option Order → Type 0 = λ x. IsSome x in absurd (false≢true (subst Q order some)))
      by [] (Some o) left order = let Q : Option Order → Type 0 = λ x. IsSome x in (Whole, (subst Q (sym order) refl, left), tt)
      by (x ∷ xs) (Some o) left order = short (λ _. omega (arith, ap length left))

  ended : (p : Place) (blocks : List (Option Taken)) (ending : Ending) → Blocks (front octets) blocks p → EndsAt octets p ending → Found octets
  ended p blocks ending leads ends = (packets blocks, ending, record { place = p; blocks = blocks; leads = leads; given = refl; ends = ends })

  -- what stands at a place, given what is found behind a whole block there
  step_found : (p : Place) (blocks : List (Option Taken)) → Blocks (front octets) blocks p → length p.octets ≤ length octets
      → (CanPass p → Found octets) → Found octets
  step_found p blocks leads inside more = by (fault_in p.known p.octets) (is_whole p.known p.octets) refl refl
    where
      by : (x : Option CapFault) (w : Bool) → fault_in p.known p.octets ≡ x → is_whole p.known p.octets ≡ w → Found octets
      by (Some f) w bad whole = ended p blocks (Faulty (length octets - length p.octets) f) leads (omega (arith, inside), inl bad)
      by None false sound cut = let (ending, ends, unended) = cut_ends p inside (sound, cut) in ended p blocks ending leads ends
      by None true sound whole = more (sound, whole)

  -- what stands at a place behind which n octets are left at most
  rest_found : (n : ℕ) (p : Place) (blocks : List (Option Taken)) → Blocks (front octets) blocks p → length p.octets ≤ length octets
      → length p.octets ≤ n → Found octets
  rest_found zero p blocks leads inside left = step_found p blocks leads inside (λ pass. absurd (none_passed p left pass))
    where
      none_passed : (q : Place) → length q.octets ≤ 0 → CanPass q → ⊥
      none_passed q none pass = let (some, fits) = passed q pass in omega (arith, none, some, fits)
  rest_found (suc n) p blocks leads inside left = step_found p blocks leads inside (λ pass.
      let (some, fits) = passed p pass in
      let less = length-drop (size p.known p.octets) p.octets in
      rest_found n (behind p) (blocks ++ packet_there p ∷ []) (Leads-push CanPass packet_there behind (front octets) blocks p leads pass)
      (omega (arith, inside, less)) (omega (arith, left, less, some)))

  -- a capture reads in some way
  pub Reads-total : Found octets
  Reads-total = rest_found (length octets) (front octets) [] refl (omega arith) (omega arith)

-- ---- a fault that stays

-- a capture that ends by a fault which stays reads the same with more octets behind
pub Reads-stays : (octets more : List ℕ) (taken : List Taken) (at : ℕ) (f : CapFault) → stays f ≡ true → Reads octets taken (Faulty at f)
    → Reads (octets ++ more) taken (Faulty at f)
Reads-stays octets more taken at f stayed reads = record {
  place = with_more more reads.place;
  blocks = reads.blocks;
  leads = Blocks-behind more (front octets) reads.blocks reads.place reads.leads;
  given = reads.given;
  ends = (
    omega (arith, reads.ends.0, length-append reads.place.octets more, length-append octets more),
    inl (elim reads.ends.1 [
      | inl bad ↦ HasFault-behind more reads.place f bad
      | inr short ↦ absurd (true≢false (sym stayed ∙ ap stays short.1))
    ]),
  );
}

-- ---- the packets so far

-- blocks that stand one behind the other at the front have the first packets of those that are read
Blocks-begin : (octets : List ℕ) (blocks : List (Option Taken)) (p : Place) (all : List Taken) (ending : Ending)
    → Blocks (front octets) blocks p → Reads octets all ending → (others : List Taken) × (all ≡ packets blocks ++ others)
Blocks-begin octets blocks p all ending leads reads =
    let (more, same) = Leads-beyond CanPass packet_there behind (front octets) blocks p reads.blocks reads.place leads reads.leads (ends_stop octets reads.place ending reads.ends) in
    (packets more, reads.given ∙ ap packets same ∙ packets-append blocks more)

-- more octets add packets at the end
pub Reads-later : (octets more : List ℕ) (taken all : List Taken) (ending later : Ending) → Reads octets taken ending → Reads (octets ++ more) all later
    → (others : List Taken) × (all ≡ taken ++ others)
Reads-later octets more taken all ending later old new =
    let (others, same) = Blocks-begin (octets ++ more) old.blocks (with_more more old.place) all later (Blocks-behind more (front octets) old.blocks old.place old.leads) new in
    (others, same ∙ ap (λ xs. xs ++ others) (sym old.given))

-- ---- what a reader stands for

module _ (reader : Reading) (octets : List ℕ) (taken : List Taken) (stands : Stands reader octets taken) where
  inside : length reader.pending ≤ length octets
  inside = omega (arith, stands.inside)

  -- where more octets are needed, they read as what was taken, to an end that may yet be none
  pub Waits-reads : Waits reader → (ending : Ending) × Reads octets taken ending × IsOpen ending
  Waits-reads waits =
      let (ending, ends, unended) = cut_ends octets (place_of reader) inside waits in
      (ending, record { place = place_of reader; blocks = stands.blocks; leads = stands.leads; given = stands.given; ends = ends }, unended)

  -- where what is due has a fault, they read as what was taken, to this fault
  pub Faulty-reads : (f : CapFault) → IsFaulty reader f → Reads octets taken (Faulty reader.start f)
  Faulty-reads f bad = record { place = place_of reader; blocks = stands.blocks; leads = stands.leads; given = stands.given; ends = (stands.inside, inl bad) }

  module _ (all : List Taken) (ending : Ending) (reads : Reads octets all ending) where
    -- what was taken are the first packets
    pub Stands-begins : (others : List Taken) × (all ≡ taken ++ others)
    Stands-begins =
        let (others, same) = Blocks-begin octets stands.blocks (place_of reader) all ending stands.leads reads in
        (others, same ∙ ap (λ xs. xs ++ others) (sym stands.given))

    -- and a packet that is due comes next
    pub Packet-next : (packet : Taken) → HasPacket reader packet → (others : List Taken) × (all ≡ taken ++ packet ∷ others)
    Packet-next packet has =
        let blocks = stands.blocks ++ packet_there (place_of reader) ∷ [] in
        let pushed = Leads-push CanPass packet_there behind (front octets) stands.blocks (place_of reader) stands.leads has.0 in
        let (others, same) = Blocks-begin octets blocks (behind (place_of reader)) all ending pushed reads in
        let last : packets (packet_there (place_of reader) ∷ []) ≡ packet ∷ [] = ap (λ x. packets (x ∷ [])) has.1 in
        let given : packets blocks ≡ taken ++ packet ∷ [] =
        packets-append stands.blocks (packet_there (place_of reader) ∷ []) ∙ (λ i. (sym stands.given) i ++ last i) in
        (others, same ∙ ap (λ xs. xs ++ others) given ∙ append_assoc taken (packet ∷ []) others)
