-- What was written is read back.
use Rattle.std.proofs.Common.{◌≡◌, ℕ, ◌+◌, ◌-◌, ◌*◌, ◌/◌, ◌%◌, ◌<◌, ◌≤◌, List, [], ◌∷◌, ◌++◌, length, take, drop, map, true, false, not, cond, ◌&&◌, ◌||◌, Some, None, Result, Ok, Err, All, arith, refl, sym, ap, ◌∙◌, subst, length-append, length-take-le, append_assoc}
use Rattle.std.specs.Prelude.{nat_le, nat_lt, ◌==◌, if◌then◌else◌, slice_get, is_none, is_ok, unwrap_or}
use Rattle.std.specs.Option.{option_or}
use Rattle.std.specs.Result.{OnOk}
use Rattle.std.proofs.lemmas.Bool.{and_from, le-leb, lt-leb, le-ltb, lt-ltb, eq-eqb}
use Rattle.std.proofs.lemmas.List.{append-nil, take_all, drop_all, get_or-drop}
use Rattle.std.proofs.lemmas.List.Elements.{All-nil, All-head, All-tail, All-push}
use Rattle.std.proofs.Math.Seq.{drop-append_seam, take-append_seam}
use Rattle.ioam_base.specs.Octets.{u32_at}
use Rattle.ioam_base.specs.Words.{four_octets}
use Rattle.ioam_base.proofs.LeadsLaws.{Leads-append}
use Rattle.ioam_ip.specs.declared.layer.Layer.{Layer}
use Rattle.ioam_ip.specs.declared.layer.Layer.TheVariants.{Ethernet, Raw}
use Rattle.ioam_pcap.specs.Link.{link_type}
use Rattle.ioam_ng.specs.declared.face.Face.{Face}
use Rattle.ioam_pcap.specs.declared.capture.CapFault.TheVariants as fault
use Rattle.ioam_pcap.specs.declared.form.Order.TheVariants.{Big}
use Rattle.ioam_ng.specs.Face.{time_of, time_between}
use Rattle.ioam_ng.specs.Checks.{first}
use Rattle.ioam_ng.specs.Front.{Known, is_front, front_fault}
use Rattle.ioam_ng.specs.Blocks.{Place, CanPass, packet_there, behind, Blocks, packets, front, fault_in, is_whole, packet_in, block_fault, packet_fault, packet_of, packet_from, packet_checks, block_checks, units, trail}
use Rattle.ioam_pcap.specs.Entries.{Taken}
use Rattle.ioam_pcap.specs.Ending.{Whole}
use Rattle.ioam_ng.specs.Reads.{Reads}
use Rattle.ioam_ng.specs.Text.{head_octets, face_kinds, face_for, padding, packet_size, packet_front, packet_numbers, packet_tail, packet_octets, packets_text, capture_text, IsSendable}
use Rattle.ioam_ng.proofs.ReadsLaws.{Blocks-behind}

-- a number's four octets are the number
number_of_word : (n : ℕ) → n < 4294967296
    → n / 16777216 % 256 * 16777216 + n / 65536 % 256 * 65536 + n / 256 % 256 * 256 + n % 256 ≡ n
number_of_word n small = omega arith

-- a number at a place stands at the front of the octets from there on
u32_at-front : (octets : List ℕ) (n : ℕ) → u32_at (drop n octets) 0 ≡ u32_at octets n
u32_at-front octets n = grind (arith, get_or-drop)

-- the interfaces of what is written, and what is known behind so many blocks of it
abbrev face_of_kind : ℕ → Face
face_of_kind kind = record { kind = kind; resolution = 9; offset = 0 }

abbrev faces : List Face
faces = map face_of_kind face_kinds

abbrev known_by : ℕ → Known
known_by count = record { count = count; order = Some Big; faces = faces }

abbrev place_by : ℕ → List ℕ → Place
place_by count octets = record { known = known_by count; octets = octets }

-- the interface of a layer is there, and of a link type that says this layer
face_of_layer : (layer : Layer) → (kind : ℕ) × (face_for layer < 4294967296) × (slice_get faces (face_for layer) ≡ Some (face_of_kind kind)) × (link_type kind ≡ Some layer)
face_of_layer Raw = (101, omega arith, refl, refl)
face_of_layer Ethernet = (1, omega arith, refl, refl)

-- the head is three blocks without a packet
Blocks-head : Blocks (front head_octets) (None ∷ None ∷ None ∷ []) (record { known = known_by 3; octets = [] })
Blocks-head = ((refl, refl), refl, ((refl, refl), refl, ((refl, refl), refl, refl)))

-- ---- the block of a packet

-- its time is read as it was written
time_between_all : (time : ℕ) → time < 4611686018427387904 → time_between time 0 ≡ Some time
time_between_all time small =
    let same : time - 0 ≡ time = omega arith in
    let fits : (nat_le 0 time && nat_lt (time - 0) 4611686018427387904) ≡ true =
    and_from (nat_le 0 time) (nat_lt (time - 0) 4611686018427387904) (le-leb 0 time (omega arith)) (lt-ltb (time - 0) 4611686018427387904 (omega (arith, small))) in
    λ i. if fits i then Some (same i) else None

time_read : (kind time units : ℕ) → units ≡ time → time < 4611686018427387904 → time_of (face_of_kind kind) units ≡ Some time
time_read kind time n same small =
    let before : n * 1000000000 / 1000000000 + 0 ≡ time = omega (arith, same) in
    ap (λ plus. time_between plus 0) before ∙ time_between_all time small

module _ (p : Taken) (fits : IsSendable p) where
  abbrev block : List ℕ
  block = packet_octets p

  abbrev many : ℕ
  many = length p.entry.octets

  padding_few : padding many ≤ 3
  padding_few = omega arith

  abbrev zeros : List ℕ
  zeros = take (padding many) (0 ∷ 0 ∷ 0 ∷ [])

  zeros_long : length zeros ≡ padding many
  zeros_long = length-take-le {A = ℕ} (padding many) (0 ∷ 0 ∷ 0 ∷ []) padding_few

  tail_long : length (packet_tail many) ≡ padding many + 4
  tail_long = length-append zeros (four_octets (packet_size many)) ∙ ap (λ n. n + 4) zeros_long

  block_long : length block ≡ packet_size many
  block_long = omega (arith, length-append p.entry.octets (packet_tail many), tail_long)

  size_small : packet_size many ≤ 262179
  size_small = omega (arith, fits.0, padding_few)

  size_even : packet_size many % 4 ≡ 0
  size_even = omega arith

  size_read : u32_at block 4 ≡ packet_size many
  size_read = number_of_word (packet_size many) (omega (arith, size_small))

  captured_read : u32_at block 20 ≡ many
  captured_read = number_of_word many (omega (arith, fits.0))

  original_read : u32_at block 24 ≡ p.entry.original
  original_read = number_of_word p.entry.original fits.2

  units_read : u32_at block 12 * 4294967296 + u32_at block 16 ≡ p.entry.time
  units_read =
      let high : u32_at block 12 ≡ p.entry.time / 4294967296 = number_of_word (p.entry.time / 4294967296) (omega (arith, fits.1)) in
      let low : u32_at block 16 ≡ p.entry.time % 4294967296 = number_of_word (p.entry.time % 4294967296) (omega arith) in
      omega (arith, high, low)

  -- the length at its end
  abbrev before_end : List ℕ
  before_end = packet_front p.link many ++ (packet_numbers p.entry.time many p.entry.original ++ (p.entry.octets ++ zeros))

  block_parts : block ≡ before_end ++ four_octets (packet_size many)
  block_parts = ap (λ xs. packet_front p.link many ++ (packet_numbers p.entry.time many p.entry.original ++ xs))
      (sym (append_assoc p.entry.octets zeros (four_octets (packet_size many))))

  before_long : length before_end ≡ length block - 4
  before_long = omega (arith, block_long, length-append p.entry.octets zeros, zeros_long)

  trail_read : u32_at block (length block - 4) ≡ packet_size many
  trail_read =
      let here : drop (length block - 4) block ≡ four_octets (packet_size many) =
      (λ i. drop (sym before_long i) (block_parts i)) ∙ drop-append_seam before_end (four_octets (packet_size many)) in
      sym (u32_at-front block (length block - 4)) ∙ ap (λ xs. u32_at xs 0) here ∙ number_of_word (packet_size many) (omega (arith, size_small))

  -- it has no fault
  module _ (count : ℕ) (few : count < 33554432) where
    abbrev kind : ℕ
    kind = (face_of_layer p.link).0

    sized : front_fault count (Some Big) block ≡ None
    sized =
        let there : is_front block ≡ true = le-leb 8 (length block) (omega (arith, block_long)) in
        let begun : nat_le 4 (length block) ≡ true = le-leb 4 (length block) (omega (arith, block_long)) in
        let counted : nat_le 33554432 count ≡ false = lt-leb 33554432 count few in
        let small : nat_lt 16777216 (u32_at block 4) ≡ false = le-ltb 16777216 (u32_at block 4) (omega (arith, size_read, size_small)) in
        let even : (u32_at block 4 % 4 == 0) ≡ true = eq-eqb (u32_at block 4 % 4) 0 (ap (λ n. n % 4) size_read ∙ size_even) in
        let enough : nat_lt (u32_at block 4) 32 ≡ false = le-ltb (u32_at block 4) 32 (omega (arith, size_read)) in
        λ i. if begun i && false && true then Some (fault.Magic (u32_at block 0)) else
        if there i then (
        if counted i then Some (fault.Blocks 33554432) else
        if small i then Some (fault.Large (u32_at block 4)) else
        if not (even i) || enough i then Some (fault.Size (u32_at block 4)) else None
        ) else None

    whole : is_whole (known_by count) block ≡ true
    whole = and_from (is_front block) (nat_le (u32_at block 4) (length block)) (le-leb 8 (length block) (omega (arith, block_long)))
        (le-leb (u32_at block 4) (length block) (omega (arith, size_read, block_long)))

    all_of_it : take (u32_at block 4) block ≡ block
    all_of_it = take_all (u32_at block 4) block (omega (arith, size_read, block_long))

    none_behind : drop (u32_at block 4) block ≡ []
    none_behind = drop_all (u32_at block 4) block (omega (arith, size_read, block_long))

    -- nor has it where it is whole
    passed : nat_lt (length block) (32 + u32_at block 20) ≡ false
    passed = le-ltb (length block) (32 + u32_at block 20) (omega (arith, block_long, captured_read))

    trailed : (u32_at block (length block - 4) == length block) ≡ true
    trailed = eq-eqb (u32_at block (length block - 4)) (length block) (trail_read ∙ sym block_long)

    checked : first (block_checks Big block 6) ≡ None
    checked = λ i. if passed i then Some (fault.Size (length block)) else
        if not (trailed i) then Some (fault.Trail (trail Big block)) else None

    number_read : u32_at block 8 ≡ face_for p.link
    number_read = number_of_word (face_for p.link) (face_of_layer p.link).1

    face_got : slice_get faces (u32_at block 8) ≡ Some (face_of_kind kind)
    face_got = ap (slice_get faces) number_read ∙ (face_of_layer p.link).2

    linked : link_type kind ≡ Some p.link
    linked = (face_of_layer p.link).3

    time_got : time_of (face_of_kind kind) (units Big block) ≡ Some p.entry.time
    time_got = time_read kind p.entry.time (units Big block) units_read fits.1

    recorded : nat_lt 262144 (u32_at block 20) ≡ false
    recorded = le-ltb 262144 (u32_at block 20) (omega (arith, captured_read, fits.0))

    packet_checked : first (packet_checks Big block (face_of_kind kind)) ≡ None
    packet_checked = λ i. if is_none (linked i) then Some (fault.Link kind) else
        if recorded i then Some (fault.RecordLong (u32_at block 20)) else
        if is_none (time_got i) then Some (fault.Time (units Big block)) else None

    block_sound : block_fault Big block 6 faces ≡ None
    block_sound = (λ i. option_or (checked i) (packet_fault Big block (face_got i))) ∙ packet_checked

    fault_none : fault_in (known_by count) block ≡ None
    fault_none = (λ i. option_or (sized i) (if whole i then block_fault Big (all_of_it i) 6 faces else None)) ∙ block_sound

    -- and its packet is the one that was written
    octets_read : take (u32_at block 20) (drop 28 block) ≡ p.entry.octets
    octets_read = ap (λ n. take n (drop 28 block)) captured_read ∙ take-append_seam p.entry.octets (packet_tail many)

    packet_same : packet_of Big block (face_of_kind kind) ≡ p
    packet_same = λ i. record {
      link = unwrap_or (linked i) Raw;
      entry = record { time = unwrap_or (time_got i) 0; original = original_read i; octets = octets_read i };
    }

    packet_is : packet_in (known_by count) block ≡ Some p
    packet_is = (λ i. packet_from Big (all_of_it i) (slice_get faces (u32_at (all_of_it i) 8)))
        ∙ ap (packet_from Big block) face_got ∙ ap Some packet_same

    pub Blocks-packet : Blocks (place_by count block) (Some p ∷ []) (place_by (count + 1) [])
    Blocks-packet = ((fault_none, whole), sym packet_is, (λ i. place_by (count + 1) (none_behind i)))

-- the blocks of packets behind so many others
Blocks-text : (ps : List Taken) → All IsSendable ps → (count : ℕ) → count + length ps ≤ 33554432
    → Blocks (place_by count (packets_text ps)) (map Some ps) (place_by (count + length ps) [])
Blocks-text [] fits count few = let same : count ≡ count + 0 = omega arith in λ i. place_by (same i) []
Blocks-text (p ∷ ps) fits count few =
    let one = Blocks-behind (packets_text ps) (place_by count (packet_octets p)) (Some p ∷ []) (place_by (count + 1) []) (Blocks-packet p (All-head IsSendable p ps fits) count (omega arith)) in
    let rest = Blocks-text ps (All-tail IsSendable p ps fits) (count + 1) (omega arith) in
    let same : count + 1 + length ps ≡ count + length (p ∷ ps) = omega arith in
    let Q : ℕ → Type 0 = λ n. Blocks (place_by (count + 1) (packets_text ps)) (map Some ps) (place_by n []) in
    Leads-append CanPass packet_there behind (place_by count (packets_text (p ∷ ps))) (Some p ∷ []) (place_by (count + 1) (packets_text ps)) (map Some ps) (place_by (count + length (p ∷ ps)) [])
    one (subst Q same rest)

packets_map : (ps : List Taken) → packets (map Some ps) ≡ ps
packets_map [] = refl
packets_map (p ∷ ps) = ap (λ rest. p ∷ rest) (packets_map ps)

-- a capture of packets that may be written reads as these packets, to its end
pub Reads-text : (ps : List Taken) → All IsSendable ps → length ps + 3 ≤ 33554432 → Reads (capture_text ps) ps Whole
Reads-text ps fits few = record {
  place = place_by (3 + length ps) [];
  blocks = (None ∷ None ∷ None ∷ []) ++ map Some ps;
  leads = Leads-append CanPass packet_there behind (front (capture_text ps)) (None ∷ None ∷ None ∷ []) (place_by 3 (packets_text ps)) (map Some ps) (place_by (3 + length ps) [])
      (Blocks-behind (packets_text ps) (front head_octets) (None ∷ None ∷ None ∷ []) (place_by 3 []) Blocks-head)
      (Blocks-text ps fits 3 (omega (arith, few)));
  given = sym (packets_map ps);
  ends = (refl, refl);
}

-- the text of one packet more
packets_text-with : (ps : List Taken) (p : Taken) → packets_text (ps ++ p ∷ []) ≡ packets_text ps ++ packet_octets p
packets_text-with [] p = append-nil (packet_octets p)
packets_text-with (q ∷ ps) p = ap (λ xs. packet_octets q ++ xs) (packets_text-with ps p) ∙ sym (append_assoc (packet_octets q) (packets_text ps) (packet_octets p))

pub capture_text-with : (ps : List Taken) (p : Taken) → capture_text (ps ++ p ∷ []) ≡ capture_text ps ++ packet_octets p
capture_text-with ps p = ap (λ xs. head_octets ++ xs) (packets_text-with ps p) ∙ sym (append_assoc head_octets (packets_text ps) (packet_octets p))

-- what an appended head and an appended packet make
pub begins_by : {E : Type 0} (r : Result (Unit {0}) E) (old new : List ℕ) → new ≡ cond (is_ok r) (old ++ head_octets) old → old ≡ []
    → OnOk r (new ≡ capture_text [])
begins_by (Ok u) old new made empty = made ∙ ap (λ xs. xs ++ head_octets) empty
begins_by (Err e) old new made empty = tt

pub begins_reading : {E : Type 0} (r : Result (Unit {0}) E) (old new : List ℕ) → new ≡ cond (is_ok r) (old ++ head_octets) old → old ≡ []
    → OnOk r (Reads new [] Whole)
begins_reading (Ok u) old new made empty = let Q : List ℕ → Type 0 = λ xs. Reads xs [] Whole in
    subst Q (sym (made ∙ ap (λ xs. xs ++ head_octets) empty)) (Reads-text [] (All-nil IsSendable) (omega arith))
begins_reading (Err e) old new made empty = tt

module _ (old new : List ℕ) (p : Taken) (ps : List Taken) where
  pub adds_by : {E : Type 0} (r : Result (Unit {0}) E) → new ≡ cond (is_ok r) (old ++ packet_octets p) old → old ≡ capture_text ps
      → OnOk r (new ≡ capture_text (ps ++ p ∷ []))
  adds_by (Ok u) made was = made ∙ ap (λ xs. xs ++ packet_octets p) was ∙ sym (capture_text-with ps p)
  adds_by (Err e) made was = tt

  pub adds_reading : {E : Type 0} (r : Result (Unit {0}) E) → new ≡ cond (is_ok r) (old ++ packet_octets p) old → IsSendable p
      → All IsSendable ps → length ps + 4 ≤ 33554432 → old ≡ capture_text ps → OnOk r (Reads new (ps ++ p ∷ []) Whole)
  adds_reading (Ok u) made fit fits few was =
      let Q : List ℕ → Type 0 = λ xs. Reads xs (ps ++ p ∷ []) Whole in
      subst Q (sym (made ∙ ap (λ xs. xs ++ packet_octets p) was ∙ sym (capture_text-with ps p)))
      (Reads-text (ps ++ p ∷ []) (All-push IsSendable ps p fits fit) (omega (arith, few, length-append ps (p ∷ []))))
  adds_reading (Err e) made fit fits few was = tt
