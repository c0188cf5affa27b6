-- What a whole block holds.
use Rattle.std.proofs.Common.{◌≡◌, ℕ, ◌+◌, ◌-◌, ◌≤◌, ◌<◌, List, [], ◌++◌, length, take, drop, true, false, Some, None, arith, sym, ap, ◌∙◌, subst}
use Rattle.std.specs.Prelude.{nat_le, slice_get, option_to_list, unwrap_or, ◌==◌, if◌then◌else◌}
use Rattle.std.specs.Option.{option_or}
use Rattle.std.proofs.lemmas.List.{drop-take, take-take}
use Rattle.std.proofs.lemmas.Bool.{and_from, le-leb}
use Rattle.ioam_ng.specs.declared.front.Front.{Front}
use Rattle.ioam_ng.specs.declared.block.Content.{Content}
use Rattle.ioam_ng.specs.declared.block.Content.TheVariants as content
use Rattle.ioam_ng.specs.declared.block.BlockStep.TheVariants as step
use Rattle.ioam_ng.specs.declared.block.Block.{Block}
use Rattle.ioam_ng.specs.Front.{Known, is_front, front_fault, least_size}
use Rattle.ioam_ng.specs.Steps.{IsFrontOf}
use Rattle.ioam_ng.specs.Blocks.{block_fault, packet_at, packet_from, packet_of, faces_behind, face_at, face_number, captured, fault_by, packet_by, faces_by, fault_in, packet_in, known_behind, is_whole, size}
use Rattle.ioam_ng.specs.BlockSteps.{IsContent, taken_of, known_with, Holds, TellsBlock}

-- the captured octets lie within the block
take-within : (n m k : ℕ) (xs : List ℕ) → n + k ≤ m → take k (drop n (take m xs)) ≡ take k (drop n xs)
take-within n m k xs fits =
    let size : m ≡ n + (m - n) = omega arith in
    let few : k ≤ m - n = omega arith in
    ap (λ s. take k (drop n (take s xs))) size ∙ ap (take k) (drop-take n (m - n) xs) ∙ take-take k (m - n) (drop n xs) few

module _ (known : Known) (octets : List ℕ) (front : Front) (some : is_front octets ≡ true) (is : IsFrontOf known.order octets front) (none : front_fault known.count known.order octets ≡ None) (fits : front.size ≤ length octets) where
  abbrev block : List ℕ
  block = take front.size octets

  whole : is_whole known octets ≡ true
  whole = and_from (is_front octets) (nat_le (size known octets) (length octets)) some (le-leb (size known octets) (length octets) (subst (λ n. n ≤ length octets) is.2 fits))

  fault_is : fault_in known octets ≡ block_fault front.order block front.kind known.faces
  fault_is = λ i. option_or (none i) (if whole i then fault_by (is.0 i) (take (sym is.2 i) octets) (sym is.1 i) known.faces else None)

  packet_is : packet_in known octets ≡ packet_at front.order block front.kind known.faces
  packet_is = λ i. packet_by (is.0 i) (take (sym is.2 i) octets) (sym is.1 i) known.faces

  known_is : known_behind known octets ≡ known_with known front.order (faces_behind front.order block front.kind known.faces)
  known_is = λ i. record { count = known.count + 1; order = is.0 i; faces = faces_by (is.0 i) (take (sym is.2 i) octets) (sym is.1 i) known.faces }

  abbrev read : Content → Block
  read c = record { order = front.order; size = front.size; content = c }

  packet_at-other : (k : ℕ) → (k == 6) ≡ false → packet_at front.order block k known.faces ≡ None
  packet_at-other k other = λ i. if other i then packet_from front.order block (slice_get known.faces (face_number front.order block)) else None

  no_packet : (front.kind == 6) ≡ false → packet_in known octets ≡ None
  no_packet other = packet_is ∙ packet_at-other front.kind other

  holds_by : (c : Content) → length block ≡ front.size → IsContent front.order front.kind known.faces block c → Holds known octets (read c) c
  holds_by content.Section size section = (
    no_packet (ap (λ k. k == 6) section),
    known_is ∙ ap (λ k. known_with known front.order (faces_behind front.order block k known.faces)) section,
  )
  holds_by (content.Face face) size one = (
    sym is.1 ∙ one.0,
    no_packet (ap (λ k. k == 6) one.0),
    known_is ∙ ap (λ k. known_with known front.order (faces_behind front.order block k known.faces)) one.0
        ∙ ap (λ f. known_with known front.order (known.faces ++ option_to_list f)) one.1,
  )
  holds_by (content.Packet head) size six =
      let (face, there, h) = six.2 in
      let octets_is : take (captured front.order block) (drop 28 block) ≡ take head.captured (drop 28 octets) =
      ap (λ n. take n (drop 28 block)) (sym h.3) ∙ take-within 28 front.size head.captured octets (omega (arith, h.3, six.1, size)) in
      let packet : packet_of front.order block face ≡ taken_of head (take head.captured (drop 28 octets)) =
      λ i. record { link = sym h.0 i; entry = record { time = unwrap_or (h.1 i) 0; original = sym h.2 i; octets = octets_is i } } in (
        packet_is ∙ ap (λ k. packet_at front.order block k known.faces) six.0 ∙ ap (packet_from front.order block) there ∙ ap Some packet,
        known_is ∙ ap (λ k. known_with known front.order (faces_behind front.order block k known.faces)) six.0,
        omega (arith, h.3, six.1, size),
        h.4,
        h.5,
      )
  holds_by content.Other size other = (
    no_packet other.2,
    known_is ∙ (λ i. known_with known front.order (if other.0 i then [] else if other.1 i then known.faces ++ option_to_list (face_at front.order block) else known.faces)),
  )

  pub block_told : (c : Content) → known.count < 33554432 → length block ≡ front.size → block_fault front.order block front.kind known.faces ≡ None
      → IsContent front.order front.kind known.faces block c → TellsBlock known octets (step.Whole (read c))
  block_told c few size sound content = (fault_is ∙ sound, whole, is.2, fits, omega (arith, is.4, least front.kind), few, holds_by c size content)
    where
      least : (k : ℕ) → 12 ≤ least_size k
      least k = grind arith
