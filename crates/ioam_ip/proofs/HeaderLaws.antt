-- Laws of the IPv6 header.
use Rattle.std.proofs.Common.{◌≡◌, ℕ, ◌+◌, ◌*◌, ◌/◌, ◌%◌, ◌^◌, ◌<◌, ◌≤◌, List, [], ◌∷◌, ◌++◌, length, take, drop, get_or, refl, sym, ap, ◌∙◌, arith}
use Rattle.std.specs.Int.{w16, w32, w128, to_be_bytes}
use Rattle.std.proofs.lemmas.Nat.{from_be_bytes-to_be_bytes_2, from_be_bytes-to_be_bytes_4, be_bytes_2, be_bytes_4}
use Rattle.std.proofs.lemmas.List.{length-take, length-drop, get_or-take, get_or-drop, take-append-drop, take-take, drop-take}
use Rattle.ioam_base.specs.Octets.{u32_at}
use Rattle.ioam_ip.specs.Packet.{IsPacket}
use Rattle.ioam_ip.specs.Header.{first_word, header_octets, HasFields, FieldsFit}
use Rattle.ioam_ip.specs.declared.packet.Header.{Header}
use Rattle.ioam_ip.proofs.WideOctets.{from_be_bytes-to_be_bytes_16, be_bytes_16, small_front}

in_word : (class label word : ℕ) → class < 256 → label < 1048576 → word ≡ (6 * 256 + class) * 1048576 + label
    → (class ≡ word / 1048576 % 256) × (label ≡ word % 1048576)
in_word class label word small low is = (omega arith, omega arith)

word_of : (n : ℕ) → n < 2 ^ 32 → u32_at (to_be_bytes w32 n) 0 ≡ n
word_of n fits = from_be_bytes-to_be_bytes_4 n fits

-- what was written is read as the same fields
pub HasFields-written : (header : Header) → FieldsFit header → HasFields (header_octets header) header
HasFields-written header fits =
    let word : u32_at (header_octets header) 0 ≡ first_word header = word_of (first_word header) (omega arith) in
    let top = in_word header.class header.label (u32_at (header_octets header) 0) fits.class fits.label word in
    record {
      class = top.0;
      label = top.1;
      payload = sym (from_be_bytes-to_be_bytes_2 header.payload fits.payload);
      next = refl;
      hops = refl;
      source = sym (from_be_bytes-to_be_bytes_16 header.source fits.source);
      target = sym (from_be_bytes-to_be_bytes_16 header.target fits.target);
    }

version_of : (class label : ℕ) → class < 256 → label < 1048576 → ((6 * 256 + class) * 1048576 + label) / 16777216 % 256 / 16 ≡ 6
version_of class label small low = omega arith

-- with its payload behind it a header is a packet
pub IsPacket-written : (header : Header) (rest : List ℕ) → FieldsFit header → length rest ≡ header.payload → IsPacket (header_octets header ++ rest)
IsPacket-written header rest fits long = record {
  header_there = omega arith;
  version = version_of header.class header.label fits.class fits.label;
  whole = omega (arith, from_be_bytes-to_be_bytes_2 header.payload fits.payload, long);
}

take-split : (m n : ℕ) (xs : List ℕ) → take (m + n) xs ≡ take m xs ++ take n (drop m xs)
take-split m n xs = sym (take-append-drop m (take (m + n) xs))
    ∙ ap (λ ys. ys ++ drop m (take (m + n) xs)) (take-take m (m + n) xs (omega arith))
    ∙ ap (λ ys. take m xs ++ ys) (drop-take m n xs)

two_cells : (xs : List ℕ) → 2 ≤ length xs → take 2 xs ≡ get_or xs 0 0 ∷ get_or xs 1 0 ∷ []
two_cells [] long = absurd (omega (arith, long))
two_cells (x ∷ []) long = absurd (omega (arith, long))
two_cells (x ∷ y ∷ xs) long = refl

word_again : (a b c d class label : ℕ) → a < 256 → b < 256 → c < 256 → d < 256 → a / 16 ≡ 6
    → class ≡ (a * 16777216 + b * 65536 + c * 256 + d) / 1048576 % 256
    → label ≡ (a * 16777216 + b * 65536 + c * 256 + d) % 1048576
    → (6 * 256 + class) * 1048576 + label ≡ a * 16777216 + b * 65536 + c * 256 + d
word_again a b c d class label a' b' c' d' version is_class is_label = omega arith

module _ (octets : List ℕ) (header : Header) (packet : IsPacket octets) (small : (i : ℕ) → get_or octets i 0 < 256) (fields : HasFields octets header) where
  part_long : (at count : ℕ) → at + count ≤ 40 → length (take count (drop at octets)) ≡ count
  part_long at count within = omega (arith, length-take count (drop at octets), length-drop at octets, packet.header_there)

  small_behind : (at : ℕ) (i : ℕ) → get_or (drop at octets) i 0 < 256
  small_behind at i = omega (arith, small (at + i), get_or-drop at octets i 0)

  word_octets : to_be_bytes w32 (first_word header) ≡ take 4 octets
  word_octets = be_bytes_4 (take 4 octets) (first_word header) (part_long 0 4 (omega arith)) (small_front 4 octets small)
      (word_again (get_or octets 0 0) (get_or octets 1 0) (get_or octets 2 0) (get_or octets 3 0) header.class header.label
      (small 0) (small 1) (small 2) (small 3) packet.version fields.class fields.label
      ∙ omega (arith, get_or-take 4 octets 0 0 (omega arith), get_or-take 4 octets 1 0 (omega arith), get_or-take 4 octets 2 0 (omega arith), get_or-take 4 octets 3 0 (omega arith)))

  payload_octets : to_be_bytes w16 header.payload ≡ take 2 (drop 4 octets)
  payload_octets = be_bytes_2 (take 2 (drop 4 octets)) header.payload (part_long 4 2 (omega arith)) (small_front 2 (drop 4 octets) (small_behind 4))
      (omega (
        arith,
        fields.payload,
        get_or-take 2 (drop 4 octets) 0 0 (omega arith),
        get_or-take 2 (drop 4 octets) 1 0 (omega arith),
        get_or-drop 4 octets 0 0,
        get_or-drop 4 octets 1 0,
      ))

  next_octets : header.next ∷ header.hops ∷ [] ≡ take 2 (drop 6 octets)
  next_octets = sym (two_cells (drop 6 octets) (omega (arith, length-drop 6 octets, packet.header_there))
      ∙ (λ i. (get_or-drop 6 octets 0 0 ∙ sym fields.next) i ∷ (get_or-drop 6 octets 1 0 ∙ sym fields.hops) i ∷ []))

  source_octets : to_be_bytes w128 header.source ≡ take 16 (drop 8 octets)
  source_octets = be_bytes_16 (take 16 (drop 8 octets)) header.source (part_long 8 16 (omega arith)) (small_front 16 (drop 8 octets) (small_behind 8)) fields.source

  target_octets : to_be_bytes w128 header.target ≡ take 16 (drop 24 octets)
  target_octets = be_bytes_16 (take 16 (drop 24 octets)) header.target (part_long 24 16 (omega arith)) (small_front 16 (drop 24 octets) (small_behind 24)) fields.target

  -- the first 40 octets of a packet are those that its fields are written as
  pub header_octets-read : take 40 octets ≡ header_octets header
  header_octets-read =
      take-split 24 16 octets
      ∙ ap (λ xs. xs ++ take 16 (drop 24 octets)) (take-split 8 16 octets)
      ∙ ap (λ xs. xs ++ take 16 (drop 8 octets) ++ take 16 (drop 24 octets)) (take-split 6 2 octets)
      ∙ ap (λ xs. xs ++ take 2 (drop 6 octets) ++ take 16 (drop 8 octets) ++ take 16 (drop 24 octets)) (take-split 4 2 octets)
      ∙ (λ i. sym word_octets i ++ sym payload_octets i ++ sym next_octets i ++ sym source_octets i ++ sym target_octets i)
