-- How an element is printed: its fields in bit order (RFC 9197 section 4.4.2), separated by one space.
use Rattle.std.specs.Prelude.{ℕ, zero, suc, ◌/◌, List, [], ◌∷◌, ◌++◌, Option, Some, None, length, take, drop, decimal, codes}
use Rattle.std.specs.List.{join_with_byte}
use Rattle.ioam_data.specs.Fields.{Held, fields_of}
use Rattle.ioam_line.specs.Digits.{digits_of}
use Rattle.ioam_line.specs.Given.{known_octets}
use Rattle.ioam_line.specs.Line as line
use Rattle.ioam_line.specs.Line.{digits, value_text}
use Rattle.ioam_line.specs.declared.piece.Width.TheVariants.{Three, Four, Eight}

-- ---- values, or `-` if the field is all ones

-- in decimal digits; `ones` is the number that all ones make
abbrev pub known : ℕ → ℕ → List ℕ
known ones value = value_text (line.known ones value)

-- a number of 32 bits in 8 hexadecimal digits
abbrev pub known_word : ℕ → List ℕ
known_word value = value_text (known_octets 4294967295 Four value)

-- one of 64 bits in 16 digits
abbrev pub known_wide : ℕ → List ℕ
known_wide value = value_text (known_octets 18446744073709551615 Eight value)

-- one of 24 bits in 6 digits
abbrev pub known_narrow : ℕ → List ℕ
known_narrow value = value_text (known_octets 16777215 Three value)

-- the data of a snapshot in hexadecimal digits, or `-` for no data
abbrev pub opaque_digits : List ℕ → List ℕ
opaque_digits octets = value_text (digits octets)

-- ---- words

-- a word where the type has the bit of a field, and else none
abbrev pub word_of : {T : Type 0} → Option T → (T → List ℕ) → List (List ℕ)
word_of None text = []
word_of (Some value) text = text value ∷ []

-- The words of bits 0 to 11. A hop limit is a number always.
unfoldable pub bit_words : Held → List (List ℕ)
bit_words held =
    word_of held.hop_node (λ value. codes "hop=" ++ decimal value.0)
    ++ word_of held.hop_node (λ value. codes "node=" ++ known 16777215 value.1)
    ++ word_of held.faces (λ value. codes "in=" ++ known 65535 value.0)
    ++ word_of held.faces (λ value. codes "out=" ++ known 65535 value.1)
    ++ word_of held.seconds (λ value. codes "sec=" ++ known 4294967295 value)
    ++ word_of held.fraction (λ value. codes "frac=" ++ known 4294967295 value)
    ++ word_of held.delay (λ value. codes "delay=" ++ known 4294967295 value)
    ++ word_of held.short (λ value. codes "data=" ++ known_word value)
    ++ word_of held.queue (λ value. codes "queue=" ++ known 4294967295 value)
    ++ word_of held.check (λ value. codes "check=" ++ known_word value)
    ++ word_of held.wide_hop_node (λ value. codes "whop=" ++ decimal value.0)
    ++ word_of held.wide_hop_node (λ value. codes "wnode=" ++ known 72057594037927935 value.1)
    ++ word_of held.wide_faces (λ value. codes "win=" ++ known 4294967295 value.0)
    ++ word_of held.wide_faces (λ value. codes "wout=" ++ known 4294967295 value.1)
    ++ word_of held.wide (λ value. codes "wdata=" ++ known_wide value)
    ++ word_of held.buffer (λ value. codes "buffer=" ++ known 4294967295 value)

-- so many filler words of four octets at the front of octets, whatever they hold
abbrev pub filler_words : ℕ → List ℕ → List (List ℕ)
filler_words zero octets = []
filler_words (suc amount) octets = (codes "fill=" ++ digits_of (take 4 octets)) ∷ filler_words amount (drop 4 octets)

-- the opaque state snapshot of bit 22
abbrev pub snapshot_words : Option (ℕ × List ℕ) → List (List ℕ)
snapshot_words snapshot =
    word_of snapshot (λ value. codes "schema=" ++ known_narrow value.0)
    ++ word_of snapshot (λ value. codes "opaque=" ++ opaque_digits value.1)

-- the fields in bit order, the filler words, and the snapshot
unfoldable pub element_words : Held → List (List ℕ)
element_words held = bit_words held ++ filler_words (length held.filler / 4) held.filler ++ snapshot_words held.snapshot

-- the words of an element with one space between each two; no octets are an empty text
abbrev pub element_text : ℕ → ℕ → List ℕ → List ℕ
element_text kind node_len [] = []
element_text kind node_len (octet ∷ octets) = join_with_byte 32 (element_words (fields_of kind node_len (octet ∷ octets)))
