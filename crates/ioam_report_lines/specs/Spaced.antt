-- The words of an element with a space before each, as they are put, and the most octets that they take.
use Rattle.std.specs.Prelude.{ℕ, zero, suc, ◌+◌, ◌*◌, ◌/◌, List, [], ◌∷◌, ◌++◌, Option, Some, None, length, take, drop, decimal, codes}
use Rattle.std.specs.List.{concat}
use Rattle.ioam_data.specs.Fields.{Held}
use Rattle.ioam_line.specs.Digits.{digits_of}
use Rattle.ioam_report_lines.specs.FieldsText.{known, known_word, known_wide, known_narrow, opaque_digits}

-- what is printed of a field where the type has its bit, and else nothing
abbrev pub when_there : {T : Type 0} → Option T → (T → List ℕ) → List ℕ
when_there None text = []
when_there (Some value) text = text value

-- The fields of bits 0 to 3. A hop limit is a number always.
abbrev pub early_words : Option (ℕ × ℕ) → Option (ℕ × ℕ) → Option ℕ → Option ℕ → List ℕ
early_words hop_node faces seconds fraction =
    when_there hop_node (λ value. codes " hop=" ++ decimal value.0)
    ++ (when_there hop_node (λ value. codes " node=" ++ known 16777215 value.1)
    ++ (when_there faces (λ value. codes " in=" ++ known 65535 value.0)
    ++ (when_there faces (λ value. codes " out=" ++ known 65535 value.1)
    ++ (when_there seconds (λ value. codes " sec=" ++ known 4294967295 value)
    ++ when_there fraction (λ value. codes " frac=" ++ known 4294967295 value)))))

-- the fields of bits 0 to 11
unfoldable pub bits_text : Held → List ℕ
bits_text held = early_words held.hop_node held.faces held.seconds held.fraction ++ concat (
    when_there held.delay (λ value. codes " delay=" ++ known 4294967295 value)
    ∷ when_there held.short (λ value. codes " data=" ++ known_word value)
    ∷ when_there held.queue (λ value. codes " queue=" ++ known 4294967295 value)
    ∷ when_there held.check (λ value. codes " check=" ++ known_word value)
    ∷ when_there held.wide_hop_node (λ value. codes " whop=" ++ decimal value.0)
    ∷ when_there held.wide_hop_node (λ value. codes " wnode=" ++ known 72057594037927935 value.1)
    ∷ when_there held.wide_faces (λ value. codes " win=" ++ known 4294967295 value.0)
    ∷ when_there held.wide_faces (λ value. codes " wout=" ++ known 4294967295 value.1)
    ∷ when_there held.wide (λ value. codes " wdata=" ++ known_wide value)
    ∷ when_there held.buffer (λ value. codes " buffer=" ++ known 4294967295 value)
    ∷ [])

-- so many filler words at the front of octets, whatever they hold
abbrev pub fillers_text : ℕ → List ℕ → List ℕ
fillers_text zero octets = []
fillers_text (suc words) octets = codes " fill=" ++ digits_of (take 4 octets) ++ fillers_text words (drop 4 octets)

-- the opaque state snapshot of bit 22
abbrev pub snapshot_text : Option (ℕ × List ℕ) → List ℕ
snapshot_text snapshot = concat (
    when_there snapshot (λ value. codes " schema=" ++ known_narrow value.0)
    ∷ when_there snapshot (λ value. codes " opaque=" ++ opaque_digits value.1)
    ∷ [])

-- the fields in bit order, then the filler words, then the snapshot
unfoldable pub spaced_fields : Held → List ℕ
spaced_fields held = bits_text held ++ fillers_text (length held.filler / 4) held.filler ++ snapshot_text held.snapshot

-- the most octets of a snapshot in either form of a line
abbrev pub snapshot_most : Option (ℕ × List ℕ) → ℕ
snapshot_most None = 0
snapshot_most (Some given) = 54 + 2 * length given.1

-- the most octets of all fields
abbrev pub fields_most : Held → ℕ
fields_most held = 800 + 4 * length held.filler + snapshot_most held.snapshot
