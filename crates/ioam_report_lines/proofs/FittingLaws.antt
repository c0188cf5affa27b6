-- Elements that have room in a line.
use Rattle.std.proofs.Common.{◌≡◌, ℕ, zero, suc, ◌+◌, ◌-◌, ◌*◌, ◌<◌, ◌≤◌, Bool, true, false, List, [], ◌∷◌, length, length-append, take, Option, Some, None, arith, ap}
use Rattle.std.specs.Bool.{if◌then◌else◌}
use Rattle.std.specs.Prelude.{slice_index}
use Rattle.ioam_data.specs.Elements.{IsElement}
use Rattle.ioam_data.specs.Fields.{Held, fields_of}
use Rattle.ioam_data.specs.Kind.{has, words}
use Rattle.ioam_data.specs.Whole.{held_octets, snapshot_if}
use Rattle.ioam_data.specs.Written.{most_exported}
use Rattle.ioam_report_lines.specs.Spaced.{snapshot_most, fields_most}

pub take-few : (n : ℕ) (xs : List ℕ) → length (take n xs) ≤ n
take-few zero xs = omega arith
take-few (suc n) [] = omega arith
take-few (suc n) (x ∷ xs) = omega (arith, take-few n xs)

take-none : (n : ℕ) (octets : List ℕ) → n ≡ 0 → length (take n octets) ≡ 0
take-none n octets none = ap (λ m. length (take m octets)) none

-- no words fill it up if NodeLen is the words of the fields of its type
pub no-fill : (kind : ℕ) (octets : List ℕ) → length (fields_of kind (words kind) octets).filler ≡ 0
unfolding fields_of
no-fill kind octets = take-none (4 * (words kind - words kind)) _ (omega arith)

filler-few : (kind node_len : ℕ) (octets : List ℕ) → length (fields_of kind node_len octets).filler ≤ 4 * node_len
unfolding fields_of
filler-few kind node_len octets = omega (arith, take-few (4 * (node_len - words kind)))

snapshot-few : (snapshot : Option (ℕ × List ℕ)) → snapshot_most snapshot ≤ 54 + 2 * length (snapshot_if snapshot)
snapshot-few None = omega arith
snapshot-few (Some given) = omega (arith, length-append {A = ℕ})

-- filler and snapshot are not longer than the element
rest-few : (held : Held) (octets : List ℕ) → octets ≡ held_octets held → length held.filler + length (snapshot_if held.snapshot) ≤ length octets
rest-few held octets is = omega (arith, simp length-append at (ap length is))

-- what a node exports
pub exported-most : (kind : ℕ) (octets : List ℕ) (held : Held) → held ≡ fields_of kind (words kind) octets → octets ≡ held_octets held
    → length octets ≤ most_exported → fields_most held ≤ 1350
exported-most kind octets held read is few =
    omega (arith, few, rest-few held octets is, snapshot-few held.snapshot, ap (λ (fields : Held). length fields.filler) read, no-fill kind octets)

size-most : (b : Bool) (n x : ℕ) → n < 256 → x < 256 → 4 * n + (if b then 4 + 4 * x else 0) ≤ 2044
size-most true n x narrow below = omega (arith, narrow, below)
size-most false n x narrow below = omega (arith, narrow)

-- any element, whose NodeLen and whose snapshot's length are octets
pub element-most : (kind node_len : ℕ) (octets : List ℕ) (held : Held) → held ≡ fields_of kind node_len octets → octets ≡ held_octets held
    → IsElement kind node_len octets → node_len < 256 → slice_index octets (0 + 4 * node_len) < 256 → fields_most held ≤ 7000
element-most kind node_len octets held read is element narrow below =
    omega (
      arith,
      narrow,
      element.whole,
      size-most (has kind 22) node_len (slice_index octets (0 + 4 * node_len)) narrow below,
      rest-few held octets is,
      snapshot-few held.snapshot,
      ap (λ (fields : Held). length fields.filler) read,
      filler-few kind node_len octets,
    )
