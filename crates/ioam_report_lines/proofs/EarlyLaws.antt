-- Laws of elements of the fields of bits 0 to 3 alone.
use Rattle.std.proofs.Common.{◌≡◌, ℕ, ◌/◌, ◌||◌, Bool, false, List, ◌++◌, length, None, Option, arith, refl, sym, ap, ◌∙◌}
use Rattle.std.proofs.lemmas.Bool.{or_parts}
use Rattle.std.proofs.lemmas.List.{append-nil}
use Rattle.ioam_data.specs.Fields.{Held, fields_of}
use Rattle.ioam_data.specs.Kind.{has, words}
use Rattle.ioam_data.specs.Table.{table}
use Rattle.ioam_data.proofs.TableLaws.{parted-there}
use Rattle.ioam_report_lines.specs.Early.{IsEarly, early_text}
use Rattle.ioam_report_lines.specs.Spaced.{bits_text, early_words, fillers_text, snapshot_text, spaced_fields}
use Rattle.ioam_report_lines.proofs.FittingLaws.{no-fill}

-- equal fields have equal words
pub same-words : {hop_node hop_node' faces faces' : Option (ℕ × ℕ)} {seconds seconds' fraction fraction' : Option ℕ}
    → hop_node ≡ hop_node' → faces ≡ faces' → seconds ≡ seconds' → fraction ≡ fraction'
    → early_words hop_node faces seconds fraction ≡ early_words hop_node' faces' seconds' fraction'
same-words {hop_node} {hop_node'} {faces} {faces'} {seconds} {seconds'} {fraction} {fraction'} a b c d =
    ap (λ x. early_words x faces seconds fraction) a
    ∙ ap (λ x. early_words hop_node' x seconds fraction) b
    ∙ ap (λ x. early_words hop_node' faces' x fraction) c
    ∙ ap (λ x. early_words hop_node' faces' seconds' x) d

-- ---- types that have none of four bits

none_of_four : (a b c d : Bool) → (a || (b || (c || d))) ≡ false → (a ≡ false) × (b ≡ false) × (c ≡ false) × (d ≡ false)
none_of_four a b c d none =
    let first = or_parts a (b || (c || d)) none in
    let second = or_parts b (c || d) first.1 in
    let third = or_parts c d second.1 in
    (first.0, second.0, third.0, third.1)

pub early_of : (kind node_len : ℕ) → words kind ≡ node_len → (has kind 4 || (has kind 5 || (has kind 6 || has kind 7))) ≡ false
    → (has kind 8 || (has kind 9 || (has kind 10 || has kind 11))) ≡ false → has kind 22 ≡ false → IsEarly kind node_len
early_of kind node_len exact first second no_snapshot =
    let narrow = none_of_four (has kind 4) (has kind 5) (has kind 6) (has kind 7) first in
    let wide = none_of_four (has kind 8) (has kind 9) (has kind 10) (has kind 11) second in
    record {
      exact = exact;
      no_delay = narrow.0;
      no_short = narrow.1;
      no_queue = narrow.2;
      no_check = narrow.3;
      no_wide_hop_node = wide.0;
      no_wide_faces = wide.1;
      no_wide = wide.2;
      no_buffer = wide.3;
      no_snapshot = no_snapshot;
    }

-- ---- the text of an element

-- the fields of a type with none of the bits 4 to 11
early-bits : (kind node_len : ℕ) (octets : List ℕ) → IsEarly kind node_len → bits_text (fields_of kind (words kind) octets) ≡ early_text kind octets
unfolding bits_text fields_of table
early-bits kind node_len octets is =
    rw (is.no_delay, is.no_short, is.no_queue, is.no_check, is.no_wide_hop_node, is.no_wide_faces, is.no_wide, is.no_buffer)
    (append-nil _ ∙ same-words (parted-there (has kind 0) 16777216 _) (parted-there (has kind 1) 65536 _) refl refl)

-- fields that nothing follows
only-bits : (held : Held) → length held.filler ≡ 0 → held.snapshot ≡ None → spaced_fields held ≡ bits_text held
unfolding spaced_fields
only-bits held no_filler no_snapshot =
    let none : length held.filler / 4 ≡ 0 = omega (arith, no_filler) in
    ap (λ n. bits_text held ++ fillers_text n held.filler ++ snapshot_text held.snapshot) none
    ∙ ap (λ xs. xs ++ snapshot_text held.snapshot) (append-nil (bits_text held))
    ∙ ap (λ snapshot. bits_text held ++ snapshot_text snapshot) no_snapshot
    ∙ append-nil (bits_text held)

no_snapshot_field : (kind : ℕ) (octets : List ℕ) → has kind 22 ≡ false → (fields_of kind (words kind) octets).snapshot ≡ None
unfolding fields_of
no_snapshot_field kind octets none = rw none refl

-- the words of an element of these fields alone
pub early_spaced : (kind node_len : ℕ) (octets : List ℕ) → IsEarly kind node_len
    → spaced_fields (fields_of kind node_len octets) ≡ early_text kind octets
early_spaced kind node_len octets is =
    ap (λ n. spaced_fields (fields_of kind n octets)) (sym is.exact)
    ∙ only-bits (fields_of kind (words kind) octets) (no-fill kind octets) (no_snapshot_field kind octets is.no_snapshot)
    ∙ early-bits kind node_len octets is
