-- The size of an element with any checksum complement.
use Rattle.std.proofs.Common.{◌≡◌, ℕ, ◌+◌, ◌*◌, ◌-◌, ◌/◌, ◌<◌, ◌≤◌, Bool, true, false, cond, List, [], ◌++◌, length, get_or, append_assoc, length-append, arith, sym, ap, ◌∙◌, Option, Some, None}
use Rattle.std.specs.Prelude.{IfSome}
use Rattle.std.proofs.lemmas.List.{length-replicate, get_or-append-add}
use Rattle.ioam_base.specs.Words.{four_octets}
use Rattle.ioam_data.specs.Kind.{has, words}
use Rattle.ioam_data.specs.View.{Seen}
use Rattle.ioam_data.specs.Elements.{size_at, IsElement}
use Rattle.ioam_data.specs.Written.{part, snapshot_of, element_of, element_words}
use Rattle.ioam_audit.specs.Free.{IsAnySnapshot}
use Rattle.ioam_audit.proofs.CheckLaws.{checked, checked_fields, checked_fields-long, ones, checked-rows}

-- a snapshot as it is written: its first octet counts the words after its first word
snapshot_first : (given : Option (ℕ × List ℕ)) → IfSome given (λ s. IsAnySnapshot s.0 s.1) → length (snapshot_of given) ≡ 4 + 4 * get_or (snapshot_of given) 0 0
snapshot_first None fits = omega arith
snapshot_first (Some given) fits =
    let first : get_or (four_octets (length given.1 / 4 * 16777216 + given.0) ++ given.1) 0 0 ≡ length given.1 / 4 = omega (arith, fits.schema_below, fits.short) in
    omega (arith, first, fits.in_words, length-append (four_octets (length given.1 / 4 * 16777216 + given.0)) given.1)

module _ (kind node_len : ℕ) (view : Seen) (check : ℕ) (snapshot : IfSome view.snapshot (λ s. IsAnySnapshot s.0 s.1)) (room : words kind ≤ node_len) where
  -- the words of NodeLen
  abbrev before : List ℕ
  before = checked_fields kind node_len view check ++ ones kind node_len view check

  in_two : checked kind (element_of kind node_len view) check ≡ before ++ part kind 22 (snapshot_of view.snapshot)
  in_two = checked-rows kind node_len view check
      ∙ sym (append_assoc (checked_fields kind node_len view check) (ones kind node_len view check) (part kind 22 (snapshot_of view.snapshot)))

  before_long : length before ≡ 4 * node_len
  before_long = length-append (checked_fields kind node_len view check) (ones kind node_len view check)
      ∙ omega (arith, checked_fields-long kind node_len view check, length-replicate {A = ℕ} (4 * (node_len - words kind)) 255, room)

  sized : (b : Bool) → (4 * node_len + cond b (4 + 4 * get_or (before ++ cond b (snapshot_of view.snapshot) []) (0 + 4 * node_len) 0) 0 ≡ length (before ++ cond b (snapshot_of view.snapshot) []))
      × (length (before ++ cond b (snapshot_of view.snapshot) []) ≡ 4 * (node_len + cond b (length (snapshot_of view.snapshot) / 4) 0))
  sized true =
      let place : 0 + 4 * node_len ≡ length before + 0 = omega (arith, before_long) in
      let first = ap (λ i. get_or (before ++ snapshot_of view.snapshot) i 0) place ∙ get_or-append-add before (snapshot_of view.snapshot) 0 0 in
      let more = snapshot_first view.snapshot snapshot in (
        omega (arith, first, more, before_long, length-append before (snapshot_of view.snapshot)),
        omega (arith, more, before_long, length-append before (snapshot_of view.snapshot)),
      )
  sized false = (omega (arith, before_long, length-append before ([])), omega (arith, before_long, length-append before ([])))

  pub long : length (checked kind (element_of kind node_len view) check) ≡ 4 * element_words kind node_len view
  long = ap length in_two ∙ (sized (has kind 22)).1

  -- it is one element, whole, where it isn't empty
  pub one : 0 < element_words kind node_len view → IsElement kind node_len (checked kind (element_of kind node_len view) check)
  one some =
      let whole : size_at kind node_len (checked kind (element_of kind node_len view) check) 0 ≡ length (checked kind (element_of kind node_len view) check) =
      ap (λ xs. size_at kind node_len xs 0) in_two ∙ (sized (has kind 22)).0 ∙ sym (ap length in_two) in
      record { stands = record { room = room; filled = omega (arith, whole, long, some); inside = omega (arith, whole) }; whole = whole }
