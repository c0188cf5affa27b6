-- What was written for a view is read again.
use Rattle.std.proofs.Common.{◌≡◌, ℕ, ◌+◌, ◌*◌, ◌-◌, ◌/◌, ◌%◌, ◌<◌, Bool, true, false, cond, List, [], ◌++◌, length, take, drop, replicate, arith, refl, sym, ap, ◌∙◌, Option, Some, None}
use Rattle.std.specs.Prelude.{IfSome, nat_lt}
use Rattle.std.proofs.lemmas.List.{drop_at, take_at, length-replicate}
use Rattle.std.proofs.lemmas.Bool.Decides.{nat_tests}
use Rattle.std.proofs.lemmas.Nat.{mod-mul-add}
use Rattle.ioam_base.specs.Octets.{u32_at}
use Rattle.ioam_base.specs.Words.{four_octets}
use Rattle.ioam_data.specs.Fields.{when_has, named, fields_of, snapshot_at}
use Rattle.ioam_data.specs.Kind.{has, words}
use Rattle.ioam_data.specs.Shown.{shown, given_snapshot}
use Rattle.ioam_data.specs.Snapshot.{IsSnapshot}
use Rattle.ioam_data.specs.Table.{table, octets_by}
use Rattle.ioam_data.specs.View.{Seen, IsSeen}
use Rattle.ioam_data.specs.Written.{part, snapshot_of, element_of, or_ones, or_wide_ones, narrow_face, narrow_id, seconds_of, fraction_of, delay_of}
use Rattle.ioam_data.proofs.TableLaws.{Fit, length-octets_by, numbers_by-kept, kept_by-shown, drop-rest_by}

-- ---- what is written fits its field

pub narrow_id_below : (id : ℕ) → narrow_id id < 16777216
narrow_id_below id = grind (arith, nat_tests)

pub narrow_face_below : (face : Option ℕ) → narrow_face face < 65536
narrow_face_below None = omega arith
narrow_face_below (Some face) = some_below face
  where
    some_below : (face : ℕ) → cond (nat_lt face 65536) face 65535 < 65536
    some_below face = grind (arith, nat_tests)

delay_below : (delay : Option ℕ) → delay_of delay < 4294967296
delay_below None = omega arith
delay_below (Some delay) = some_below delay
  where
    some_below : (delay : ℕ) → cond (nat_lt 2147483647 delay) 2147483648 delay < 4294967296
    some_below delay = grind (arith, nat_tests)

pub or_ones_below : (number : Option ℕ) → IfSome number (λ n. n < 4294967296) → or_ones number < 4294967296
or_ones_below None below = omega arith
or_ones_below (Some number) below = below

or_wide_ones_below : (number : Option ℕ) → IfSome number (λ n. n < 18446744073709551616) → or_wide_ones number < 18446744073709551616
or_wide_ones_below None below = omega arith
or_wide_ones_below (Some number) below = below

seconds_below : (stamp : Option (ℕ × ℕ)) → IfSome stamp (λ s. (s.0 < 4294967296) × (s.1 < 4294967296)) → seconds_of stamp < 4294967296
seconds_below None below = omega arith
seconds_below (Some stamp) below = below.0

fraction_below : (stamp : Option (ℕ × ℕ)) → IfSome stamp (λ s. (s.0 < 4294967296) × (s.1 < 4294967296)) → fraction_of stamp < 4294967296
fraction_below None below = omega arith
fraction_below (Some stamp) below = below.1

-- a row of the table each
pub table-fit : (view : Seen) → IsSeen view → Fit table view
unfolding table
table-fit view is =
    let hop_node : view.hops * 16777216 + narrow_id view.id < 4294967296 = omega (arith, is.hops_below, narrow_id_below view.id) in
    let faces : narrow_face view.inward * 65536 + narrow_face view.outward < 4294967296 = omega (arith, narrow_face_below view.inward, narrow_face_below view.outward) in
    let check : 4294967295 < 4294967296 = omega arith in
    let wide_hop_node : view.hops * 72057594037927936 + view.id < 18446744073709551616 = omega (arith, is.hops_below, is.id_below) in
    let wide_faces : or_ones view.inward * 4294967296 + or_ones view.outward % 4294967296 < 18446744073709551616 = omega (arith, or_ones_below view.inward is.inward_below) in (
      hop_node,
      (
        faces,
        (
          seconds_below view.stamp is.stamp_below,
          (
            fraction_below view.stamp is.stamp_below,
            (
              delay_below view.delay,
              (
                or_ones_below view.short is.short_below,
                (
                  or_ones_below view.queue is.queue_below,
                  (
                    check,
                    (
                      wide_hop_node,
                      (
                        wide_faces,
                        (or_wide_ones_below view.wide is.wide_below, (or_ones_below view.buffer is.buffer_below, tt)),
                      ),
                    ),
                  ),
                ),
              ),
            ),
          ),
        ),
      ),
    )

-- ---- the whole element

-- a snapshot that was written is read again
snapshot_back : (given : Option (ℕ × List ℕ)) → IfSome given (λ s. IsSnapshot s.0 s.1) → snapshot_at (snapshot_of given) ≡ given_snapshot given
snapshot_back None fits = refl
snapshot_back (Some given) fits =
    let word : u32_at (four_octets (length given.1 / 4 * 16777216 + given.0) ++ given.1) 0 ≡ length given.1 / 4 * 16777216 + given.0 = omega (arith, fits.short, fits.schema_below) in
    ap (λ n. (n % 16777216, given.1)) word ∙ ap (λ n. (n, given.1)) (mod-mul-add (length given.1 / 4) 16777216 given.0 fits.schema_below)

last_back : (b : Bool) (given : Option (ℕ × List ℕ)) → IfSome given (λ s. IsSnapshot s.0 s.1)
    → cond b (Some (snapshot_at (cond b (snapshot_of given) []))) None ≡ cond b (Some (given_snapshot given)) None
last_back true given fits = ap Some (snapshot_back given fits)
last_back false given fits = refl

-- the fields of what was written for a view are those that it shows
pub fields_of-element_of : (kind node_len : ℕ) (view : Seen) → IsSeen view → fields_of kind node_len (element_of kind node_len view) ≡ shown kind node_len view
unfolding fields_of element_of words
fields_of-element_of kind node_len view is =
    let count = 4 * (node_len - words kind) in
    let ones = replicate count 255 in
    let last = part kind 22 (snapshot_of view.snapshot) in
    let long : length ones ≡ count = length-replicate count 255 in
    let numbers = numbers_by-kept table kind view (ones ++ last) ∙ kept_by-shown table kind view (table-fit view is) in
    let rest = sym (drop-rest_by table kind (octets_by table kind view ++ (ones ++ last)))
    ∙ drop_at (octets_by table kind view) (ones ++ last) (4 * words kind) (length-octets_by table kind view) in
    let filler = ap (take count) rest ∙ take_at ones last count long in
    let after = ap (drop count) rest ∙ drop_at ones last count long in
    let snapshot = ap (λ xs. when_has kind 22 (snapshot_at xs)) after ∙ last_back (has kind 22) view.snapshot is.snapshot_fits in
    λ i. named (numbers i) (filler i) (snapshot i)
