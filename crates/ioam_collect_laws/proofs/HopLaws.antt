-- The hop value of an element that was written for a view.
use Rattle.std.proofs.Common.{◌≡◌, ℕ, ◌+◌, ◌*◌, ◌/◌, ◌%◌, ◌<◌, Bool, true, false, cond, ◌||◌, List, arith, ap, ◌∙◌, Option, Some, None}
use Rattle.ioam_data.specs.Fields.{fields_of, number_at_row}
use Rattle.ioam_data.specs.Kind.{has, words}
use Rattle.ioam_data.specs.Shape.{parted}
use Rattle.ioam_data.specs.Table.{table}
use Rattle.ioam_data.specs.View.{Seen}
use Rattle.ioam_data.specs.Written.{element_of, narrow_id}
use Rattle.ioam_data.proofs.FieldLaws.{narrow_id_below}
use Rattle.ioam_data.proofs.TableLaws.{numbers_by-kept}
use Rattle.ioam_collect.specs.Keyed.{hop_by}

-- the one field or the other has it in its upper part
by_bits : (hops : ℕ) (first wide : Bool) (x y : ℕ) → (first || wide) ≡ true → x / 16777216 ≡ hops → y / 72057594037927936 ≡ hops
    → hop_by (parted 16777216 (cond first (Some x) None)) (parted 72057594037927936 (cond wide (Some y) None)) ≡ Some hops
by_bits hops true wide x y some here there = ap Some here
by_bits hops false true x y some here there = ap Some there
by_bits hops false false x y some here there = absurd (cc some)

-- what is read of the element of a view is the view's hop limit
pub hops-read : (kind : ℕ) (view : Seen) → (has kind 0 || has kind 8) ≡ true → view.hops < 256 → view.id < 72057594037927936
    → hop_by (fields_of kind (words kind) (element_of kind (words kind) view)).hop_node (fields_of kind (words kind) (element_of kind (words kind) view)).wide_hop_node
    ≡ Some view.hops
unfolding element_of fields_of table
hops-read kind view some hops_below id_below =
    let hops : List (Option ℕ) → Option ℕ = λ numbers. hop_by (parted 16777216 (number_at_row 0 numbers)) (parted 72057594037927936 (number_at_row 8 numbers)) in
    let narrow : (view.hops * 16777216 + narrow_id view.id) % 4294967296 / 16777216 ≡ view.hops = omega (arith, hops_below, narrow_id_below view.id) in
    let wide : (view.hops * 72057594037927936 + view.id) % 18446744073709551616 / 72057594037927936 ≡ view.hops = omega (arith, hops_below, id_below) in
    ap hops (numbers_by-kept table kind view _)
    ∙ by_bits view.hops (has kind 0) (has kind 8) ((view.hops * 16777216 + narrow_id view.id) % 4294967296) ((view.hops * 72057594037927936 + view.id) % 18446744073709551616) some narrow wide
