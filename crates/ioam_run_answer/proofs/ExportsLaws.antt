-- Export records at the front of octets, and how many octets they are.
use Rattle.std.proofs.Common.{◌≡◌, ℕ, ◌*◌, ◌<◌, ◌≤◌, Bool, true, false, List, [], ◌∷◌, ◌++◌, length, length-append, All, refl, sym, ap, ◌∙◌, append_assoc, inl, inr, arith}
use Rattle.std.specs.List.{AllByRecursion}
use Rattle.std.specs.Prelude.{slice_index}
use Rattle.std.proofs.lemmas.List.Elements.{All-head, All-tail}
use Rattle.ioam_dex.specs.Faults.{IsCut}
use Rattle.ioam_dex.specs.Record.{Record, IsRecord, record_octets}
use Rattle.ioam_dex.specs.Reads.{records_octets, Ending, Whole, Faulty, EndsAt}
use Rattle.ioam_dex.specs.Visit.{has_visit, twelve_where}
use Rattle.ioam_dex.specs.declared.export.ExportFault.TheVariants as fault
use Rattle.ioam_dex.proofs.RecordLaws.{numbers_size-small, record_octets-length, record_octets-same, record_size-small}
use Rattle.ioam_dex.proofs.ReadsLaws.{NoRecord, cut-no-record, fault-no-record}

-- records at the front of octets are some of the first of all
pub front_of : (xs ys : List Record) (r s : List ℕ) → All IsRecord xs → All IsRecord ys → NoRecord s → records_octets xs ++ r ≡ records_octets ys ++ s
    → (more : List Record) × (ys ≡ xs ++ more)
front_of [] ys r s all_x all_y no_s same = (ys, refl)
front_of (x ∷ xs) [] r s all_x all_y no_s same =
    absurd (no_s x (records_octets xs ++ r) (All-head IsRecord x xs all_x) (sym same ∙ append_assoc (record_octets x) (records_octets xs) r))
front_of (x ∷ xs) (y ∷ ys) r s all_x all_y no_s same =
    let whole = sym (append_assoc (record_octets x) (records_octets xs) r) ∙ same ∙ append_assoc (record_octets y) (records_octets ys) s in
    let first = record_octets-same x y (records_octets xs ++ r) (records_octets ys ++ s) (All-head IsRecord x xs all_x) (All-head IsRecord y ys all_y) whole in
    let rest = front_of xs ys r s (All-tail IsRecord x xs all_x) (All-tail IsRecord y ys all_y) no_s first.1 in
    let head : y ≡ x = sym first.0 in
    (rest.0, ap (λ z. z ∷ ys) head ∙ ap (λ zs. x ∷ zs) rest.1)

nothing-no-record : (rest : List ℕ) → rest ≡ [] → NoRecord rest
nothing-no-record rest none x behind is_x front = absurd (cc (none, front))

pub ends-no-record : (at : ℕ) (rest : List ℕ) (ending : Ending) → EndsAt at rest ending → NoRecord rest
ends-no-record at rest Whole none = nothing-no-record rest none
ends-no-record at rest (Faulty place (fault.Short have)) ends = cut-no-record rest ends.1
ends-no-record at rest (Faulty place (fault.Version found)) ends = fault-no-record rest (fault.Version found) ends.1
ends-no-record at rest (Faulty place (fault.Length found)) ends = fault-no-record rest (fault.Length found) ends.1
ends-no-record at rest (Faulty place (fault.Element front)) ends = fault-no-record rest (fault.Element front) ends.1

twelve_small : (there : Bool) → twelve_where there ≤ 12
twelve_small true = omega arith
twelve_small false = omega arith

-- a record that is cut has fewer octets than the greatest
pub cut_few : (octets : List ℕ) → IsCut octets → length octets < 274
cut_few octets (inl none) = omega arith
cut_few octets (inr (inl short)) = let few = short.1 in omega arith
cut_few octets (inr (inr sized)) =
    let less = sized.1 in
    let most = sized.0.most in
    let visit = twelve_small (has_visit (slice_index octets 0)) in
    let numbers = numbers_size-small (slice_index octets 1) in
    omega arith

pub octets_few : (records : List Record) → AllByRecursion IsRecord records → length (records_octets records) ≤ 274 * length records
octets_few [] all = omega arith
octets_few (x ∷ records) all =
    let more = octets_few records all.1 in
    let size = record_octets-length x all.0.parts in
    let few = record_size-small x all.0.parts in
    let both = length-append (record_octets x) (records_octets records) in
    omega arith
