-- Laws of what is read in parts, and of the numbers of rows.
use Rattle.std.proofs.Common.{◌≡◌, ◌≤◌, ℕ, zero, suc, List, [], ◌∷◌, slice_get, Some, Result, Ok, Err, refl, ap, subst}
use Rattle.toml.specs.Data.{Members, get_member}
use Rattle.ioam_topo_values.specs.declared.why.Why.{Why}
use Rattle.ioam_topo_values.specs.Reads.{◌▷◌}
use Rattle.ioam_topo_entries.specs.Rows.{NumberRow, row_number, row_numbers, nth}
use Rattle.ioam_topo_entries.proofs.ReadLaws.{needed_bounds}

-- what was read further was read
pub read_first : {A B : Type 0} (r : Result A Why) (f : A → Result B Why) (y : B) → r ▷ f ≡ Ok y → (x : A) × (r ≡ Ok x) × (f x ≡ Ok y)
read_first (Ok x) f y is = (x, refl, is)
read_first (Err why) f y is = cc

-- what was read is read further
pub read_on : {A B : Type 0} (r : Result A Why) (f : A → Result B Why) (x : A) → r ≡ Ok x → r ▷ f ≡ f x
read_on r f x is = ap (λ s. s ▷ f) is

-- a number is within the bounds of a row
abbrev IsWithin : NumberRow → ℕ → Type 0
IsWithin r n = (r.least ≤ n) × (n ≤ r.most)

one_more : (q r : NumberRow) (rows : List NumberRow) (n : ℕ) (ns : List ℕ) (i : ℕ) → IsWithin q n
    → ((j : ℕ) → slice_get rows j ≡ Some r → IsWithin r (nth ns j)) → slice_get (q ∷ rows) i ≡ Some r → IsWithin r (nth (n ∷ ns) i)
one_more q r rows n ns zero one more there = let same : q ≡ r = cc in subst (λ s. IsWithin s n) same one
one_more q r rows n ns (suc i) one more there = more i there

-- the number of each row is within its bounds
pub row_bounds : (rows : List NumberRow) (m : Members) (ns : List ℕ) (i : ℕ) (r : NumberRow) → row_numbers rows m ≡ Ok ns → slice_get rows i ≡ Some r
    → (r.least ≤ nth ns i) × (nth ns i ≤ r.most)
row_bounds [] m ns i r read there = cc
row_bounds (q ∷ rows) m ns i r read there =
    let one = read_first (row_number q m) _ ns read in
    let more = read_first (row_numbers rows m) _ ns one.2 in
    let same : one.0 ∷ more.0 ≡ ns = cc in
    subst (λ (l : List ℕ). IsWithin r (nth l i)) same (one_more q r rows one.0 more.0 i
    (needed_bounds q.least q.most (get_member q.key m) one.0 one.1) (λ j at. row_bounds rows m more.0 j r more.1 at) there)
