-- Elements without a snapshot, which all have one size.
use Rattle.std.proofs.Common.{◌≡◌, ℕ, zero, suc, ◌+◌, ◌*◌, ◌-◌, ◌%◌, ◌/◌, ◌<◌, ◌≤◌, false, List, [], ◌∷◌, ◌++◌, length, arith, refl, sym, ap, ◌∙◌, subst, Some}
use Rattle.std.proofs.Math.Nat.{div-add-mod, mul_comm, lt-div-mul-add}
use Rattle.ioam_data.specs.Kind.{has, words}
use Rattle.ioam_data.specs.Elements.{size_at, Stands}
use Rattle.ioam_trace.specs.Area.{Runs, EndsWith, element_at}
use Rattle.ioam_trace.proofs.AreaLaws.{Runs-push}

-- a number as so many parts of one size, one such part, and less than one
record Parted (n size : ℕ) : Type 0 where
  count : ℕ
  is : n ≡ count * size + size + n % size
  less : n % size < size

parted_by : (q r n size : ℕ) → n % size ≡ r → n ≡ q * size + r → n < q * size + size → size ≤ n → Parted n size
parted_by zero r n size is_r is below some = absurd (omega (arith, is, below, some))
parted_by (suc q) r n size is_r is below some =
    let whole : n ≡ q * size + size + n % size = omega (arith, is, is_r) in
    record { count = q; is = whole; less = omega (arith, is, is_r, below) }

parted : (n size : ℕ) → 0 < size → size ≤ n → Parted n size
parted n size filled some =
    let whole : n ≡ n / size * size + n % size = sym (ap (λ m. m + n % size) (mul_comm (n / size) size) ∙ div-add-mod n size) in
    parted_by (n / size) (n % size) n size refl whole (lt-div-mul-add filled) some

module _ (kind node_len : ℕ) (used : List ℕ) (size : ℕ) where
  -- elements stand from the start up to a place
  record RunsTo (to : ℕ) : Type 0 where
    elements : List (List ℕ)
    runs : Runs kind node_len used 0 elements to

  equal_stands : ((at : ℕ) → size_at kind node_len used at ≡ size) → words kind ≤ node_len → 0 < size → (at : ℕ) → at + size ≤ length used
      → Stands kind node_len used at
  equal_stands same room filled at inside = record {
    room = room;
    filled = omega (arith, same at, filled);
    inside = omega (arith, same at, inside);
  }

  equal_runs : ((at : ℕ) → size_at kind node_len used at ≡ size) → words kind ≤ node_len → 0 < size → (count : ℕ) → count * size ≤ length used
      → RunsTo (count * size)
  equal_runs same room filled zero inside =
      let start : 0 ≡ 0 * size = omega arith in
      record { elements = []; runs = start }
  equal_runs same room filled (suc count) inside =
      let at : ℕ = count * size in
      let within : at + size ≤ length used = omega (arith, inside) in
      let before = equal_runs same room filled count (omega (arith, within)) in
      let more : List (List ℕ) = before.elements ++ element_at kind node_len used at ∷ [] in
      let here = equal_stands same room filled at within in
      let pushed : Runs kind node_len used 0 more (at + size) = Runs-push kind node_len used 0 before.elements at size before.runs here (sym (same at)) in
      let P : ℕ → Type 0 = λ to. Runs kind node_len used 0 more to in
      let end : at + size ≡ suc count * size = omega arith in
      record { elements = more; runs = subst P end pushed }

  equal_last : ((at : ℕ) → size_at kind node_len used at ≡ size) → words kind ≤ node_len → 0 < size → size ≤ length used
      → EndsWith kind node_len used (Some (length used - length used % size - size, size))
  equal_last same room filled some =
      let split = parted (length used) size filled some in
      let place : length used - length used % size - size ≡ split.count * size = omega (arith, split.is) in
      let before = equal_runs same room filled split.count (omega (arith, split.is)) in
      let P : ℕ → Type 0 = λ to. Runs kind node_len used 0 before.elements to in (
        record {
          elements = before.elements;
          runs = subst P (sym place) before.runs;
          here = equal_stands same room filled (length used - length used % size - size) (omega (arith, split.is));
          is_size = sym (same (length used - length used % size - size));
        },
        λ here. omega (arith, split.is, split.less, here.inside, same (length used - length used % size - size + size)),
      )

-- the last of them
pub last-equal : (kind node_len : ℕ) (used : List ℕ) → has kind 22 ≡ false → words kind ≤ node_len → 0 < 4 * node_len → 4 * node_len ≤ length used
    → EndsWith kind node_len used (Some (length used - length used % (4 * node_len) - 4 * node_len, 4 * node_len))
last-equal kind node_len used plain room filled some =
    let same : (at : ℕ) → size_at kind node_len used at ≡ 4 * node_len = λ at. rw plain (omega arith) in
    equal_last kind node_len used (4 * node_len) same room filled some
