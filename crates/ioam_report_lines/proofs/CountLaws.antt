-- How many elements of one size stand among octets.
use Rattle.std.proofs.Common.{◌≡◌, ℕ, zero, suc, ◌+◌, ◌*◌, ◌/◌, ◌<◌, ◌≤◌, nat_le, Bool, true, false, cond, List, [], ◌∷◌, length, arith, refl, sym, ◌∙◌}
use Rattle.std.proofs.Math.Nat.{le-div_iff_mul-le, div-lt_iff_lt-mul}
use Rattle.std.proofs.lemmas.List.{length-reverse}
use Rattle.std.proofs.lemmas.Bool.{both_ways}
use Rattle.std.proofs.lemmas.Bool.Decides.{nat_tests}
use Rattle.ioam_data.specs.Kind.{has, words}
use Rattle.ioam_data.specs.Elements.{size_at, Stands}
use Rattle.ioam_trace.specs.Area.{behind, element_at, stands, run_from, elements_of}
use Rattle.ioam_trace.proofs.AreaLaws.{stands_is, stands_true}

-- so many parts of one size lie from a place on, and not one more
record Counts (all at size count : ℕ) : Type 0 where
  within : at + count * size ≤ all
  whole : all < at + count * size + size

counts_either : (all at size : ℕ) (b : Bool) (x : List ℕ) (xs : List (List ℕ)) → (b ≡ true → Counts all at size (suc (length xs)))
    → (b ≡ false → Counts all at size 0) → Counts all at size (length (cond b (x ∷ xs) []))
counts_either all at size true x xs one none = one refl
counts_either all at size false x xs one none = none refl

module _ (kind node_len : ℕ) (used : List ℕ) (size : ℕ) where
  -- one part more
  counts_next : ((at : ℕ) → size_at kind node_len used at ≡ size) → (at count : ℕ)
      → Counts (length used) (behind kind node_len used at) size count → Counts (length used) at size (suc count)
  counts_next same at count rest = record {
    within = omega (arith, same at, rest.within);
    whole = omega (arith, same at, rest.whole);
  }

  no_room : ((at : ℕ) → size_at kind node_len used at ≡ size) → words kind ≤ node_len → 0 < size → (at : ℕ) (fits : Bool)
      → nat_le (at + size) (length used) ≡ fits → stands kind node_len used at ≡ false → length used < at + size
  no_room same room filled at true is none =
      let inside : at + size ≤ length used = grind (arith, nat_tests, is) in
      let here : Stands kind node_len used at =
      record { room = room; filled = omega (arith, same at, filled); inside = omega (arith, same at, inside) } in
      absurd (both_ways (stands kind node_len used at) none (stands_true kind node_len used at here))
  no_room same room filled at false is none = grind (arith, nat_tests, is)

  counts_run : ((at : ℕ) → size_at kind node_len used at ≡ size) → words kind ≤ node_len → 0 < size
      → (fuel at : ℕ) → at ≤ length used → length used ≤ at + fuel
      → Counts (length used) at size (length (run_from fuel kind node_len used at))
  unfolding run_from
  counts_run same room filled zero at inside enough = record { within = omega (arith, inside); whole = omega (arith, enough, filled) }
  counts_run same room filled (suc fuel) at inside enough =
      let next : ℕ = behind kind node_len used at in
      let rest : List (List ℕ) = run_from fuel kind node_len used next in
      let further : length used ≤ next + fuel = omega (arith, same at, filled, enough) in
      counts_either (length used) at size (stands kind node_len used at) (element_at kind node_len used at) rest
      (λ is. counts_next same at (length rest) (counts_run same room filled fuel next (stands_is kind node_len used at is).inside further))
      (λ is. record {
        within = omega (arith, inside);
        whole = omega (arith, no_room same room filled at (nat_le (at + size) (length used)) refl is);
      })

counted : (all size count : ℕ) → 0 < size → Counts all 0 size count → all / size ≡ count
counted all size count filled counts =
    let least : count ≤ all / size = (le-div_iff_mul-le {k = size} {x = count} {y = all} filled).1 (omega (arith, counts.within)) in
    let most : all / size < suc count = (div-lt_iff_lt-mul {k = size} {x = all} {y = suc count} filled).1 (omega (arith, counts.whole)) in
    omega (arith, least, most)

-- elements without a snapshot are as many as their size goes into their octets
pub length-equal : (kind node_len : ℕ) (used : List ℕ) → has kind 22 ≡ false → words kind ≤ node_len → 0 < node_len
    → length used / (4 * node_len) ≡ length (elements_of kind node_len used)
length-equal kind node_len used plain room filled =
    let same : (at : ℕ) → size_at kind node_len used at ≡ 4 * node_len = λ at. rw plain (omega arith) in
    let some : 0 < 4 * node_len = omega (arith, filled) in
    let counts = counts_run kind node_len used (4 * node_len) same room some (length used) 0 (omega arith) (omega arith) in
    counted (length used) (4 * node_len) (length (run_from (length used) kind node_len used 0)) some counts
    ∙ sym (length-reverse (run_from (length used) kind node_len used 0))
