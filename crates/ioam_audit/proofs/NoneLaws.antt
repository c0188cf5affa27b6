-- A type without any field.
use Rattle.std.proofs.Common.{◌≡◌, ℕ, ◌/◌, ◌<◌, ◌≤◌, Bool, true, cond, arith, inl, inr, eqb, leb, ltb, ◌&&◌}
use Rattle.std.proofs.lemmas.Bool.{cases_lt, and_parts}
use Rattle.std.proofs.lemmas.Bool.Decides.{nat_tests}
use Rattle.ioam_data.specs.Kind.{where_has, words, undefined}
use Rattle.ioam_data.proofs.ElementLaws.{none_below}
use Rattle.ioam_audit.specs.Becomes.{may_add}

-- where a node may add, NodeLen has room for the fields
pub may_add-room : (kind node_len : ℕ) → may_add kind node_len ≡ true → words kind ≤ node_len
may_add-room kind node_len may = by_test (undefined kind) (words kind) node_len (ltb 0 (kind / 2)) may
  where
    by_test : (u w n : ℕ) (some : Bool) → (cond (eqb u 0) (eqb n w) (leb w n) && some) ≡ true → w ≤ n
    by_test u w n some may = grind (arith, nat_tests, and_parts)

some_below : (k : ℕ) (b : Bool) → (b && ltb 0 k) ≡ true → 0 < k
some_below k b may = grind (arith, nat_tests, and_parts)

-- an element that may be added is empty only under a type with undefined bits
pub empty-undefined : (kind node_len : ℕ) → kind < 16777216 → may_add kind node_len ≡ true → node_len ≤ 0 → where_has kind 22 1 ≡ 0 → 0 < undefined kind
empty-undefined kind node_len below may none no_snapshot =
    let room = may_add-room kind node_len may in
    let some : 0 < kind / 2 = some_below (kind / 2) (cond (eqb (undefined kind) 0) (eqb node_len (words kind)) (leb (words kind) node_len)) may in
    elim (cases_lt 0 (undefined kind)) [
      | inl there ↦ there
      | inr zero ↦
          let two = none_below kind below (omega arith) (omega arith) no_snapshot in
          absurd (omega (arith, two, some))
    ]
