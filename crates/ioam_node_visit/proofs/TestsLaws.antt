-- What tests of numbers tell.
use Rattle.std.proofs.Common.{◌≡◌, ℕ, ◌<◌, ◌≤◌, true, false, eqb, leb, ltb, arith}
use Rattle.std.proofs.lemmas.Bool.Decides.{nat_tests}

pub true_le : (m n : ℕ) → leb m n ≡ true → m ≤ n
true_le m n is = grind (arith, nat_tests)

pub false_le : (m n : ℕ) → leb m n ≡ false → n < m
false_le m n is = grind (arith, nat_tests)

pub true_lt : (m n : ℕ) → ltb m n ≡ true → m < n
true_lt m n is = grind (arith, nat_tests)

pub false_lt : (m n : ℕ) → ltb m n ≡ false → n ≤ m
false_lt m n is = grind (arith, nat_tests)

pub true_is : (m n : ℕ) → eqb m n ≡ true → m ≡ n
true_is m n is = grind (arith, nat_tests)

pub false_is : (m n : ℕ) → eqb m n ≡ false → m ≡ n → ⊥
false_is m n is same = grind (arith, nat_tests)
