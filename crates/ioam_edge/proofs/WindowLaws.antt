-- Laws of windows.
use Rattle.std.specs.Bool.{if◌then◌else◌}
use Rattle.std.proofs.Common.{◌≡◌, ◌≢◌, ◌==◌, ℕ, ◌+◌, ◌*◌, ◌-◌, ◌/◌, ◌%◌, ◌^◌, ◌<◌, ◌≤◌, max, bit_or, arith, refl, sym, ap, ◌∙◌, inl, inr}
use Rattle.std.specs.Int.{bit_at, w64}
use Rattle.std.proofs.lemmas.Bool.{cases_lt, cases_eq}
use Rattle.std.proofs.lemmas.Bool.Decides.{nat_tests}
use Rattle.std.proofs.lemmas.Nat.Bits.{bit_at_or, bit_at-pow_other, bit_at_cat_low, bit_at_cat_high, bit_at-zero, bit_at_set_same, bit_at_set_other}
use Rattle.ioam_edge.specs.Window.{moved_bit, Moved, Set}

-- of 1 no bit above the lowest is set
pub one_above : (k : ℕ) → 0 < k → bit_at 1 k ≡ 0
one_above k some = bit_at-pow_other 0 k (λ same. omega arith)

-- what passes the 64 bits changes none below
below_64 : (n k : ℕ) → k < 64 → bit_at (n % 18446744073709551616) k ≡ bit_at n k
below_64 n k few =
    let whole : n / 18446744073709551616 * 18446744073709551616 + n % 18446744073709551616 ≡ n = omega arith in
    sym (bit_at_cat_low (n / 18446744073709551616) 64 (n % 18446744073709551616) k few) ∙ ap (λ m. bit_at m k) whole

shifted_low : (window by k : ℕ) → k < 64 → k < by → bit_at (window * 2 ^ by % 18446744073709551616) k ≡ 0
shifted_low window by k few low =
    let same : window * 2 ^ by + 0 ≡ window * 2 ^ by = omega arith in
    below_64 (window * 2 ^ by) k few ∙ ap (λ m. bit_at m k) (sym same) ∙ bit_at_cat_low window by 0 k low ∙ bit_at-zero k

shifted_high : (window by k : ℕ) → k < 64 → by ≤ k → 0 < 2 ^ by → bit_at (window * 2 ^ by % 18446744073709551616) k ≡ bit_at window (k - by)
shifted_high window by k few high some =
    let same : window * 2 ^ by + 0 ≡ window * 2 ^ by = omega arith in
    below_64 (window * 2 ^ by) k few ∙ ap (λ m. bit_at m k) (sym same) ∙ bit_at_cat_high window by 0 k some high

max_zero : (a : ℕ) → max a 0 ≡ a
max_zero a = omega arith

-- the three cases of a window that is moved
low_case : (window by k : ℕ) → 0 < by → k ≡ 0 → 1 ≡ moved_bit window by k
low_case window by k some none = grind (arith, nat_tests)

middle_case : (window by k : ℕ) → 0 < k → k < by → 0 ≡ moved_bit window by k
middle_case window by k some below = grind (arith, nat_tests)

high_case : (window by k : ℕ) → 0 < k → by ≤ k → bit_at window (k - by) ≡ moved_bit window by k
high_case window by k some above = grind (arith, nat_tests)

pub Moved-shift : (window by : ℕ) → 0 < by → 0 < 2 ^ by → Moved window by (bit_or (window * 2 ^ by % 18446744073709551616) 1)
Moved-shift window by some power k few = bit_at_or (window * 2 ^ by % 18446744073709551616) 1 k ∙ elim (cases_eq k 0) [
  | inl none ↦
      let lowest : bit_at 1 k ≡ 1 = ap (bit_at 1) none in
      let shifted = shifted_low window by k few (omega arith) in
      let both : max (bit_at (window * 2 ^ by % 18446744073709551616) k) (bit_at 1 k) ≡ 1 = rw (shifted, lowest) refl in
      both ∙ low_case window by k some none
  | inr other ↦
      let rest : max (bit_at (window * 2 ^ by % 18446744073709551616) k) (bit_at 1 k) ≡ bit_at (window * 2 ^ by % 18446744073709551616) k =
      ap (max (bit_at (window * 2 ^ by % 18446744073709551616) k)) (one_above k (omega arith)) ∙ max_zero (bit_at (window * 2 ^ by % 18446744073709551616) k) in
      rest ∙ elim (cases_lt k by) [
        | inl low ↦ shifted_low window by k few low ∙ middle_case window by k (omega arith) low
        | inr high ↦ shifted_high window by k few high power ∙ high_case window by k (omega arith) high
      ]
]

pub Moved-far : (window by : ℕ) → 64 ≤ by → Moved window by 1
Moved-far window by far k few = elim (cases_eq k 0) [
  | inl none ↦ ap (bit_at 1) none ∙ low_case window by k (omega arith) none
  | inr other ↦ one_above k (omega arith) ∙ middle_case window by k (omega arith) (omega arith)
]

set_case : (window bit k : ℕ) → k ≡ bit → 1 ≡ (if k == bit then 1 else bit_at window k)
set_case window bit k same = grind (arith, nat_tests)

kept_case : (window bit k : ℕ) → k ≢ bit → bit_at window k ≡ (if k == bit then 1 else bit_at window k)
kept_case window bit k other = grind (arith, nat_tests)

pub Set-shift : (window bit : ℕ) → bit < 64 → Set window bit (bit_or window (1 * 2 ^ bit % 18446744073709551616))
Set-shift window bit few k small = elim (cases_eq k bit) [
  | inl same ↦ ap (bit_at (bit_or window (1 * 2 ^ bit % 18446744073709551616))) same ∙ bit_at_set_same w64 window bit few ∙ set_case window bit k same
  | inr other ↦ bit_at_set_other w64 window bit few k other ∙ kept_case window bit k other
]
